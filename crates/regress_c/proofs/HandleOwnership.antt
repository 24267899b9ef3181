-- A handle owns nothing if its pointer is null, and else the value at its block. Assumes `Logic`.
use Rattle.std.proofs.Common.{◌≡◌, ℕ, List, [], ◌∷◌, refl}
use seplogic.Ra.Ura.{Ura}
use mir.Syntax.{Ty}
use mir.Raw.{raw as bare}
use base.Fml.{Fml}
use base.Logic.{never, fst∗, guard_i}
use types.Logic.{Logic, sem}
use types.Kit.{Item, Goal, Seq, ‵, given, ◌$◌, move, drop, use1, learn, fsplit, fjoin, fpick}
use contract.Monad.{fact_use}
use denote.RattleType.{RattleType}
use denote.Memory.{lone}
use denote.RawPtr.{Ptr, block_ptr, null_ptr, in_a_block, Testable}
use Rattle.std.specs.Prelude.{Option, Some, None}
use Rattle.std.specs.Box.Ownership.{box_owns}
use Rattle.std.proofs.GlobalToken.{dealloc_token-Testable}
use Rattle.std.specs.contracts.impls.GlobalAllocator.TheImpl.{ghosts}
use Rattle.regress_c.specs.HeldPattern.{global, ownership_of_handle}

abbrev frees : Ty → Ptr → Fml
frees = ghosts.dealloc_token global

module _ (R : RattleType) {M : Type 1} {𝓤 : Ura M} {𝓛 : Logic 𝓤} {K : Type 0} {Γ : List (Item 𝓤)} {G : Goal 𝓤 𝓛.H} where
  pub either_held : K → (p : Ptr) (k : Option R.Denot) → (p ≡ null_ptr → k ≡ None → Seq K 𝓛 Γ G)
      → ((b o : ℕ) (x : R.Denot) → p ≡ block_ptr b o → k ≡ Some x → Testable (block_ptr b o) → Seq K 𝓛 (‵ (box_owns frees R (block_ptr b o) x) ∷ Γ) G)
      → Seq K 𝓛 (‵ (ownership_of_handle R p k) ∷ Γ) G
  either_held t p None none one = fpick t (λ e. drop t $ none e refl)
  either_held t p (Some x) none one =
      in_a_block t p (λ q. box_owns frees R q x) (fst∗ 𝓤 (never 𝓤) (sem 𝓛 (frees (bare (lone R.mir)) null_ptr))) (λ b o e.
      let τ = bare (lone R.mir) in let q = block_ptr b o in fsplit t $ move t (1 ∷ []) $
      use1 𝓛 (given (Testable q) (‵ (frees τ q))) (fact_use 𝓤 _ (dealloc_token-Testable 𝓛 global τ q) (guard_i 𝓤 (Testable q) (sem 𝓛 (frees τ q)))) $ learn t (λ s.
      move t (1 ∷ 0 ∷ []) $ fjoin t $ one b o x e refl s))
