-- `empty` owns nothing.
use Rattle.std.proofs.Common.{◌≡◌, List, [], ◌∷◌, refl, lit<}
use mir.Val.{Val, vnull, vstruct, vcons, vnil}
use base.Logic.{SProp, emp}
use base.Fml.{ftrue}
use types.Kit.{‵, raw, ◌⊛◌, ◌$◌, ◌∵◌, !, qed, by, move, keep, split, fjoin, fpack, use0, feq_i}
use types.Run.{lit, no_more, and_then, returns, enter}
use types.ByLocal.{alloc_all, pass_all, free_all, look_at, sets}
use types.Part.{agg}
use contract.Monad.{fact, fact_i}
use contract.Running.{tables}
use denote.RattleType.{Valss, owns}
use denote.Signature.{types_at}
use denote.Builtin.{RawPtr}
use denote.RawPtr.{null_ptr}
use denote.Steps.{nothing}
use denote.Struct.Struct.{within}
use denote.Struct.Owning.{shape}
use denote.Triple.Entry.{alive}
use denote.Triple.Walked.{Stays, walk_of}
use Rattle.std.specs.Prelude.{Option, None}
use Rattle.std.proofs.raw_atomic.Walks.{proved_at, leaves}
use Rattle.regress_match.specs.contracts.api.regex.Regex as regex
use Rattle.regress_c.specs.contracts.pattern.Pattern as pattern
use Rattle.regress_c.specs.contracts.pattern.Pattern.empty.{ended, clauses}
use Rattle.regress_c.specs.contracts.pattern.Pattern.empty.Key.{name as #self}
use Rattle.regress_c.proofs.pattern.Pattern.empty.Statement.{statement}
use Rattle.regress_c.proofs.pattern.Pattern.empty.Code as code

pub empty_spec : {M : Type 1} → statement M
empty_spec 𝓤 𝓛 𝓜 𝓡 wired =
    let H = 𝓛.H in let 𝓣 = tables 𝓤 H 𝓜 𝓡 𝓡.env in let fn = code.function in let c = clauses 𝓛 𝓜.mem 𝓡.returns in let S = ended.signature in
    let hs : Stays S.params ended.kept = tt in
    proved_at 𝓛 ended hs c 𝓜 𝓡 tt #self fn (code.unfolded 𝓤 H 𝓜 𝓡 wired) (λ z are.
    let Post : Val → SProp 𝓤 = (walk_of 𝓛 ended hs c).post z in let out : Val = vstruct (vcons vnull vnil) in let nothing_held : Option (regex.the_row).Denot = None in
    qed 𝓛 ((raw (alive 𝓛 S z.0.0 z.0.1) ⊛ ‵ (owns (types_at S.params z.0.0) z.0.3 z.0.4)) ∷ raw ((c z.0.0 z.0.3).requires z.1) ∷ []) ∵
    split ! $ move ! (1 ∷ []) $
    enter ! 𝓣.C 𝓣.Λ fn [] Post $ alloc_all ! (λ l. pass_all ! refl tt $
    sets ! (agg ! (and_then ! (lit ! tt) (no_more !))) refl (tt, (record { fits = lit< tt }, tt)) $
    nothing ! $ fpack ! (null_ptr ≡ null_ptr) (λ _. ftrue) refl $
    nothing ! $ feq_i ! (List Val) (vnull ∷ []) (vnull ∷ []) refl $ fjoin ! $ feq_i ! (List Val) (out ∷ []) (out ∷ []) refl $ fjoin ! $
    fpack ! (Valss (RawPtr ∷ [])) (within (shape pattern.the_type) (null_ptr, tt) (out ∷ [])) (vnull ∷ [], tt) $ fjoin ! $
    use0 𝓛 (raw (fact 𝓤 (nothing_held ≡ None))) (fact_i 𝓤 (nothing_held ≡ None) (emp 𝓤) refl) $ nothing ! $
    returns ! (look_at ! 0 refl) $ free_all ! refl $ keep ! (4 ∷ 0 ∷ 2 ∷ 1 ∷ []) $ by ! (leaves 𝓛 ended hs c z out (record { at = null_ptr; held = None }) tt tt)))
