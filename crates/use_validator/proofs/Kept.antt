-- Compiled patterns that are stored by the texts of their patterns.
use Rattle.std.proofs.Common.{◌≡◌, ℕ, List, [], ◌∷◌, Option, Some, None, String, Global, Ordering, Less, Equal, Greater, string_bytes, string_cmp, nat_cmp, is_eq, cond, Bool, true, false, Bor, refl}
use Rattle.std.proofs.Common.{sym, ap, ◌∙◌, subst}
use Rattle.std.specs.Prelude.{IfSome, OnErr, OnOk, Result, Ok, Err, option_copied}
use Rattle.std.proofs.Math.Logic.{∥∥₁_map}
use Rattle.std.proofs.lemmas.Map.Text.{is_eq-slice_cmp}
use Rattle.std.proofs.lemmas.Slice.Eq.{bytes_eq-Decides}
use Rattle.std.specs.Cmp.Lexicographic.{slice_cmp}
use Rattle.std.specs.Map.{lookup}
use Rattle.std.specs.Ordering.{match_ordering}
use Rattle.std.specs.BTreeMap.{insert_entry, is_at}
use Rattle.regex_meaning.proofs.OptionLemmas.{some-same}
use Rattle.regress_match.specs.declared.api.regex.Regex.{Regex}
use Rattle.use_validator.specs.Patterns.{AreCompiledFromTheirTexts, AreProgramsOf, IsProgramOfAsProposition, IsProgramOf}

abbrev Entry : Type 0
Entry = String Global × Regex

same-bytes : (xs ys : List ℕ) → is_eq (slice_cmp nat_cmp xs ys) ≡ true → xs ≡ ys
same-bytes xs ys e = (bytes_eq-Decides xs ys).0 (sym (is_eq-slice_cmp xs ys) ∙ e)

-- ---- One more pattern

module _ (k : String Global) (re : Regex) (is : IsProgramOf (string_bytes k) re) where
  put-in : (o : Ordering) (e : Entry) (es next : List Entry) → string_cmp k e.0 ≡ o → AreProgramsOf (e ∷ es) → AreProgramsOf next
      → AreProgramsOf (match_ordering o ((k, re) ∷ e ∷ es) ((e.0, re) ∷ es) (e ∷ next))
  put-in Less e es next c h n = (is, h)
  put-in Equal e es next c h n = (subst (λ text. IsProgramOf text re) (same-bytes (string_bytes k) (string_bytes e.0) (ap is_eq c)) is, h.1)
  put-in Greater e es next c h n = (h.0, n)

  insert-keeps : (es : List Entry) → AreProgramsOf es → AreProgramsOf (insert_entry string_cmp es k re)
  insert-keeps [] h = (is, tt)
  insert-keeps (e ∷ es) h = put-in (string_cmp k e.0) e es (insert_entry string_cmp es k re) refl h (insert-keeps es h.1)

  kept-more : (es next : List Entry) → AreCompiledFromTheirTexts es → next ≡ insert_entry string_cmp es k re → AreCompiledFromTheirTexts next
  kept-more es next h e = ∥∥₁_map h (λ all. subst AreProgramsOf (sym e) (insert-keeps es all))

  -- The patterns after an insertion, which may have been refused.
  pub kept-after : {T E : Type 0} (result : Result T E) (es next : List Entry) → AreCompiledFromTheirTexts es
      → OnOk result (next ≡ insert_entry string_cmp es k re) → OnErr result (next ≡ es) → AreCompiledFromTheirTexts next
  kept-after (Ok x) es next h more same = kept-more es next h more
  kept-after (Err e) es next h more same = subst AreCompiledFromTheirTexts (sym same) h

-- ---- The pattern with a given text

module _ (text : List ℕ) where
  abbrev test : String Global → Bool
  test = is_at (λ k. slice_cmp nat_cmp text (string_bytes k))

  at-first : (b : Bool) (e : Entry) (rest : Option Regex) (re : Regex) → test e.0 ≡ b → IsProgramOf (string_bytes e.0) e.1
      → (rest ≡ Some re → IsProgramOf text re) → cond b (Some e.1) rest ≡ Some re → IsProgramOf text re
  at-first true e rest re c h n is =
      subst (IsProgramOf text) (some-same e.1 re is) (subst (λ t. IsProgramOf t e.1) (sym (same-bytes text (string_bytes e.0) c)) h)
  at-first false e rest re c h n is = n is

  looked_up : (es : List Entry) (re : Regex) → AreProgramsOf es → lookup test es ≡ Some re → IsProgramOf text re
  looked_up [] re h is = absurd (cc is)
  looked_up (e ∷ es) re h is = at-first (test e.0) e (lookup test es) re refl h.0 (looked_up es re h.1) is

  pub kept-found : (es : List Entry) (found : Option (Bor Regex)) → AreCompiledFromTheirTexts es → option_copied found ≡ lookup test es
      → IfSome found (λ re. IsProgramOfAsProposition text re.now)
  kept-found es None h is = tt
  kept-found es (Some re) h is = ∥∥₁_map h (λ all. looked_up es re.now all (sym is))
