-- Where a pointer with one more name leads.
use Rattle.std.proofs.Common.{◌≡◌, ℕ, Bool, true, false, inl, inr, List, [], ◌∷◌, ◌++◌, flat_map, refl, sym, ap, ◌∙◌, append_assoc, append-nil}
use Rattle.std.specs.Prelude.{◌==◌, nat_eq, if◌then◌else◌, Option, Some, None, option_and_then}
use Rattle.std.proofs.lemmas.Bool.{cases_Bool}
use Rattle.serde_json.specs.Data.{Data, Members, object}
use Rattle.serde_json.specs.Find.{get_member, pointer as points_to, step, unescape, walk}
use Rattle.use_validator.specs.Pointer.{LeadsToMember, escape, escaped, pointer_with_name}
use Rattle.use_validator.proofs.Escapes.{names-read_back}

-- The bytes have no slash.
NoSlash : List ℕ → Type 0
NoSlash [] = Unit {0}
NoSlash (x ∷ xs) = (nat_eq x 47 ≡ false) × NoSlash xs

escaped-no-slash : (byte : ℕ) (rest : List ℕ) → NoSlash rest → NoSlash (escaped byte ++ rest)
unfolding NoSlash
escaped-no-slash byte rest h = by (nat_eq byte 126) (nat_eq byte 47) refl refl
  where
    by : (tilde slash : Bool) → nat_eq byte 126 ≡ tilde → nat_eq byte 47 ≡ slash → NoSlash (escaped byte ++ rest)
    by true slash e f = rw e (refl, (refl, h))
    by false true e f = rw (e, f) (refl, (refl, h))
    by false false e f = rw (e, f) (f, h)

escape-no-slash : (name : List ℕ) → NoSlash (escape name)
unfolding escape NoSlash
escape-no-slash [] = tt
escape-no-slash (byte ∷ name) = escaped-no-slash byte (flat_map escaped name) (escape-no-slash name)

-- A name without a slash is a single step.
walk-name : (part name : List ℕ) (d : Data) → NoSlash name → walk part name d ≡ step (part ++ name) d
unfolding walk NoSlash
walk-name part [] d h = ap (λ p. step p d) (sym (append-nil part))
walk-name part (x ∷ name) d h = rw (h.0) (walk-name (part ++ x ∷ []) name d h.1 ∙ ap (λ p. step p d) (append_assoc part (x ∷ []) name))

-- One more step, from wherever the steps before it lead.
then-step : (name : List ℕ) (f g : Data → Option Data) → ((d : Data) → f d ≡ option_and_then (step name) (g d)) → (o : Option Data)
    → option_and_then f o ≡ option_and_then (step name) (option_and_then g o)
then-step name f g h None = refl
then-step name f g h (Some d) = h d

walk-pointer_with_name : (part rest name : List ℕ) (d : Data) → NoSlash name → walk part (rest ++ 47 ∷ name) d ≡ option_and_then (step name) (walk part rest d)
unfolding walk
walk-pointer_with_name part [] name d h = by (step part d)
  where
    by : (o : Option Data) → option_and_then (walk [] name) o ≡ option_and_then (step name) o
    by None = refl
    by (Some e) = walk-name [] name e h
walk-pointer_with_name part (x ∷ rest) name d h = elim (cases_Bool (nat_eq x 47)) [
  | inl e ↦ rw e (then-step name (walk [] (rest ++ 47 ∷ name)) (walk [] rest) (λ e. walk-pointer_with_name [] rest name e h) (step part d))
  | inr e ↦ rw e (walk-pointer_with_name (part ++ x ∷ []) rest name d h)
]

-- The step by an escaped name.
member-step : (name : List ℕ) (members : Members) → step (escape name) (object members) ≡ get_member name members
member-step name members = ap (λ n. get_member n members) (names-read_back name)

pub leads-to-member : LeadsToMember
unfolding walk
leads-to-member [] name whole members e =
    walk-name [] (escape name) whole (escape-no-slash name)
    ∙ ap (option_and_then (step (escape name))) e ∙ member-step name members
leads-to-member (x ∷ rest) name whole members e = elim (cases_Bool (nat_eq x 47)) [
  | inl slash ↦
      let here : walk [] rest whole ≡ Some (object members) = rw slash at e in
      rw slash (walk-pointer_with_name [] rest (escape name) whole (escape-no-slash name) ∙ ap (option_and_then (step (escape name))) here ∙ member-step name members)
  | inr other ↦ let never : None ≡ Some (object members) = rw other at e in absurd (cc)
]
