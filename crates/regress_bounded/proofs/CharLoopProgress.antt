-- A char loop advances by one character while its test accepts the next one.
use Rattle.std.proofs.Common.{◌≡◌, ◌≤◌, ℕ, ◌+◌, Bool, true, false, Option, Some, sym, ap, ◌∙◌, subst, arith}
use Rattle.regex_meaning.specs.Text.{Text, Direction, moved}
use Rattle.regex_meaning.specs.CodeUnitOffsets.{HasRisingPlaceOffsets, IsBoundary, offset as text_offset, place_at}
use Rattle.regex_meaning.proofs.CodeUnitOffsetsLemmas.{offset-place_at, offset-IsBoundary}
use Rattle.regress_input.specs.CharAndByteReadsFromOffset.{end_if_matched, past_if}
use Rattle.regress_memo.specs.CharLoopExitThreadLists.{passing}
use Rattle.regress_machine.proofs.NearestCharacterLemmas.{moved-zero}
use Rattle.regress_search.proofs.CharLoopReach.{one-on, none-on}
use Rattle.regress_bounded.specs.BoundedState.{IsPositionAfterCharsOfClass}

module _ {P : Type 0} (offset : P → ℕ) (text : Text) (is : HasRisingPlaceOffsets text) (d : Direction) (test : ℕ → Bool) (place : ℕ) where
  abbrev pub At : (count : ℕ) → P → Type 0
  At count pos = IsPositionAfterCharsOfClass offset text d test place count pos

  -- No character has been passed at the start.
  pub past-none : (pos : P) → place_at text (offset pos) ≡ Some place → At 0 pos
  past-none pos e =
      let at = offset-place_at text (offset pos) place is e in
      let same = moved-zero text d place in
      let sum : passing text test d (moved text d 0 place) ≡ passing text test d place = ap (passing text test d) same in
      record {
        at = sym at.0 ∙ ap (text_offset text) (sym same);
        within = omega (arith, same, at.1);
        sum = omega (arith, sum);
      }

  -- If the next character passes, one more character has been passed.
  pub past-more : (count : ℕ) (pos next : P) (found : Bool) → At count pos → found ≡ true → end_if_matched found (offset next) ≡ past_if text test d (offset pos) → At (count + 1) next
  past-more count pos next found h passes led =
      let on = one-on text is test d place count (offset pos) h.at h.within (offset next) (ap (λ b. end_if_matched b (offset next)) (sym passes) ∙ led) in
      record { at = on.there; within = on.within; sum = (let s = h.sum in let l = on.left in omega (arith, s, l)) }

  -- If the next character fails or the text ends, no more characters pass.
  pub past-all : (count : ℕ) (pos : P) (to : ℕ) (found : Bool) → At count pos → found ≡ false → end_if_matched found to ≡ past_if text test d (offset pos)
      → passing text test d (moved text d count place) ≡ 0
  past-all count pos to found h fails led = none-on text is test d place count (offset pos) h.at h.within (ap (λ b. end_if_matched b to) (sym fails) ∙ led)

  pub past-boundary : (count : ℕ) (pos : P) → At count pos → IsBoundary text (offset pos)
  past-boundary count pos h = subst (IsBoundary text) (sym h.at) (offset-IsBoundary text (moved text d count place) is h.within)

-- The loop has passed `count` of its required characters from an offset, for any test.
pub record HasPassed {P : Type 0} (offset : P → ℕ) (text : Text) (d : Direction) (tests : Option (ℕ → Bool)) (least from count : ℕ) (pos : P) : Type 0 where
  pub boundary : IsBoundary text (offset pos)
  pub few : count ≤ least
  pub past : (test : ℕ → Bool) (place : ℕ) → tests ≡ Some test → place_at text from ≡ Some place → IsPositionAfterCharsOfClass offset text d test place count pos
