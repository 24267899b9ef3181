-- Replacement by the results of a closure. The results may have any type.
use Rattle.std.specs.Prelude.{◌≡◌, ℕ, List, ◌∷◌, ◌++◌, map, IsOk, Result, Ok, Err}
use Rattle.std.specs.Borrow.{Bor}
use Rattle.regex_meaning.specs.Laws.{Each}
use Rattle.regex_meaning.specs.MatchGroupsByNumberAndName.{Answer}
use Rattle.regex_meaning.specs.Replace.{replaced}
use Rattle.regress_search.specs.MatchesAsSpecAnswers.{answer_of}
use Rattle.regress_search.specs.declared.exec.Match.{Match}
use Rattle.regress_match.specs.CompileErrors.{IsOutOfMemory}
use Rattle.regress_match.specs.declared.api.compile_and_replace_errors.ReplaceError.{ReplaceError}
use Rattle.regress_match.specs.declared.api.compile_and_replace_errors.ReplaceError.TheVariants.{Search, Closure}

-- The error of one closure result: `Memory` if the closure returned a text, and otherwise the
-- closure's error.
abbrev pub IsClosureErrorOrOutOfMemory : {T E : Type 0} → Result T E → ReplaceError E → Type 0
IsClosureErrorOrOutOfMemory answer (Search e) = IsOk answer × IsOutOfMemory e
IsClosureErrorOrOutOfMemory answer (Closure e) = answer ≡ Err e

-- `says` relates a match to the results that the closure may return for it.
module _ {T E : Type 0} (says : Bor Match → Result T E → Type 0) where
  -- The closure may return this result for a match equal to `m`.
  abbrev pub ClosureMayReturnForMatch : Answer → Result T E → Type 0
  ClosureMayReturnForMatch m result = (found : Bor Match) × (answer_of found.now ≡ m) × says found result

  -- `units` gives the units of the text of a closure result.
  module _ (units : T → List ℕ) where
    -- Each match is paired with a text that the closure returned for it.
    abbrev pub AreClosureResults : List (Answer × List ℕ) → Type 0
    AreClosureResults pieces = Each (λ p. (answer : T) × (units answer ≡ p.1)
        × ClosureMayReturnForMatch p.0 (Ok answer)) pieces

    -- `made` is the text with each of these matches replaced by the closure's result for it.
    pub record IsReplacedBy (text : List ℕ) (ms : List Answer) (made : List ℕ) : Type 0 where
      pub pieces : List (Answer × List ℕ)
      pub matches : map (λ p. p.0) pieces ≡ ms
      pub answered : AreClosureResults pieces
      pub made_is : made ≡ replaced text 0 pieces

    -- The closure returned the error `e` at one of these matches, and a text at each match before
    -- it.
    pub record ClosureFailedAtMatch (ms : List Answer) (e : E) : Type 0 where
      pub before : List (Answer × List ℕ)
      pub at : Answer
      pub behind : List Answer
      pub matches : map (λ p. p.0) before ++ at ∷ behind ≡ ms
      pub answered : AreClosureResults before
      pub refused : ClosureMayReturnForMatch at (Err e)

    -- The error of a replacement by the closure: `Memory`, or an error that the closure returned.
    abbrev pub IsPossibleReplaceError : List Answer → ReplaceError E → Type 0
    IsPossibleReplaceError ms (Search e) = IsOutOfMemory e
    IsPossibleReplaceError ms (Closure e) = ClosureFailedAtMatch ms e
