-- Closures that return a text for a match: for which matches they may be called, and what text
-- results.
use Rattle.std.specs.Prelude.{ℕ, List, Result, String, string_bytes}
use Rattle.std.specs.Borrow.{Bor}
use Rattle.std.specs.List.{Contains}
use Rattle.regex_meaning.specs.MatchGroupsByNumberAndName.{Answer}
use Rattle.regress_search.specs.MatchesAsSpecAnswers.{answer_of}
use Rattle.regress_search.specs.declared.exec.Match.{Match}
use Rattle.regress_match.specs.ClosureReplacement as answered
use Rattle.regress_match.specs.declared.api.compile_and_replace_errors.ReplaceError.{ReplaceError}

-- The closure's precondition holds for each of these matches.
abbrev pub ClosureCanBeCalled : (takes : Bor Match → Type 0) → List Answer → Type 0
ClosureCanBeCalled takes ms = (found : Bor Match) → Contains ms (answer_of found.now) → takes found

-- `says` relates a match to the results that the closure may return for it.
module _ {Z E : Type 0} (says : Bor Match → Result (String Z) E → Type 0) where
  -- `made` is the text with each of these matches replaced by the closure's result for it.
  abbrev pub IsReplacedBy : (text : List ℕ) → List Answer → (made : List ℕ) → Type 0
  IsReplacedBy text ms made = answered.IsReplacedBy says string_bytes text ms made

  -- The error of a replacement by the closure: `Memory`, or an error that the closure returned.
  abbrev pub IsPossibleReplaceError : List Answer → ReplaceError E → Type 0
  IsPossibleReplaceError ms e = answered.IsPossibleReplaceError says string_bytes ms e
