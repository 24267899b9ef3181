-- Replacement of matches (21.2.5.9, RegExp.prototype[@@replace]).
use Rattle.std.specs.Prelude.{◌≡◌, ◌≤◌, ℕ, List, [], ◌∷◌, Result, Vec, length, map}
use Rattle.std.specs.Borrow.{Bor}
use Rattle.regex_meaning.specs.MatchGroupsByNumberAndName.{Answer}
use Rattle.regex_meaning.specs.Replace.{replaced}
use Rattle.regress_search.specs.declared.exec.Match.{Match}
use Rattle.regress_match.specs.ClosureReplacement as answered
use Rattle.regress_match.specs.StringClosures.{ClosureCanBeCalled}
use Rattle.regress_match.specs.CompileErrors.{IsOutOfMemory}
use Rattle.regress_match.specs.ExpansionsAndMatchRanges.{MatchRangesLieWithinUnits}
use Rattle.regress_match.specs.declared.api.compile_and_replace_errors.ReplaceError.{ReplaceError}
use Rattle.regress_match.specs.declared.api.compile_and_replace_errors.ReplaceError.TheVariants.{Search, Closure}
use Rattle.use_regexp.specs.Loops.{AreMatchesOfCall}
use Rattle.use_regexp.specs.Template.{substitution}
use Rattle.use_regexp.specs.declared.pattern.Pattern.{Pattern}

-- The matches are ranges of the text in ascending order, and do not overlap. The first begins at
-- `from` or later.
abbrev pub AreRangesInOrderFrom : (text : List ℕ) → (from : ℕ) → List Answer → Type 0
AreRangesInOrderFrom text from [] = from ≤ length text
AreRangesInOrderFrom text from (m ∷ ms) = (from ≤ m.range.0) × MatchRangesLieWithinUnits text m
    × AreRangesInOrderFrom text m.range.1 ms

-- Each match with the expansion of the template for it.
abbrev pub substituted : (text template : List ℕ) → List Answer → List (Answer × List ℕ)
substituted text template ms = map (λ m. (m, substitution text m template)) ms

-- The result is the text with each match replaced by the expansion of the template.
abbrev pub IsReplaced : Pattern → (last : ℕ) → (text template made : List ℕ) → Type 0
IsReplaced p last text template made =
    (ms : List Answer) × AreMatchesOfCall p text 0 last ms × (made ≡ replaced text 0 (substituted text template ms))

-- The closure may be called for each match that is replaced.
abbrev pub ClosureAcceptsMatches : (takes : Bor Match → Type 0) → Pattern → (text : List ℕ) → (last : ℕ) → Type 0
ClosureAcceptsMatches takes p text last = (ms : List Answer) → AreMatchesOfCall p text 0 last ms
    → ClosureCanBeCalled takes ms

-- The units of the result of a closure.
abbrev pub units_of : {Z : Type 0} → Vec ℕ Z → List ℕ
units_of v = v.items

-- `says` relates a match to the results that the closure may return for it.
module _ {Z E : Type 0} (says : Bor Match → Result (Vec ℕ Z) E → Type 0) where
  -- The result is the text with each of these matches replaced by the closure's result for it.
  abbrev pub IsReplacedBy : (text : List ℕ) → List Answer → (made : List ℕ) → Type 0
  IsReplacedBy text ms made = answered.IsReplacedBy says units_of text ms made

  -- When each error may occur, for these matches.
  abbrev pub IsPossibleErrorForMatches : List Answer → ReplaceError E → Type 0
  IsPossibleErrorForMatches ms e = answered.IsPossibleReplaceError says units_of ms e

  module _ (p : Pattern) (text : List ℕ) (last : ℕ) where
    -- `IsReplacedBy` for the matches that are replaced.
    abbrev pub IsReplacedWith : (made : List ℕ) → Type 0
    IsReplacedWith made = (ms : List Answer) × AreMatchesOfCall p text 0 last ms × IsReplacedBy text ms made

    -- `IsPossibleErrorForMatches` for the matches that are replaced.
    abbrev pub IsPossibleReplaceError : ReplaceError E → Type 0
    IsPossibleReplaceError (Search e) = IsOutOfMemory e
    IsPossibleReplaceError (Closure e) = (ms : List Answer) × AreMatchesOfCall p text 0 last ms
        × answered.ClosureFailedAtMatch says units_of ms e
