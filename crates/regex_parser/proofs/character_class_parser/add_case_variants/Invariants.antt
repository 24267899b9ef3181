use Rattle.std.proofs.Common.{◌≡◌, ℕ, map}
use Rattle.regex_meaning.specs.Outcomes.{in_intervals}
use Rattle.regex_pattern_front.specs.Intervals.{interval_of}
use Rattle.regex_parser.specs.ClassReaderContracts.{is_in_any_interval}
use Rattle.regex_parser.proofs.LetterCaseClosureLemmas.{ClosingSoFar}
use Rattle.regex_parser.proofs.character_class_parser.add_case_variants.Given as goal

abbrev pub invariant-loop-upper : goal.invariant-loop-upper
invariant-loop-upper l =
    ((c : ℕ) → in_intervals l.set c ≡ is_in_any_interval l.fn.intervals.items c)
    → ClosingSoFar (in_intervals l.set) l.unicode (map interval_of l.intervals.items) l.upper
