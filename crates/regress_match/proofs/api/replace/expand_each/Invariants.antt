use Rattle.std.proofs.Common.{◌≡◌, ◌++◌, string_bytes}
use Rattle.regex_meaning.specs.Replace.{replaced}
use Rattle.regress_match.specs.ExpansionsAndMatchRanges.{matches_with_expansions}
use Rattle.regress_match.proofs.MatchRangeLemmas.{IsReached}
use Rattle.regress_match.proofs.api.replace.expand_each.Given as goal

abbrev pub invariant-loop-item : goal.invariant-loop-item
invariant-loop-item g l = record {
  can : (goal.iterator-loop-item g).can_next l.item-iterator;
  finite : (goal.iterator-loop-item g).is_finite l.item-iterator;
  reached : IsReached l.text l.fn.matches.limited l.from l.item-iterator;
  begun : string_bytes l.made ++ replaced l.text l.from (matches_with_expansions l.text l.replacement l.item-iterator.answers) ≡ replaced l.text 0 (matches_with_expansions l.text l.replacement l.fn.matches.answers);
}
