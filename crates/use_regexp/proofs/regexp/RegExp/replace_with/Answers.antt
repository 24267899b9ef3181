use Rattle.std.proofs.Common.{map, subst, sym}
use Rattle.regress_search.specs.MatchesAsSpecAnswers.{answer_of}
use Rattle.use_regexp.specs.Replace.{AreRangesInOrderFrom}
use Rattle.use_regexp.proofs.TurnLemmas.{taken-stand}
use Rattle.use_regexp.proofs.regexp.RegExp.replace_with.Goals as goal

pub replace_matches_by_closure-requires-clause-in_text : goal.replace_matches_by_closure-requires-clause-in_text
replace_matches_by_closure-requires-clause-in_text g c =
    subst (λ xs. AreRangesInOrderFrom c.args.text.now 0 (map answer_of xs)) (sym c.as_slice.ensures.value)
    (taken-stand c.args.self.now.pattern c.args.text.now (λ k _. (c.type_inv.text k).fits) c.args.self.now.last_index (map answer_of c.in_ok-matches.matches.items) c.in_ok-matches.ensures.taken)
