use Rattle.std.proofs.Common.{inl, ◌∙◌}
use Rattle.std.proofs.lemmas.Str.{IsCharBoundary-start}
use Rattle.regress_match.proofs.SearchStartLemmas.{utf8_start}
use Rattle.test_trials.proofs.checks.matches_with_memoization.Goals as goal

pub new-requires-2 : goal.new-requires-2
new-requires-2 c =
    utf8_start _ c.args.text.now _ (c.always_memoize.ensures.text ∙ c.in_ok-executor.ensures.text) c.utf8.text 0
    (inl (IsCharBoundary-start c.args.text.now c.utf8.text))
