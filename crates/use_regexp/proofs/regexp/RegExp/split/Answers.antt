use Rattle.std.proofs.Common.{◌∙◌, map, sym}
use Rattle.std.specs.Prelude.{option_map}
use Rattle.std.proofs.lemmas.Result.{IfOk-weaker}
use Rattle.regress_search.specs.MatchesAsSpecAnswers.{range_as_pair}
use Rattle.use_regexp.proofs.SplitLemmas.{split-empty, split-some}
use Rattle.use_regexp.proofs.regexp.RegExp.split.Goals as goal

pub returns-then-is_empty-clause-split : goal.returns-then-is_empty-clause-split
returns-then-is_empty-clause-split c =
    IfOk-weaker c.pieces_of_empty_text.result _ _
    (λ v e. split-empty c.args.self.now.pattern c.args.text.now c.args.limit (map (option_map range_as_pair) v.items) (sym c.is_empty.ensures ∙ c.if-is_empty.true) e) c.pieces_of_empty_text.ensures.pieces

pub returns-clause-split : goal.returns-clause-split
returns-clause-split c =
    IfOk-weaker c.pieces.result _ _
    (λ v h. split-some c.args.self.now.pattern c.args.text.now c.args.limit (map (option_map range_as_pair) v.items) (sym c.is_empty.ensures ∙ c.if-is_empty.false) h) c.pieces.ensures.pieces
