use Rattle.std.proofs.Common.{arith}
use Rattle.regex_parser.proofs.LetterCaseClosureLemmas.{closing-none, closing-more, closing-all}
use Rattle.regex_parser.proofs.character_class_parser.add_case_variants.Goals as goal

pub loop-upper-init : goal.loop-upper-init
loop-upper-init c = λ same. closing-none _ _ _ same

pub loop-upper-preserved : goal.loop-upper-preserved
loop-upper-preserved c = λ same. closing-more _ _ _ _ c.loop-upper.upper (c.loop-upper.invariant same) c.in_ok-add_letter_fold_variants.ensures

pub returns : goal.returns
returns c = λ same. closing-all _ _ _ c.loop-upper.upper (c.loop-upper.invariant same) (omega arith)
