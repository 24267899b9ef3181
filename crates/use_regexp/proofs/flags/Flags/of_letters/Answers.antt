use Rattle.std.proofs.Common.{◌∙◌, sym}
use Rattle.regress_match.proofs.FlagLemmas.{contains-by}
use Rattle.use_regexp.proofs.FlagLists.{flags-by_tests}
use Rattle.use_regexp.proofs.flags.Flags.of_letters.Goals as goal

pub returns-then-are_flags : goal.returns-then-are_flags
returns-then-are_flags c =
    let letters = c.args.letters.now in
    flags-by_tests letters c.contains.result c.contains-then-are_flags.result c.contains-then-are_flags-2.result c.contains-then-are_flags-3.result c.contains-then-are_flags-4.result c.contains-then-are_flags-5.result c.contains-then-are_flags-6.result
    (sym c.are_flags.ensures ∙ c.if-are_flags.true)
    (c.contains.ensures.value ∙ contains-by 100 letters) (c.contains-then-are_flags.ensures.value ∙ contains-by 103 letters) (c.contains-then-are_flags-2.ensures.value ∙ contains-by 105 letters)
    (c.contains-then-are_flags-3.ensures.value ∙ contains-by 109 letters) (c.contains-then-are_flags-4.ensures.value ∙ contains-by 115 letters) (c.contains-then-are_flags-5.ensures.value ∙ contains-by 117 letters)
    (c.contains-then-are_flags-6.ensures.value ∙ contains-by 121 letters)
