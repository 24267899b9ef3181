use Rattle.std.proofs.Common.{[], ◌∙◌, subst, sym}
use Rattle.std.proofs.lemmas.Str.{is_utf8-from_IsUtf8}
use Rattle.std.specs.Prelude.{chars}
use Rattle.std.proofs.lemmas.Result.{IfOk-weaker}
use Rattle.regex_meaning.specs.FlagLettersAndEscaping.{flags_from_letters}
use Rattle.regex_meaning.specs.Grammar.{Parses}
use Rattle.regex_meaning.specs.GrammarLaws.{literal_tree}
use Rattle.regress_match.specs.ProgramTreesAndAnswers.{IsCompiledWith, tree_for_16_bit_units}
use Rattle.use_modules.proofs.laws.compile_literal.Goals as goal

pub returns : goal.returns
returns c =
    let flags = flags_from_letters [] in
    let text = c.args.text.now in
    let pattern = c.as_str.result.now in
    IfOk-weaker c.new.result (IsCompiledWith flags (chars pattern)) _
    (λ re is. c.pattern_has_at_most_one_tree.ensures flags (chars pattern) (tree_for_16_bit_units re) (literal_tree flags (chars text)) is.parsed
    (subst (λ p. Parses flags (chars p) (literal_tree flags (chars text))) (sym (c.as_str.ensures.value ∙ c.in_ok-pattern.ensures))
    (c.escaped_utf8_parses_as_literal.ensures flags text (is_utf8-from_IsUtf8 text c.utf8.text)))) c.new.ensures.compiled
