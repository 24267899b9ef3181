use Rattle.std.proofs.Common.{◌≡◌, [], subst}
use Rattle.regex_meaning.specs.FlagLettersAndEscaping.{flags_from_letters}
use Rattle.regress_match.proofs.FlagLemmas.{IfErr-map, flags-none, flags_by}
use Rattle.std.specs.Prelude.{chars}
use Rattle.std.proofs.lemmas.Result.{IfOk-weaker}
use Rattle.regress_match.specs.ProgramTreesAndAnswers.{IsCompiledWith}
use Rattle.regress_match.specs.CompileErrors.{IsPatternRefusedWith}
use Rattle.regress_match.proofs.api.regex.Regex.new.Goals.{After-with_flags}
use Rattle.regress_match.proofs.api.regex.Regex.new.Goals as goal

-- the flags are none
none : (c : After-with_flags)
    → flags_by c.default.result.icase c.default.result.multiline c.default.result.dot_all c.default.result.no_opt c.default.result.unicode
    c.default.result.unicode_sets ≡ flags_from_letters []
none c =
    let d = c.default.ensures in
    let f = c.default.result in
    flags-none f.icase f.multiline f.dot_all f.no_opt f.unicode f.unicode_sets d.0 d.1.0 d.1.1.0 d.1.1.1.0 d.1.1.1.1.0 d.1.1.1.1.1

pub returns-clause-compiled : goal.returns-clause-compiled
returns-clause-compiled c =
    IfOk-weaker c.with_flags.result _ _ (λ re h. subst (λ flags. IsCompiledWith flags (chars c.args.pattern.now) re) (none c) h) c.with_flags.ensures.compiled

pub returns-clause-refused : goal.returns-clause-refused
returns-clause-refused c =
    IfErr-map c.with_flags.result _ _ (λ e h. subst (λ flags. IsPatternRefusedWith flags (chars c.args.pattern.now) e) (none c) h) c.with_flags.ensures.refused
