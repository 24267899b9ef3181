use Rattle.std.proofs.Common.{sym}
use Rattle.regex_pattern_front.proofs.AstToSpecTreeLemmas.{reads-other}
use Rattle.regex_pattern_front.proofs.optimizer.reads_one_character.Goals as goal

pub returns-in_default : goal.returns-in_default
returns-in_default c =
    let d = c.in_default in
    sym (reads-other c.args.node.now d.not-Char d.not-CharSet d.not-ByteSet d.not-Bracket d.not-MatchAny d.not-MatchAnyExceptLineTerminator)
