use Rattle.regex_meaning.proofs.SameMatchesAcrossEncodings.{ascii-utf8}
use Rattle.regex_meaning.proofs.ascii_and_utf8_answers_agree.Goals as goal

pub returns : goal.returns
returns c = λ root bytes unicode start ascii. ascii-utf8 root bytes unicode ascii start
