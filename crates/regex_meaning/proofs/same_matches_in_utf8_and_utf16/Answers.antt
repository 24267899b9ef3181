use Rattle.regex_meaning.proofs.SameMatchesAcrossEncodings.{utf8-utf16}
use Rattle.regex_meaning.proofs.same_matches_in_utf8_and_utf16.Goals as goal

pub returns : goal.returns
returns c = λ root bytes units unicode place e. utf8-utf16 root bytes units unicode place e
