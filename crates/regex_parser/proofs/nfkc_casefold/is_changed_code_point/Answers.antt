use Rattle.regex_parser.proofs.NfkcCasefoldLemmas.{no-character-changes}
use Rattle.regex_parser.proofs.nfkc_casefold.is_changed_code_point.Goals as goal

pub returns-in-None : goal.returns-in-None
returns-in-None c = no-character-changes c.args.c c.in-None.ensures.cases
