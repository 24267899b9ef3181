use Rattle.regex_meaning.proofs.ReplaceAndEscapeLemmas.{flags-read_back}
use Rattle.regex_meaning.proofs.flags_round_trip_except_no_opt.Goals as goal

pub returns : goal.returns
returns c = flags-read_back
