use Rattle.regress_machine.proofs.RequiredPrefixLemmas.{prefixes-exclude}
use Rattle.regress_machine.proofs.required_prefixes_exclude.Goals as goal

pub returns : goal.returns
returns c = prefixes-exclude
