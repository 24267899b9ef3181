use Rattle.use_validator.proofs.Places.{leads-to-member}
use Rattle.use_validator.proofs.pointer.pointers_lead_to_members.Goals as goal

pub returns : goal.returns
returns c = leads-to-member
