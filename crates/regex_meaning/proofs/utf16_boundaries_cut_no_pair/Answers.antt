use Rattle.regex_meaning.proofs.UnitBoundaryLemmas.{unit_boundary-place_at, unit_boundary-between}
use Rattle.regex_meaning.proofs.utf16_boundaries_cut_no_pair.Goals as goal

pub returns : goal.returns
returns c units unicode i = (unit_boundary-place_at units unicode i, unit_boundary-between units i)
