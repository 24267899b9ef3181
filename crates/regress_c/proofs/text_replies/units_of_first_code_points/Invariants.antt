use Rattle.std.proofs.Common.{◌≡◌, ◌*◌, ◌≤◌, take}
use Rattle.std.specs.List.{sum_by}
use Rattle.regress_c.proofs.text_replies.units_of_first_code_points.Given as goal

abbrev pub invariant-loop-c : goal.invariant-loop-c
invariant-loop-c g l = (l.units ≡ sum_by g.S.Source.width_of (take l.c-index l.code_points)) × (l.units ≤ 4 * l.c-index)
