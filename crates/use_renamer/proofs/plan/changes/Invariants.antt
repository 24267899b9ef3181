use Rattle.std.proofs.Common.{◌≡◌, take}
use Rattle.use_renamer.specs.Names.{changes, moves_of, texts}
use Rattle.use_renamer.proofs.plan.changes.Given as goal

abbrev pub invariant-loop-name : goal.invariant-loop-name
invariant-loop-name l = moves_of l.renames.items ≡ changes l.re l.template (texts (take l.name-index l.files))
