use Rattle.std.proofs.Common.{◌≡◌, ◌++◌, drop, false}
use Rattle.use_regexp.specs.Source.{escaped_from}
use Rattle.use_regexp.proofs.source.push_escaped.Given as goal

abbrev pub invariant-loop-unit : goal.invariant-loop-unit
invariant-loop-unit l =
    l.out.items ++ escaped_from l.escaped l.in_class (drop l.unit-index l.source) ≡ l.initial.out.items ++ escaped_from false false l.source
