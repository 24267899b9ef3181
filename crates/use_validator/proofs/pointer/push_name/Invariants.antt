use Rattle.std.proofs.Common.{◌≡◌, ◌++◌, string_bytes}
use Rattle.std.specs.Str.Iter.{chars_rest}
use Rattle.use_validator.specs.Pointer.{escape}
use Rattle.use_validator.proofs.pointer.push_name.Given as goal

abbrev pub invariant-loop-c : goal.invariant-loop-c
invariant-loop-c l = string_bytes l.pointer ++ escape (chars_rest l.c-iterator) ≡ string_bytes l.fn.pointer ++ escape l.fn.name
