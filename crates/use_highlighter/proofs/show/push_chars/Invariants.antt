use Rattle.std.proofs.Common.{◌≡◌, ◌++◌, flat_map, string_bytes, take}
use Rattle.use_highlighter.specs.Shown.{escaped_char}
use Rattle.use_highlighter.proofs.show.push_chars.Given as goal

abbrev pub invariant-loop-c : goal.invariant-loop-c
invariant-loop-c l = string_bytes l.made ≡ string_bytes l.initial.made ++ flat_map escaped_char (take l.c-index l.all)
