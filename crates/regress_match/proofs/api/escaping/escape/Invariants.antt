use Rattle.std.proofs.Common.{◌≡◌, ◌++◌, string_bytes}
use Rattle.std.specs.Str.Iter.{chars_rest}
use Rattle.regex_meaning.specs.FlagLettersAndEscaping.{escape}
use Rattle.regress_match.proofs.api.escaping.escape.Given as goal

abbrev pub invariant-loop-c : goal.invariant-loop-c
invariant-loop-c l = string_bytes l.escaped ++ escape (chars_rest l.c-iterator) ≡ escape l.text
