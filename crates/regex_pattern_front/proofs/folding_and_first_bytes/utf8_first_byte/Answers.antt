use Rattle.std.proofs.Common.{arith}
use Rattle.std.proofs.lemmas.Bool.{le-ltb, lt-ltb}
use Rattle.std.specs.Char.{encode_utf8 as encode}
use Rattle.regex_pattern_front.proofs.folding_and_first_bytes.utf8_first_byte.Goals as goal

pub returns-then-c-lt128-clause-begins : goal.returns-then-c-lt128-clause-begins
unfolding encode
returns-then-c-lt128-clause-begins c within = rw (lt-ltb c.args.c 128 (omega arith))

pub returns-then-c-lt2048-clause-begins : goal.returns-then-c-lt2048-clause-begins
unfolding encode
returns-then-c-lt2048-clause-begins c within = rw (le-ltb c.args.c 128 (omega arith), lt-ltb c.args.c 2048 (omega arith))

pub returns-then-c-lt65536-clause-begins : goal.returns-then-c-lt65536-clause-begins
unfolding encode
returns-then-c-lt65536-clause-begins c within =
    rw (le-ltb c.args.c 128 (omega arith), le-ltb c.args.c 2048 (omega arith), lt-ltb c.args.c 65536 (omega arith))

pub returns-then-c-le-CODE_POINT_MAX-clause-begins : goal.returns-then-c-le-CODE_POINT_MAX-clause-begins
unfolding encode
returns-then-c-le-CODE_POINT_MAX-clause-begins c within =
    rw (le-ltb c.args.c 128 (omega arith), le-ltb c.args.c 2048 (omega arith), le-ltb c.args.c 65536 (omega arith))
