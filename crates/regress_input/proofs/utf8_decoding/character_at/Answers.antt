use Rattle.std.proofs.Common.{arith}
use Rattle.regress_input.proofs.Utf8Reads.{all_inside, is_one, is_two, is_three, is_four}
use Rattle.regress_input.proofs.utf8_decoding.character_at.Goals as goal

pub bounds-bytes-at : goal.bounds-bytes-at
bounds-bytes-at c = (all_inside c.args.bytes.now c.args.at c.requires).0

pub overflow_add-result : goal.overflow_add-result
overflow_add-result c = let inside = (all_inside c.args.bytes.now c.args.at c.requires).0 in omega arith

pub bounds-bytes-at-2 : goal.bounds-bytes-at-2
bounds-bytes-at-2 c = (all_inside c.args.bytes.now c.args.at c.requires).1 c.if-first-lt128.false

pub bounds-bytes-at-3 : goal.bounds-bytes-at-3
bounds-bytes-at-3 c = (all_inside c.args.bytes.now c.args.at c.requires).2 c.if-first-lt224.false

pub bounds-bytes-at-4 : goal.bounds-bytes-at-4
bounds-bytes-at-4 c = (all_inside c.args.bytes.now c.args.at c.requires).3 c.if-first-lt240.false

pub character_of_two-requires : goal.character_of_two-requires
character_of_two-requires c =
    (c.requires.0, c.requires.1.scalar, (is_two c.args.bytes.now c.args.at _ c.requires.1 c.if-first-lt128.false c.if-first-lt224.true).0)

pub character_of_three-requires : goal.character_of_three-requires
character_of_three-requires c =
    (c.requires.0, c.requires.1.scalar, (is_three c.args.bytes.now c.args.at _ c.requires.1 c.if-first-lt224.false c.if-first-lt240.true).0)

pub character_of_four-requires : goal.character_of_four-requires
character_of_four-requires c = (c.requires.0, c.requires.1.scalar, (is_four c.args.bytes.now c.args.at _ c.requires.1 c.if-first-lt240.false).0)

pub returns-then-first-lt128 : goal.returns-then-first-lt128
returns-then-first-lt128 c = λ d s. is_one c.args.bytes.now c.args.at d s c.if-first-lt128.true

pub returns-then-first-lt224 : goal.returns-then-first-lt224
returns-then-first-lt224 c = λ d s.
    let is = is_two c.args.bytes.now c.args.at d s c.if-first-lt128.false c.if-first-lt224.true in
    (omega (arith, is.0, c.character_of_two.ensures), is.1)

pub returns-then-first-lt240 : goal.returns-then-first-lt240
returns-then-first-lt240 c = λ d s.
    let is = is_three c.args.bytes.now c.args.at d s c.if-first-lt224.false c.if-first-lt240.true in
    (omega (arith, is.0, c.character_of_three.ensures), is.1)

pub returns : goal.returns
returns c = λ d s.
    let is = is_four c.args.bytes.now c.args.at d s c.if-first-lt240.false in
    (omega (arith, is.0, c.character_of_four.ensures), is.1)
