use Rattle.std.proofs.Common.{arith}
use Rattle.regress_input.proofs.Utf8Reads.{last_inside, third_back, fourth_back, back_one, back_two, back_three, back_four}
use Rattle.regress_input.proofs.utf8_decoding.character_before.Goals as goal

pub bounds-bytes-end : goal.bounds-bytes-end
bounds-bytes-end c = let l = last_inside c.args.bytes.now c.args.end c.requires in omega arith

pub returns-then-last-lt128 : goal.returns-then-last-lt128
returns-then-last-lt128 c = λ start d s. back_one c.args.bytes.now c.args.end start d s c.if-last-lt128.true

pub character_of_two-requires : goal.character_of_two-requires
character_of_two-requires c =
    let (start, d, s) = c.requires in
    let is = back_two c.args.bytes.now c.args.end start d s c.if-last-lt128.false c.if-second-ge192.true in
    (d, s.stands.scalar, is.0)

pub returns-then-second-ge192 : goal.returns-then-second-ge192
returns-then-second-ge192 c = λ start d s.
    let is = back_two c.args.bytes.now c.args.end start d s c.if-last-lt128.false c.if-second-ge192.true in
    (omega (arith, is.0, c.character_of_two.ensures), is.1)

pub overflow_sub-third : goal.overflow_sub-third
overflow_sub-third c = third_back c.args.bytes.now c.args.end c.requires c.if-last-lt128.false c.if-second-ge192.false

pub character_of_three-requires : goal.character_of_three-requires
character_of_three-requires c =
    let (start, d, s) = c.requires in
    let is = back_three c.args.bytes.now c.args.end start d s c.if-last-lt128.false c.if-second-ge192.false c.if-third-ge192.true in
    (d, s.stands.scalar, is.0)

pub returns-then-third-ge192 : goal.returns-then-third-ge192
returns-then-third-ge192 c = λ start d s.
    let is = back_three c.args.bytes.now c.args.end start d s c.if-last-lt128.false c.if-second-ge192.false c.if-third-ge192.true in
    (omega (arith, is.0, c.character_of_three.ensures), is.1)

pub overflow_sub-end : goal.overflow_sub-end
overflow_sub-end c = fourth_back c.args.bytes.now c.args.end c.requires c.if-last-lt128.false c.if-second-ge192.false c.if-third-ge192.false

pub character_of_four-requires : goal.character_of_four-requires
character_of_four-requires c =
    let (start, d, s) = c.requires in
    let is = back_four c.args.bytes.now c.args.end start d s c.if-last-lt128.false c.if-second-ge192.false c.if-third-ge192.false in
    (d, s.stands.scalar, is.0)

pub returns : goal.returns
returns c = λ start d s.
    let is = back_four c.args.bytes.now c.args.end start d s c.if-last-lt128.false c.if-second-ge192.false c.if-third-ge192.false in
    (omega (arith, is.0, c.character_of_four.ensures), is.1)
