use Rattle.std.proofs.Common.{sym, ◌∙◌, ap, nat_eq}
use Rattle.regress_input.proofs.ByteTestsOfCharacters.{test_is, stands_alone}
use Rattle.regress_input.proofs.scm.is_utf8_encoding_of_code_point.Goals as goal

pub character_at-spelled-requires : goal.character_at-spelled-requires
character_at-spelled-requires c = let one = c.requires in (one.0, stands_alone c.args.bytes.now one.0 one.1 one.2)

pub returns : goal.returns
returns c =
    let one = c.requires in
    let is = (c.character_at-spelled.ensures one.0 (stands_alone c.args.bytes.now one.0 one.1 one.2)).0 in
    ap (λ d. nat_eq d c.args.c) is ∙ sym (test_is c.args.bytes.now one.0 one.1 one.2 c.args.c)
