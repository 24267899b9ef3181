use Rattle.std.proofs.Common.{◌≡◌, ◌*◌, ◌/◌, ◌%◌, ◌^◌, ◌<◌, length, get_or, set, bit_or, refl, ap, ◌∙◌, arith}
use Rattle.std.proofs.lemmas.List.{get_or_read_under}
use Rattle.regex_pattern_front.proofs.BitmapLemmas.{bit-set}
use Rattle.regress_memo.specs.BitSet.{is_set}
use Rattle.regress_memo.proofs.bit_set.Bits.set.Goals as goal

pub returns-clause-set : goal.returns-clause-set
returns-clause-set c i =
    let fits = c.requires in
    let words = c.args.self.now.words.items in
    let n = c.args.n in
    let within : n / 64 < length words = omega (arith, fits) in
    let word : c.index-word.result.now ≡ get_or words (n / 64) 0 = get_or_read_under words (n / 64) (length words) _ 0 c.index-word.ensures within refl in
    ap (λ v. is_set (set words (n / 64) (bit_or v (1 * 2 ^ (n % 64) % 2 ^ 64))) i) word ∙ bit-set words n i within
