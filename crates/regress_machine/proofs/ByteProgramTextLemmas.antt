-- Texts of UTF-8 bytes and of ASCII bytes satisfy the conditions of byte programs.
use Rattle.std.proofs.Common.{◌≡◌, ℕ, ◌+◌, List, [], ◌∷◌, map, Bool, true, refl, ap, ◌∙◌, arith}
use Rattle.std.specs.Prelude.{nat_lt, chars}
use Rattle.std.specs.List.{list_all}
use Rattle.std.specs.Char.{len_utf8}
use Rattle.std.specs.Str.{is_utf8}
use Rattle.std.proofs.lemmas.Str.{len_utf8_ascii}
use lib.Utf8.{scalar, scalars}
use Rattle.regex_meaning.specs.Text.{is_scalar, offsets_from, width_of_single_unit_character, utf8_text, ascii_text}
use Rattle.regress_machine.specs.TextsForBytePrograms.{HasUtf8CharactersAndOffsets}
use Rattle.regress_machine.proofs.SingleCharacterTests.{low_scalar}
use Rattle.regress_machine.proofs.ByteNodeOutcomes.{utf8_scalars}
use Rattle.regex_meaning.proofs.StartPredicateSoundness.{is_scalar-of}
use Rattle.std.proofs.lemmas.Bool.{and_from, ltb-true}
use Rattle.regex_meaning.proofs.BoolLemmas.{and-left, and-right}

all_scalar : (cs : List ℕ) → scalars cs ≡ true → list_all is_scalar cs ≡ true
all_scalar [] h = refl
all_scalar (c ∷ cs) h = and_from (is_scalar c) (list_all is_scalar cs) (is_scalar-of c (and-left (scalar c) _ h)) (all_scalar cs (and-right (scalar c) _ h))

pub utf8_text-ReadsBytes : (bytes : List ℕ) (unicode : Bool) → is_utf8 bytes ≡ true → HasUtf8CharactersAndOffsets (utf8_text bytes unicode)
utf8_text-ReadsBytes bytes unicode u = record { scalars = all_scalar (chars bytes) (utf8_scalars bytes u); offsets = refl }

ascii_scalars : (bs : List ℕ) → list_all (λ b. nat_lt b 128) bs ≡ true → list_all is_scalar bs ≡ true
ascii_scalars [] h = refl
ascii_scalars (b ∷ bs) h =
    and_from (is_scalar b) (list_all is_scalar bs) (low_scalar b (ltb-true b 128 (and-left (nat_lt b 128) _ h))) (ascii_scalars bs (and-right (nat_lt b 128) _ h))

ascii_offsets : (bs : List ℕ) (at : ℕ) → list_all (λ b. nat_lt b 128) bs ≡ true → offsets_from at (map width_of_single_unit_character bs) ≡ offsets_from at (map len_utf8 bs)
ascii_offsets [] at h = refl
ascii_offsets (b ∷ bs) at h =
    let one = len_utf8_ascii b (ltb-true b 128 (and-left (nat_lt b 128) _ h)) in
    ap (λ (l : List ℕ). at ∷ l)
    (ascii_offsets bs (at + 1) (and-right (nat_lt b 128) _ h) ∙ ap (λ n. offsets_from (at + n) (map len_utf8 bs)) (let e : 1 ≡ len_utf8 b = omega (arith, one) in e))

pub ascii_text-ReadsBytes : (bytes : List ℕ) (unicode : Bool) → list_all (λ b. nat_lt b 128) bytes ≡ true → HasUtf8CharactersAndOffsets (ascii_text bytes unicode)
ascii_text-ReadsBytes bytes unicode h = record { scalars = ascii_scalars bytes h; offsets = ascii_offsets bytes 0 h }
