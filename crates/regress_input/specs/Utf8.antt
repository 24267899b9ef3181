-- Characters in UTF-8.
use Rattle.std.specs.Prelude.{◌≡◌, ℕ, ◌+◌, Bool, List, ◌++◌, drop, encode_utf8}
use Rattle.std.specs.Int.{is_in_range}
use Rattle.std.specs.Char.{IsScalar, len_utf8}

-- The UTF-8 bytes of the character `c` are at offset `at`.
pub record IsEncodedAt (bytes : List ℕ) (at c : ℕ) : Type 0 where
  pub scalar : IsScalar c
  pub rest : List ℕ
  pub spelled : drop at bytes ≡ encode_utf8 c ++ rest

-- The UTF-8 bytes of the character `c` are at offset `start` and end at offset `end`.
pub record IsEncodedBetween (bytes : List ℕ) (end start c : ℕ) : Type 0 where
  pub stands : IsEncodedAt bytes start c
  pub ends : start + len_utf8 c ≡ end

-- Whether a byte is a continuation byte.
abbrev pub is_continuation_byte : ℕ → Bool
is_continuation_byte byte = is_in_range 0x80 0xBF byte
