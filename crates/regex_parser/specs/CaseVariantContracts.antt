-- Contracts of the functions on case variants over all of Unicode.
use Rattle.std.specs.Prelude.{◌≡◌, ◌⊎◌, ℕ, Bool, ◌==◌, ◌&&◌, not, nat_lt, List, map, filter, IsTrue}
use Rattle.std.specs.Bool.{beq}
use Rattle.std.specs.Int.{is_in_range}
use Rattle.regex_meaning.specs.NumberListHelpers.{contains}
use Rattle.regex_meaning.specs.Canonical.{canonicalize, AreIncreasing}
use Rattle.regex_parser.specs.ClassReaderContracts.{is_in_any_interval}
use Rattle.regex_pattern_front.specs.declared.codepointset.Interval.{Interval}

-- Whether the two characters match each other where case is ignored.
abbrev pub match_each_other : (unicode : Bool) → ℕ → ℕ → Bool
match_each_other unicode c d = canonicalize unicode c == canonicalize unicode d

-- The list contains the characters other than c that match c, in increasing order.
pub record AreOtherVariants (unicode : Bool) (c : ℕ) (others : List ℕ) : Type 0 where
  pub increasing : AreIncreasing others
  pub same : (d : ℕ) → contains others d ≡ (not (c == d) && match_each_other unicode c d)

-- The second characters of the pairs whose two characters match each other.
abbrev pub matching_seconds : (unicode : Bool) → List (ℕ × ℕ) → List ℕ
matching_seconds unicode pairs = map (λ p. p.1) (filter (λ p. match_each_other unicode p.0 p.1) pairs)

-- The first characters of the pairs whose second character passes the test and matches the first.
abbrev pub firsts_that_match : (unicode : Bool) (test : ℕ → Bool) → List (ℕ × ℕ) → List ℕ
firsts_that_match unicode test pairs = map (λ p. p.0) (filter (λ p. test p.1 && match_each_other unicode p.0 p.1) pairs)

-- Whether the number is between these two, inclusive.
abbrev pub is_between : (first last : ℕ) → ℕ → Bool
is_between first last c = is_in_range first last c

-- Whether the number is below c. If `is_below` is false, whether it is not.
abbrev pub is_on_side : (c : ℕ) (is_below : Bool) → ℕ → Bool
is_on_side c is_below d = beq (nat_lt d c) is_below

-- Some character that passes the test matches this one.
abbrev pub MatchesSome : (unicode : Bool) (test : ℕ → Bool) → ℕ → Type 0
MatchesSome unicode test d = (c : ℕ) × IsTrue (test c) × IsTrue (match_each_other unicode c d)

-- The new intervals contain the numbers of the old ones. Each number that was added matches one
-- that passes the test. Each number that matches one that passes the test passes the test itself or
-- is in the new intervals.
pub record AddsMatchingCharacters (unicode : Bool) (test : ℕ → Bool) (old new : List Interval) : Type 0 where
  pub sound : (d : ℕ) → IsTrue (is_in_any_interval new d) → IsTrue (is_in_any_interval old d)
      ⊎ MatchesSome unicode test d
  pub kept : (d : ℕ) → IsTrue (is_in_any_interval old d) → IsTrue (is_in_any_interval new d)
  pub complete : (d : ℕ) → MatchesSome unicode test d → IsTrue (test d) ⊎ IsTrue (is_in_any_interval new d)

-- `AddsMatchingCharacters`, except that the last part applies only to the numbers `inside`.
pub record AddsMatchingWithin (unicode : Bool) (test inside : ℕ → Bool) (old new : List Interval) : Type 0 where
  pub sound : (d : ℕ) → IsTrue (is_in_any_interval new d) → IsTrue (is_in_any_interval old d)
      ⊎ MatchesSome unicode test d
  pub kept : (d : ℕ) → IsTrue (is_in_any_interval old d) → IsTrue (is_in_any_interval new d)
  pub complete : (d : ℕ) → IsTrue (inside d) → MatchesSome unicode test d → IsTrue (test d)
      ⊎ IsTrue (is_in_any_interval new d)
