-- What nodes begin with, and the members of a set of bytes in ascending order.
use Rattle.std.specs.Prelude.{ℕ, ◌-◌, List, filter}
use Rattle.regex_meaning.specs.NumberListHelpers.{contains, numbers_from}
use Rattle.regex_meaning.specs.StartPredicate as meaning
use Rattle.regex_pattern_front.specs.ByteSetMembers.{member_bytes_of_byte_bitmap}
use Rattle.regress_program.specs.declared.startpredicate.abstract_start.AbstractStartPredicate.{AbstractStartPredicate}
use Rattle.regress_program.specs.declared.startpredicate.abstract_start.AbstractStartPredicate.TheVariants.{Open, Anything, Sequence, OneOf}

-- The abstract start predicate, as the definitions have it.
abbrev pub abstract_start_as_spec : AbstractStartPredicate → meaning.AbstractStartPredicate
abstract_start_as_spec Open = meaning.open_ended
abstract_start_as_spec Anything = meaning.arbitrary
abstract_start_as_spec (Sequence bytes) = meaning.sequence bytes.now
abstract_start_as_spec (OneOf set) = meaning.one_of (member_bytes_of_byte_bitmap set)

-- What the alternatives so far and one more begin with. `shared` is `open_ended` if there are none
-- so far.
abbrev pub join_starts : (shared more : meaning.AbstractStartPredicate) → meaning.AbstractStartPredicate
join_starts meaning.open_ended more = more
join_starts shared more = meaning.join shared more

-- `join_starts`, except that a node that reads nothing leaves `shared` unchanged.
abbrev pub join_nonempty_starts : (shared more : meaning.AbstractStartPredicate) → meaning.AbstractStartPredicate
join_nonempty_starts shared meaning.open_ended = shared
join_nonempty_starts shared more = join_starts shared more

-- `join_starts`, except that an alternative that reads nothing begins with anything.
abbrev pub join_starts_of_alternatives : (shared more : meaning.AbstractStartPredicate) → meaning.AbstractStartPredicate
join_starts_of_alternatives shared meaning.open_ended = meaning.arbitrary
join_starts_of_alternatives shared more = join_starts shared more

-- The bytes of the set that are at least `from`, in ascending order.
unfoldable pub set_bytes_from : (set : List ℕ) (from : ℕ) → List ℕ
set_bytes_from set from = filter (contains set) (numbers_from from (256 - from))
