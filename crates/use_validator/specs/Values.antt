-- What keywords say about a value itself, without its items or members.
use Rattle.std.specs.Prelude.{◌≡◌, ℕ, suc, length, List, Bool, true, false, Option, Some, chars, is_some, option_map, if◌then◌else◌}
use Rattle.serde_json.specs.Data.{Num, Data, Items, no_items, item, Members, no_members, member}
use Rattle.serde_json.specs.Find.{as_null, as_bool, as_number, as_str, as_array, as_object, get, is_float}
use Rattle.use_validator.specs.declared.keyword.Measure.{Measure}
use Rattle.use_validator.specs.declared.keyword.Measure.TheVariants as Measure
use Rattle.use_validator.specs.declared.schema.Kind.{Kind}
use Rattle.use_validator.specs.declared.schema.Kind.TheVariants as Kind

-- Whether a value has a type. An integer is a number. Each number without a fraction and without an
-- exponent is an integer; for other numbers nothing is said.
abbrev pub IsOfKind : Kind → Data → Bool → Type 0
IsOfKind Kind.Null d is = is ≡ is_some (as_null d)
IsOfKind Kind.Boolean d is = is ≡ is_some (as_bool d)
IsOfKind Kind.Integer d is =
    (is ≡ true → is_some (as_number d) ≡ true) × ((n : Num) → as_number d ≡ Some n → is_float n ≡ false → is ≡ true)
IsOfKind Kind.Number d is = is ≡ is_some (as_number d)
IsOfKind Kind.String d is = is ≡ is_some (as_str d)
IsOfKind Kind.Array d is = is ≡ is_some (as_array d)
IsOfKind Kind.Object d is = is ≡ is_some (as_object d)

-- The number of items of an array.
abbrev pub item_count : Items → ℕ
item_count no_items = 0
item_count (item d ds) = suc (item_count ds)

-- The number of members of an object.
abbrev pub member_count : Members → ℕ
member_count no_members = 0
member_count (member k d ms) = suc (member_count ms)

-- The number of code points of a string, of items of an array, or of members of an object. `None`
-- if the value has another type.
abbrev pub size_of : Measure → Data → Option ℕ
size_of Measure.Characters d = option_map (λ text. length (chars text)) (as_str d)
size_of Measure.Items d = option_map item_count (as_array d)
size_of Measure.Members d = option_map member_count (as_object d)

-- Whether an object has the member. For other values, the result is `other`.
abbrev pub has_member : (name : List ℕ) → (other : Bool) → Data → Bool
has_member name other d = if is_some (as_object d) then is_some (get name d) else other
