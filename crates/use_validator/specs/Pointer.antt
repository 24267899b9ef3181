-- Positions in a JSON document, as JSON Pointers (RFC 6901).
use Rattle.std.specs.Prelude.{◌≡◌, ℕ, ◌==◌, List, [], ◌∷◌, ◌++◌, Some, flat_map, if◌then◌else◌}
use Rattle.serde_json.specs.Data.{Data, Members, object}
use Rattle.serde_json.specs.Find.{get_member, pointer as points_to}

-- The escape of a byte: `~0` for `~` and `~1` for `/` (RFC 6901, section 3). Other bytes are
-- unchanged.
abbrev pub escaped : (byte : ℕ) → List ℕ
escaped byte = if byte == 126 then 126 ∷ 48 ∷ [] else if byte == 47 then 126 ∷ 49 ∷ [] else byte ∷ []

-- A member's name with each byte escaped.
unfoldable pub escape : (name : List ℕ) → List ℕ
escape name = flat_map escaped name

-- The pointer with one more name.
abbrev pub pointer_with_name : (pointer name : List ℕ) → List ℕ
pointer_with_name pointer name = pointer ++ 47 ∷ escape name

-- If `pointer` leads to an object, then `pointer_with_name pointer name` leads to the object's member with
-- this name (and to nothing if there is none), as `serde_json` reads pointers.
abbrev pub LeadsToMember : Type 0
LeadsToMember = (pointer name : List ℕ) (whole : Data) (members : Members)
    → points_to pointer whole ≡ Some (object members)
    → points_to (pointer_with_name pointer name) whole ≡ get_member name members
