-- Counts of items and members.
use Rattle.std.proofs.Common.{◌≡◌, ℕ, suc, List, [], ◌∷◌, String, Global, length, ap, refl}
use Rattle.serde_json.specs.View.{items_view, members_view}
use Rattle.serde_json.specs.declared.value.Value.{Value}
use Rattle.use_validator.specs.Values.{item_count, member_count}

pub items-counted : (items : List Value) → item_count (items_view items) ≡ length items
items-counted [] = refl
items-counted (v ∷ vs) = ap suc (items-counted vs)

pub members-counted : (members : List (String Global × Value)) → member_count (members_view members) ≡ length members
members-counted [] = refl
members-counted (m ∷ ms) = ap suc (members-counted ms)
