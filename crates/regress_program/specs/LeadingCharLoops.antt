-- The groups that are opened before the char loop with which each match begins.
use Rattle.std.specs.Prelude.{◌≡◌, ◌<◌, ℕ, Bool, true, false, List, slice_get}
use Rattle.std.specs.Option.{option_map_or}
use Rattle.regress_program.specs.declared.ops.Op.{Op}
use Rattle.regress_program.specs.declared.ops.Op.TheVariants.{OpenGroup, MatchBackref}
use Rattle.regress_program.specs.declared.plan.Plan.{Plan}
use Rattle.regress_program.specs.declared.leading_char_loop.LeadingCharLoop.{LeadingCharLoop}

-- Whether an operation opens a group.
abbrev pub opens_group : Op → Bool
opens_group (OpenGroup slot) = true
opens_group _ = false

-- Whether an operation is a backreference.
abbrev pub is_backreference_op : Op → Bool
is_backreference_op (MatchBackref again) = true
is_backreference_op _ = false

-- Whether the operation at `ip` opens a group.
abbrev pub opens_group_at : List Op → (ip : ℕ) → Bool
opens_group_at ops ip = option_map_or opens_group (slice_get ops ip) false

-- Whether the operation at `ip` is a backreference.
abbrev pub refers_back_at : List Op → (ip : ℕ) → Bool
refers_back_at ops ip = option_map_or is_backreference_op (slice_get ops ip) false

-- The first `opens` operations open groups. If there are any, no operation is a backreference, so
-- that no match depends on where these groups begin.
pub record OnlyOpensGroups (plan : Plan) (opens : ℕ) : Type 0 where
  pub opened : (ip : ℕ) → ip < opens → opens_group_at plan.ops.items ip ≡ true
  pub unasked : 0 < opens → (ip : ℕ) → refers_back_at plan.ops.items ip ≡ false

-- The value for a plan whose matches are not known to begin with a char loop.
abbrev pub no_leading_loop : LeadingCharLoop
no_leading_loop = record { max_char_units = 0; opens = 0 }
