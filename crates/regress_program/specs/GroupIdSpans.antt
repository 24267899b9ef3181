-- A span of group ids, as numbers.
use Rattle.std.specs.Prelude.{◌≡◌, ℕ, List}
use Rattle.regress_program.specs.GroupIdCheck as ids
use Rattle.regress_program.specs.GroupIdCheck.{joined, count_and_span_of_group_ids}
use Rattle.regress_program.specs.declared.emit.group_id_and_range_check.GroupIdCountAndBounds.{GroupIdCountAndBounds}

-- A declared span as numbers.
abbrev pub group_id_span_as_numbers : GroupIdCountAndBounds → ids.GroupIdCountAndSpanNumbers
group_id_span_as_numbers s = record { count = s.count; low = s.low; high = s.high }

-- `after` is the span `before` joined with the span of these ids.
abbrev pub JoinsGroupIdSpan : (ids : List ℕ) → (before after : GroupIdCountAndBounds) → Type 0
JoinsGroupIdSpan ids before after =
    group_id_span_as_numbers after ≡ joined (group_id_span_as_numbers before) (count_and_span_of_group_ids ids)
