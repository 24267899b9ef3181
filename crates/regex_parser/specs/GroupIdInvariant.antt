-- The invariant on group ids while a pattern is parsed. It relates the current disjunction and the
-- open groups around it.
use Rattle.std.specs.Prelude.{◌≡◌, ℕ, ◌+◌, List, [], ◌∷◌, ◌++◌}
use Rattle.regex_parser.specs.declared.group_openings_and_names.GroupKind.{GroupKind}
use Rattle.regex_parser.specs.declared.group_openings_and_names.GroupKind.TheVariants.{Capture, Named, Plain, Look}
use Rattle.regex_pattern_front.specs.declared.ir.Node.{Node}
use Rattle.regex_parser.specs.declared.open_groups.PartialDisjunction.{PartialDisjunction}
use Rattle.regex_parser.specs.declared.open_groups.OpenGroup.{OpenGroup}
use Rattle.regex_parser.specs.declared.parse.Parser.{Parser}
use Rattle.regex_pattern_front.specs.SubtreeListInvariants.{AreSoundSubtrees}

-- The number of capturing groups that a group opens.
abbrev pub captures_opened_by_group_kind : GroupKind → ℕ
captures_opened_by_group_kind Capture = 1
captures_opened_by_group_kind Named = 1
captures_opened_by_group_kind Plain = 0
captures_opened_by_group_kind (Look negate backwards) = 0

-- The nodes of a disjunction that have been read.
abbrev pub nodes_read_in_disjunction : PartialDisjunction → List Node
nodes_read_in_disjunction level = level.arms.items ++ level.terms.items

-- The open groups from group id `first` on, the outermost first, up to the beginning of the current
-- disjunction. Each disjunction contains the groups that opened between its own parenthesis and the
-- next one.
abbrev pub AreOpenGroupsSound : (greatest first : ℕ) → List OpenGroup → (inner : ℕ) → Type 0
AreOpenGroupsSound greatest first [] inner = first ≡ inner
AreOpenGroupsSound greatest first (o ∷ os) inner =
    AreSoundSubtrees first o.start greatest (nodes_read_in_disjunction o.outer)
    × AreOpenGroupsSound greatest (o.start + captures_opened_by_group_kind o.opening) os inner

-- The open disjunctions together contain all groups that have opened.
pub record OpenDisjunctionsHaveAllGroups (p : Parser) : Type 0 where
  pub inner : ℕ
  pub around : AreOpenGroupsSound p.leaves.references 0 p.around.items inner
  pub level : AreSoundSubtrees inner p.groups p.leaves.references (nodes_read_in_disjunction p.level)
