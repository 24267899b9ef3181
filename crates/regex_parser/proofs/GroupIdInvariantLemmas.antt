-- Opening and closing a group keep the invariant on group ids.
use Rattle.std.proofs.Common.{◌≡◌, ℕ, ◌+◌, ◌≤◌, List, [], ◌∷◌, ◌++◌, refl, arith, vec_len}
use Rattle.std.proofs.lemmas.List.{nil_from_length}
use Rattle.regex_parser.specs.declared.open_groups.OpenGroup.{OpenGroup}
use Rattle.regex_pattern_front.specs.SubtreeListInvariants.{AreSoundSubtrees}
use Rattle.regex_parser.specs.declared.parse.Parser.{Parser}
use Rattle.regex_parser.specs.GroupIdInvariant.{captures_opened_by_group_kind, nodes_read_in_disjunction, AreOpenGroupsSound, OpenDisjunctionsHaveAllGroups}
use Rattle.regex_pattern_front.proofs.SubtreeListLemmas.{parts-more}

pub open-more : (greatest more first inner : ℕ) (os : List OpenGroup) → greatest ≤ more → AreOpenGroupsSound greatest first os inner → AreOpenGroupsSound more first os inner
open-more greatest more first inner [] less h = h
open-more greatest more first inner (o ∷ os) less h =
    (parts-more first o.start greatest more (nodes_read_in_disjunction o.outer) less h.0, open-more greatest more (o.start + captures_opened_by_group_kind o.opening) inner os less h.1)

pub open-push : (greatest first inner : ℕ) (os : List OpenGroup) (o : OpenGroup) → AreOpenGroupsSound greatest first os inner → AreSoundSubtrees inner o.start greatest (nodes_read_in_disjunction o.outer)
    → AreOpenGroupsSound greatest first (os ++ o ∷ []) (o.start + captures_opened_by_group_kind o.opening)
open-push greatest first inner [] o is parts = (rw is parts, refl)
open-push greatest first inner (p ∷ os) o h parts = (h.0, open-push greatest (p.start + captures_opened_by_group_kind p.opening) inner os o h.1 parts)

-- The groups around `o` and its outer level are sound, and `o` opens captures up to `inner`.
pub record IsLast (greatest first inner : ℕ) (os : List OpenGroup) (o : OpenGroup) : Type 0 where
  pub middle : ℕ
  pub around : AreOpenGroupsSound greatest first os middle
  pub level : AreSoundSubtrees middle o.start greatest (nodes_read_in_disjunction o.outer)
  pub within : o.start + captures_opened_by_group_kind o.opening ≡ inner

pub open-pop : (greatest first inner : ℕ) (os : List OpenGroup) (o : OpenGroup) → AreOpenGroupsSound greatest first (os ++ o ∷ []) inner → IsLast greatest first inner os o
open-pop greatest first inner [] o h = record { middle = first; around = refl; level = h.0; within = h.1 }
open-pop greatest first inner (p ∷ os) o h =
    let last = open-pop greatest (p.start + captures_opened_by_group_kind p.opening) inner os o h.1 in
    record { middle = last.middle; around = (h.0, last.around); level = last.level; within = last.within }

-- If no group is open, `first` and `inner` are the same number.
pub open-none : (greatest first inner : ℕ) (os : List OpenGroup) → os ≡ [] → AreOpenGroupsSound greatest first os inner → first ≡ inner
open-none greatest first inner [] e h = h
open-none greatest first inner (o ∷ os) e h = cc

-- If no parenthesis is open, the current level contains all groups.
pub parts-whole : (p : Parser) → OpenDisjunctionsHaveAllGroups p → vec_len p.around ≡ 0 → AreSoundSubtrees 0 p.groups p.leaves.references (nodes_read_in_disjunction p.level)
parts-whole p r none =
    let closed : p.around.items ≡ [] = nil_from_length p.around.items (omega (arith, none, p.around.ok.0)) in
    let from_none : 0 ≡ r.inner = open-none p.leaves.references 0 r.inner p.around.items closed r.around in
    rw from_none r.level
