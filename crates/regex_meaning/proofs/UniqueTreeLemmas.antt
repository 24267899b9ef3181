-- A pattern has at most one tree, because all its readings have the groups that the scan finds.
use Rattle.std.proofs.Common.{◌≡◌, refl, ap, subst, List, [], false}
use Rattle.regex_meaning.specs.Tree.{Tree, Flags, goal, cat, end_of_cat}
use Rattle.regex_meaning.specs.ReadingStatesAndDigits.{RemainingCodePoints}
use Rattle.regex_meaning.specs.Grammar.{PatternDialect, Disjunction, ParsesBy, profile, pattern_is}
use Rattle.regex_meaning.specs.GrammarLaws.{PatternHasAtMostOneTree}
use Rattle.regex_meaning.proofs.DisjunctionReadingLemmas.{IsReadInOneWay, one_disjunction}
use Rattle.regex_meaning.proofs.EscapesAndNamesLemmas.{one_quantifier}
use Rattle.regex_meaning.proofs.ClassAndAtomLemmas.{reads}
use Rattle.regex_meaning.proofs.GroupNameScanLemmas.{scanned}
use Rattle.regex_meaning.proofs.GroupOpeningScanLemmas.{IsScanned, groups-found, one-groups}

-- In a dialect that is read in one way and scanned for groups, a pattern has at most one tree.
pub one-tree-by : (S : PatternDialect) (one : IsReadInOneWay S) (scan : IsScanned S) (flags : Flags) (pattern : RemainingCodePoints) (t u : Tree) → ParsesBy S flags pattern t → ParsesBy S flags pattern u → t ≡ u
one-tree-by S one scan flags pattern t u (pattern_is {n = n} g d _) (pattern_is {n = m} h e _) =
    let same : h ≡ g = one-groups S one (groups-found S scan _ pattern h m e) (groups-found S scan _ pattern g n d) in
    let other : Disjunction S (record { flags = flags; groups = g }) false (record { text = pattern; opened = [] }) (record { text = []; opened = g }) m =
    subst (λ (x : List RemainingCodePoints). Disjunction S (record { flags = flags; groups = x }) false (record { text = pattern; opened = [] }) (record { text = []; opened = x }) m) same e in
    ap (λ x. record { root = cat x (cat goal end_of_cat); flags = flags }) (one_disjunction S one one_quantifier (record { flags = flags; groups = g }) d other refl refl).1

pub pattern_has_at_most_one_tree : PatternHasAtMostOneTree
pattern_has_at_most_one_tree = one-tree-by profile reads scanned
