-- The laws of the ECMAScript grammar hold: a pattern has at most one tree, which is well formed.
use Rattle.std.proofs.Common.{◌≡◌, ℕ, List, [], length, refl, ap, ◌∙◌}
use Rattle.std.specs.Prelude.{if◌then◌else◌, nat_lt, ◌==◌}
use Rattle.std.specs.List.{list_all}
use Rattle.std.proofs.lemmas.Bool.{le-leb}
use Rattle.regex_meaning.specs.Tree.{Node, Flags, char, char_set, match_any, match_any_except_line_terminator, by_canonical_case}
use Rattle.regex_meaning.specs.Canonical.{AreCaseVariants}
use Rattle.regex_meaning.proofs.CaseVariantListLemmas.{few-case-variants}
use Rattle.regex_meaning.specs.ReadingStatesAndDigits.{RemainingCodePoints, PatternContext}
use Rattle.regex_meaning.specs.Grammar.{pattern_is}
use Rattle.regex_meaning.specs.EcmaGrammarWithAnnexB.{node_of_case_variants, group_number, AtomEscape, decimal_escape, character_class_escape, property_escape, character_escape, named_reference}
use Rattle.regex_meaning.specs.EcmaGrammarWithAnnexB.{ecmascript}
use Rattle.regex_meaning.specs.EcmaGrammarWithAnnexB.{SimpleAtom, pattern_character, extended_pattern_character, any_character, atom_escape, backslash, character_class}
use Rattle.regex_meaning.specs.SubtreeInvariants.{IsWellFormedGrouplessSubtree}
use Rattle.regex_meaning.specs.EcmaGrammarLaws.{EcmaScriptGroupsAreFound, EcmaScriptGroupsIndependentOfContext, EcmaScriptPatternHasAtMostOneTree, EcmaScriptTreesAreWellFormed}
use Rattle.regex_meaning.specs.EcmaGrammarLaws.{EcmaScriptGroupsAgreeWithScan}
use Rattle.regex_meaning.proofs.BackreferenceNumberLemmas.{number-positive, number_of-bounds}
use Rattle.regex_meaning.proofs.GroupNamesOfTreeLemmas.{names-by}
use Rattle.regex_meaning.proofs.PatternTreeLemmas.{leaf-reference, AtomsAreSound, groups_in, counted-by, well-formed-by, leaf-if}
use Rattle.regex_meaning.proofs.GroupOpeningScanLemmas.{groups-found, one-groups}
use Rattle.regex_meaning.proofs.UniqueTreeLemmas.{one-tree-by}
use Rattle.regex_meaning.proofs.EcmaClassAndAtomLemmas.{ecmascript-reads}
use Rattle.regex_meaning.proofs.EcmaGroupScanLemmas.{ecmascript-scanned}

leaf-spelled : (greatest : ℕ) (flags : Flags) (c : ℕ) (members : List ℕ) → AreCaseVariants flags.icase flags.unicode c members → IsWellFormedGrouplessSubtree greatest (node_of_case_variants c members)
leaf-spelled greatest flags c members s =
    leaf-if greatest (nat_lt 1 (length members)) (char_set members) (char c)
    (record { goals = refl; ids = refl; sound = le-leb (length members) 4 (few-case-variants flags.icase flags.unicode c members s) })
    (record { goals = refl; ids = refl; sound = refl })

escape-is : (w : PatternContext) {here there : RemainingCodePoints} {n : Node} → AtomEscape w here there n → IsWellFormedGrouplessSubtree (groups_in w) n
escape-is w (decimal_escape {n = n} (group_number f d l)) = leaf-reference (groups_in w) n (by_canonical_case w.flags.icase w.flags.unicode) (number-positive f d) l
escape-is w (character_class_escape e f s) = record { goals = refl; ids = refl; sound = refl }
escape-is w (property_escape i u e p s) = record { goals = refl; ids = refl; sound = refl }
escape-is w (character_escape {c = c} {members = members} d k l s) = leaf-spelled (groups_in w) w.flags c members s
escape-is w (named_reference {name = name} {n = n} h e d f) =
    let b = number_of-bounds name w.groups n f in leaf-reference (groups_in w) n (by_canonical_case w.flags.icase w.flags.unicode) b.0 b.1

leaf-is : (w : PatternContext) {here there : RemainingCodePoints} {n : Node} → SimpleAtom w here there n → IsWellFormedGrouplessSubtree (groups_in w) n
leaf-is w (pattern_character {c = c} {members = members} e f s) = leaf-spelled (groups_in w) w.flags c members s
leaf-is w (extended_pattern_character e f k l) = record { goals = refl; ids = refl; sound = refl }
leaf-is w (any_character e) =
    leaf-if (groups_in w) w.flags.dot_all match_any match_any_except_line_terminator (record { goals = refl; ids = refl; sound = refl }) (record { goals = refl; ids = refl; sound = refl })
leaf-is w (atom_escape e f g d) = escape-is w d
leaf-is w (backslash u e f k) = record { goals = refl; ids = refl; sound = refl }
leaf-is w (character_class e d) = record { goals = refl; ids = refl; sound = refl }

ecmascript-sound : AtomsAreSound ecmascript
ecmascript-sound w here there n a = leaf-is w a

-- ---- The laws

pub groups-are-found : EcmaScriptGroupsAreFound
groups-are-found = groups-found ecmascript ecmascript-scanned

pub groups-are-decided : EcmaScriptGroupsIndependentOfContext
groups-are-decided w v pattern groups others n m d e =
    one-groups ecmascript ecmascript-reads (groups-are-found w pattern groups n d) (groups-are-found v pattern others m e)

pub one-tree : EcmaScriptPatternHasAtMostOneTree
one-tree = one-tree-by ecmascript ecmascript-reads ecmascript-scanned

pub trees-are-well-formed : EcmaScriptTreesAreWellFormed
trees-are-well-formed flags pattern t (pattern_is {n = n} groups d distinct) =
    let h = well-formed-by ecmascript ecmascript-sound (record { flags = flags; groups = groups }) pattern n d in (refl, h.0, h.1, h.2)

pub groups-are-named : EcmaScriptGroupsAgreeWithScan
groups-are-named flags pattern t names (pattern_is {n = n} groups d distinct) h =
    let w : PatternContext = record { flags = flags; groups = groups } in
    let c = counted-by ecmascript ecmascript-sound w pattern n d in
    let same : groups ≡ names = one-groups ecmascript ecmascript-reads (groups-are-found w pattern groups n d) h in
    (c.0 ∙ ap length same, (λ id. c.1 id ∙ ap (λ m. if nat_lt id (length m) then 1 else 0) same), names-by ecmascript ecmascript-sound w pattern n d ∙ ap (λ m. if list_all (λ name. length name == 0) m then [] else m) same)
