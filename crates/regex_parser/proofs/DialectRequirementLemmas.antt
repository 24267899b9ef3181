-- Both dialects meet the requirements of the parser's proof.
use Rattle.std.proofs.Common.{◌≡◌, List, [], ◌∷◌, ◌++◌, length, true≢false, refl, sym, ap, ◌∙◌, arith, length-append}
use Rattle.std.specs.Prelude.{encode_utf8, encode_utf8_all}
use Rattle.std.proofs.lemmas.Str.{length-encode, len_utf8_bounds}
use Rattle.regex_meaning.specs.ReadingStatesAndDigits.{RemainingCodePoints}
use Rattle.regex_meaning.specs.EscapesNamesQuantifiers as Escapes
use Rattle.regex_meaning.specs.EscapesNamesQuantifiers.{is_name}
use Rattle.regex_meaning.specs.EcmaEscapesAndNames as Ecma
use Rattle.regex_meaning.specs.Grammar.{PatternDialect}
use Rattle.regex_meaning.specs.GroupOpeningScanWithoutParsing.{OpensGroups}
use Rattle.regex_meaning.proofs.DisjunctionReadingLemmas.{IsReadInOneWay}
use Rattle.regex_meaning.proofs.GroupOpeningScanLemmas.{IsScanned}
use Rattle.regex_meaning.proofs.GroupNameScanLemmas.{scanned}
use Rattle.regex_meaning.proofs.ClassAndAtomLemmas.{reads}
use Rattle.regex_meaning.proofs.EcmaClassAndAtomLemmas.{ecmascript-reads}
use Rattle.regex_meaning.proofs.EcmaGroupScanLemmas.{ecmascript-scanned}
use Rattle.regex_parser.specs.declared.syntax.Syntax.{Syntax}
use Rattle.regex_parser.specs.declared.syntax.Syntax.TheVariants.{Profile, EcmaScript2018}
use Rattle.regex_parser.specs.SyntaxDialects.{spec_syntax_of}
use Rattle.regex_parser.specs.ScannedGroups.{ScansGroups, scans_nothing, scans_group, scans_named_group, scans_wrong_name, scans_other}
use Rattle.regex_parser.proofs.ScannedGroupsLemmas.{scanned-opened}

-- A readable dialect is read in one way, its atoms and names open no group, and no name is empty.
pub record IsReadable (S : PatternDialect) : Type 0 where
  pub one : IsReadInOneWay S
  pub passed : IsScanned S
  pub some_name : (here there name : RemainingCodePoints) → S.group_name here there name → name ≡ [] → ⊥

profile-name : {here there name : RemainingCodePoints} → Escapes.GroupName here there name → name ≡ [] → ⊥
profile-name (Escapes.group_name e f) g = true≢false (sym f ∙ ap is_name g)

ecmascript-name : {here there name : RemainingCodePoints} → Ecma.GroupName here there name → name ≡ [] → ⊥
ecmascript-name (Ecma.group_name {characters = cs} {c = c} x r) g =
    let all : length (encode_utf8 c ++ encode_utf8_all cs) ≡ 0 = ap length g in
    let both = length-append (encode_utf8 c) (encode_utf8_all cs) in
    let long = length-encode c in
    let bounds = (len_utf8_bounds c).0 in
    omega (arith, all, both, long, bounds)

pub readable : (x : Syntax) → IsReadable (spec_syntax_of x)
readable Profile = record { one = reads; passed = scanned; some_name = λ here there name g. profile-name g }
readable EcmaScript2018 = record { one = ecmascript-reads; passed = ecmascript-scanned; some_name = λ here there name g. ecmascript-name g }

-- ---- Groups that open ahead

-- The names are those that a scan finds in `xs`, then those that a scan finds in `ys`.
pub record FoundInBoth (S : PatternDialect) (xs ys names : List RemainingCodePoints) : Type 0 where
  pub front : List RemainingCodePoints
  pub back : List RemainingCodePoints
  pub are : names ≡ front ++ back
  pub first : ScansGroups S xs front
  pub second : ScansGroups S ys back

scans-both : {S : PatternDialect} (xs : List RemainingCodePoints) {ys names : List RemainingCodePoints} → ScansGroups S (xs ++ ys) names → FoundInBoth S xs ys names
scans-both [] {names = names} h = record { front = []; back = names; are = refl; first = scans_nothing; second = h }
scans-both (x ∷ xs) (scans_group o h) =
    let k = scans-both xs h in
    record { front = [] ∷ k.front; back = k.back; are = ap (λ y. [] ∷ y) k.are; first = scans_group o k.first; second = k.second }
scans-both (x ∷ xs) (scans_named_group {name = name} here there e g h) =
    let k = scans-both xs h in
    record { front = name ∷ k.front; back = k.back; are = ap (λ y. name ∷ y) k.are; first = scans_named_group here there e g k.first; second = k.second }
scans-both (x ∷ xs) (scans_wrong_name here e n a b h) =
    let k = scans-both xs h in
    record { front = [] ∷ k.front; back = k.back; are = ap (λ y. [] ∷ y) k.are; first = scans_wrong_name here e n a b k.first; second = k.second }
scans-both (x ∷ xs) (scans_other here e w h) =
    let k = scans-both xs h in
    record { front = k.front; back = k.back; are = k.are; first = scans_other here e w k.first; second = k.second }

-- The names are `added`, then those that a scan finds in `ys`.
pub record FoundBehind (S : PatternDialect) (added ys names : List RemainingCodePoints) : Type 0 where
  pub back : List RemainingCodePoints
  pub are : names ≡ added ++ back
  pub behind : ScansGroups S ys back

pub found-behind : {S : PatternDialect} → IsReadable S → (xs : List RemainingCodePoints) {ys added names : List RemainingCodePoints} → OpensGroups S xs added → ScansGroups S (xs ++ ys) names → FoundBehind S added ys names
found-behind {S} d xs o h =
    let k = scans-both xs h in
    record { back = k.back; are = k.are ∙ ap (λ x. x ++ k.back) (sym (scanned-opened S d.one o k.first)); behind = k.second }
