-- Laws of the definitions of this crate; `src/lib.rt` proves each.
use Rattle.std.specs.Prelude.{◌≡◌, ℕ, zero, suc, ◌+◌, ◌-◌, ◌<◌, ◌≤◌, Bool, false, not, ◌&&◌, is_some, slice_index, List, [], ◌∷◌, ◌++◌, length, map, codes, chars, IsAscii, IfSome, if◌then◌else◌}
use Rattle.std.specs.Prelude.{nat_lt, nat_le, max, ◌==◌, Option, Some, None, option_and_then, filter, flat_map}
use Rattle.std.specs.Option.{option_or, option_map_or}
use Rattle.regex_meaning.specs.Tree.{Quantifier, Node, Tree, Flags, group_ids}
use Rattle.regex_meaning.specs.Text.{Text, Direction, rightwards, leftwards, last_place, is_high_surrogate, is_low_surrogate, is_unit_boundary, utf8_text, ascii_text, utf16_text, ucs2_text}
use Rattle.regex_meaning.specs.Text.{utf16_characters}
use Rattle.regex_meaning.specs.CodeUnitOffsets.{HasRisingPlaceOffsets, offset, place_at, IsBoundary}
use Rattle.regex_meaning.specs.Outcomes.{Groups, repetition, repeat, passes_empty_check, preferred, max_iterations, outcomes}
use Rattle.regex_meaning.specs.FirstAndAllMatches.{Found, match_at, first_match, place_after_match, match_list}
use Rattle.regex_meaning.specs.MatchGroupsByNumberAndName.{Answer, answers_from, named_group, named_groups}
use Rattle.regex_meaning.specs.SearchAnswers.{first_answer, answer_at, next_start, answer_then_list}
use Rattle.regex_meaning.specs.Replace.{expansion, replaced}
use Rattle.regex_meaning.specs.FlagLettersAndEscaping.{flags_text, flags_from_letters, escape}
use Rattle.regex_meaning.specs.StartPredicate.{start_predicate, IsSoundStartPredicateOf}
use Rattle.regex_meaning.specs.WellFormedTrees.{IsWellFormed}
use Rattle.regex_meaning.specs.OutcomesWithStepTicks.{outcomes_without_ticks, ticked, need, needs_from}

-- ---- Outcomes

-- The list of ticks and outcomes of a node contains exactly its outcomes, in order.
abbrev pub CountingTicksKeepsOutcomes : Type 0
CountingTicksKeepsOutcomes = (text : Text) (node : Node) (d : Direction) (place : ℕ) (groups : Groups)
    → outcomes_without_ticks (ticked text node d place groups) ≡ outcomes text node d place groups

-- After k iterations, a loop has two kinds of outcomes. If k is below the maximum, each outcome of
-- another iteration that passes the empty check continues the loop. If k is at least the minimum,
-- the loop may be left.
abbrev pub LoopRepetitionUnfolds : Type 0
LoopRepetitionUnfolds = (text : Text) (q : Quantifier) (loopee : Node) (change : Groups → Groups) (d : Direction)
    (k place : ℕ) (groups : Groups)
    → let r = repetition q (λ p g. outcomes text loopee d p (change g)) in
    repeat text r d k place groups ≡
    preferred q.greedy
    (if nat_lt k (max_iterations q) then flat_map (λ o. repeat text r d (k + 1) o.end o.groups)
    (filter (passes_empty_check r k place) (outcomes text loopee d place (change groups))) else [])
    (if nat_le q.min k then record { end = place; groups = groups } ∷ [] else [])

-- b is equal to a or past it in the direction, and b is within the text if a is.
abbrev pub IsAtOrAheadInDirection : Text → Direction → (a b : ℕ) → Type 0
IsAtOrAheadInDirection text rightwards a b = (a ≤ b) × (b ≤ max a (last_place text))
IsAtOrAheadInDirection text leftwards a b = (b ≤ a) × Unit {0}

-- P holds for each element.
abbrev pub Each : {A : Type 0} → (A → Type 0) → List A → Type 0
Each P [] = Unit {0}
Each P (x ∷ xs) = P x × Each P xs

-- Every outcome ends at the place or past it in the direction.
abbrev pub OutcomesEndAheadOfPlace : Type 0
OutcomesEndAheadOfPlace = (text : Text) (node : Node) (d : Direction) (place : ℕ) (groups : Groups)
    → Each (λ o. IsAtOrAheadInDirection text d place o.end) (outcomes text node d place groups)

-- The group is `None`, or its two places are in order and within the text.
abbrev pub IsWithinText : Text → Option (ℕ × ℕ) → Type 0
IsWithinText text None = Unit {0}
IsWithinText text (Some range) = (range.0 ≤ range.1) × (range.1 ≤ last_place text)

-- Every outcome has as many groups as there were before.
abbrev pub OutcomesKeepNumberOfGroups : Type 0
OutcomesKeepNumberOfGroups = (text : Text) (node : Node) (d : Direction) (place : ℕ) (groups : Groups)
    → Each (λ o. length o.groups ≡ length groups) (outcomes text node d place groups)

-- Outcomes and their groups stay within the text.
abbrev pub OutcomesStayInText : Type 0
OutcomesStayInText = (text : Text) (node : Node) (d : Direction) (place : ℕ) (groups : Groups)
    → place ≤ last_place text → Each (IsWithinText text) groups
    → Each (λ o. (o.end ≤ last_place text) × Each (IsWithinText text) o.groups) (outcomes text node d place groups)

-- ---- Matches

-- The matches from a place on. Empty if there is no place.
abbrev pub matches_from_optional : Node → Text → Option ℕ → List Found
matches_from_optional root text next = option_map_or (match_list root text) next []

-- A match, if there is one, followed by the matches from the place where the list continues.
abbrev pub match_then_list : Node → Text → Option Found → List Found
match_then_list root text found =
    option_map_or (λ m. m ∷ matches_from_optional root text (place_after_match root text m)) found []

-- The list of matches from a place on is the first match, followed by the matches from the place
-- where the list continues.
abbrev pub MatchListUnfolds : Type 0
MatchListUnfolds = (root : Node) (text : Text) (place : ℕ)
    → match_list root text place ≡ match_then_list root text (first_match root text place)

-- The first match from a place on begins at that place, or is the first match from the next place
-- on. There is no match past the end.
abbrev pub FirstMatchUnfolds : Type 0
FirstMatchUnfolds = (root : Node) (text : Text) (place : ℕ)
    → (place ≤ last_place text → first_match root text place ≡ option_or (match_at root text place)
    (first_match root text (place + 1)))
    × (last_place text < place → first_match root text place ≡ None)

-- ---- Offsets

-- Offsets increase with the places, and `offset` and `place_at` are inverse to each other.
pub record HasOffsets (text : Text) : Type 0 where
  pub rise : (p q : ℕ) → p < q → q ≤ last_place text → offset text p < offset text q
  pub place : (p : ℕ) → p ≤ last_place text → place_at text (offset text p) ≡ Some p
  pub offset_of_place : (at p : ℕ) → place_at text at ≡ Some p → (offset text p ≡ at) × (p ≤ last_place text)

-- In every text, places and boundaries correspond one to one, in the same order.
abbrev pub PlacesCorrespondToBoundaries : Type 0
PlacesCorrespondToBoundaries = (text : Text) → HasRisingPlaceOffsets text → HasOffsets text

-- The texts of the four encodings satisfy `HasRisingPlaceOffsets`.
abbrev pub EncodedTextsHaveRisingOffsets : Type 0
EncodedTextsHaveRisingOffsets = (units : List ℕ) (unicode : Bool)
    → HasRisingPlaceOffsets (utf8_text units unicode) × HasRisingPlaceOffsets (ascii_text units unicode)
    × HasRisingPlaceOffsets (utf16_text units unicode) × HasRisingPlaceOffsets (ucs2_text units unicode)

-- The unit before this offset is a high surrogate and the unit at it a low surrogate.
abbrev pub is_within_pair : List ℕ → ℕ → Bool
is_within_pair units zero = false
is_within_pair units (suc i) = is_high_surrogate (slice_index units i) && is_low_surrogate (slice_index units (suc i))

-- A unit boundary is a boundary of the text. For 16-bit units, it is an offset within the text that
-- cuts no surrogate pair.
abbrev pub Utf16BoundariesCutNoPair : Type 0
Utf16BoundariesCutNoPair = (units : List ℕ) (unicode : Bool) (i : ℕ)
    → (is_unit_boundary units i ≡ is_some (place_at (utf16_text units unicode) i))
    × (((k : ℕ) → k < length units → slice_index units k < 0x1_0000)
    → is_unit_boundary units i ≡ (nat_le i (length units) && not (is_within_pair units i)))

-- The answers from an offset on are the first answer, followed by the answers from the next start
-- on.
abbrev pub AnswersFromOffsetUnfold : Type 0
AnswersFromOffsetUnfold = (root : Node) (text : Text) → HasRisingPlaceOffsets text → (start : ℕ)
    → answers_from root text start ≡ answer_then_list root text (first_answer root text start)
    (next_start root text start)

-- The next start is a boundary after the start.
abbrev pub NextStartIsAhead : Type 0
NextStartIsAhead = (root : Node) (text : Text) → HasRisingPlaceOffsets text → (start next : ℕ)
    → next_start root text start ≡ Some next → (start < next) × IsBoundary text next

-- Both ends of the range are boundaries, and they are in order.
abbrev pub IsRangeOfWholeCharacters : Text → ℕ × ℕ → Type 0
IsRangeOfWholeCharacters text range = (range.0 ≤ range.1) × IsBoundary text range.0 × IsBoundary text range.1

-- The first answer from an offset on begins at that offset or after it, and its range consists of
-- whole characters.
abbrev pub FirstAnswerLiesOnBoundaries : Type 0
FirstAnswerLiesOnBoundaries = (root : Node) (text : Text) → HasRisingPlaceOffsets text → (start : ℕ) (m : Answer)
    → first_answer root text start ≡ Some m → (start ≤ m.range.0) × IsRangeOfWholeCharacters text m.range

-- The ranges of the match and of its groups consist of whole characters, and each group of the tree
-- has an entry.
pub record IsWellFormedAnswerFor (root : Node) (text : Text) (m : Answer) : Type 0 where
  pub whole : IsRangeOfWholeCharacters text m.range
  pub groups : Each (λ g. IfSome g (IsRangeOfWholeCharacters text)) m.captures
  pub count : length m.captures ≡ length (group_ids root)

-- The match at an offset is the first answer from there, if that answer begins there.
abbrev pub MatchAtIsFirstAnswerIfThere : Type 0
MatchAtIsFirstAnswerIfThere = (root : Node) (text : Text) → HasRisingPlaceOffsets text → (at : ℕ)
    → answer_at root text at ≡ option_and_then (λ m. if m.range.0 == at then Some m else None)
    (first_answer root text at)

-- Every answer satisfies `IsWellFormedAnswerFor`.
abbrev pub AnswersAreWellFormed : Type 0
AnswersAreWellFormed = (root : Node) (text : Text) → HasRisingPlaceOffsets text → (start : ℕ)
    → Each (IsWellFormedAnswerFor root text) (answers_from root text start)

-- The first answer begins at `from` or after it. Each later answer begins after the start of the
-- answer before it, and not before the end of that answer.
abbrev pub AreAscendingDisjointAnswersFrom : (from : ℕ) → List Answer → Type 0
AreAscendingDisjointAnswersFrom from [] = Unit {0}
AreAscendingDisjointAnswersFrom from (m ∷ ms) =
    (from ≤ m.range.0) × (m.range.0 ≤ m.range.1) × AreAscendingDisjointAnswersFrom (max (m.range.0 + 1) m.range.1) ms

-- The starts of answers increase, and no two answers overlap.
abbrev pub AnswersAreOrderedWithoutOverlap : Type 0
AnswersAreOrderedWithoutOverlap = (root : Node) (text : Text) → HasRisingPlaceOffsets text → (start : ℕ)
    → AreAscendingDisjointAnswersFrom start (answers_from root text start)

-- There is at most one answer more than there are characters from the start on.
abbrev pub AnswerCountIsBounded : Type 0
AnswerCountIsBounded = (root : Node) (text : Text) → HasRisingPlaceOffsets text → (start place : ℕ)
    → place_at text start ≡ Some place → length (answers_from root text start) ≤ last_place text - place + 1

-- A search from the end of a nonempty match yields the rest of the list.
abbrev pub ResumingAfterNonemptyMatchYieldsRest : Type 0
ResumingAfterNonemptyMatchYieldsRest = (root : Node) (text : Text) → HasRisingPlaceOffsets text
    → (start : ℕ) (before : List Answer) (m : Answer) (after : List Answer)
    → answers_from root text start ≡ before ++ m ∷ after → m.range.0 < m.range.1
    → answers_from root text m.range.1 ≡ after

-- ---- One text in two encodings

-- A text has its matches at the same places in UTF-8 and in UTF-16.
abbrev pub SameMatchesInUtf8AndUtf16 : Type 0
SameMatchesInUtf8AndUtf16 = (root : Node) (bytes units : List ℕ) (unicode : Bool) (place : ℕ)
    → chars bytes ≡ utf16_characters units
    → match_list root (utf8_text bytes unicode) place ≡ match_list root (utf16_text units unicode) place

-- An ASCII text has the same answers when read as ASCII and as UTF-8.
abbrev pub AsciiAndUtf8AnswersAgree : Type 0
AsciiAndUtf8AnswersAgree = (root : Node) (bytes : List ℕ) (unicode : Bool) (start : ℕ) → IsAscii bytes
    → answers_from root (ascii_text bytes unicode) start ≡ answers_from root (utf8_text bytes unicode) start

-- ---- Replaced texts, flags and escaped texts

-- Replacing each match by itself gives the original text.
abbrev pub ReplacingMatchesByThemselvesChangesNothing : Type 0
ReplacingMatchesByThemselvesChangesNothing = (text : List ℕ) (ms : List Answer) → AreAscendingDisjointAnswersFrom 0 ms
    → replaced text 0 (map (λ m. (m, expansion text m (codes "$0"))) ms) ≡ text

-- Parsing displayed flags gives the same flags, with `no_opt` cleared.
abbrev pub FlagsRoundTripExceptNoOpt : Type 0
FlagsRoundTripExceptNoOpt = (flags : Flags) → flags_from_letters (flags_text flags) ≡ record flags { no_opt = false }

-- Different texts have different escaped texts.
abbrev pub EscapeIsInjective : Type 0
EscapeIsInjective = (s t : List ℕ) → escape s ≡ escape t → s ≡ t

-- ---- Needs

-- The needs of the matches from a place on and of the end of the list, with `spent` added to each.
-- If there is no place, `spent` is the only need.
abbrev pub step_needs_from_optional_place : Tree → Text → (spent : ℕ) → Option ℕ → List ℕ
step_needs_from_optional_place tree text spent None = spent ∷ []
step_needs_from_optional_place tree text spent (Some place) =
    needs_from tree text (last_place text + 1) spent (Some place)

-- The needs after a match. Empty if there is no match.
abbrev pub needs_after_match : Tree → Text → (spent : ℕ) → Option Found → List ℕ
needs_after_match tree text spent found =
    option_map_or (λ m. step_needs_from_optional_place tree text spent (place_after_match tree.root text m)) found []

-- The first need is the need to find the first match, or to find that there is none. The other
-- needs continue from that match.
abbrev pub NeededStepsUnfoldMatchByMatch : Type 0
NeededStepsUnfoldMatchByMatch = (tree : Tree) (text : Text) (spent place : ℕ)
    → step_needs_from_optional_place tree text spent (Some place)
    ≡ (spent + need tree text place) ∷ needs_after_match tree text (spent + need tree text place)
    (first_match tree.root text place)

-- ---- Names

-- Looking up one name gives the range that the list of all names has for it.
abbrev pub NamedGroupAgreesWithNamedGroups : Type 0
NamedGroupAgreesWithNamedGroups = (m : Answer) → Each (λ named. named_group m named.0 ≡ named.1) (named_groups m)

-- ---- Trees

-- The start predicate of a well-formed tree rules out no place that has an outcome.
abbrev pub StartPredicateIsSound : Type 0
StartPredicateIsSound = (tree : Tree) → IsWellFormed tree.root
    → IsSoundStartPredicateOf (start_predicate tree) tree.root
