-- Replacements, names, flags and `escape`.
use Rattle.std.specs.Prelude.{◌≡◌, ◌++◌, ◌==◌, Bool, filter, map, ℕ, List, [], ◌∷◌, Some, None, refl, true, false, codes}
use Rattle.regex_meaning.specs.NumberListHelpers.{numbers_from}
use Rattle.regex_meaning.specs.Text.{is_unit_boundary, expand_code_point, fold_code_point}
use Rattle.regex_meaning.specs.Outcomes.{Groups}
use Rattle.regex_meaning.specs.MatchGroupsByNumberAndName.{Answer, group, named_group, named_groups}
use Rattle.regex_meaning.specs.Replace.{expansion, replaced}
use Rattle.regex_meaning.specs.FlagLettersAndEscaping.{flags_text, flags_from_letters, escape, syntax_characters}

abbrev answer : ℕ → ℕ → Groups → Answer
answer a b gs = record { range = (a, b); captures = gs; names = [] }

date_form : expansion (codes "2023-12-25") (answer 0 10 (Some (0, 4) ∷ Some (5, 7) ∷ Some (8, 10) ∷ []))
    (codes "$2/$3/$1") ≡ codes "12/25/2023"
unfolding expansion
date_form = refl

missing : expansion (codes "hello") (answer 0 5 (Some (0, 5) ∷ [])) (codes "$1 $2 $3") ≡ codes "hello  "
unfolding expansion
missing = refl

far : expansion (codes "hello") (answer 0 5 (Some (0, 5) ∷ [])) (codes "$999") ≡ []
unfolding expansion
far = refl

unclosed : expansion (codes "hello") (answer 0 5 (Some (0, 5) ∷ [])) (codes "${x $1") ≡ codes "${x $1"
unfolding expansion
unclosed = refl

dollars : replaced (codes "Price: 123") 0 ((
  answer 7 10 [],
  expansion (codes "Price: 123") (answer 7 10 [])
      (codes "$$0"),
) ∷ []) ≡ codes "Price: $0"
unfolding expansion replaced
dollars = refl

past_the_largest : expansion (codes "a") (answer 0 1 []) (codes "$655367") ≡ codes "7"
unfolding expansion
past_the_largest = refl

leading_zero : expansion (codes "a") (answer 0 1 (Some (0, 1) ∷ [])) (codes "$01") ≡ codes "a"
unfolding expansion
leading_zero = refl

ten : expansion (codes "a") (answer 0 1 (Some (0, 1) ∷ [])) (codes "$10") ≡ []
unfolding expansion
ten = refl

lone : expansion (codes "a") (answer 0 1 []) (codes "$x$") ≡ codes "$x$"
unfolding expansion
lone = refl

no_name : expansion (codes "a") (answer 0 1 []) (codes "${}") ≡ []
unfolding expansion
no_name = refl

abbrev two : Answer
two = record { range = (0, 1); captures = None ∷ Some (0, 1) ∷ []; names = codes "n" ∷ codes "n" ∷ [] }

by_name : expansion (codes "xa") (record {
  range =
      (1, 2);
  captures = Some (1, 2) ∷ [];
  names = codes "n" ∷ [];
}) (codes "[${n}]") ≡ codes "[a]"
unfolding expansion
by_name = refl

that_matched : named_group two (codes "n") ≡ Some (0, 1)
that_matched = refl

of_the_empty_name : named_group two [] ≡ None
of_the_empty_name = refl

of_no_group : named_group two (codes "m") ≡ None
of_no_group = refl

-- Both groups with the name matched: the first one is used.
abbrev both : Answer
both = record { range = (0, 2); captures = Some (0, 1) ∷ Some (1, 2) ∷ []; names = codes "n" ∷ codes "n" ∷ [] }

first_that_matched : named_group both (codes "n") ≡ Some (0, 1)
first_that_matched = refl

all_names : named_groups two ≡ (codes "n", Some (0, 1)) ∷ []
all_names = refl

truncated : named_group (record two { captures = None ∷ [] }) (codes "n") ≡ None
truncated = refl

cut_off : named_groups (record two { captures = [] }) ≡ (codes "n", None) ∷ []
cut_off = refl

-- A match with a group that exists and one that does not, and the results of its accessors.
abbrev one_of_two : Answer
one_of_two = record { range = (0, 1); captures = Some (0, 1) ∷ None ∷ []; names = codes "n" ∷ [] ∷ [] }

groups : map (group one_of_two) (0 ∷ 1 ∷ 2 ∷ 3 ∷ []) ≡ (Some (0, 1) ∷ Some (0, 1) ∷ None ∷ None ∷ [])
groups = refl

-- The same without captures.
groups_cut_off : map (group (record one_of_two { captures = [] })) (0 ∷ 1 ∷ []) ≡ (Some (0, 1) ∷ None ∷ [])
groups_cut_off = refl

name_cut_off : named_group (record one_of_two { captures = [] }) (codes "n") ≡ None
name_cut_off = refl

flags : flags_from_letters (codes "gimuy") ≡ record {
  icase =
      true;
  multiline = true;
  dot_all = false;
  no_opt = false;
  unicode = true;
  unicode_sets = false;
}
unfolding flags_from_letters
flags = refl

no_letters : flags_text (flags_from_letters []) ≡ []
unfolding flags_text flags_from_letters
no_letters = refl

letters : flags_text (flags_from_letters (codes "gimuy")) ≡ codes "miu"
unfolding flags_text flags_from_letters
letters = refl

escaped_text : escape (codes "a^b$c.d|e?f*g+h(i)j[k]l{m}n\\o") ≡ codes
    "a\\^b\\$c\\.d\\|e\\?f\\*g\\+h\\(i\\)j\\[k\\]l\\{m\\}n\\\\o"
unfolding escape
escaped_text = refl

escaped_nothing : escape [] ≡ []
unfolding escape
escaped_nothing = refl

fourteen : syntax_characters ≡ 92 ∷ 94 ∷ 36 ∷ 46 ∷ 124 ∷ 63 ∷ 42 ∷ 43 ∷ 40 ∷ 41 ∷ 91 ∷ 93 ∷ 123 ∷ 125 ∷ []
fourteen = refl

boundaries : map (is_unit_boundary (0xD83D ∷ 0xDE00 ∷ [])) (0 ∷ 1 ∷ 2 ∷ 3 ∷ []) ≡ true ∷ false ∷ true ∷ false ∷ []
boundaries = refl

lone_low : map (is_unit_boundary (0xDE00 ∷ [])) (0 ∷ 1 ∷ []) ≡ true ∷ true ∷ []
lone_low = refl

words : replaced (codes "hello world") 0
    (map (λ m. (m, expansion (codes "hello world") m (codes "$1.$2")))
    (answer 0 5 (Some (0, 1) ∷ Some (1, 5) ∷ []) ∷ answer 6 11 (Some (6, 7) ∷ Some (7, 11) ∷ []) ∷ []))
    ≡ codes "h.ello w.orld"
unfolding expansion replaced
words = refl

-- Each ASCII character, and the two others, expands to the characters with its fold.
abbrev candidates : List ℕ
candidates = numbers_from 0 128 ++ (0x017F ∷ 0x212A ∷ 0xE9 ∷ [])

abbrev expands_to_its_fold : Bool → ℕ → List ℕ
expands_to_its_fold unicode c = filter (λ d. fold_code_point unicode d == fold_code_point unicode c) candidates

expansions : (map (λ c. expand_code_point c true true) candidates ≡ map (expands_to_its_fold true) candidates)
    × (map (λ c. expand_code_point c true false) candidates ≡ map (expands_to_its_fold false) candidates)
unfolding expand_code_point fold_code_point
expansions = (refl, refl)
