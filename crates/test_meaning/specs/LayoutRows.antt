-- Programs, and the trees whose code they are.
use Rattle.std.specs.Prelude.{◌≡◌, ℕ, ◌^◌, ◌-◌, List, [], ◌∷◌, None, refl, true, false}
use Rattle.regex_meaning.specs.Tree.{goal, char, byte_set, byte_sequence, cat, end_of_cat, alt, lookaround, loop, loop_1_char_body}
use Rattle.regex_meaning.specs.CompilationRelation.{Insn, Goal, Char, Alt, Jump, EnterLoop, LoopAgain, Loop1CharBody, ByteSeq, Lookbehind, Program, Counters, IsCode, tree_contains_byte_nodes}
use Rattle.regex_meaning.specs.StartPredicate.{start_arbitrary}
use Rattle.regex_meaning.specs.GrammarLaws.{no_flags}
use Rattle.test_meaning.specs.Computing.{times, look}

abbrev program : List Insn → Program
program insns = record {
  insns = insns;
  brackets = [];
  loops = 1;
  groups = 0;
  flags = no_flags;
  group_names = [];
  start_pred = start_arbitrary;
}

abbrev mark : ℕ → ℕ → Counters
mark i l = record { insn = i; loop = l; bracket = 0 }

alternatives : IsCode (program (Alt 3 ∷ Char 97 ∷ Jump 5 ∷ Char 97 ∷ Char 98 ∷ Goal ∷ [])) false
    (cat (alt (char 97) (cat (char 97) (cat (char 98) end_of_cat))) (cat goal end_of_cat)) (mark 0 0) (mark 6 0)
unfolding IsCode
alternatives = (
  mark 5 0,
  (mark 2 0, refl, (refl, refl), refl, (mark 4 0, (refl, refl), (mark 5 0, (refl, refl), refl))),
  (mark 6 0, (refl, refl), refl),
)

looped : IsCode (program (EnterLoop (record {
  loop_id =
      0;
  min_iters = 0;
  max_iters = 2 ^ 64 - 1;
  greedy = true;
  exit = 3;
}) ∷ Char 97 ∷ LoopAgain 0 ∷ Goal ∷ [])) false
    (cat (loop (times 0 None true) 0 0 (char 97)) (cat goal end_of_cat)) (mark 0 0) (mark 4 1)
unfolding IsCode
looped =
    (mark 3 1, (mark 1 1, mark 2 1, (refl, refl), (refl, refl), (refl, refl)), (mark 4 1, (refl, refl), refl))

behind : IsCode (program (Lookbehind false 0 0 4 ∷ ByteSeq (113 ∷ []) ∷ ByteSeq
    (97 ∷ 98 ∷ 99 ∷ 100 ∷ 101 ∷ 102 ∷ 103 ∷ 104 ∷ 105 ∷ 106 ∷ 107 ∷ 108 ∷ 109 ∷ 110 ∷ 111 ∷ 112 ∷ []) ∷ Goal ∷ Goal
    ∷ [])) false
    (cat (lookaround (look false true 0 0) (byte_sequence
    (97 ∷ 98 ∷ 99 ∷ 100 ∷ 101 ∷ 102 ∷ 103 ∷ 104 ∷ 105 ∷ 106 ∷ 107 ∷ 108 ∷ 109 ∷ 110 ∷ 111 ∷ 112 ∷ 113 ∷ [])))
    (cat goal end_of_cat)) (mark 0 0) (mark 5 0)
unfolding IsCode
behind = (mark 4 0, (mark 3 0, refl, (refl, (refl, refl)), (refl, refl)), (mark 5 0, (refl, refl), refl))

one_character_loop : IsCode (program (Loop1CharBody 0 (2 ^ 64 - 1) true ∷ Char 97 ∷ Goal ∷ [])) false
    (cat (loop_1_char_body (times 0 None true) (char 97)) (cat goal end_of_cat)) (mark 0 0) (mark 3 0)
unfolding IsCode
one_character_loop = (mark 2 0, (refl, (refl, refl)), (mark 3 0, (refl, refl), refl))

bytes_in_a_lookaround : tree_contains_byte_nodes (cat (lookaround (look false true 0 0) (byte_sequence (97 ∷ [])))
    (cat goal end_of_cat)) ≡ true
bytes_in_a_lookaround = refl

bytes_in_an_arm : tree_contains_byte_nodes (cat (alt (char 97) (byte_set (97 ∷ []))) (cat goal end_of_cat)) ≡ true
bytes_in_an_arm = refl

no_bytes : tree_contains_byte_nodes (cat (loop (times 0 None true) 0 0 (char 97)) (cat goal end_of_cat)) ≡ false
no_bytes = refl
