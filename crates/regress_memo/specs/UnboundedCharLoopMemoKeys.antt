-- Keys of char loops without a maximum. The loop, a place and a code determine the threads that it
-- leaves from this place.
use Rattle.std.specs.Prelude.{◌≡◌, ◌≤◌, ℕ, zero, suc, ◌+◌, ◌*◌, ◌/◌, ◌%◌, Bool, true, false, if◌then◌else◌, ◌==◌, List, [], ◌∷◌, map, reverse, Option, Some, None, slice_get}
use Rattle.regex_meaning.specs.NumberListHelpers.{numbers_from}
use Rattle.regex_meaning.specs.Text.{Text, Direction, last_place, moved}
use Rattle.regex_meaning.specs.CodeUnitOffsets.{HasRisingPlaceOffsets, offset, place_at, units}
use Rattle.regex_meaning.specs.CompilationRelation.{Program, Insn, Loop1CharBody}
use Rattle.regress_machine.specs.Machine.{State, Thread, test_of}
use Rattle.regress_machine.specs.CharLoopExitStatesByPreference.{behind}
use Rattle.regress_memo.specs.Liveness.{Liveness}
use Rattle.regress_memo.specs.DistinctLists.{IsIn}
use Rattle.regress_memo.specs.MemoSearch.{Key, Keys, KeyStandsFor, AreSound}
use Rattle.regress_memo.specs.ThreadPotentials.{Shape, is_one_of, place_keys}
use Rattle.regress_memo.specs.LoopDataKeyCodes.{Question, is_empty, how_many, number_of_possible_answers, plan_code, plan_codes, HasSlotsOfProgram, shape_of_only_thread_of_key}
use Rattle.regress_memo.specs.CharLoopExitThreadLists.{passing, greedy_loop_threads, pending_loop_threads}

-- ---- Codes at later places

-- The answer to a question after a character was read.
abbrev pub answer_after_read_char : Question → ℕ → ℕ
answer_after_read_char (is_empty l) n = 0
answer_after_read_char (how_many l most) n = n

-- The code after a character was read, digit by digit.
abbrev pub code_after_read_char : List Question → (code : ℕ) → ℕ
code_after_read_char [] code = 0
code_after_read_char (q ∷ qs) code = answer_after_read_char q
    (code % number_of_possible_answers q) + number_of_possible_answers q * code_after_read_char qs
    (code / number_of_possible_answers q)

-- ---- Threads of a key

-- The same shapes, but the first thread is a running one.
abbrev pub first_runs : List Shape → List Shape
first_runs [] = []
first_runs (x ∷ xs) = record x { runs = true } ∷ xs

-- The numbers of characters before each place of a char loop. The nearest place comes first.
abbrev pub counts_from : (text : Text) (test : ℕ → Bool) (d : Direction) (place : ℕ) → List ℕ
counts_from text test d place = numbers_from 0 (passing text test d place + 1)

module _ (text : Text) (test : ℕ → Bool) (d : Direction) (qs : List Question) where
  -- The shape of a thread that waits `n` characters after a place whose code is `code`.
  abbrev pub shape_on : (ip place code n : ℕ) → Shape
  shape_on ip place code n = record {
    runs = false;
    ip = ip;
    pos = offset text (moved text d n place);
    code = if n == 0 then code else code_after_read_char qs code;
  }

  -- The shapes of a char loop's threads. In a greedy loop, the furthest place runs and comes first.
  -- In a lazy loop, all places wait and the nearest comes first.
  abbrev pub run_row : (greedy : Bool) → (ip place code : ℕ) → List Shape
  run_row true ip place code = first_runs (map (shape_on ip place code) (reverse (counts_from text test d place)))
  run_row false ip place code = map (shape_on ip place code) (counts_from text test d place)

-- Whether a char loop is greedy. `None` for other instructions.
abbrev pub char_loop_greediness_at : Option Insn → Option Bool
char_loop_greediness_at (Some (Loop1CharBody least most greedy)) = Some greedy
char_loop_greediness_at _ = None

-- The instruction before `ip`.
abbrev pub insn_before : Program → (ip : ℕ) → Option Insn
insn_before program zero = None
insn_before program (suc ip) = slice_get program.insns ip

module _ (program : Program) (text : Text) (questions : ℕ → List Question) (way : ℕ → Direction) where
  -- The shapes of a key's threads. If there is a char loop before the key's instruction, they are
  -- those of the loop.
  abbrev pub row_by : Option Bool → Option (ℕ → Bool) → Option ℕ → Key → List Shape
  row_by None test place k = shape_of_only_thread_of_key k
  row_by (Some greedy) (Some test) (Some place) k =
      run_row text test (way k.ip) (questions (k.ip + 1)) greedy (k.ip + 1) place k.code
  row_by (Some greedy) _ _ k = []

  -- The shapes of the threads of a plan's keys. No thread reaches the body of a char loop, so the
  -- keys of the body belong to the loop.
  abbrev pub plan_rows : Key → List Shape
  plan_rows k =
      row_by (char_loop_greediness_at (insn_before program k.ip)) (test_of program (slice_get program.insns k.ip))
      (place_at text k.at) k

-- ---- Checks of a char loop

module _ (program : Program) (a : Liveness) (questions : ℕ → List Question) (way : ℕ → Direction) (ips : List ℕ) where
  -- The body of a char loop records and has the questions of the instruction after the loop. These
  -- questions are about loops that enclose that instruction.
  pub record CharLoopRecords (d : Direction) (test : ℕ → Bool) (greedy : Bool) (ip : ℕ) : Type 0 where
    pub run : char_loop_greediness_at (slice_get program.insns ip) ≡ Some greedy
    pub body : test_of program (slice_get program.insns (ip + 1)) ≡ Some test
    pub goes : way (ip + 1) ≡ d
    pub records : is_one_of ips (ip + 1) ≡ true
    pub asks : questions (ip + 1) ≡ questions (ip + 2)
    pub inside : (l : ℕ) → IsIn (is_empty l) (questions (ip + 2)) → a.inside (ip + 2) l ≡ true

-- ---- Laws

module _ (program : Program) (text : Text) (a : Liveness) (questions : ℕ → List Question)
    (way : ℕ → Direction) (ips : List ℕ) (taken : Key → ℕ) where
  -- The key of the threads that the loop leaves from a place. Its code is that of the state at this
  -- place.
  abbrev pub run_key : (d : Direction) (place : ℕ) → State → Key
  run_key d place s =
      record { ip = s.ip + 1; at = offset text place; code = plan_code questions (behind text d place s 0) }

  -- The keys of a plan.
  abbrev pub plan_keys : Keys
  plan_keys =
      place_keys program (plan_code questions) way ips (units text) (plan_codes questions)
      (plan_rows program text questions way) taken

  -- The key is a key of the plan and stands for the threads.
  abbrev pub IsOfPlan : Direction → Key → List Thread → Type 0
  IsOfPlan d k ts = KeyStandsFor program text a plan_keys d k ts

  -- The threads that a char loop leaves from a place have its key, if they are sound.
  pub record RunHasKeys (d : Direction) (test : ℕ → Bool) (place : ℕ) (s : State) : Type 0 where
    pub greedy : CharLoopRecords program a questions way ips d test true s.ip
        → AreSound program text a plan_keys d (greedy_loop_threads text test d 0 place s)
        → IsOfPlan d (run_key d place s) (greedy_loop_threads text test d 0 place s)
    pub lazy : CharLoopRecords program a questions way ips d test false s.ip
        → AreSound program text a plan_keys d (pending_loop_threads text test d 0 place s)
        → IsOfPlan d (run_key d place s) (pending_loop_threads text test d 0 place s)

-- Char loops have keys at all places of all texts.
abbrev pub CharLoopsHaveKeys : Type 0
CharLoopsHaveKeys =
    (program : Program) (text : Text) (a : Liveness) (questions : ℕ → List Question) (way : ℕ → Direction)
    (ips : List ℕ) (taken : Key → ℕ) (d : Direction) (test : ℕ → Bool) (place : ℕ) (s : State)
    → HasRisingPlaceOffsets text → place ≤ last_place text → HasSlotsOfProgram program s
    → RunHasKeys program text a questions way ips taken d test place s
