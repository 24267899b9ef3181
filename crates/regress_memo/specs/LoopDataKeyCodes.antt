-- Key codes: one number for all live data of the loops that enclose an instruction.
use Rattle.std.specs.Prelude.{◌≡◌, ◌<◌, ℕ, ◌+◌, ◌*◌, min, Bool, true, false, ◌==◌, List, [], ◌∷◌, length, option_map, unwrap_or, slice_get}
use Rattle.regex_meaning.specs.Text.{Text, Direction}
use Rattle.regex_meaning.specs.CodeUnitOffsets.{units}
use Rattle.regex_meaning.specs.CompilationRelation.{Program}
use Rattle.regress_machine.specs.Machine.{LoopData, State, running}
use Rattle.regress_memo.specs.Liveness.{Liveness, Agree, outermost}
use Rattle.regress_memo.specs.DistinctLists.{IsIn}
use Rattle.regress_memo.specs.MemoSearch.{Key, KeyStandsFor}
use Rattle.regress_memo.specs.ThreadPotentials.{Shape, Distinguishes, is_one_of, place_keys}

-- ---- Questions and their answers

-- A question about the data of a loop.
pub data Question : Type 0 where
  -- Whether no character was read since the current iteration of the loop began.
  is_empty : (l : ℕ) → Question
  -- The number of iterations, capped at `most`.
  how_many : (l most : ℕ) → Question

-- The number of possible answers.
abbrev pub number_of_possible_answers : Question → ℕ
number_of_possible_answers (is_empty l) = 2
number_of_possible_answers (how_many l most) = most + 1

-- A number computed from a loop's data. 0 if the state does not have that loop.
abbrev pub loop_data_number : State → (l : ℕ) → (LoopData → ℕ) → ℕ
loop_data_number s l number = unwrap_or (option_map number (slice_get s.loops l)) 0

-- 1 for true, 0 for false.
abbrev pub bool_as_digit : Bool → ℕ
bool_as_digit true = 1
bool_as_digit false = 0

-- The answer to a question in a state.
abbrev pub answer_to_loop_question : Question → State → ℕ
answer_to_loop_question (is_empty l) s = loop_data_number s l (λ x. bool_as_digit (x.entry == s.pos))
answer_to_loop_question (how_many l most) s = loop_data_number s l (λ x. min x.iters most)

-- The code of a state: a number whose digits are the answers to the questions. The base of each
-- digit is the number of possible answers.
abbrev pub code_of : List Question → State → ℕ
code_of [] s = 0
code_of (q ∷ qs) s = answer_to_loop_question q s + number_of_possible_answers q * code_of qs s

-- The number of codes: the product of the numbers of possible answers.
abbrev pub codes_of : List Question → ℕ
codes_of [] = 1
codes_of (q ∷ qs) = number_of_possible_answers q * codes_of qs

-- ---- A plan: questions for each instruction

module _ (questions : ℕ → List Question) where
  -- The code of a state for the questions of its instruction.
  abbrev pub plan_code : State → ℕ
  plan_code s = code_of (questions s.ip) s

  -- The number of codes at an instruction.
  abbrev pub plan_codes : (ip : ℕ) → ℕ
  plan_codes ip = codes_of (questions ip)

  module _ (a : Liveness) where
    -- The questions of the instruction include all live data of the loops that enclose it.
    pub record AsksAllAt (ip : ℕ) : Type 0 where
      pub empty : (l : ℕ) → a.inside ip l ≡ true → a.empty ip l ≡ true → IsIn (is_empty l) (questions ip)
      pub count : (l : ℕ) → a.inside ip l ≡ true → 0 < a.up_to l → IsIn (how_many l (a.up_to l)) (questions ip)

    -- The questions of each instruction include all of these live data.
    pub record AsksAll : Type 0 where
      pub asks : (ip : ℕ) → AsksAllAt ip

-- ---- Keys of threads

-- The key of a thread that runs at an instruction.
abbrev pub key_of : (code : State → ℕ) → State → Key
key_of code s = record { ip = s.ip; at = s.pos; code = code s }

-- The shape of the only thread that this key stands for.
abbrev pub shape_of_only_thread_of_key : Key → List Shape
shape_of_only_thread_of_key k = record { runs = true; ip = k.ip; pos = k.at; code = k.code } ∷ []

-- The state has as many groups and loops as the program.
pub record HasSlotsOfProgram (program : Program) (s : State) : Type 0 where
  pub groups : length s.groups ≡ program.groups
  pub starts : length s.starts ≡ program.groups
  pub loops : length s.loops ≡ program.loops

module _ (program : Program) (text : Text) (a : Liveness) where
  -- A sound thread at an instruction that records has its key.
  abbrev pub ThreadHasKey : (questions : ℕ → List Question) (way : ℕ → Direction) (ips : List ℕ)
      (rows : Key → List Shape) (taken : Key → ℕ) → Type 0
  ThreadHasKey questions way ips rows taken = (d : Direction) (s : State)
      → is_one_of ips s.ip ≡ true → way s.ip ≡ d → HasSlotsOfProgram program s → Agree a (units text) outermost d s s
      → rows (key_of (plan_code questions) s) ≡ shape_of_only_thread_of_key (key_of (plan_code questions) s)
      → KeyStandsFor program text a
      (place_keys program (plan_code questions) way ips (units text) (plan_codes questions) rows taken) d
      (key_of (plan_code questions) s) (running s ∷ [])

-- ---- Laws

-- If the questions include all live data, the code distinguishes them. The code is less than the
-- product of the numbers of possible answers.
pub record KeyCodesDistinguishLoopData : Type 0 where
  pub tells : (questions : ℕ → List Question) (a : Liveness) (top : ℕ) → AsksAll questions a
      → Distinguishes a top (plan_code questions)
  pub below : (questions : ℕ → List Question) (s : State) → plan_code questions s < plan_codes questions s.ip
  pub has_key : (program : Program) (text : Text) (a : Liveness) (questions : ℕ → List Question) (way : ℕ → Direction)
      (ips : List ℕ) (rows : Key → List Shape) (taken : Key → ℕ)
      → ThreadHasKey program text a questions way ips rows taken
