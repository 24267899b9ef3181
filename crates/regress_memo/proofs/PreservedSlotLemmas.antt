-- A step leaves states with as many groups and loops as the program has.
use Rattle.std.proofs.Common.{◌≡◌, ℕ, ◌+◌, List, [], ◌∷◌, length, min, Option, Some, None, Bool, ◌∙◌, subst, slice_get, slice_set}
use Rattle.std.specs.Prelude.{◌&&◌, nat_lt}
use Rattle.std.specs.List.{prefix_len}
use Rattle.std.proofs.lemmas.List.{length-set}
use Rattle.regex_meaning.specs.Tree.{Sameness}
use Rattle.regex_meaning.specs.Laws.{Each}
use Rattle.regex_meaning.proofs.EachElementLemmas.{Each-all}
use Rattle.regex_meaning.specs.Text.{Text, Direction, next_character, moved}
use Rattle.regex_meaning.specs.CodeUnitOffsets.{offset, place_at}
use Rattle.regex_meaning.specs.Outcomes.{is_some_and}
use Rattle.regex_meaning.specs.OutcomesWithStepTicks.{nearest_first}
use Rattle.regex_meaning.specs.CompilationRelation.{Program, LoopFields, Insn, Goal, JustFail, ByteSeq, StartOfLine, EndOfLine, WordBoundary, WordBoundaryUnicodeICase, Alt, Jump, EnterLoop}
use Rattle.regex_meaning.specs.CompilationRelation.{LoopAgain, ResetCaptureGroup, Loop1CharBody}
use Rattle.regex_meaning.specs.CompilationRelation.{BeginCaptureGroup, EndCaptureGroup, BackRef, Lookahead, Lookbehind}
use Rattle.regress_machine.specs.Machine.{State, Thread, running, waiting, Next, goes, state_with_ip, with_some, go, go_if, range_swapped_if_leftwards, test_of, next_insn_at_place}
use Rattle.regress_machine.specs.Machine.{offset_moved_in_direction, read_one, stay_if, read_group, char_loop_states, scan, act_on, act, Found, search}
use Rattle.regress_machine.proofs.StatesInEffects.{IsOfThread, IsOfNext, of-in_turn, of-with_some, of-only_if, of-go_if, of-map, of-loop_turn, of-again_at}
use Rattle.regress_memo.specs.LoopDataKeyCodes.{HasSlotsOfProgram}
use Rattle.regress_memo.proofs.PropertiesOfSearchEnds.{good-end}
use Rattle.regress_memo.specs.PreservedSlotCounts.{state_of_thread, StatesKeepSlots}

module _ (program : Program) (text : Text) (d : Direction) (s : State) (is : HasSlotsOfProgram program s) where
  abbrev Good : State → Type 0
  Good = HasSlotsOfProgram program

  -- A state keeps the numbers of its groups and loops at another instruction and offset.
  stays : (ip pos : ℕ) → Good (record s { ip = ip; pos = pos })
  stays ip pos = record { groups = is.groups; starts = is.starts; loops = is.loops }

  at : (ip : ℕ) → Good (state_with_ip ip s)
  at ip = record { groups = is.groups; starts = is.starts; loops = is.loops }

  on : (p : ℕ) → Good (next_insn_at_place text p s)
  on p = record { groups = is.groups; starts = is.starts; loops = is.loops }

  begun : (f : LoopFields) (begin k : ℕ) → Good (record s { ip = begin + 1; loops = slice_set s.loops f.loop_id (record { iters = k; entry = s.pos }) })
  begun f begin k = record {
    groups = is.groups;
    starts = is.starts;
    loops = length-set s.loops f.loop_id (record { iters = k; entry = s.pos }) ∙ is.loops;
  }

  with_group : (id : ℕ) (range : Option (ℕ × ℕ)) → Good (record s { ip = s.ip + 1; groups = slice_set s.groups id range })
  with_group id range = record { groups = length-set s.groups id range ∙ is.groups; starts = is.starts; loops = is.loops }

  reads : (o : Option (ℕ → Bool)) → IsOfNext Good (with_some o (λ test. read_one text test d s))
  reads o =
      of-with_some Good o (λ test. read_one text test d s) (λ test e.
      of-with_some Good (place_at text s.pos) (λ p. go_if (is_some_and (next_character text d p) test) (next_insn_at_place text (moved text d 1 p) s))
      (λ p e. of-go_if Good (is_some_and (next_character text d p) test) (next_insn_at_place text (moved text d 1 p) s) (λ b. on (moved text d 1 p))))

  looks : (holds : ℕ → Bool) → IsOfNext Good (stay_if text holds s)
  looks holds = of-with_some Good (place_at text s.pos) (λ p. go_if (holds p) (next_insn_at_place text p s)) (λ p e. of-go_if Good (holds p) (next_insn_at_place text p s) (λ b. on p))

  reads_group : (sameness : Sameness) (o : Option (ℕ × ℕ)) → IsOfNext Good (read_group text sameness d o s)
  reads_group sameness None = of-with_some Good (place_at text s.pos) (λ p. go (next_insn_at_place text p s)) (λ p e. (on p, tt))
  reads_group sameness (Some range) =
      of-with_some Good (place_at text s.pos) _ (λ p e. of-with_some Good (place_at text range.0) _ (λ from e. of-with_some Good (place_at text range.1) _ (λ to e.
      of-go_if Good _ (next_insn_at_place text (moved text d _ p) s) (λ b. on (moved text d _ p)))))

  runs : (o : Option (ℕ → Bool)) (least most : ℕ) (greedy : Bool) → IsOfNext Good (with_some o (λ test. with_some (place_at text s.pos) (λ p. scan text least most greedy test d p s)))
  runs o least most greedy =
      of-with_some Good o (λ test. with_some (place_at text s.pos) (λ p. scan text least most greedy test d p s)) (λ test e.
      of-with_some Good (place_at text s.pos) (λ p. scan text least most greedy test d p s) (λ p e.
      of-in_turn Good (char_loop_states text greedy d least (min most (prefix_len test (nearest_first text d p))) p s)
      (of-map Good (λ n. record s { ip = s.ip + 2; pos = offset text (moved text d n p) }) _
      (Each-all (λ n. Good (record s { ip = s.ip + 2; pos = offset text (moved text d n p) })) (λ n. stays (s.ip + 2) (offset text (moved text d n p))) _))))

  acts : (o : Option Insn) → IsOfNext Good (act_on program text d o s)
  acts None = tt
  acts (Some Goal) = is
  acts (Some JustFail) = tt
  acts (Some (ByteSeq bytes)) = of-go_if Good _ (record s { ip = s.ip + 1; pos = offset_moved_in_direction d (length bytes) s.pos }) (λ b. stays (s.ip + 1) (offset_moved_in_direction d (length bytes) s.pos))
  acts (Some (StartOfLine multiline)) = looks _
  acts (Some (EndOfLine multiline)) = looks _
  acts (Some (WordBoundary invert)) = looks _
  acts (Some (WordBoundaryUnicodeICase invert)) = looks _
  acts (Some (Alt secondary)) = (at (s.ip + 1), (at secondary, tt))
  acts (Some (Jump target)) = (at target, tt)
  acts (Some (EnterLoop f)) = of-loop_turn Good f s.ip 0 s (begun f s.ip 0) (at f.exit)
  acts (Some (LoopAgain begin)) = of-again_at Good (slice_get program.insns begin) begin s (λ f e. (λ k. begun f begin k, at f.exit))
  acts (Some (ResetCaptureGroup id)) =
      of-only_if Good (nat_lt id (length s.groups)) (go (record s { ip = s.ip + 1; groups = slice_set s.groups id None })) (with_group id None, tt)
  acts (Some (Loop1CharBody least most greedy)) = runs (test_of program (slice_get program.insns (s.ip + 1))) least most greedy
  acts (Some (BeginCaptureGroup id)) =
      of-only_if Good (nat_lt id (length s.groups) && nat_lt id (length s.starts))
      (go (record s { ip = s.ip + 1; groups = slice_set s.groups id None; starts = slice_set s.starts id s.pos }))
      (record { groups = length-set s.groups id None ∙ is.groups; starts = length-set s.starts id s.pos ∙ is.starts; loops = is.loops }, tt)
  acts (Some (EndCaptureGroup id)) =
      let closed : ℕ → Next = λ start. go (record s { ip = s.ip + 1; groups = slice_set s.groups id (Some (range_swapped_if_leftwards d start s.pos)) }) in
      of-only_if Good (nat_lt id (length s.groups)) (with_some (slice_get s.starts id) closed)
      (of-with_some Good (slice_get s.starts id) closed (λ start e. (with_group id (Some (range_swapped_if_leftwards d start s.pos)), tt)))
  acts (Some (BackRef group sameness)) = of-with_some Good (slice_get s.groups group) (λ range. read_group text sameness d range s) (λ range e. reads_group sameness range)
  acts (Some (Lookahead negate start_group end_group continuation)) = (at (s.ip + 1), at continuation)
  acts (Some (Lookbehind negate start_group end_group continuation)) = (at (s.ip + 1), at continuation)
  acts o = reads (test_of program o)

each-state : (program : Program) (ts : List Thread) → Each (IsOfThread (HasSlotsOfProgram program)) ts → Each (λ u. HasSlotsOfProgram program (state_of_thread u)) ts
each-state program [] h = tt
each-state program (running s ∷ ts) h = (h.0, each-state program ts h.1)
each-state program (waiting s ∷ ts) h = (h.0, each-state program ts h.1)

pub states-stay : StatesKeepSlots
states-stay program text d s ts is turn =
    each-state program ts (subst (IsOfNext (HasSlotsOfProgram program)) turn (acts program text d s is (slice_get program.insns s.ip)))

-- The state in which a search ends has as many groups and loops as the program.
pub end-has-slots : (program : Program) (text : Text) (d : Direction) (turns : ℕ) (u e : State) (f : Found) → HasSlotsOfProgram program u
    → search program text turns d (running u ∷ []) ≡ Some f → f.end ≡ Some e → HasSlotsOfProgram program e
end-has-slots program text d turns u e f is searches ended =
    good-end (HasSlotsOfProgram program) (λ s x k h. record { groups = h.groups; starts = h.starts; loops = h.loops }) program text
    (λ d s is. acts program text d s is (slice_get program.insns s.ip)) d turns u e f is searches ended
