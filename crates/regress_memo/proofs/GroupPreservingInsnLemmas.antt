-- A search from an instruction that preserves groups ends with the groups with which it began.
use Rattle.std.proofs.Common.{◌≡◌, ℕ, ◌+◌, List, [], ◌∷◌, length, min, Option, Some, None, Bool, true, false, refl, ap, ◌∙◌, subst, slice_get, slice_set}
use Rattle.std.specs.List.{prefix_len}
use Rattle.std.proofs.lemmas.List.{length-set}
use Rattle.regex_meaning.specs.Tree.{Sameness}
use Rattle.regex_meaning.specs.Laws.{Each}
use Rattle.regex_meaning.proofs.EachElementLemmas.{Each-all}
use Rattle.regex_meaning.specs.Text.{Text, Direction, next_character, moved}
use Rattle.regex_meaning.specs.CodeUnitOffsets.{offset, place_at}
use Rattle.regex_meaning.specs.Outcomes.{Groups, is_some_and}
use Rattle.regex_meaning.specs.OutcomesWithStepTicks.{nearest_first}
use Rattle.regex_meaning.specs.CompilationRelation.{Program, LoopFields, Insn, Goal, JustFail, ByteSeq, StartOfLine, EndOfLine, WordBoundary, WordBoundaryUnicodeICase, Alt, Jump, EnterLoop}
use Rattle.regex_meaning.specs.CompilationRelation.{LoopAgain, ResetCaptureGroup, Loop1CharBody}
use Rattle.regex_meaning.specs.CompilationRelation.{BeginCaptureGroup, EndCaptureGroup, BackRef, Lookahead, Lookbehind}
use Rattle.regress_machine.specs.Machine.{State, Thread, running, waiting, Next, goes, scans, ends, asks, stuck, after_lookaround, state_with_ip, with_some, go}
use Rattle.regress_machine.specs.Machine.{go_if, loop_again_effect, test_of, next_insn_at_place, offset_moved_in_direction, read_one, stay_if, read_group, char_loop_states, scan, act_on, act}
use Rattle.regress_memo.specs.GroupPreservingInsns.{IsSilentAgain, IsSilentAt, AreGroupPreserving, InsnsKeepGroupsToEnd}
use Rattle.regress_machine.proofs.StatesInEffects.{IsOfThread, IsOfNext, of-in_turn, of-with_some, of-go_if, of-map, of-loop_turn, of-again_at}
use Rattle.regress_memo.proofs.PropertiesOfSearchEnds.{good-end}

module _ (silent : ℕ → Bool) (groups : Groups) (starts : List ℕ) (loops : ℕ) where
  -- A state is at a silent instruction, with the given groups, starts and number of loops.
  record Keeps (s : State) : Type 0 where
    at : silent s.ip ≡ true
    has : s.groups ≡ groups
    began : s.starts ≡ starts
    many : length s.loops ≡ loops

  abbrev KeepsIn : Thread → Type 0
  KeepsIn = IsOfThread Keeps

  abbrev NextKeeps : Next → Type 0
  NextKeeps = IsOfNext Keeps

  -- A state keeps its groups if another iteration of a loop begins.
  keeps-again : (f : LoopFields) (begin k : ℕ) (s : State) → Keeps s → silent (begin + 1) ≡ true
      → Keeps (record s { ip = begin + 1; loops = slice_set s.loops f.loop_id (record { iters = k; entry = s.pos }) })
  keeps-again f begin k s h at = record {
    at = at;
    has = h.has;
    began = h.began;
    many = length-set s.loops f.loop_id (record { iters = k; entry = s.pos }) ∙ h.many;
  }

  keeps-at : (ip : ℕ) (s : State) → Keeps s → silent ip ≡ true → Keeps (state_with_ip ip s)
  keeps-at ip s h at = record { at = at; has = h.has; began = h.began; many = h.many }

  keeps-again_at : (o : Option Insn) (begin : ℕ) (s : State) → Keeps s → IsSilentAgain silent o begin → NextKeeps (loop_again_effect o begin s)
  keeps-again_at o begin s h r = of-again_at Keeps o begin s (λ f e.
      let both : IsSilentAgain silent (Some (EnterLoop f)) begin = subst (λ x. IsSilentAgain silent x begin) e r in
      (λ k. keeps-again f begin k s h both.0, keeps-at f.exit s h both.1))

  module _ (program : Program) (text : Text) (d : Direction) (s : State) (k : Keeps s) where
    on : (p : ℕ) → silent (s.ip + 1) ≡ true → Keeps (next_insn_at_place text p s)
    on p h = record { at = h; has = k.has; began = k.began; many = k.many }

    read-keeps : (o : Option (ℕ → Bool)) → silent (s.ip + 1) ≡ true → NextKeeps (with_some o (λ test. read_one text test d s))
    read-keeps o h =
        of-with_some Keeps o (λ test. read_one text test d s) (λ test e. of-with_some Keeps (place_at text s.pos) (λ p. go_if (is_some_and (next_character text d p) test) (next_insn_at_place text (moved text d 1 p) s))
        (λ p e. of-go_if Keeps (is_some_and (next_character text d p) test) (next_insn_at_place text (moved text d 1 p) s) (λ b. on (moved text d 1 p) h)))

    stay-keeps : (holds : ℕ → Bool) → silent (s.ip + 1) ≡ true → NextKeeps (stay_if text holds s)
    stay-keeps holds h = of-with_some Keeps (place_at text s.pos) (λ p. go_if (holds p) (next_insn_at_place text p s)) (λ p e. of-go_if Keeps (holds p) (next_insn_at_place text p s) (λ b. on p h))

    group-keeps : (sameness : Sameness) (o : Option (ℕ × ℕ)) → silent (s.ip + 1) ≡ true → NextKeeps (read_group text sameness d o s)
    group-keeps sameness None h = of-with_some Keeps (place_at text s.pos) (λ p. go (next_insn_at_place text p s)) (λ p e. (on p h, tt))
    group-keeps sameness (Some range) h =
        of-with_some Keeps (place_at text s.pos) _ (λ p e. of-with_some Keeps (place_at text range.0) _ (λ from e. of-with_some Keeps (place_at text range.1) _ (λ to e.
        of-go_if Keeps _ (next_insn_at_place text (moved text d _ p) s) (λ b. on (moved text d _ p) h))))

    scan-keeps : (o : Option (ℕ → Bool)) (least most : ℕ) (greedy : Bool) → silent (s.ip + 2) ≡ true → NextKeeps (with_some o (λ test. with_some (place_at text s.pos) (λ p. scan text least most greedy test d p s)))
    scan-keeps o least most greedy h =
        of-with_some Keeps o (λ test. with_some (place_at text s.pos) (λ p. scan text least most greedy test d p s)) (λ test e.
        of-with_some Keeps (place_at text s.pos) (λ p. scan text least most greedy test d p s) (λ p e.
        of-in_turn Keeps (char_loop_states text greedy d least (min most (prefix_len test (nearest_first text d p))) p s)
        (of-map Keeps (λ n. record s { ip = s.ip + 2; pos = offset text (moved text d n p) }) _
        (Each-all (λ n. Keeps (record s { ip = s.ip + 2; pos = offset text (moved text d n p) })) (λ n. record { at = h; has = k.has; began = k.began; many = k.many }) _))))

    act-keeps : (o : Option Insn) → IsSilentAt silent program o s.ip → NextKeeps (act_on program text d o s)
    act-keeps None h = tt
    act-keeps (Some Goal) h = k
    act-keeps (Some JustFail) h = tt
    act-keeps (Some (ByteSeq bytes)) h = of-go_if Keeps _ (record s { ip = s.ip + 1; pos = offset_moved_in_direction d (length bytes) s.pos }) (λ b. record { at = h; has = k.has; began = k.began; many = k.many })
    act-keeps (Some (StartOfLine multiline)) h = stay-keeps _ h
    act-keeps (Some (EndOfLine multiline)) h = stay-keeps _ h
    act-keeps (Some (WordBoundary invert)) h = stay-keeps _ h
    act-keeps (Some (WordBoundaryUnicodeICase invert)) h = stay-keeps _ h
    act-keeps (Some (Alt secondary)) h = (record { at = h.0; has = k.has; began = k.began; many = k.many }, (record { at = h.1; has = k.has; began = k.began; many = k.many }, tt))
    act-keeps (Some (Jump target)) h = (record { at = h; has = k.has; began = k.began; many = k.many }, tt)
    act-keeps (Some (EnterLoop f)) h = of-loop_turn Keeps f s.ip 0 s (keeps-again f s.ip 0 s k h.0) (keeps-at f.exit s k h.1)
    act-keeps (Some (LoopAgain begin)) h = keeps-again_at (slice_get program.insns begin) begin s k h
    act-keeps (Some (ResetCaptureGroup id)) h = absurd h
    act-keeps (Some (Loop1CharBody least most greedy)) h = scan-keeps (test_of program (slice_get program.insns (s.ip + 1))) least most greedy h
    act-keeps (Some (BeginCaptureGroup id)) h = absurd h
    act-keeps (Some (EndCaptureGroup id)) h = absurd h
    act-keeps (Some (BackRef group sameness)) h = of-with_some Keeps (slice_get s.groups group) (λ range. read_group text sameness d range s) (λ range e. group-keeps sameness range h)
    act-keeps (Some (Lookahead negate start_group end_group continuation)) h = (record { at = h.0; has = k.has; began = k.began; many = k.many }, record { at = h.1; has = k.has; began = k.began; many = k.many })
    act-keeps (Some (Lookbehind negate start_group end_group continuation)) h = (record { at = h.0; has = k.has; began = k.began; many = k.many }, record { at = h.1; has = k.has; began = k.began; many = k.many })
    act-keeps o h = read-keeps (test_of program o) h

  resumed-keeps : (s x : State) → Keeps s → Keeps x → Keeps (record x { ip = s.ip; pos = s.pos })
  resumed-keeps s x k h = record { at = k.at; has = h.has; began = h.began; many = h.many }

pub groups-stay : InsnsKeepGroupsToEnd
groups-stay program text silent are d turns u e f at searches ended =
    let end = good-end (Keeps silent u.groups u.starts (length u.loops)) (resumed-keeps silent u.groups u.starts (length u.loops)) program text
    (λ d s k. act-keeps silent u.groups u.starts (length u.loops) program text d s k (slice_get program.insns s.ip) (are.silent_at s.ip k.at)) d turns u e f
    (record { at = at; has = refl; began = refl; many = refl }) searches ended in
    record { groups = end.has; starts = end.began; loops = end.many }
