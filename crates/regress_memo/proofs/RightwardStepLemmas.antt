-- No step of a rightward search moves a thread to a smaller offset.
use Rattle.std.proofs.Common.{◌≡◌, ℕ, ◌+◌, ◌-◌, ◌≤◌, List, [], ◌∷◌, ◌++◌, length, min, Option, Some, None, Bool, true, false, ◌&&◌, ap, ◌∙◌, sym, subst, arith, slice_get, slice_set}
use Rattle.std.specs.Prelude.{nat_lt, encode_utf8_all}
use Rattle.std.specs.List.{prefix_len}
use Rattle.std.proofs.lemmas.Bool.{leb-true}
use Rattle.std.proofs.lemmas.List.Sums.{prefix_len-le-length}
use Rattle.regex_meaning.specs.Tree.{Sameness}
use Rattle.regex_meaning.specs.Laws.{Each}
use Rattle.regex_meaning.proofs.EachElementLemmas.{Each-map, Each-reverse}
use Rattle.regex_meaning.specs.NumberListHelpers.{numbers_from}
use Rattle.regex_meaning.specs.Text.{Text, rightwards, next_character, moved, characters_ahead}
use Rattle.regex_meaning.specs.CodeUnitOffsets.{HasRisingPlaceOffsets, offset, place_at}
use Rattle.regex_meaning.specs.Outcomes.{is_some_and}
use Rattle.regex_meaning.specs.OutcomesWithStepTicks.{nearest_first}
use Rattle.regex_meaning.specs.CompilationRelation.{Program, Insn, Goal, JustFail, Char, CharSet, ByteSet, ByteSeq, AsciiBracket, Bracket, MatchAny, MatchAnyExceptLineTerminator, Alt, Jump}
use Rattle.regex_meaning.specs.CompilationRelation.{EnterLoop, LoopAgain, ResetCaptureGroup, Loop1CharBody}
use Rattle.regex_meaning.specs.CompilationRelation.{BeginCaptureGroup, EndCaptureGroup, BackRef, Lookahead, Lookbehind}
use Rattle.regex_meaning.proofs.BoolLemmas.{and-left}
use Rattle.regex_meaning.proofs.CodeUnitOffsetsLemmas.{offset-place_at}
use Rattle.regress_machine.specs.Machine.{State, Thread, running, waiting, Next, with_some, go, test_of, next_insn_at_place, occurs_beside_offset, read_one, stay_if, read_group, char_loop_states}
use Rattle.regress_machine.specs.Machine.{scan, act_on}
use Rattle.regress_machine.proofs.NearestCharacterLemmas.{length-nearest}
use Rattle.regress_machine.proofs.CharLoopRepetitions.{numbers_between}
use Rattle.regress_machine.proofs.StatesInEffects.{IsOfThread, IsOfNext, of-in_turn, of-with_some, of-only_if, of-go_if, of-map, of-loop_turn, of-again_at}
use Rattle.regress_memo.specs.MemoSearch.{Key, key_record, thread_entries, offset_of_thread, AreOnward}
use Rattle.regress_memo.specs.ThreadPotentials.{RightwardInsnsNeverMoveLeft}
use Rattle.regress_memo.proofs.LivenessLemmas.{moves-on, moves-one}
use Rattle.regress_memo.proofs.MemoSearchLemmas.{keys-tries, keys-joined}

module _ (from : ℕ) where
  abbrev On : State → Type 0
  On s = from ≤ s.pos

  all-onward : (ts : List Thread) → Each (IsOfThread On) ts → AreOnward from (thread_entries ts)
  all-onward [] h = tt
  all-onward (t ∷ ts) h = (at-or-past t h.0, subst (λ ks. Each (λ k. k.at ≤ offset_of_thread t) ks) (sym (keys-tries ts)) tt, all-onward ts h.1)
    where
      at-or-past : (t : Thread) → IsOfThread On t → from ≤ offset_of_thread t
      at-or-past (running s) h = h
      at-or-past (waiting s) h = h

module _ (program : Program) (text : Text) (is : HasRisingPlaceOffsets text) (s : State) where
  abbrev Past : State → Type 0
  Past = On s.pos

  abbrev NextOn : Next → Type 0
  NextOn = IsOfNext Past

  stands-at : (p : ℕ) → place_at text s.pos ≡ Some p → s.pos ≤ offset text p
  stands-at p at = let o = (offset-place_at text s.pos p is at).0 in omega (arith, o)

  read-on : (o : Option (ℕ → Bool)) → NextOn (with_some o (λ test. read_one text test rightwards s))
  read-on o =
      of-with_some Past o _ (λ test e. of-with_some Past (place_at text s.pos) _ (λ p at.
      of-go_if Past (is_some_and (next_character text rightwards p) test) (next_insn_at_place text (moved text rightwards 1 p) s) (λ h. (moves-one text is rightwards s.pos p test at h).passed)))

  stay-on : (holds : ℕ → Bool) → NextOn (stay_if text holds s)
  stay-on holds = of-with_some Past (place_at text s.pos) _ (λ p at. of-go_if Past (holds p) (next_insn_at_place text p s) (λ h. stands-at p at))

  group-on : (sameness : Sameness) (o : Option (ℕ × ℕ)) → NextOn (read_group text sameness rightwards o s)
  group-on sameness None = of-with_some Past (place_at text s.pos) _ (λ p at. (stands-at p at, tt))
  group-on sameness (Some range) =
      of-with_some Past (place_at text s.pos) _ (λ p at. of-with_some Past (place_at text range.0) _ (λ from at_from.
      of-with_some Past (place_at text range.1) _ (λ to at_to.
      of-go_if Past _ (next_insn_at_place text (moved text rightwards _ p) s) (λ h. (moves-on text is rightwards s.pos p _ at (leb-true _ _ (and-left _ _ h))).passed))))

  scan-on : (o : Option (ℕ → Bool)) (least most : ℕ) (greedy : Bool) → NextOn (with_some o (λ test. with_some (place_at text s.pos) (λ p. scan text least most greedy test rightwards p s)))
  scan-on o least most greedy =
      of-with_some Past o _ (λ test e. of-with_some Past (place_at text s.pos) _ (λ p at.
      of-in_turn Past (char_loop_states text greedy rightwards least (min most (prefix_len test (nearest_first text rightwards p))) p s) (states test p at greedy)))
    where
      module_last : (ℕ → Bool) → ℕ → ℕ
      module_last test p = min most (prefix_len test (nearest_first text rightwards p))

      few : (test : ℕ → Bool) (p : ℕ) → place_at text s.pos ≡ Some p → min most (prefix_len test (nearest_first text rightwards p)) ≤ characters_ahead text rightwards p
      few test p at =
          let l = prefix_len-le-length test (nearest_first text rightwards p) in
          let m = length-nearest text rightwards p (offset-place_at text s.pos p is at).1 in
          omega (arith, l, m)

      reached : (test : ℕ → Bool) (p : ℕ) → place_at text s.pos ≡ Some p → (last : ℕ) → last ≤ characters_ahead text rightwards p
          → Each (λ n. s.pos ≤ offset text (moved text rightwards n p)) (numbers_from least (last + 1 - least))
      reached test p at last le =
          Each-map _ (λ n. s.pos ≤ offset text (moved text rightwards n p))
          (λ n h. let lo = h.0 in let hi = h.1 in (moves-on text is rightwards s.pos p n at (omega (arith, lo, hi, le))).passed) _ (numbers_between least (last + 1 - least))

      states : (test : ℕ → Bool) (p : ℕ) → place_at text s.pos ≡ Some p → (greedy : Bool)
          → Each Past (char_loop_states text greedy rightwards least (min most (prefix_len test (nearest_first text rightwards p))) p s)
      states test p at true = of-map Past _ _ (Each-reverse (λ n. s.pos ≤ offset text (moved text rightwards n p)) _ (reached test p at _ (few test p at)))
      states test p at false = of-map Past _ _ (reached test p at _ (few test p at))

  here : s.pos ≤ s.pos
  here = omega arith

  act-on : (o : Option Insn) → NextOn (act_on program text rightwards o s)
  act-on None = tt
  act-on (Some Goal) = here
  act-on (Some JustFail) = tt
  act-on (Some (Char c)) = read-on (test_of program (Some (Char c)))
  act-on (Some (CharSet members)) = read-on (test_of program (Some (CharSet members)))
  act-on (Some (ByteSet members)) = read-on (test_of program (Some (ByteSet members)))
  act-on (Some (ByteSeq bytes)) = of-go_if Past (occurs_beside_offset (encode_utf8_all text.characters) rightwards bytes s.pos) (record s { ip = s.ip + 1; pos = s.pos + length bytes }) (λ h. omega arith)
  act-on (Some (AsciiBracket members)) = read-on (test_of program (Some (AsciiBracket members)))
  act-on (Some (Bracket index)) = read-on (test_of program (Some (Bracket index)))
  act-on (Some MatchAny) = read-on (test_of program (Some MatchAny))
  act-on (Some MatchAnyExceptLineTerminator) = read-on (test_of program (Some MatchAnyExceptLineTerminator))
  act-on (Some (Alt secondary)) = (here, (here, tt))
  act-on (Some (Jump target)) = (here, tt)
  act-on (Some (EnterLoop f)) = of-loop_turn Past f s.ip 0 s here here
  act-on (Some (LoopAgain begin)) = of-again_at Past (slice_get program.insns begin) begin s (λ f e. (λ k. here, here))
  act-on (Some (ResetCaptureGroup id)) =
      of-only_if Past (nat_lt id (length s.groups)) (go (record s { ip = s.ip + 1; groups = slice_set s.groups id None })) (here, tt)
  act-on (Some (Loop1CharBody least most greedy)) = scan-on (test_of program (slice_get program.insns (s.ip + 1))) least most greedy
  act-on (Some (BeginCaptureGroup id)) =
      of-only_if Past (nat_lt id (length s.groups) && nat_lt id (length s.starts))
      (go (record s { ip = s.ip + 1; groups = slice_set s.groups id None; starts = slice_set s.starts id s.pos })) (here, tt)
  act-on (Some (EndCaptureGroup id)) = of-only_if Past (nat_lt id (length s.groups)) _ (of-with_some Past (slice_get s.starts id) _ (λ start e. (here, tt)))
  act-on (Some (BackRef group sameness)) = of-with_some Past (slice_get s.groups group) _ (λ range e. group-on sameness range)
  act-on (Some (Lookahead negate start_group end_group continuation)) = (here, here)
  act-on (Some (Lookbehind negate start_group end_group continuation)) = (here, here)
  act-on (Some _) = stay-on _

noted-onward : (from : ℕ) (ts us : List Thread) (k : Key) → AreOnward from (thread_entries ts) → k.at ≡ from → AreOnward from (thread_entries ts ++ key_record k us ∷ [])
noted-onward from [] us k h e = (omega (arith, e), tt)
noted-onward from (t ∷ ts) us k h e =
    let here = h.0 in
    (here, subst (λ ks. Each (λ k. k.at ≤ offset_of_thread t) ks) (sym (keys-joined (thread_entries ts) (key_record k us ∷ []) ∙ ap (λ ks. ks ++ k ∷ []) (keys-tries ts))) (omega (arith, here, e), tt), noted-onward from ts us k h.2 e)

pub turns-move-on : RightwardInsnsNeverMoveLeft
turns-move-on = record {
  goes = λ program text is s ts e. all-onward s.pos ts (subst (IsOfNext (On s.pos)) e (act-on program text is s (slice_get program.insns s.ip)));
  scans = λ program text is s n ts e. all-onward s.pos ts (subst (IsOfNext (On s.pos)) e (act-on program text is s (slice_get program.insns s.ip)));
  noted = noted-onward;
}
