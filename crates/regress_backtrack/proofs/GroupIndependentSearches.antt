-- Without backreferences, searches from states that differ only in their groups are alike.
use Rattle.std.proofs.Common.{◌≡◌, ℕ, ◌+◌, List, [], ◌∷◌, length, map, Option, Some, None, Bool, true, false, ◌&&◌, refl, ap, ◌∙◌, sym, subst, slice_get, slice_set}
use Rattle.std.specs.Prelude.{if◌then◌else◌, nat_lt, nat_le}
use Rattle.std.proofs.lemmas.List.{length-set}
use Rattle.regex_meaning.specs.Text.{Text, Direction, rightwards, leftwards}
use Rattle.regex_meaning.specs.CodeUnitOffsets.{place_at}
use Rattle.regex_meaning.specs.Outcomes.{Groups}
use Rattle.regex_meaning.specs.CompilationRelation.{Program, LoopFields, Insn, Goal, JustFail, Char, CharSet, ByteSet, ByteSeq, AsciiBracket, Bracket, MatchAny, MatchAnyExceptLineTerminator}
use Rattle.regex_meaning.specs.CompilationRelation.{StartOfLine, EndOfLine, WordBoundary, WordBoundaryUnicodeICase, Alt, Jump, Lookahead, Lookbehind}
use Rattle.regex_meaning.specs.CompilationRelation.{EnterLoop, LoopAgain, ResetCaptureGroup, Loop1CharBody, BeginCaptureGroup, EndCaptureGroup, BackRef}
use Rattle.regress_machine.specs.Machine.{LoopData, State, Thread, waiting, Next, goes, asks, with_some, only_if, go, go_if, range_swapped_if_leftwards, test_of, state_with_ip, state_at_next_ip}
use Rattle.regress_machine.specs.Machine.{first_running_and_others_waiting, choice_in_order_of_greediness, iterate_or_leave_at_loop_head}
use Rattle.regress_machine.specs.Machine.{effect_at_iteration_end, loop_again_effect, after_lookaround, read_one, stay_if, scan, act_on, act, search}
use Rattle.regress_memo.specs.ThreadBisimulation.{AlikeThreads, AlikeEnds, AlikeAnswers, AlikeNext, IsBisimulation}
use Rattle.regress_memo.proofs.LivenessLemmas.{BothThere, both-there}
use Rattle.regress_memo.proofs.ThreadBisimulationLemmas.{threads-end-alike}
use Rattle.regress_backtrack.specs.RepeatableLoopBodies.{IsNoBackreference, HasNoBackreference}

-- The states are equal except for their groups and starts, of which there are as many.
pub record Differ (s t : State) : Type 0 where
  pub groups : Groups
  pub starts : List ℕ
  pub is : t ≡ record s { groups = groups; starts = starts }
  pub as_many_groups : length s.groups ≡ length groups
  pub as_many_starts : length s.starts ≡ length starts

-- The relation is the same in all lookarounds and both directions.
abbrev R : Unit {0} → Direction → State → State → Type 0
R w d s t = Differ s t

abbrev Next2 : Next → Next → Type 0
Next2 x y = (d : Direction) → AlikeNext R tt d x y

module _ (s : State) (gs : Groups) (ss : List ℕ) (g : length s.groups ≡ length gs) (b : length s.starts ≡ length ss) where
  abbrev t : State
  t = record s { groups = gs; starts = ss }

  -- The same change of the common parts keeps the relation.
  moved-differ : (ip pos : ℕ) (ls : List LoopData) → Differ (record s { ip = ip; pos = pos; loops = ls }) (record t { ip = ip; pos = pos; loops = ls })
  moved-differ ip pos ls = record { groups = gs; starts = ss; is = refl; as_many_groups = g; as_many_starts = b }

  if-alike : (holds : Bool) (ip pos : ℕ) → Next2 (go_if holds (record s { ip = ip; pos = pos })) (go_if holds (record t { ip = ip; pos = pos }))
  if-alike true ip pos d = (moved-differ ip pos s.loops, tt)
  if-alike false ip pos d = tt

  some-alike : {X : Type 0} (o : Option X) (x y : X → Next) → ((a : X) → Next2 (x a) (y a)) → Next2 (with_some o x) (with_some o y)
  some-alike None x y h d = tt
  some-alike (Some a) x y h d = h a d

  only-alike : (c : Bool) (x y : Next) → Next2 x y → Next2 (only_if c x) (only_if c y)
  only-alike true x y h d = h d
  only-alike false x y h d = tt

  waits-alike : (ip : ℕ) (at : ℕ → ℕ) (ns : List ℕ) → AlikeThreads Differ (map waiting (map (λ n. record s { ip = ip; pos = at n }) ns)) (map waiting (map (λ n. record t { ip = ip; pos = at n }) ns))
  waits-alike ip at [] = tt
  waits-alike ip at (n ∷ ns) = (moved-differ ip (at n) s.loops, waits-alike ip at ns)

  row-alike : (ip : ℕ) (at : ℕ → ℕ) (ns : List ℕ)
      → AlikeThreads Differ (first_running_and_others_waiting (map (λ n. record s { ip = ip; pos = at n }) ns)) (first_running_and_others_waiting (map (λ n. record t { ip = ip; pos = at n }) ns))
  row-alike ip at [] = tt
  row-alike ip at (n ∷ ns) = (moved-differ ip (at n) s.loops, waits-alike ip at ns)

  -- ---- Loops

  module _ (f : LoopFields) (begin k : ℕ) where
    abbrev again : State → State
    again s = record s { ip = begin + 1; loops = slice_set s.loops f.loop_id (record { iters = k; entry = s.pos }) }

    abbrev ways : State → (greedy more out : Bool) → List Thread
    ways s greedy more out = first_running_and_others_waiting (choice_in_order_of_greediness greedy (if more then again s ∷ [] else []) (if out then state_with_ip f.exit s ∷ [] else []))

    again-differ : Differ (again s) (again t)
    again-differ = moved-differ (begin + 1) s.pos (slice_set s.loops f.loop_id (record { iters = k; entry = s.pos }))

    leave-differ : Differ (state_with_ip f.exit s) (state_with_ip f.exit t)
    leave-differ = moved-differ f.exit s.pos s.loops

    ways-alike : (greedy more out : Bool) → AlikeThreads Differ (ways s greedy more out) (ways t greedy more out)
    ways-alike true true true = (again-differ, (leave-differ, tt))
    ways-alike true true false = (again-differ, tt)
    ways-alike true false true = (leave-differ, tt)
    ways-alike true false false = tt
    ways-alike false true true = (leave-differ, (again-differ, tt))
    ways-alike false true false = (again-differ, tt)
    ways-alike false false true = (leave-differ, tt)
    ways-alike false false false = tt

    head-alike : Next2 (iterate_or_leave_at_loop_head f begin k s) (iterate_or_leave_at_loop_head f begin k t)
    head-alike = only-alike (nat_lt f.loop_id (length s.loops)) _ _ (λ d. ways-alike f.greedy (nat_lt k f.max_iters) (nat_le f.min_iters k))

  dropped-alike : (c : Bool) (x y : Next) → Next2 x y → Next2 (if c then goes [] else x) (if c then goes [] else y)
  dropped-alike true x y h d = tt
  dropped-alike false x y h d = h d

  again-alike : (o : Option Insn) (begin : ℕ) → Next2 (loop_again_effect o begin s) (loop_again_effect o begin t)
  again-alike (Some (EnterLoop f)) begin d =
      some-alike (slice_get s.loops f.loop_id) (λ e. effect_at_iteration_end f begin e s) (λ e. effect_at_iteration_end f begin e t)
      (λ e. only-alike (nat_lt e.iters f.max_iters) _ _ (dropped-alike _ _ _ (head-alike f begin (e.iters + 1)))) d
  again-alike _ begin d = tt

  -- ---- Groups

  reset-alike : (id : ℕ) (n : ℕ) → n ≡ length gs → Next2 (only_if (nat_lt id n) (go (record s { ip = s.ip + 1; groups = slice_set s.groups id None })))
      (only_if (nat_lt id (length gs)) (go (record t { ip = s.ip + 1; groups = slice_set gs id None })))
  reset-alike id n e = subst (λ n. Next2 (only_if (nat_lt id n) (go (record s { ip = s.ip + 1; groups = slice_set s.groups id None })))
      (only_if (nat_lt id (length gs)) (go (record t { ip = s.ip + 1; groups = slice_set gs id None })))) (sym e)
      (only-alike (nat_lt id (length gs)) _ _ (λ d. (
        record {
          groups = slice_set gs id None;
          starts = ss;
          is = refl;
          as_many_groups = length-set s.groups id None ∙ g ∙ sym (length-set gs id None);
          as_many_starts = b;
        },
        tt,
      )))

  begin-alike : (id : ℕ) (n m : ℕ) → n ≡ length gs → m ≡ length ss
      → Next2 (only_if (nat_lt id n && nat_lt id m) (go (record s { ip = s.ip + 1; groups = slice_set s.groups id None; starts = slice_set s.starts id s.pos })))
      (only_if (nat_lt id (length gs) && nat_lt id (length ss)) (go (record t { ip = s.ip + 1; groups = slice_set gs id None; starts = slice_set ss id s.pos })))
  begin-alike id n m e k = subst (λ c. Next2 (only_if c (go (record s { ip = s.ip + 1; groups = slice_set s.groups id None; starts = slice_set s.starts id s.pos })))
      (only_if (nat_lt id (length gs) && nat_lt id (length ss)) (go (record t { ip = s.ip + 1; groups = slice_set gs id None; starts = slice_set ss id s.pos }))))
      (sym (ap (λ n. nat_lt id n && nat_lt id m) e ∙ ap (λ m. nat_lt id (length gs) && nat_lt id m) k))
      (only-alike (nat_lt id (length gs) && nat_lt id (length ss)) _ _ (λ d. (
        record {
          groups = slice_set gs id None;
          starts = slice_set ss id s.pos;
          is = refl;
          as_many_groups = length-set s.groups id None ∙ g ∙ sym (length-set gs id None);
          as_many_starts = length-set s.starts id s.pos ∙ b ∙ sym (length-set ss id s.pos);
        },
        tt,
      )))

  close-both : (d : Direction) (id : ℕ) (o p : Option ℕ) → BothThere o p
      → Next2 (with_some o (λ start. go (record s { ip = s.ip + 1; groups = slice_set s.groups id (Some (range_swapped_if_leftwards d start s.pos)) })))
      (with_some p (λ start. go (record t { ip = s.ip + 1; groups = slice_set gs id (Some (range_swapped_if_leftwards d start s.pos)) })))
  close-both d id None None h e = tt
  close-both d id (Some x) (Some y) h e = (
    record {
      groups = slice_set gs id (Some (range_swapped_if_leftwards d y s.pos));
      starts = ss;
      is = refl;
      as_many_groups = length-set s.groups id (Some (range_swapped_if_leftwards d x s.pos)) ∙ g ∙ sym (length-set gs id (Some (range_swapped_if_leftwards d y s.pos)));
      as_many_starts = b;
    },
    tt,
  )
  close-both d id None (Some y) h e = absurd h
  close-both d id (Some x) None h e = absurd h

  close-alike : (d : Direction) (id : ℕ) (n : ℕ) → n ≡ length gs
      → Next2 (only_if (nat_lt id n) (with_some (slice_get s.starts id) (λ start. go (record s { ip = s.ip + 1; groups = slice_set s.groups id (Some (range_swapped_if_leftwards d start s.pos)) }))))
      (only_if (nat_lt id (length gs)) (with_some (slice_get ss id) (λ start. go (record t { ip = s.ip + 1; groups = slice_set gs id (Some (range_swapped_if_leftwards d start s.pos)) }))))
  close-alike d id n e = subst (λ n. Next2 (only_if (nat_lt id n) (with_some (slice_get s.starts id) (λ start. go (record s { ip = s.ip + 1; groups = slice_set s.groups id (Some (range_swapped_if_leftwards d start s.pos)) }))))
      (only_if (nat_lt id (length gs)) (with_some (slice_get ss id) (λ start. go (record t { ip = s.ip + 1; groups = slice_set gs id (Some (range_swapped_if_leftwards d start s.pos)) }))))) (sym e)
      (only-alike (nat_lt id (length gs)) _ _ (close-both d id (slice_get s.starts id) (slice_get ss id) (both-there s.starts ss id b)))

  -- ---- Lookarounds

  behind-alike : (negate : Bool) (ip : ℕ) (x y : Option State) → AlikeEnds Differ x y
      → AlikeThreads Differ (after_lookaround negate (state_with_ip ip s) x) (after_lookaround negate (state_with_ip ip t) y)
  behind-alike false ip None None h = tt
  behind-alike false ip (Some u) (Some v) h = (
    record {
      groups = h.groups;
      starts = h.starts;
      is = ap (λ (v : State). record v { ip = ip; pos = s.pos }) h.is;
      as_many_groups = h.as_many_groups;
      as_many_starts = h.as_many_starts;
    },
    tt,
  )
  behind-alike true ip None None h = (moved-differ ip s.pos s.loops, tt)
  behind-alike true ip (Some u) (Some v) h = tt
  behind-alike negate ip None (Some v) h = absurd h
  behind-alike negate ip (Some u) None h = absurd h

  asks-alike : (inner : Direction) (negate : Bool) (ip : ℕ) → Next2 (asks inner negate (state_at_next_ip s) (state_with_ip ip s)) (asks inner negate (state_at_next_ip t) (state_with_ip ip t))
  asks-alike inner negate ip d = (refl, refl, record { world = tt; contents = moved-differ (s.ip + 1) s.pos s.loops; behind = behind-alike negate ip })

  -- ---- Instructions

  module _ (program : Program) (text : Text) (d : Direction) where
    read-alike : (o : Option (ℕ → Bool)) → Next2 (with_some o (λ test. read_one text test d s)) (with_some o (λ test. read_one text test d t))
    read-alike o = some-alike o _ _ (λ test. some-alike (place_at text s.pos) _ _ (λ p. if-alike _ (s.ip + 1) _))

    stay-alike : (holds : ℕ → Bool) → Next2 (stay_if text holds s) (stay_if text holds t)
    stay-alike holds = some-alike (place_at text s.pos) _ _ (λ p. if-alike (holds p) (s.ip + 1) _)

    scan-alike : (least most : ℕ) (greedy : Bool) (o : Option (ℕ → Bool))
        → Next2 (with_some o (λ test. with_some (place_at text s.pos) (λ p. scan text least most greedy test d p s))) (with_some o (λ test. with_some (place_at text s.pos) (λ p. scan text least most greedy test d p t)))
    scan-alike least most greedy o = some-alike o _ _ (λ test. some-alike (place_at text s.pos) _ _ (λ p e. (refl, row-alike (s.ip + 2) _ _)))

    act-alike : (o : Option Insn) → ((insn : Insn) → o ≡ Some insn → IsNoBackreference insn) → Next2 (act_on program text d o s) (act_on program text d o t)
    act-alike None free e = tt
    act-alike (Some Goal) free e = moved-differ s.ip s.pos s.loops
    act-alike (Some JustFail) free e = tt
    act-alike (Some (Char c)) free e = read-alike (test_of program (Some (Char c))) e
    act-alike (Some (CharSet members)) free e = read-alike (test_of program (Some (CharSet members))) e
    act-alike (Some (ByteSet members)) free e = read-alike (test_of program (Some (ByteSet members))) e
    act-alike (Some (ByteSeq bytes)) free e = if-alike _ (s.ip + 1) _ e
    act-alike (Some (AsciiBracket members)) free e = read-alike (test_of program (Some (AsciiBracket members))) e
    act-alike (Some (Bracket index)) free e = read-alike (test_of program (Some (Bracket index))) e
    act-alike (Some MatchAny) free e = read-alike (test_of program (Some MatchAny)) e
    act-alike (Some MatchAnyExceptLineTerminator) free e = read-alike (test_of program (Some MatchAnyExceptLineTerminator)) e
    act-alike (Some (StartOfLine multiline)) free e = stay-alike _ e
    act-alike (Some (EndOfLine multiline)) free e = stay-alike _ e
    act-alike (Some (WordBoundary invert)) free e = stay-alike _ e
    act-alike (Some (WordBoundaryUnicodeICase invert)) free e = stay-alike _ e
    act-alike (Some (Alt secondary)) free e = (moved-differ (s.ip + 1) s.pos s.loops, (moved-differ secondary s.pos s.loops, tt))
    act-alike (Some (Jump target)) free e = (moved-differ target s.pos s.loops, tt)
    act-alike (Some (EnterLoop f)) free e = head-alike f s.ip 0 e
    act-alike (Some (LoopAgain begin)) free e = again-alike (slice_get program.insns begin) begin e
    act-alike (Some (ResetCaptureGroup id)) free e = reset-alike id (length s.groups) g e
    act-alike (Some (Loop1CharBody least most greedy)) free e = scan-alike least most greedy (test_of program (slice_get program.insns (s.ip + 1))) e
    act-alike (Some (BeginCaptureGroup id)) free e = begin-alike id (length s.groups) (length s.starts) g b e
    act-alike (Some (EndCaptureGroup id)) free e = close-alike d id (length s.groups) g e
    act-alike (Some (BackRef group same)) free e = absurd (free (BackRef group same) refl)
    act-alike (Some (Lookahead negate first last continuation)) free e = asks-alike rightwards negate continuation e
    act-alike (Some (Lookbehind negate first last continuation)) free e = asks-alike leftwards negate continuation e

module _ (program : Program) (text : Text) (free : HasNoBackreference program) where
  differ-kept : IsBisimulation R program text
  differ-kept = record {
    kept = λ w d s t h. subst (λ t. AlikeNext R tt d (act program text d s) (act program text d t)) (sym h.is)
        (act-alike s h.groups h.starts h.as_many_groups h.as_many_starts program text d (slice_get program.insns s.ip) (λ insn is. free s.ip insn is) d);
  }

  pub unread-alike : (n : ℕ) (d : Direction) (ts us : List Thread) → AlikeThreads Differ ts us → AlikeAnswers Differ (search program text n d ts) (search program text n d us)
  unread-alike n d ts us h = threads-end-alike (Unit {0}) R program text differ-kept tt d n ts us h
