-- Only a goal ends the search, only a lookaround starts another search, and only a char loop scans characters.
use Rattle.std.proofs.Common.{◌≡◌, ℕ, ◌+◌, Bool, true, false, ◌&&◌, Option, Some, None, refl, sym, ap, ◌∙◌, subst, length, slice_get, List, [], arith}
use Rattle.std.specs.Prelude.{nat_lt, if◌then◌else◌, ◌==◌}
use Rattle.regex_meaning.specs.Tree.{Sameness}
use Rattle.regex_meaning.specs.Text.{Text, Direction, next_character, moved}
use Rattle.regex_meaning.specs.CodeUnitOffsets.{place_at}
use Rattle.regex_meaning.specs.Outcomes.{is_some_and}
use Rattle.regex_meaning.specs.CompilationRelation.{Program, Insn, LoopFields, Goal, JustFail, Char, CharSet, ByteSet, ByteSeq, AsciiBracket, Bracket, MatchAny, MatchAnyExceptLineTerminator, Alt}
use Rattle.regex_meaning.specs.CompilationRelation.{Jump, EnterLoop, LoopAgain, ResetCaptureGroup, Loop1CharBody}
use Rattle.regex_meaning.specs.CompilationRelation.{BeginCaptureGroup, EndCaptureGroup, BackRef, Lookahead, Lookbehind}
use Rattle.regress_machine.specs.Machine.{State, Thread, LoopData, Next, goes, scans, ends, asks, state_with_ip, state_at_next_ip, with_some}
use Rattle.regress_machine.specs.Machine.{only_if, go, go_if, iterate_or_leave_at_loop_head, effect_at_iteration_end}
use Rattle.regress_machine.specs.Machine.{loop_again_effect, test_of, next_insn_at_place, read_one, stay_if, backref_read, read_group, scan, act, act_on}
use Rattle.regress_memo.specs.SkippedLookarounds.{LookaroundInsn, lookaround_at}
use Rattle.regress_memo.proofs.SkippedLookaroundLemmas.{asks-there}
use Rattle.regress_memo.specs.Successors.{is_goal_insn}

-- Ends are the state's own, searches need a lookaround, and scans need a char loop.
abbrev pub EndsAs : (looks run : Bool) → State → Next → Type 0
EndsAs looks run s (ends e) = e ≡ s
EndsAs looks run s (asks d negate u t) = looks ≡ true
EndsAs looks run s (scans tries ts) = run ≡ true
EndsAs looks run s _ = Unit {0}

-- The instruction is a lookaround.
abbrev pub is_look : Option Insn → Bool
is_look (Some (Lookahead negate start_group end_group continuation)) = true
is_look (Some (Lookbehind negate start_group end_group continuation)) = true
is_look _ = false

-- The instruction is a char loop.
abbrev pub is_run : Option Insn → Bool
is_run (Some (Loop1CharBody least most greedy)) = true
is_run _ = false

module _ (looks run : Bool) (s : State) where
  as-with_some : {X : Type 0} (o : Option X) (f : X → Next) → ((x : X) → EndsAs looks run s (f x)) → EndsAs looks run s (with_some o f)
  as-with_some None f h = tt
  as-with_some (Some x) f h = h x

  as-only_if : (b : Bool) (n : Next) → EndsAs looks run s n → EndsAs looks run s (only_if b n)
  as-only_if true n h = h
  as-only_if false n h = tt

  as-go_if : (b : Bool) (u : State) → EndsAs looks run s (go_if b u)
  as-go_if true u = tt
  as-go_if false u = tt

  as-loop_turn : (f : LoopFields) (begin k : ℕ) (u : State) → EndsAs looks run s (iterate_or_leave_at_loop_head f begin k u)
  as-loop_turn f begin k u = as-only_if (nat_lt f.loop_id (length u.loops)) _ tt

  as-again_with : (f : LoopFields) (begin : ℕ) (x : LoopData) (u : State) → EndsAs looks run s (effect_at_iteration_end f begin x u)
  as-again_with f begin x u = as-only_if (nat_lt x.iters f.max_iters) _ (by (x.entry == u.pos && nat_lt f.min_iters (x.iters + 1)))
    where
      by : (b : Bool) → EndsAs looks run s (if b then goes [] else iterate_or_leave_at_loop_head f begin (x.iters + 1) u)
      by true = tt
      by false = as-loop_turn f begin (x.iters + 1) u

  as-again_at : (o : Option Insn) (begin : ℕ) (u : State) → EndsAs looks run s (loop_again_effect o begin u)
  as-again_at (Some (EnterLoop f)) begin u = as-with_some (slice_get u.loops f.loop_id) (λ x. effect_at_iteration_end f begin x u) (λ x. as-again_with f begin x u)
  as-again_at (Some _) begin u = tt
  as-again_at None begin u = tt

  as-read_one : (text : Text) (test : ℕ → Bool) (d : Direction) (u : State) → EndsAs looks run s (read_one text test d u)
  as-read_one text test d u =
      as-with_some (place_at text u.pos) (λ p. go_if (is_some_and (next_character text d p) test) (next_insn_at_place text (moved text d 1 p) u))
      (λ p. as-go_if (is_some_and (next_character text d p) test) (next_insn_at_place text (moved text d 1 p) u))

  as-tested : (program : Program) (text : Text) (x : Insn) (d : Direction) (u : State) → EndsAs looks run s (with_some (test_of program (Some x)) (λ test. read_one text test d u))
  as-tested program text x d u = as-with_some (test_of program (Some x)) (λ test. read_one text test d u) (λ test. as-read_one text test d u)

  as-stay : (text : Text) (holds : ℕ → Bool) (u : State) → EndsAs looks run s (stay_if text holds u)
  as-stay text holds u = as-with_some (place_at text u.pos) (λ p. go_if (holds p) (next_insn_at_place text p u)) (λ p. as-go_if (holds p) (next_insn_at_place text p u))

  as-read_group : (text : Text) (sameness : Sameness) (d : Direction) (o : Option (ℕ × ℕ)) (u : State) → EndsAs looks run s (read_group text sameness d o u)
  as-read_group text sameness d None u = as-with_some (place_at text u.pos) (λ p. go (next_insn_at_place text p u)) (λ p. tt)
  as-read_group text sameness d (Some range) u =
      as-with_some (place_at text u.pos)
      (λ p. with_some (place_at text range.0) (λ from. with_some (place_at text range.1) (λ to. backref_read text sameness d from to p u)))
      (λ p. as-with_some (place_at text range.0) (λ from. with_some (place_at text range.1) (λ to. backref_read text sameness d from to p u))
      (λ from. as-with_some (place_at text range.1) (λ to. backref_read text sameness d from to p u)
      (λ to. as-go_if _ _)))

  as-scan : run ≡ true → (program : Program) (text : Text) (o : Option Insn) (least most : ℕ) (greedy : Bool) (d : Direction) (u : State)
      → EndsAs looks run s (with_some (test_of program o) (λ test. with_some (place_at text u.pos) (λ p. scan text least most greedy test d p u)))
  as-scan is program text o least most greedy d u =
      as-with_some (test_of program o) (λ test. with_some (place_at text u.pos) (λ p. scan text least most greedy test d p u))
      (λ test. as-with_some (place_at text u.pos) (λ p. scan text least most greedy test d p u) (λ p. is))

-- A turn that scans characters is at a char loop.
pub record IsRun (o : Option Insn) : Type 0 where
  pub least : ℕ
  pub most : ℕ
  pub greedy : Bool
  pub is : o ≡ Some (Loop1CharBody least most greedy)

run-there : (o : Option Insn) → is_run o ≡ true → IsRun o
run-there (Some (Loop1CharBody least most greedy)) h = record { least = least; most = most; greedy = greedy; is = refl }
run-there None h = cc
run-there (Some _) h = cc

module _ (program : Program) (text : Text) (d : Direction) (s : State) where
  pub act-ends-as : (o : Option Insn) → EndsAs (is_look o) (is_run o) s (act_on program text d o s)
  act-ends-as None = tt
  act-ends-as (Some Goal) = refl
  act-ends-as (Some JustFail) = tt
  act-ends-as (Some (Char c)) = as-tested false false s program text (Char c) d s
  act-ends-as (Some (CharSet members)) = as-tested false false s program text (CharSet members) d s
  act-ends-as (Some (ByteSet members)) = as-tested false false s program text (ByteSet members) d s
  act-ends-as (Some (ByteSeq bytes)) = as-go_if false false s _ _
  act-ends-as (Some (AsciiBracket members)) = as-tested false false s program text (AsciiBracket members) d s
  act-ends-as (Some (Bracket index)) = as-tested false false s program text (Bracket index) d s
  act-ends-as (Some MatchAny) = as-tested false false s program text MatchAny d s
  act-ends-as (Some MatchAnyExceptLineTerminator) = as-tested false false s program text MatchAnyExceptLineTerminator d s
  act-ends-as (Some (Alt secondary)) = tt
  act-ends-as (Some (Jump target)) = tt
  act-ends-as (Some (EnterLoop f)) = as-loop_turn false false s f s.ip 0 s
  act-ends-as (Some (LoopAgain begin)) = as-again_at false false s (slice_get program.insns begin) begin s
  act-ends-as (Some (ResetCaptureGroup id)) = as-only_if false false s (nat_lt id (length s.groups)) _ tt
  act-ends-as (Some (Loop1CharBody least most greedy)) = as-scan false true s refl program text (slice_get program.insns (s.ip + 1)) least most greedy d s
  act-ends-as (Some (BeginCaptureGroup id)) = as-only_if false false s (nat_lt id (length s.groups) && nat_lt id (length s.starts)) _ tt
  act-ends-as (Some (EndCaptureGroup id)) = as-only_if false false s (nat_lt id (length s.groups)) _ (as-with_some false false s (slice_get s.starts id) _ (λ start. tt))
  act-ends-as (Some (BackRef group sameness)) =
      as-with_some false false s (slice_get s.groups group) (λ range. read_group text sameness d range s) (λ range. as-read_group false false s text sameness d range s)
  act-ends-as (Some (Lookahead negate start_group end_group continuation)) = refl
  act-ends-as (Some (Lookbehind negate start_group end_group continuation)) = refl
  act-ends-as (Some _) = as-stay false false s text _ s

  -- A turn that ends the search ends it in the current state.
  pub ends-itself : (e : State) → act program text d s ≡ ends e → e ≡ s
  ends-itself e is = subst (EndsAs (is_look (slice_get program.insns s.ip)) (is_run (slice_get program.insns s.ip)) s) is (act-ends-as (slice_get program.insns s.ip))

  looks-there : (o : Option Insn) → lookaround_at o ≡ None → is_look o ≡ false
  looks-there None h = refl
  looks-there (Some (Lookahead negate start_group end_group continuation)) h = cc
  looks-there (Some (Lookbehind negate start_group end_group continuation)) h = cc
  looks-there (Some _) h = refl

  -- A turn asks for no search where no lookaround stands.
  pub asks-none : (inner : Direction) (negate : Bool) (u t : State) → act program text d s ≡ asks inner negate u t → lookaround_at (slice_get program.insns s.ip) ≡ None → ⊥
  asks-none inner negate u t is none =
      let yes : is_look (slice_get program.insns s.ip) ≡ true = subst (EndsAs (is_look (slice_get program.insns s.ip)) (is_run (slice_get program.insns s.ip)) s) is (act-ends-as (slice_get program.insns s.ip)) in
      let never : true ≡ false = sym yes ∙ looks-there (slice_get program.insns s.ip) none in
      let no : ⊥ = cc in no

  -- A turn that asks for a search is at a lookaround.
  pub record IsAsked (inner : Direction) (negate : Bool) (u t : State) : Type 0 where
    pub look : LookaroundInsn
    pub there : lookaround_at (slice_get program.insns s.ip) ≡ Some look
    pub way : inner ≡ look.inner
    pub first : u ≡ state_at_next_ip s
    pub behind : t ≡ state_with_ip look.continuation s

  pub asked-there : (inner : Direction) (negate : Bool) (u t : State) → act program text d s ≡ asks inner negate u t → IsAsked inner negate u t
  asked-there inner negate u t is = by (lookaround_at (slice_get program.insns s.ip)) refl
    where
      by : (o : Option LookaroundInsn) → lookaround_at (slice_get program.insns s.ip) ≡ o → IsAsked inner negate u t
      by None none = absurd (asks-none inner negate u t is none)
      by (Some look) there =
          let same : asks inner negate u t ≡ asks look.inner look.negate (state_at_next_ip s) (state_with_ip look.continuation s) =
          sym is ∙ asks-there program text d s look (slice_get program.insns s.ip) there in
          record { look = look; there = there; way = cc; first = cc; behind = cc }

  pub scans-run : (tries : ℕ) (ts : List Thread) → act program text d s ≡ scans tries ts → IsRun (slice_get program.insns s.ip)
  scans-run tries ts is =
      run-there (slice_get program.insns s.ip)
      (subst (EndsAs (is_look (slice_get program.insns s.ip)) (is_run (slice_get program.insns s.ip)) s) is (act-ends-as (slice_get program.insns s.ip)))

  -- An instruction other than a goal does not end the search.
  other-ends-as : (x : Insn) (u : State) → is_goal_insn x ≡ false → EndsAs (is_look (Some x)) (is_run (Some x)) u (act_on program text d (Some x) s)
  other-ends-as Goal u h = cc
  other-ends-as JustFail u h = tt
  other-ends-as (Char c) u h = as-tested false false u program text (Char c) d s
  other-ends-as (CharSet members) u h = as-tested false false u program text (CharSet members) d s
  other-ends-as (ByteSet members) u h = as-tested false false u program text (ByteSet members) d s
  other-ends-as (ByteSeq bytes) u h = as-go_if false false u _ _
  other-ends-as (AsciiBracket members) u h = as-tested false false u program text (AsciiBracket members) d s
  other-ends-as (Bracket index) u h = as-tested false false u program text (Bracket index) d s
  other-ends-as MatchAny u h = as-tested false false u program text MatchAny d s
  other-ends-as MatchAnyExceptLineTerminator u h = as-tested false false u program text MatchAnyExceptLineTerminator d s
  other-ends-as (Alt secondary) u h = tt
  other-ends-as (Jump target) u h = tt
  other-ends-as (EnterLoop f) u h = as-loop_turn false false u f s.ip 0 s
  other-ends-as (LoopAgain begin) u h = as-again_at false false u (slice_get program.insns begin) begin s
  other-ends-as (ResetCaptureGroup id) u h = as-only_if false false u (nat_lt id (length s.groups)) _ tt
  other-ends-as (Loop1CharBody least most greedy) u h = as-scan false true u refl program text (slice_get program.insns (s.ip + 1)) least most greedy d s
  other-ends-as (BeginCaptureGroup id) u h = as-only_if false false u (nat_lt id (length s.groups) && nat_lt id (length s.starts)) _ tt
  other-ends-as (EndCaptureGroup id) u h = as-only_if false false u (nat_lt id (length s.groups)) _ (as-with_some false false u (slice_get s.starts id) _ (λ start. tt))
  other-ends-as (BackRef group sameness) u h =
      as-with_some false false u (slice_get s.groups group) (λ range. read_group text sameness d range s) (λ range. as-read_group false false u text sameness d range s)
  other-ends-as (Lookahead negate start_group end_group continuation) u h = refl
  other-ends-as (Lookbehind negate start_group end_group continuation) u h = refl
  other-ends-as x u h = as-stay false false u text _ s

  pub never-ends : (x : Insn) → slice_get program.insns s.ip ≡ Some x → is_goal_insn x ≡ false → (e : State) → act program text d s ≡ ends e → ⊥
  never-ends x here other e is =
      let further : State = record e { ip = e.ip + 1 } in
      let own : EndsAs (is_look (Some x)) (is_run (Some x)) further (ends e) =
      subst (EndsAs (is_look (Some x)) (is_run (Some x)) further) (sym (ap (λ o. act_on program text d o s) here) ∙ is) (other-ends-as x further other) in
      let never : e.ip ≡ e.ip + 1 = ap (λ (u : State). u.ip) own in
      absurd (omega (arith, never))
