-- Steps stay inside the contents of a lookaround, or outside of them.
use Rattle.std.proofs.Common.{◌≡◌, ◌≤◌, ◌<◌, ℕ, ◌+◌, Bool, true, false, not, Option, Some, None, List, [], ◌∷◌, ◌++◌, suc, ◌-◌}
use Rattle.std.proofs.Common.{map, refl, sym, ap, subst, ◌∙◌, arith, sum_by, slice_get, if◌then◌else◌, append_assoc, reverse, length}
use Rattle.std.specs.Prelude.{nat_lt}
use mathlib.Core.Logic.{inl, inr}
use Rattle.std.proofs.lemmas.Bool.{cases_lt, ltb-true}
use Rattle.std.proofs.lemmas.List.Sums.{sum_by-cons}
use Rattle.regex_meaning.specs.Laws.{Each}
use Rattle.regex_meaning.proofs.BoolLemmas.{and-left, and-right}
use Rattle.regex_meaning.proofs.EachElementLemmas.{Each-append, Each-left, Each-right, Each-map}
use Rattle.regex_meaning.specs.Text.{Text, Direction}
use Rattle.regex_meaning.specs.CompilationRelation.{Program, Insn, EnterLoop, Loop1CharBody, Lookahead, Lookbehind}
use Rattle.regress_program.specs.InsnsAsSpec.{insn_as_spec_insn}
use Rattle.regress_program.specs.declared.instructions.Insn as declared
use Rattle.std.proofs.lemmas.List.{length-map}
use Rattle.std.proofs.lemmas.Option.{slice_get_past}
use Rattle.regress_machine.specs.Machine.{State, Thread, running, waiting, first_running_and_others_waiting, after_lookaround, state_with_ip}
use Rattle.regress_machine.specs.CharLoopExitStatesByPreference.{behind, fewest_first, most_first}
use Rattle.regress_memo.specs.Liveness.{Liveness}
use Rattle.regress_memo.specs.LoopDataKeyCodes.{Question}
use Rattle.regress_memo.specs.CharLoopExitThreadLists.{passing, pending_loop_threads}
use Rattle.regress_memo.specs.UnboundedCharLoops.{key_behind}
use Rattle.regex_meaning.specs.NumberListHelpers.{numbers_from}
use Rattle.regress_memo.specs.SkippedLookarounds.{LookaroundInsn, lookaround_at}
use Rattle.regress_memo.specs.DistinctLists.{IsNew}
use Rattle.regress_memo.specs.MemoSearch.{Key, Entry, one_thread, key_record, thread_entries, threads_in, keys_in}
use Rattle.regress_memo.specs.ThreadPotentials.{each_noted, Potentials, potential_of, CoversRepeat, AreCovering}
use Rattle.regress_memo.specs.declared.successors.Successors.{Successors}
use Rattle.regress_memo.specs.declared.successors.Successors.TheVariants.{Ends, One, Two, Enter, Again, Run, LookaroundSuccessor, Same}
use Rattle.regress_memo.specs.Successors.{DeclaredInsnsEqualProgramInsns, successors_of_insn_if_any}
use Rattle.regress_memo.specs.CheckedAnalysis.{ip_of}
use Rattle.regress_memo.specs.ContentsApart.{is_in_contents, is_outside_contents, is_on_side_of, IsApartIfLookaround, IsSide, IsArea, IsApart}
use Rattle.regress_memo.specs.ContentsApart.{RepeatsOnSide, FlowsOnSide, StaysOnSide, ContentsAreApart, AreOnSide, IsSearchApart}
use Rattle.regress_memo.specs.ContentsApart.{StepStaysOnSide, LoopStaysOnSide, LoopThreadsStayOnSide, StepsStayOnSide, KeysOfContentsAreNotPending}
use Rattle.regress_memo.proofs.AnalysisCheckLemmas.{EnoughBy, has-enough}
use Rattle.regress_memo.proofs.ClosedLookaroundLemmas.{run-exits}
use Rattle.regress_memo.proofs.MemoSearchLemmas.{threads-tries, threads-joined, keys-tries, keys-joined}
use Rattle.regress_memo.proofs.StepKindByInstruction.{scans-run}
use Rattle.regress_memo.proofs.ThreadPotentialLemmas.{turns-weighed}

-- ---- Steps

-- An instruction that is not on the side weighs two, so threads that weigh at most one are on it.
module _ (side : ℕ → Bool) where
  abbrev heavy : Bool → ℕ
  heavy b = if b then 0 else 2

  abbrev room : Bool → ℕ
  room b = if b then 1 else 5

  abbrev sides-weigh : Potentials
  sides-weigh = record { at = λ ip. heavy (side ip); left = λ ip. room (side ip) }

  no-weight : (ip : ℕ) → side ip ≡ true → heavy (side ip) ≡ 0
  no-weight ip e = ap heavy e

  at-most-two : (b : Bool) → heavy b ≤ 2
  at-most-two true = omega arith
  at-most-two false = omega arith

  module _ (program : Program) where
    away-again : (x : Option Insn) (ip begin : ℕ) → side ip ≡ false → CoversRepeat sides-weigh x ip begin
    away-again (Some (EnterLoop f)) ip begin e =
        let a = at-most-two (side (begin + 1)) in let b = at-most-two (side f.exit) in let r : room (side ip) ≡ 5 = ap room e in omega (arith, a, b, r)
    away-again _ ip begin e = tt

    enough-away : (s : Successors) (ip : ℕ) → side ip ≡ false → EnoughBy sides-weigh program s ip
    enough-away Ends ip e = tt
    enough-away (One n) ip e = let a = at-most-two (side n.to) in let r : room (side ip) ≡ 5 = ap room e in omega (arith, a, r)
    enough-away (Two other) ip e =
        let a = at-most-two (side (ip + 1)) in let b = at-most-two (side other) in let r : room (side ip) ≡ 5 = ap room e in omega (arith, a, b, r)
    enough-away (Enter f) ip e =
        let a = at-most-two (side (ip + 1)) in let b = at-most-two (side f.exit) in let r : room (side ip) ≡ 5 = ap room e in omega (arith, a, b, r)
    enough-away (Again begin) ip e = away-again (slice_get program.insns begin) ip begin e
    enough-away (Run b) ip e = tt
    enough-away (LookaroundSuccessor l) ip e = let a = at-most-two (side l.past) in let r : room (side ip) ≡ 5 = ap room e in omega (arith, a, r)
    enough-away Same ip e = let a = at-most-two (side (ip + 1)) in let r : room (side ip) ≡ 5 = ap room e in omega (arith, a, r)

    again-here : (x : Option Insn) (ip begin : ℕ) → side ip ≡ true → RepeatsOnSide side program x begin → CoversRepeat sides-weigh x ip begin
    again-here (Some (EnterLoop f)) ip begin e h =
        let a = no-weight (begin + 1) h.0 in let b = no-weight f.exit h.1 in let r : room (side ip) ≡ 1 = ap room e in omega (arith, a, b, r)
    again-here _ ip begin e h = tt

    enough-here : (s : Successors) (ip : ℕ) → side ip ≡ true → FlowsOnSide side program s ip → EnoughBy sides-weigh program s ip
    enough-here Ends ip e h = tt
    enough-here (One n) ip e h = let a = no-weight n.to h in omega (arith, a)
    enough-here (Two other) ip e h = let a = no-weight (ip + 1) h.0 in let b = no-weight other h.1 in let r : room (side ip) ≡ 1 = ap room e in omega (arith, a, b, r)
    enough-here (Enter f) ip e h = let a = no-weight (ip + 1) h.0 in let b = no-weight f.exit h.1 in let r : room (side ip) ≡ 1 = ap room e in omega (arith, a, b, r)
    enough-here (Again begin) ip e h = again-here (slice_get program.insns begin) ip begin e h
    enough-here (Run b) ip e h = tt
    enough-here (LookaroundSuccessor l) ip e h = let a = no-weight l.past h in omega (arith, a)
    enough-here Same ip e h = let a = no-weight (ip + 1) h in omega (arith, a)

    sides-covered : StaysOnSide side program → AreCovering sides-weigh program
    sides-covered closed = record {
      enough = λ ip. has-enough sides-weigh program (slice_get program.insns ip) ip (by ip (side ip) refl);
    }
      where
        by : (ip : ℕ) (b : Bool) → side ip ≡ b → EnoughBy sides-weigh program (successors_of_insn_if_any ip (slice_get program.insns ip)) ip
        by ip true e = enough-here (successors_of_insn_if_any ip (slice_get program.insns ip)) ip e (closed.stays ip e)
        by ip false e = enough-away (successors_of_insn_if_any ip (slice_get program.insns ip)) ip e

  light-here : (ip : ℕ) → heavy (side ip) ≤ 1 → side ip ≡ true
  light-here ip le = by (side ip) refl
    where
      by : (b : Bool) → side ip ≡ b → side ip ≡ true
      by true e = e
      by false e = let two : heavy (side ip) ≡ 2 = ap heavy e in absurd (omega (arith, le, two))

  abbrev pub AllOnSide : List Thread → Type 0
  AllOnSide ts = Each (λ u. side (ip_of u) ≡ true) ts

  light : (ts : List Thread) → sum_by (potential_of sides-weigh) ts ≤ 1 → AllOnSide ts
  light [] le = tt
  light (running s ∷ ts) le =
      let sum = sum_by-cons (potential_of sides-weigh) (running s) ts in (light-here s.ip (omega (arith, le, sum)), light ts (omega (arith, le, sum)))
  light (waiting s ∷ ts) le =
      let sum = sum_by-cons (potential_of sides-weigh) (waiting s) ts in (light-here s.ip (omega (arith, le, sum)), light ts (omega (arith, le, sum)))

  waits-here : (ip : ℕ) (ss : List State) → side ip ≡ true → Each (λ (u : State). u.ip ≡ ip) ss → AllOnSide (map waiting ss)
  waits-here ip [] here h = tt
  waits-here ip (s ∷ ss) here h = (ap side h.0 ∙ here, waits-here ip ss here h.1)

  exits-here : (ip : ℕ) (ss : List State) → side ip ≡ true → Each (λ (u : State). u.ip ≡ ip) ss → AllOnSide (first_running_and_others_waiting ss)
  exits-here ip [] here h = tt
  exits-here ip (s ∷ ss) here h = (ap side h.0 ∙ here, waits-here ip ss here h.1)

  behind-here : (negate : Bool) (u : State) (end : Option State) → side u.ip ≡ true → AllOnSide (after_lookaround negate u end)
  behind-here false u None h = tt
  behind-here false u (Some e) h = (h, tt)
  behind-here true u None h = (h, tt)
  behind-here true u (Some e) h = tt

  look-flows : (program : Program) (x : Option Insn) (ip : ℕ) (l : LookaroundInsn) → lookaround_at x ≡ Some l → FlowsOnSide side program (successors_of_insn_if_any ip x) ip
      → side l.continuation ≡ true
  look-flows program (Some (Lookahead negate start_group end_group continuation)) ip l e h =
      let is : continuation ≡ l.continuation = cc in ap side (sym is) ∙ h
  look-flows program (Some (Lookbehind negate start_group end_group continuation)) ip l e h =
      let is : continuation ≡ l.continuation = cc in ap side (sym is) ∙ h
  look-flows program _ ip l e h = cc

  module _ (program : Program) (closed : StaysOnSide side program) where
    loop-begins : (ip least most : ℕ) (greedy : Bool) → slice_get program.insns ip ≡ Some (Loop1CharBody least most greedy) → side ip ≡ true → LoopStaysOnSide side ip
    loop-begins ip least most greedy is here =
        let both : (side (ip + 1) ≡ true) × (side (ip + 2) ≡ true) =
        subst (λ o. FlowsOnSide side program (successors_of_insn_if_any ip o) ip) is (closed.stays ip here) in
        record { body = both.0; on = both.1 }

    step-stays : (text : Text) (d : Direction) (s : State) → side s.ip ≡ true → StepStaysOnSide side program text d s
    step-stays text d s here = record {
      goes = λ ts turn.
          let weighed = turns-weighed.weighed program text sides-weigh (sides-covered program closed) d s ts turn in
          let one : room (side s.ip) ≡ 1 = ap room here in
          light ts (omega (arith, weighed, one));
      scans = λ n ts turn.
          let run = scans-run program text d s n ts turn in
          let exits = run-exits text d s run.least run.most run.greedy program n ts run.is turn in
          let on = (loop-begins s.ip run.least run.most run.greedy run.is here).on in
          subst AllOnSide (sym exits.are) (exits-here (s.ip + 2) exits.states on exits.there);
      looks = λ l end is.
          behind-here l.negate (state_with_ip l.continuation s) end (look-flows program (slice_get program.insns s.ip) s.ip l is (closed.stays s.ip here));
    }

-- ---- Threads of char loops

module _ (side : ℕ → Bool) (text : Text) (d : Direction) (test : ℕ → Bool) (place : ℕ) (s : State) (h : LoopStaysOnSide side s.ip) where
  all-behind : (ns : List ℕ) → Each (λ (u : State). u.ip ≡ s.ip + 2) (map (behind text d place s) ns)
  all-behind [] = tt
  all-behind (n ∷ ns) = (refl, all-behind ns)

  exits-noted : (program : Program) (a : Liveness) (questions : ℕ → List Question) (way : ℕ → Direction) (ips : List ℕ) (taken : Key → ℕ) (known : List Thread) (ns : List ℕ)
      → AreOnSide side (each_noted known (map (λ n. (waiting (behind text d place s n), key_behind program text a questions way ips taken d test s place n)) ns))
  exits-noted program a questions way ips taken known [] = record { threads = tt; records = tt }
  exits-noted program a questions way ips taken known (n ∷ ns) =
      let below = exits-noted program a questions way ips taken (known ++ waiting (behind text d place s n) ∷ []) ns in
      record { threads = (h.on, below.threads); records = (h.body, below.records) }

  loop-threads : LoopThreadsStayOnSide side text d test place s
  loop-threads = record {
    greedy = λ least. exits-here side (s.ip + 2) (most_first text d place s least (passing text test d place + 1 - least)) h.on (all-behind (reverse (numbers_from least (passing text test d place + 1 - least))));
    waits = λ least. waits-here side (s.ip + 2) (fewest_first text d place s least (passing text test d place + 1 - least)) h.on (all-behind (numbers_from least (passing text test d place + 1 - least)));
    exits = λ program a questions way ips taken known least count. exits-noted program a questions way ips taken known (reverse (numbers_from least count));
  }

loop-waits : (side : ℕ → Bool) (text : Text) (d : Direction) (test : ℕ → Bool) (place : ℕ) (s : State)
    → Each (λ u. side (ip_of u) ≡ true) (pending_loop_threads text test d 0 place s) → side (s.ip + 2) ≡ true
loop-waits side text d test place s h =
    let some : passing text test d place + 1 - 0 ≡ suc (passing text test d place) = omega arith in
    (subst (λ m. Each (λ u. side (ip_of u) ≡ true) (map waiting (fewest_first text d place s 0 m))) some h).0

-- ---- Sides

not-both : (b : Bool) → b ≡ true → not b ≡ true → ⊥
not-both true e f = cc
not-both false e f = cc

not-true : (b : Bool) → b ≡ false → not b ≡ true
not-true b e = ap not e

module _ (from past : ℕ) where
  yes-inside : (ip : ℕ) → from < ip → ip < past → is_in_contents from past ip ≡ true
  yes-inside ip a b = grind arith

  pub inside-from : (ip : ℕ) → is_in_contents from past ip ≡ true → from < ip
  inside-from ip e = ltb-true from ip (and-left (nat_lt from ip) (nat_lt ip past) e)

  pub inside-past : (ip : ℕ) → is_in_contents from past ip ≡ true → ip < past
  inside-past ip e = ltb-true ip past (and-right (nat_lt from ip) (nat_lt ip past) e)

  outside-before : (ip : ℕ) → ip ≤ from → is_outside_contents from past ip ≡ true
  outside-before ip le = by (is_in_contents from past ip) refl
    where
      by : (b : Bool) → is_in_contents from past ip ≡ b → not b ≡ true
      by false e = refl
      by true e = let less = inside-from ip e in absurd (omega (arith, le, less))

  module _ (program : Program) (apart : IsApart from past program) where
    inside-loops : (ip least most : ℕ) (greedy : Bool) → slice_get program.insns ip ≡ Some (Loop1CharBody least most greedy) → is_in_contents from past (ip + 2) ≡ true
        → is_in_contents from past ip ≡ true
    inside-loops ip least most greedy is on = by (is_in_contents from past ip) refl
      where
        by : (b : Bool) → is_in_contents from past ip ≡ b → is_in_contents from past ip ≡ true
        by true e = e
        by false e =
            absurd (not-both (is_in_contents from past (ip + 2)) on
            (loop-begins (is_outside_contents from past) program apart.outside ip least most greedy is (not-true (is_in_contents from past ip) e)).on)

    outside-loops : (ip least most : ℕ) (greedy : Bool) → slice_get program.insns ip ≡ Some (Loop1CharBody least most greedy) → is_outside_contents from past (ip + 2) ≡ true
        → is_outside_contents from past ip ≡ true
    outside-loops ip least most greedy is on = by (is_in_contents from past ip) refl
      where
        by : (b : Bool) → is_in_contents from past ip ≡ b → is_outside_contents from past ip ≡ true
        by false e = not-true (is_in_contents from past ip) e
        by true e = absurd (not-both (is_in_contents from past (ip + 2)) (loop-begins (is_in_contents from past) program apart.inside ip least most greedy is e).on on)

    pub inside-is-area : IsArea (is_in_contents from past) program
    inside-is-area = record {
      is_side = record { closed = apart.inside; loops = inside-loops };
      contents = λ ip l here is inner there.
          let past_there = look-flows (is_in_contents from past) program (slice_get program.insns ip) ip l is (apart.inside.stays ip here) in
          let a = inside-from ip here in
          let b = inside-past l.continuation past_there in
          let c : ip < inner = ltb-true ip inner (and-left (nat_lt ip inner) (nat_lt inner l.continuation) there) in
          let e : inner < l.continuation = ltb-true inner l.continuation (and-right (nat_lt ip inner) (nat_lt inner l.continuation) there) in
          yes-inside inner (omega (arith, a, c)) (omega (arith, b, e));
    }

    pub outside-is-side : IsSide (is_outside_contents from past) program
    outside-is-side = record { closed = apart.outside; loops = outside-loops }

all-repeat : (program : Program) (x : Option Insn) (begin : ℕ) → RepeatsOnSide (λ ip. true) program x begin
all-repeat program (Some (EnterLoop f)) begin = (refl, refl)
all-repeat program _ begin = tt

all-flow : (program : Program) (s : Successors) (ip : ℕ) → FlowsOnSide (λ ip. true) program s ip
all-flow program Ends ip = tt
all-flow program (One n) ip = refl
all-flow program (Two other) ip = (refl, refl)
all-flow program (Enter f) ip = (refl, refl)
all-flow program (Again begin) ip = all-repeat program (slice_get program.insns begin) begin
all-flow program (Run b) ip = (refl, refl)
all-flow program (LookaroundSuccessor l) ip = refl
all-flow program Same ip = refl

pub steps-stay : StepsStayOnSide
steps-stay = record {
  all = λ program. record {
    is_side = record {
      closed = record { stays = λ ip e. all-flow program (successors_of_insn_if_any ip (slice_get program.insns ip)) ip };
      loops = λ ip least most greedy is e. refl;
    };
    contents = λ ip l here is inner there. refl;
  };
  inside = inside-is-area;
  outside = outside-is-side;
  steps = λ side program closed text d s here. step-stays side program closed text d s here;
  loops = λ side program is_side ip least most greedy is on.
      loop-begins side program is_side.closed ip least most greedy is (is_side.loops ip least most greedy is on);
  loop_threads = λ side text d test place s h. loop-threads side text d test place s h;
  loop_waits = loop-waits;
  loop_begins = λ side program closed ip least most greedy is here. loop-begins side program closed ip least most greedy is here;
}

-- ---- Entries on a side

module _ (side : ℕ → Bool) where
  pub entries-joined : (entries rest : List Entry) → AreOnSide side entries → AreOnSide side rest → AreOnSide side (entries ++ rest)
  entries-joined entries rest h k = record {
    threads = subst (Each (λ u. side (ip_of u) ≡ true)) (sym (threads-joined entries rest)) (Each-append (λ u. side (ip_of u) ≡ true) (threads_in entries) (threads_in rest) h.threads k.threads);
    records = subst (Each (λ (k : Key). side k.ip ≡ true)) (sym (keys-joined entries rest)) (Each-append (λ (k : Key). side k.ip ≡ true) (keys_in entries) (keys_in rest) h.records k.records);
  }

  entries-first : (entries rest : List Entry) → AreOnSide side (entries ++ rest) → AreOnSide side entries
  entries-first entries rest h = record {
    threads = Each-left (λ u. side (ip_of u) ≡ true) (threads_in entries) (threads_in rest) (subst (Each (λ u. side (ip_of u) ≡ true)) (threads-joined entries rest) h.threads);
    records = Each-left (λ (k : Key). side k.ip ≡ true) (keys_in entries) (keys_in rest) (subst (Each (λ (k : Key). side k.ip ≡ true)) (keys-joined entries rest) h.records);
  }

  entries-rest : (entries rest : List Entry) → AreOnSide side (entries ++ rest) → AreOnSide side rest
  entries-rest entries rest h = record {
    threads = Each-right (λ u. side (ip_of u) ≡ true) (threads_in entries) (threads_in rest) (subst (Each (λ u. side (ip_of u) ≡ true)) (threads-joined entries rest) h.threads);
    records = Each-right (λ (k : Key). side k.ip ≡ true) (keys_in entries) (keys_in rest) (subst (Each (λ (k : Key). side k.ip ≡ true)) (keys-joined entries rest) h.records);
  }

  pub entries-of : (ts : List Thread) → AllOnSide side ts → AreOnSide side (thread_entries ts)
  entries-of ts h = record {
    threads = subst (Each (λ u. side (ip_of u) ≡ true)) (sym (threads-tries ts)) h;
    records = subst (Each (λ (k : Key). side k.ip ≡ true)) (sym (keys-tries ts)) tt;
  }

-- ---- Searches

module _ (side : ℕ → Bool) (program : Program) (area : IsArea side program) (contents : ContentsAreApart program) (memory now : List Key) (rest : List Entry) where
  gives-apart : (front entries : List Entry) → ((other : ℕ → Bool) → IsSide other program → AreOnSide other front → AreOnSide other entries)
      → IsSearchApart side program memory now (front ++ rest) → IsSearchApart side program memory now (entries ++ rest)
  gives-apart front entries step h = record {
    own = entries-joined side entries rest (step side area.is_side (entries-first side front rest h.own)) (entries-rest side front rest h.own);
    apart = λ ip l here is.
        let other = is_outside_contents ip l.continuation in
        let before = h.apart ip l here is in
        entries-joined other entries rest (step other (outside-is-side ip l.continuation program (contents.apart ip l is)) (entries-first other front rest before)) (entries-rest other front rest before);
    new = h.new;
    now_is = h.now_is;
    learned = h.learned;
  }

  reaches-apart : (k : Key) (ts : List Thread) → IsSearchApart side program memory now (key_record k ts ∷ rest) → IsSearchApart side program memory (k ∷ now) rest
  reaches-apart k ts h = record {
    own = record { threads = h.own.threads; records = h.own.records.1 };
    apart = λ ip l here is. let before = h.apart ip l here is in record { threads = before.threads; records = before.records.1 };
    new = k ∷ h.new;
    now_is = ap (λ ks. k ∷ ks) h.now_is;
    learned = (h.own.records.0, h.learned);
  }

  looks-apart : (s : State) (l : LookaroundInsn) (now' : List Key) (row : List Entry) (end : Option State) → lookaround_at (slice_get program.insns s.ip) ≡ Some l
      → IsSearchApart (is_in_contents s.ip l.continuation) program now now' row → IsSearchApart side program memory now (one_thread (running s) ∷ rest)
      → IsSearchApart side program memory (keys_in row ++ now') (thread_entries (after_lookaround l.negate (state_with_ip l.continuation s) end) ++ rest)
  looks-apart s l now' row end is inner h =
      let behind = after_lookaround l.negate (state_with_ip l.continuation s) end in
      let stepped = gives-apart (one_thread (running s) ∷ []) (thread_entries behind)
      (λ other is_side on. entries-of other behind
      (behind-here other l.negate (state_with_ip l.continuation s) end (look-flows other program (slice_get program.insns s.ip) s.ip l is (is_side.closed.stays s.ip on.threads.0)))) h in
      let here : side s.ip ≡ true = h.own.threads.0 in
      let on : (k : Key) → is_in_contents s.ip l.continuation k.ip ≡ true → side k.ip ≡ true = λ k there. area.contents s.ip l here is k.ip there in
      let all = keys_in row ++ inner.new in
      record {
        own = stepped.own;
        apart = stepped.apart;
        new = all ++ h.new;
        now_is = ap (λ ks. keys_in row ++ ks) inner.now_is
            ∙ ap (λ ks. keys_in row ++ (inner.new ++ ks)) h.now_is
            ∙ sym (append_assoc (keys_in row) inner.new (h.new ++ memory))
            ∙ sym (append_assoc all h.new memory);
        learned = Each-append (λ (k : Key). side k.ip ≡ true) all h.new
            (Each-map (λ (k : Key). is_in_contents s.ip l.continuation k.ip ≡ true) (λ (k : Key). side k.ip ≡ true) on all
            (Each-append (λ (k : Key). is_in_contents s.ip l.continuation k.ip ≡ true) (keys_in row) inner.new inner.own.records inner.learned)) h.learned;
      }

-- No key of the contents is in a list of keys outside of them.
module _ (from past : ℕ) where
  differs : (k : Key) → is_in_contents from past k.ip ≡ true → (js : List Key) → Each (λ (j : Key). is_outside_contents from past j.ip ≡ true) js → IsNew k js
  differs k inside [] h = tt
  differs k inside (j ∷ js) h =
      ((λ same. not-both (is_in_contents from past k.ip) inside (ap (λ (i : Key). is_outside_contents from past i.ip) (sym same) ∙ h.0)), differs k inside js h.1)

pub keys-apart : KeysOfContentsAreNotPending
keys-apart = record {
  begins = λ program memory s first. record {
    own = record { threads = (refl, tt); records = tt };
    apart = λ ip l here is. record {
      threads = (outside-before ip l.continuation s.ip (let e = first in omega (arith, e)), tt);
      records = tt;
    };
    new = [];
    now_is = refl;
    learned = tt;
  };
  contents_begin = λ program contents memory ip l is s first. record {
    own = record { threads = (let some = (contents.apart ip l is).some in yes-inside ip l.continuation s.ip (omega (arith, first)) (omega (arith, first, some)), tt); records = tt };
    apart = λ other m here there. record {
      threads = (let later = inside-from ip l.continuation other here in outside-before other m.continuation s.ip (omega (arith, first, later)), tt);
      records = tt;
    };
    new = [];
    now_is = refl;
    learned = tt;
  };
  stays = λ side program area contents memory now rest. record {
    gives = gives-apart side program area contents memory now rest;
    reaches = reaches-apart side program area contents memory now rest;
    looks = looks-apart side program area contents memory now rest;
  };
  new = λ side program memory now s rest l is h keys inside.
      let apart = (h.apart s.ip l h.own.threads.0 is).records in
      Each-map (λ (k : Key). is_in_contents s.ip l.continuation k.ip ≡ true) (λ k. IsNew k (keys_in rest))
      (λ k there. differs s.ip l.continuation k there (keys_in rest) apart) keys inside;
}

-- ---- Checks

-- If each instruction of the program keeps its side, so do all indices, even past the last one.
flows-all : (from past : ℕ) (program : Program) (insns : List declared.Insn) → DeclaredInsnsEqualProgramInsns program insns
    → ((k : ℕ) → k < length insns → FlowsOnSide (is_on_side_of from past k) program (successors_of_insn_if_any k (slice_get program.insns k)) k)
    → (ip : ℕ) → FlowsOnSide (is_on_side_of from past ip) program (successors_of_insn_if_any ip (slice_get program.insns ip)) ip
flows-all from past program insns has each ip = elim (cases_lt ip (length insns)) [
  | inl less ↦ each ip less
  | inr beyond ↦
      let long = length-map insns insn_as_spec_insn in
      let none : slice_get (map insn_as_spec_insn insns) ip ≡ None = slice_get_past (map insn_as_spec_insn insns) ip (omega (arith, beyond, long)) in
      subst (λ o. FlowsOnSide (is_on_side_of from past ip) program (successors_of_insn_if_any ip o) ip) (sym (ap (λ xs. slice_get xs ip) has ∙ none)) tt
]

pub apart-by : (from past : ℕ) (program : Program) (insns : List declared.Insn) → DeclaredInsnsEqualProgramInsns program insns → from + 1 < past
    → ((k : ℕ) → k < length insns → FlowsOnSide (is_on_side_of from past k) program (successors_of_insn_if_any k (slice_get program.insns k)) k)
    → IsApart from past program
apart-by from past program insns has some each = record {
  some = some;
  inside = record { stays = λ ip e. by true ip e };
  outside = record { stays = λ ip e. by false ip (is-false (is_in_contents from past ip) e) };
}
  where
    is-false : (b : Bool) → not b ≡ true → b ≡ false
    is-false true e = cc
    is-false false e = refl

    by : (b : Bool) (ip : ℕ) → is_in_contents from past ip ≡ b
        → FlowsOnSide (λ other. if b then is_in_contents from past other else is_outside_contents from past other) program (successors_of_insn_if_any ip (slice_get program.insns ip)) ip
    by b ip e =
        subst (λ b. FlowsOnSide (λ other. if b then is_in_contents from past other else is_outside_contents from past other) program (successors_of_insn_if_any ip (slice_get program.insns ip)) ip) e
        (flows-all from past program insns has each ip)

pub all-apart : (program : Program) (insns : List declared.Insn) → DeclaredInsnsEqualProgramInsns program insns
    → ((k : ℕ) → k < length insns → IsApartIfLookaround program (successors_of_insn_if_any k (slice_get program.insns k)) k) → ContentsAreApart program
all-apart program insns has each = record { apart = λ ip l is. by (slice_get program.insns ip) ip l is (all ip) }
  where
    all : (ip : ℕ) → IsApartIfLookaround program (successors_of_insn_if_any ip (slice_get program.insns ip)) ip
    all ip = elim (cases_lt ip (length insns)) [
      | inl less ↦ each ip less
      | inr beyond ↦
          let long = length-map insns insn_as_spec_insn in
          let none : slice_get (map insn_as_spec_insn insns) ip ≡ None = slice_get_past (map insn_as_spec_insn insns) ip (omega (arith, beyond, long)) in
          subst (λ o. IsApartIfLookaround program (successors_of_insn_if_any ip o) ip) (sym (ap (λ xs. slice_get xs ip) has ∙ none)) tt
    ]

    same : (a b : LookaroundInsn) → Some a ≡ Some b → a ≡ b
    same a b e = cc

    by : (x : Option Insn) (ip : ℕ) (l : LookaroundInsn) → lookaround_at x ≡ Some l → IsApartIfLookaround program (successors_of_insn_if_any ip x) ip → IsApart ip l.continuation program
    by (Some (Lookahead negate start_group end_group continuation)) ip l e h = subst (λ (l : LookaroundInsn). IsApart ip l.continuation program) (same _ l e) h
    by (Some (Lookbehind negate start_group end_group continuation)) ip l e h = subst (λ (l : LookaroundInsn). IsApart ip l.continuation program) (same _ l e) h
    by _ ip l e h = cc
