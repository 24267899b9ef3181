-- After each turn the remaining threads find the end of the whole search in fewer steps.
use Rattle.std.proofs.Common.{◌≡◌, ℕ, ◌+◌, ◌<◌, ◌≤◌, List, [], ◌∷◌, ◌++◌, Option, Some, None, Bool, refl, ap, sym, ◌∙◌, subst, arith, ◌-◌}
use Rattle.std.specs.Prelude.{is_some, IsTrue, IsSome, slice_get}
use Rattle.regex_meaning.specs.Text.{Text, Direction}
use Rattle.regex_meaning.specs.CodeUnitOffsets.{HasRisingPlaceOffsets, units}
use Rattle.regex_meaning.specs.CompilationRelation.{Program, Insn}
use Rattle.regress_machine.specs.TextsForBytePrograms.{HasUtf8CharactersAndOffsets}
use Rattle.regress_machine.specs.Machine as machine
use Rattle.regress_machine.specs.Machine.{Thread, running, waiting, Next, goes, scans, ends, asks, stuck, Found, result_without_threads, after_lookaround, act, search}
use Rattle.regress_machine.proofs.MachineSearchLemmas.{Later, waits-later, goes-later, scans-later, ends-found, never_stuck, asked-inner}
use Rattle.regress_machine.specs.ExecutorLoopInvariantAndSpentSteps.{steps_of}
use Rattle.regress_machine.specs.InsnEffects.{IsNotStuck, is_byte_sequence_insn, end_of_search}
use Rattle.regress_machine.proofs.OffsetsInsideText.{AllIn, NextIn, in-append, in-resumed, act-inside}

module _ (program : Program) (text : Text) (turns : ℕ) (d : Direction) where
  -- This is the number of steps left to these threads.
  abbrev pub steps_left : List Thread → ℕ
  steps_left ts = steps_of (search program text turns d ts)

  -- The threads are inside the text, and their search ends like this in at most `top` steps.
  pub record Remains (top : ℕ) (end : Option machine.State) (ts : List Thread) : Type 0 where
    pub found : Found
    pub searches : search program text turns d ts ≡ Some found
    pub ends_there : found.end ≡ end
    pub few : steps_left ts ≤ top
    pub inside : AllIn (units text) ts

  -- The threads that remain after a step end like those before it, in fewer steps.
  pub record Left (top : ℕ) (end : Option machine.State) (before ts : List Thread) : Type 0 where
    pub remains : Remains top end ts
    pub fewer : steps_left ts < steps_left before

  pub remains-begin : (s : machine.State) → s.pos ≤ units text → IsSome (search program text turns d (running s ∷ []))
      → Remains (steps_left (running s ∷ [])) (end_of_search (search program text turns d (running s ∷ []))) (running s ∷ [])
  remains-begin s inside some = by (search program text turns d (running s ∷ [])) refl some
    where
      by : (o : Option Found) → search program text turns d (running s ∷ []) ≡ o → IsSome o → Remains (steps_of o) (end_of_search o) (running s ∷ [])
      by None e h = cc
      by (Some f) e h = record { found = f; searches = e; ends_there = refl; few = let same = ap steps_of e in omega (arith, same); inside = (inside, tt) }

  left : (spent top : ℕ) (end : Option machine.State) (before ts : List Thread) (f : Found) → search program text turns d before ≡ Some f
      → f.end ≡ end → steps_left before ≤ top → Later program text turns d spent ts f → 0 < spent → AllIn (units text) ts → Left top end before ts
  left spent top end before ts f searches there few l some inside =
      let b = ap steps_of searches in
      let a = ap steps_of l.searches in
      record {
        remains = record { found = l.found; searches = l.searches; ends_there = sym l.end ∙ there; few = omega (arith, a, b, l.steps, few); inside = inside };
        fewer = omega (arith, a, b, l.steps, some);
      }

  -- ---- One step

  module _ (top : ℕ) (end : Option machine.State) where
    -- If a waiting thread runs, the threads remain with one step fewer.
    pub left-waits : (s : machine.State) (ts : List Thread) → Remains top end (waiting s ∷ ts) → Left top end (waiting s ∷ ts) (running s ∷ ts)
    left-waits s ts r =
        left 1 top end (waiting s ∷ ts) (running s ∷ ts) r.found r.searches r.ends_there r.few (waits-later program text turns d s ts r.found r.searches) (omega arith) r.inside

    -- The machine is not stuck at the running thread of a search that answers.
    pub remains-can : (s : machine.State) (ts : List Thread) → Remains top end (running s ∷ ts) → IsNotStuck (act program text d s)
    remains-can s ts r = by (act program text d s) refl
      where
        by : (x : Next) → act program text d s ≡ x → IsNotStuck x
        by (goes ss) e = tt
        by (scans tries ss) e = tt
        by (ends t) e = tt
        by (asks inner negate u t) e = tt
        by stuck e = never_stuck program text turns d s ts r.found e r.searches

    pub remains-inside : (s : machine.State) (ts : List Thread) → Remains top end (running s ∷ ts) → s.pos ≤ units text
    remains-inside s ts r = r.inside.0

    pub remains-ends : (s t : machine.State) (ts : List Thread) → Remains top end (running s ∷ ts) → act program text d s ≡ ends t → Some t ≡ end
    remains-ends s t ts r e = ap (λ (f : Found). f.end) (sym (ends-found program text turns d s t ts r.found e r.searches)) ∙ r.ends_there

    pub remains-none : Remains top end [] → None ≡ end
    unfolding search
    remains-none r = by turns refl
      where
        by : (n : ℕ) → turns ≡ n → None ≡ end
        by n q = let e : Some result_without_threads ≡ Some r.found = r.searches in let is : result_without_threads ≡ r.found = cc in ap (λ (f : Found). f.end) is ∙ r.ends_there

    module _ (is : HasRisingPlaceOffsets text) (reads : (i : ℕ) (insn : Insn) → slice_get program.insns i ≡ Some insn → IsTrue (is_byte_sequence_insn insn) → HasUtf8CharactersAndOffsets text) where
      next-inside : (s : machine.State) (ts : List Thread) (x : Next) → Remains top end (running s ∷ ts) → act program text d s ≡ x → NextIn (units text) x
      next-inside s ts x r e = subst (NextIn (units text)) e (act-inside text is program d (slice_get program.insns s.ip) s (reads s.ip) r.inside.0)

      pub left-goes : (s : machine.State) (ss ts : List Thread) → Remains top end (running s ∷ ts) → act program text d s ≡ goes ss → Left top end (running s ∷ ts) (ss ++ ts)
      left-goes s ss ts r e =
          left 1 top end (running s ∷ ts) (ss ++ ts) r.found r.searches r.ends_there r.few (goes-later program text turns d s ss ts r.found e r.searches) (omega arith)
          (in-append (units text) ss ts (next-inside s ts (goes ss) r e) r.inside.1)

      pub left-scans : (s : machine.State) (tries : ℕ) (ss ts : List Thread) → Remains top end (running s ∷ ts) → act program text d s ≡ scans tries ss → Left top end (running s ∷ ts) (ss ++ ts)
      left-scans s tries ss ts r e =
          left (1 + tries) top end (running s ∷ ts) (ss ++ ts) r.found r.searches r.ends_there r.few (scans-later program text turns d s tries ss ts r.found e r.searches) (omega arith)
          (in-append (units text) ss ts (next-inside s ts (scans tries ss) r e) r.inside.1)

      -- The search of a lookaround's contents takes fewer steps, and the threads after it remain.
      pub record AskedHere (before : List Thread) (inner : Direction) (negate : Bool) (u w : machine.State) (ts : List Thread) : Type 0 where
        pub answers : IsSome (search program text turns inner (running u ∷ []))
        pub inside : u.pos ≤ units text
        pub fewer : steps_of (search program text turns inner (running u ∷ [])) < steps_left before
        pub behind : Left top end before (after_lookaround negate w (end_of_search (search program text turns inner (running u ∷ []))) ++ ts)

      pub left-asks : (s u w : machine.State) (inner : Direction) (negate : Bool) (ts : List Thread) → Remains top end (running s ∷ ts)
          → act program text d s ≡ asks inner negate u w → AskedHere (running s ∷ ts) inner negate u w ts
      left-asks s u w inner negate ts r e =
          let both = next-inside s ts (asks inner negate u w) r e in
          let a = asked-inner program text turns d inner negate s u w ts r.found e r.searches in
          let before = ap steps_of r.searches in
          let there = ap steps_of a.searches in
          let at : end_of_search (search program text turns inner (running u ∷ [])) ≡ a.found.end = ap end_of_search a.searches in
          let behind : Left top end (running s ∷ ts) (after_lookaround negate w a.found.end ++ ts) =
          left (1 + a.found.steps) top end (running s ∷ ts) (after_lookaround negate w a.found.end ++ ts) r.found r.searches r.ends_there r.few a.rest (omega arith)
          (in-append (units text) (after_lookaround negate w a.found.end) ts (in-resumed (units text) negate w a.found.end both.1) r.inside.1) in
          record {
            answers = ap is_some a.searches;
            inside = both.0;
            fewer = omega (arith, before, there, a.rest.steps);
            behind = subst (λ o. Left top end (running s ∷ ts) (after_lookaround negate w o ++ ts)) (sym at) behind;
          }
