-- The scan of a greedy unbounded char loop pushes each exit above the record of its key.
use Rattle.std.proofs.Common.{◌≡◌, ◌≤◌, ◌<◌, ℕ, suc, ◌+◌, ◌-◌, Bool, true, false, List, [], ◌∷◌, ◌++◌, Option, Some, None, refl, sym, ap, ◌∙◌, subst, arith, inl, inr}
use Rattle.std.specs.Prelude.{option_map, IsSome}
use Rattle.std.proofs.lemmas.Bool.{cases_lt}
use Rattle.std.proofs.Math.Logic.{∥∥₁_elim}
use Rattle.std.proofs.Props.{props}
use Rattle.regex_meaning.specs.Text.{Text, rightwards, last_place, moved}
use Rattle.regex_meaning.specs.CodeUnitOffsets.{HasRisingPlaceOffsets, IsBoundary, place_at, units, offset as text_offset}
use Rattle.regex_meaning.specs.CompilationRelation.{Program}
use Rattle.regex_meaning.proofs.OptionLemmas.{some-same}
use Rattle.regex_meaning.proofs.CodeUnitOffsetsLemmas.{IsBoundary-place, offset-IsBoundary, offset-less, offset-le}
use Rattle.regress_input.specs.CharAndByteReadsFromOffset.{end_if_matched, past_if}
use Rattle.regress_program.specs.InsnsAsSpec.{insn_as_spec_insn}
use Rattle.regress_machine.specs.Machine as machine
use Rattle.regress_machine.specs.Machine.{waiting, test_of}
use Rattle.regress_machine.specs.InsnEffects.{state_after_char_loop_to_offset}
use Rattle.regress_machine.proofs.NearestCharacterLemmas.{moved-zero}
use Rattle.regress_machine.specs.CharLoopExitStatesByPreference.{behind}
use Rattle.regress_memo.specs.LoopDataKeyCodes.{plan_code}
use Rattle.regress_memo.specs.MemoSearch.{Key, Entry, one_thread, key_record}
use Rattle.regress_memo.specs.AnalysisAsPotentials.{key_code_questions_of, insn_direction}
use Rattle.regress_memo.specs.declared.memo.ThreadMemoKey.{ThreadMemoKey as Stored}
use Rattle.regress_memo.specs.MemoContents.{memo_key_as_spec, memo_key_at, has_failure}
use Rattle.regress_memo.specs.MemoContractView.{MemoView}
use Rattle.regress_search.proofs.CharLoopReach.{some-of}
use Rattle.regress_search.proofs.StopByteScanLemmas.{places-few}
use Rattle.regress_bounded.specs.declared.pending_stack.UnboundedCharLoop.{UnboundedCharLoop}
use Rattle.regress_bounded.specs.declared.pending_stack.StackEntry.{StackEntry}
use Rattle.regress_bounded.specs.declared.pending_stack.StackEntry.TheVariants.{Thread as AsThread, Record as AsRecord}
use Rattle.regress_pikevm.specs.declared.pikevm.states.State.{State}
use Rattle.regress_pikevm.specs.States.{machine_state_of}
use Rattle.regress_bounded.specs.BoundedState.{IsSoundMemo, IsMemoRight, IsStackOfEntriesFromTop, IsStateAtUnboundedLoopOverInsn, ExitsArePending, ScansWithMemo, IsPositionAfterCharsOfClass}
use Rattle.regress_bounded.specs.WorkOfCharLoopsAndAttempts.{key_after_chars, threads_after_chars, exits_with_records}
use Rattle.regress_bounded.proofs.LazyLoopTurnsAndResumption.{unbounded_loop-by}
use Rattle.regress_bounded.proofs.CharLoopProgress.{past-none, past-more, past-all}
use Rattle.regress_bounded.proofs.CharLoopWorkLemmas.{key-is}
use Rattle.regress_bounded.proofs.BoundedStateLemmas.{row-push}

-- ---- Characters

-- The next character passes and ends at a boundary.
pub record OneFurther {P : Type 0} (offset : P → ℕ) (text : Text) (at next : P) : Type 0 where
  pub boundary : IsBoundary text (offset next)
  pub more : offset at < offset next
  pub inside : offset next ≤ units text

module _ {P : Type 0} (offset : P → ℕ) (text : Text) (is : HasRisingPlaceOffsets text) where
  one-further : (test : ℕ → Bool) (at next : P) (found : Bool) → IsBoundary text (offset at) → found ≡ true → end_if_matched found (offset next) ≡ past_if text test rightwards (offset at)
      → OneFurther offset text at next
  one-further test at next found h passes led =
      let p = IsBoundary-place text (offset at) is h in
      let on = past-more offset text is rightwards test p.0 0 at next found (past-none offset text is rightwards test p.0 at p.1) passes led in
      let less = offset-less text p.0 (p.0 + 1) is (omega arith) on.within in
      let le = offset-le text (p.0 + 1) (last_place text) is on.within (omega arith) in
      let e = p.2 in
      let f : offset next ≡ text_offset text (p.0 + 1) = on.at in
      record {
        boundary = subst (IsBoundary text) (sym f) (boundary-of (p.0 + 1) on.within);
        more = omega (arith, less, e, f);
        inside = omega (arith, le, f);
      }
    where
      boundary-of : (q : ℕ) → q ≤ last_place text → IsBoundary text (text_offset text q)
      boundary-of q le = offset-IsBoundary text q is le

  -- The next character passes, for any test.
  pub further-by : {tests : Option (ℕ → Bool)} → IsSome tests → (at next : P) (found : Bool) → IsBoundary text (offset at) → found ≡ true
      → ((test : ℕ → Bool) → tests ≡ Some test → end_if_matched found (offset next) ≡ past_if text test rightwards (offset at)) → OneFurther offset text at next
  further-by {tests} some at next found h passes led = let t = some-of tests some in one-further t.0 at next found h passes (led t.0 t.1)

  -- The number of characters passed is at most the offset behind them.
  pub past-few : (test : ℕ → Bool) (place count : ℕ) (at : P) → IsPositionAfterCharsOfClass offset text rightwards test place count at → count ≤ offset at
  past-few test place count at h =
      let few : place + count ≤ text_offset text (place + count) = places-few text is (place + count) h.within in
      let e : offset at ≡ text_offset text (place + count) = h.at in
      omega (arith, few, e)

-- All characters up to a position pass, and the exits before it wait.
pub record Furthest {P : Type 0} (offset : P → ℕ) (program : Program) (text : Text) (m : MemoView) (s : machine.State) (least : ℕ) (test : ℕ → Bool) (place : ℕ)
    (old new : List (StackEntry P)) (at : P) (n : ℕ) : Type 0 where
  pub past : IsPositionAfterCharsOfClass offset text rightwards test place n at
  pub wait : ExitsArePending offset program text m.memo_analysis (has_failure m) test place s least old new n

-- The same holds for any test and from any place where the loop may begin.
pub record HasGoneOver {P : Type 0} (offset : P → ℕ) (program : Program) (text : Text) (m : MemoView) (s : machine.State) (tests : Option (ℕ → Bool)) (least : ℕ) (from : P)
    (left : ℕ) (old new : List (StackEntry P)) (at : P) (n : ℕ) : Type 0 where
  pub boundary : IsBoundary text (offset at)
  pub few : n ≤ offset at
  pub paid : n ≤ left
  pub going : (test : ℕ → Bool) (place : ℕ) → tests ≡ Some test → IsPositionAfterCharsOfClass offset text rightwards test place least from → Furthest offset program text m s least test place old new at n

-- ---- Keys

-- Keys with equal addresses, offsets and codes are equal.
pub same-keys : (j k : Key) → j.ip ≡ k.ip → j.at ≡ k.at → j.code ≡ k.code → j ≡ k
same-keys j k ip at code =
    let a : j ≡ record { ip = k.ip; at = j.at; code = j.code } = ap (λ n. record { ip = n; at = j.at; code = j.code }) ip in
    let b : record { ip = k.ip; at = j.at; code = j.code } ≡ record { ip = k.ip; at = k.at; code = j.code } = ap (λ n. record { ip = k.ip; at = n; code = j.code }) at in
    let c : record { ip = k.ip; at = k.at; code = j.code } ≡ k = ap (λ n. record { ip = k.ip; at = k.at; code = n }) code in
    a ∙ b ∙ c

module _ {P : Type 0} {offset : P → ℕ} {program : Program} {text : Text} {run : UnboundedCharLoop} (state : State P) (here : IsStateAtUnboundedLoopOverInsn offset program text run true (machine_state_of offset state)) where
  abbrev s : machine.State
  s = machine_state_of offset state

  module _ {m : MemoView} (knows : IsMemoRight program text m) where
    abbrev key-of : (test : ℕ → Bool) (place n : ℕ) → Key
    key-of test place n = key_after_chars program text m.memo_analysis rightwards test place s n

    -- The state at the loop's body has the key of the exit's place.
    key-there : IsSoundMemo program text m → (test : ℕ → Bool) → test_of program (Some (insn_as_spec_insn run.body)) ≡ Some test → (place n : ℕ)
        → memo_key_at m.memo_analysis (record s { ip = s.ip + 1; pos = text_offset text (moved text rightwards n place) }) ≡ Some (key-of test place n)
    key-there r test e place n =
        let d = insn_direction m.memo_analysis s.ip in
        let q = moved text rightwards n place in
        let zero_on : moved text d 0 q ≡ q = moved-zero text d q in
        let its : (x y : ℕ) → Key = λ x y. record {
          ip = s.ip + 1;
          at = text_offset text x;
          code = plan_code (key_code_questions_of m.memo_analysis) (record s { ip = s.ip + 2; pos = text_offset text y });
        } in
        let is : memo_key_at m.memo_analysis (record s { ip = s.ip + 1; pos = text_offset text (moved text d 0 q) }) ≡ Some (its (moved text d 0 q) (moved text d 0 (moved text d 0 q))) =
        key-is program m.memo_analysis r.paid.memo_analysis r.paid.bounded text r.paid.is_text r.paid.bytes r.paid.short d s test run.least true (unbounded_loop-by here test e) refl q 0 in
        let there : memo_key_at m.memo_analysis (record s { ip = s.ip + 1; pos = text_offset text q }) ≡ Some (its q (moved text d 0 q)) =
        subst (λ x. memo_key_at m.memo_analysis (record s { ip = s.ip + 1; pos = text_offset text x }) ≡ Some (its x (moved text d 0 x))) zero_on is in
        there ∙ ap (λ y. Some (its q y)) (zero_on ∙ sym (moved-zero text rightwards q))

    -- A key that is found is the key of the exit's place.
    pub key-found : (test : ℕ → Bool) → test_of program (Some (insn_as_spec_insn run.body)) ≡ Some test → (place n at : ℕ) (found : Option Stored) (key : Stored) → found ≡ Some key
        → option_map memo_key_as_spec found ≡ memo_key_at m.memo_analysis (record s { ip = s.ip + 1; pos = at }) → at ≡ text_offset text (moved text rightwards n place) → memo_key_as_spec key ≡ key-of test place n
    key-found test e place n at found key is_key told same =
        same-keys (memo_key_as_spec key) (key-of test place n) (∥∥₁_elim knows (Prim.hlevel props) (λ r. ap (λ (k : Key). k.ip) (from r)))
        (∥∥₁_elim knows (Prim.hlevel props) (λ r. ap (λ (k : Key). k.at) (from r)))
        (∥∥₁_elim knows (Prim.hlevel props) (λ r. ap (λ (k : Key). k.code) (from r)))
      where
        from : IsSoundMemo program text m → memo_key_as_spec key ≡ key-of test place n
        from r = some-same _ _ (sym (ap (option_map memo_key_as_spec) is_key) ∙ told ∙ ap (λ x. memo_key_at m.memo_analysis (record s { ip = s.ip + 1; pos = x })) same ∙ key-there r test e place n)

    -- An exit at a boundary has a key.
    pub key-some : (test : ℕ → Bool) → test_of program (Some (insn_as_spec_insn run.body)) ≡ Some test → HasRisingPlaceOffsets text → (at : ℕ) → IsBoundary text at → (found : Option Stored) → found ≡ None
        → option_map memo_key_as_spec found ≡ memo_key_at m.memo_analysis (record s { ip = s.ip + 1; pos = at }) → ⊥
    key-some test e is at h found none told = ∥∥₁_elim knows (Prim.hlevel props) (λ r. never r)
      where
        p : (p : ℕ) × (place_at text at ≡ Some p) × (text_offset text p ≡ at) × (p ≤ last_place text)
        p = IsBoundary-place text at is h

        never : IsSoundMemo program text m → ⊥
        never r =
            let same : at ≡ text_offset text (moved text rightwards 0 p.0) = sym p.2 ∙ ap (text_offset text) (sym (moved-zero text rightwards p.0)) in
            let no : None ≡ Some (key-of test p.0 0) = sym (ap (option_map memo_key_as_spec) none) ∙ told ∙ ap (λ x. memo_key_at m.memo_analysis (record s { ip = s.ip + 1; pos = x })) same ∙ key-there r test e p.0 0 in
            let never : ⊥ = cc in never

    -- The memo table has a bit for the place.
    pub place-kept : (at : ℕ) → at ≤ units text → at < m.places
    place-kept at le = ∥∥₁_elim knows (Prim.hlevel props) (λ r. let e = r.is_true.places in omega (arith, le, e))

    -- ---- Places

    abbrev Goes : (test : ℕ → Bool) (place : ℕ) (old new : List (StackEntry P)) (at : P) (n : ℕ) → Type 0
    Goes test place old new at n = Furthest offset program text m s run.least test place old new at n

    abbrev places-row : (test : ℕ → Bool) (place count : ℕ) → List Entry
    places-row test place count = exits_with_records program text m.memo_analysis rightwards test place s run.least count

    -- No exit waits behind the required characters.
    pub furthest-none : (test : ℕ → Bool) (place : ℕ) (old : List (StackEntry P)) (from : P) → IsPositionAfterCharsOfClass offset text rightwards test place run.least from → Goes test place old old from run.least
    furthest-none test place old from h =
        let none : run.least - run.least ≡ 0 = omega arith in
        let sum = h.sum in
        record {
          past = h;
          wait = record {
            enough = omega arith;
            pass = omega (arith, sum);
            unknown = λ m le less. absurd (omega (arith, le, less));
            rows = λ row r. subst (λ count. IsStackOfEntriesFromTop offset program text old (places-row test place count ++ row)) (sym none) r;
          };
        }

    -- If the key of a place is known to fail, the scan ends there.
    pub furthest-known : (test : ℕ → Bool) → test_of program (Some (insn_as_spec_insn run.body)) ≡ Some test → (place : ℕ) (old mid : List (StackEntry P)) (at : P) (n : ℕ)
        (found : Option Stored) (key : Stored) → found ≡ Some key → option_map memo_key_as_spec found ≡ memo_key_at m.memo_analysis (record s { ip = s.ip + 1; pos = offset at }) → Goes test place old mid at n
        → has_failure m (memo_key_as_spec key) ≡ true → (left : ℕ) → ScansWithMemo offset program text m.memo_analysis (has_failure m) test place s run.least left old mid (None, n)
    furthest-known test e place old mid at n found key is_key told h known left =
        (h.wait, inl (subst (λ k. has_failure m k ≡ true) (key-found test e place n (offset at) found key is_key told h.past.at) known))

    module _ (test : ℕ → Bool) (e : test_of program (Some (insn_as_spec_insn run.body)) ≡ Some test) (place : ℕ) (old mid : List (StackEntry P)) (at : P) (n : ℕ)
        (found : Option Stored) (key : Stored) (is_key : found ≡ Some key) (told : option_map memo_key_as_spec found ≡ memo_key_at m.memo_analysis (record s { ip = s.ip + 1; pos = offset at })) (h : Goes test place old mid at n) (unknown : has_failure m (memo_key_as_spec key) ≡ false)
        (there : State P) (is_there : machine_state_of offset there ≡ state_after_char_loop_to_offset (offset at) s) where
      its-key : memo_key_as_spec key ≡ key-of test place n
      its-key = key-found test e place n (offset at) found key is_key told h.past.at

      place-behind : machine_state_of offset there ≡ behind text rightwards place s n
      place-behind = is_there ∙ ap (λ x. state_after_char_loop_to_offset x s) h.past.at

      more-unknown : (j : ℕ) → run.least ≤ j → j < n + 1 → has_failure m (key-of test place j) ≡ false
      more-unknown j le less = elim (cases_lt j n) [
        | inl nearer ↦ h.wait.unknown j le nearer
        | inr past ↦
            let same : n ≡ j = omega (arith, past, less) in
            subst (λ i. has_failure m (key-of test place i) ≡ false) same (subst (λ k. has_failure m k ≡ false) its-key unknown)
      ]

      abbrev recorded-row : Entry
      recorded-row = key_record (key-of test place n) (threads_after_chars program text m.memo_analysis rightwards test place s n)

      with-record : (row : List Entry) → IsStackOfEntriesFromTop offset program text old row
          → IsStackOfEntriesFromTop offset program text (mid ++ AsRecord key ∷ []) (recorded-row ∷ places-row test place (n - run.least) ++ row)
      with-record row r =
          let threads = threads_after_chars program text m.memo_analysis rightwards test place s n in
          row-push offset program text mid (AsRecord key) recorded-row (places-row test place (n - run.least) ++ row)
          (record { threads = threads; is = ap (λ k. key_record k threads) (sym its-key) }) (h.wait.rows row r)

      -- If the next character does not pass, the place is the last exit.
      pub furthest-all : (next : P) (passes : Bool) → HasRisingPlaceOffsets text → passes ≡ false → end_if_matched passes (offset next) ≡ past_if text test rightwards (offset at) → (new : List (StackEntry P))
          → new ≡ mid ++ AsRecord key ∷ [] → (left : ℕ) → ScansWithMemo offset program text m.memo_analysis (has_failure m) test place s run.least left old new (Some there, n)
      furthest-all next passes is_text fails led new same left =
          let sum = h.past.sum in
          let none = past-all offset text is_text rightwards test place n at (offset next) passes h.past fails led in
          record {
            enough = h.wait.enough;
            all = omega (arith, sum, none);
            unknown = more-unknown;
            is_here = place-behind;
            rows = λ row r. subst (λ xs. IsStackOfEntriesFromTop offset program text xs (recorded-row ∷ places-row test place (n - run.least) ++ row)) (sym same) (with-record row r);
          }

      -- If the next character passes, the place waits and the scan goes on from the next one.
      pub furthest-more : (next : P) (passes : Bool) → HasRisingPlaceOffsets text → passes ≡ true → end_if_matched passes (offset next) ≡ past_if text test rightwards (offset at) → (new : List (StackEntry P))
          → new ≡ (mid ++ AsRecord key ∷ []) ++ AsThread there ∷ [] → Goes test place old new next (n + 1)
      furthest-more next passes is_text on_it led new same =
          let on = past-more offset text is_text rightwards test place n at next passes h.past on_it led in
          let le = h.wait.enough in
          let sum = on.sum in
          let count : n + 1 - run.least ≡ suc (n - run.least) = omega (arith, le) in
          let last : n ≡ run.least + (n - run.least) = omega (arith, le) in
          record {
            past = on;
            wait = record {
              enough = omega (arith, le);
              pass = omega (arith, sum);
              unknown = more-unknown;
              rows = λ row r.
                  let both : IsStackOfEntriesFromTop offset program text ((mid ++ AsRecord key ∷ []) ++ AsThread there ∷ [])
                  (one_thread (waiting (behind text rightwards place s n)) ∷ recorded-row ∷ places-row test place (n - run.least) ++ row) =
                  row-push offset program text (mid ++ AsRecord key ∷ []) (AsThread there) (one_thread (waiting (behind text rightwards place s n)))
                  (recorded-row ∷ places-row test place (n - run.least) ++ row) (ap (λ u. one_thread (waiting u)) (sym place-behind)) (with-record row r) in
                  let placed : IsStackOfEntriesFromTop offset program text ((mid ++ AsRecord key ∷ []) ++ AsThread there ∷ []) (places-row test place (suc (n - run.least)) ++ row) =
                  subst (λ i. IsStackOfEntriesFromTop offset program text ((mid ++ AsRecord key ∷ []) ++ AsThread there ∷ [])
                  (one_thread (waiting (behind text rightwards place s i)) ∷ key_record (key-of test place i) (threads_after_chars program text m.memo_analysis rightwards test place s i)
                  ∷ places-row test place (n - run.least) ++ row)) last both in
                  let counted : IsStackOfEntriesFromTop offset program text ((mid ++ AsRecord key ∷ []) ++ AsThread there ∷ []) (places-row test place (n + 1 - run.least) ++ row) =
                  subst (λ i. IsStackOfEntriesFromTop offset program text ((mid ++ AsRecord key ∷ []) ++ AsThread there ∷ []) (places-row test place i ++ row)) (sym count) placed in
                  subst (λ xs. IsStackOfEntriesFromTop offset program text xs (places-row test place (n + 1 - run.least) ++ row)) (sym same) counted;
            };
          }
