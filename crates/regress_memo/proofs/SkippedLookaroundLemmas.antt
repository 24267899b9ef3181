-- Available states stay equivalent to those of the machine after lookarounds that are not searched.
use Rattle.std.proofs.Common.{◌≡◌, ◌≤◌, ℕ, ◌+◌, ◌*◌, min, List, [], ◌∷◌, Option, Some, None, Bool, true, false, not, ◌&&◌, refl, ap, ap₂, ◌∙◌, sym, subst, arith, slice_get, length}
use Rattle.std.specs.Prelude.{IsSome, ◌==◌, option_map, unwrap_or}
use mathlib.Core.Logic.{inl, inr}
use Rattle.regex_meaning.specs.Text.{Text, Direction, rightwards, leftwards}
use Rattle.regex_meaning.specs.CodeUnitOffsets.{units}
use Rattle.regex_meaning.specs.CompilationRelation.{Program, Insn, Lookahead, Lookbehind}
use Rattle.regex_meaning.proofs.OptionLemmas.{some-same}
use Rattle.regress_machine.specs.Machine.{LoopData, State, Thread, running, waiting, asks, Found, after_lookaround, state_with_ip, state_at_next_ip, act_on, act, search, Next, goes, scans, ends}
use Rattle.regress_machine.specs.Machine.{stuck}
use Rattle.regress_machine.proofs.MachineSearchLemmas.{asked-inner}
use Rattle.regress_machine.specs.ThreadSimulation.{Simulates}
use Rattle.regress_machine.proofs.ThreadSimulationLemmas.{simulates-asks, simulates-fewer}
use Rattle.regress_memo.specs.ThreadBisimulation.{AlikeThreads, AlikeEnds, AlikeAnswers, AlikeNext}
use Rattle.regress_memo.specs.Liveness.{Liveness, World, IsConsistentLookaround, IsSoundLivenessAt, SimilarAt, IsKeptIn, Agree, IsLivenessFor}
use Rattle.regress_memo.specs.GroupPreservingInsns.{SameGroups}
use Rattle.regress_memo.specs.DistinctLists.{IsIn}
use Rattle.regress_memo.specs.ThreadPotentials.{Shape, stands_there, has_shape}
use Rattle.regress_memo.specs.LoopDataKeyCodes.{Question, is_empty, how_many, number_of_possible_answers, bool_as_digit, answer_to_loop_question, code_of, plan_code}
use Rattle.regress_memo.specs.SkippedLookarounds.{LookaroundInsn, lookaround_at, AgreesWithStateAfterLookaround, SuccessGoesOn, TurnsAtHand, AsksOnly, ThreadsStayEquivalent}
use Rattle.regress_memo.proofs.LivenessLemmas.{agree-of, agree-here, agree-inside, contents-world, agree-kept, threads-alike}
use Rattle.regress_memo.proofs.GroupPreservingInsnLemmas.{groups-stay}

-- ---- Lookarounds

module _ (program : Program) (text : Text) (a : Liveness) (d : Direction) (s : State) (look : LookaroundInsn) where
  looks-there : (o : Option Insn) → lookaround_at o ≡ Some look → IsSoundLivenessAt a (units text) program o s.ip → IsConsistentLookaround a s.ip look.continuation
  looks-there (Some (Lookahead negate start_group end_group continuation)) e r =
      subst (λ (x : LookaroundInsn). IsConsistentLookaround a s.ip x.continuation) (some-same (record { inner = rightwards; negate = negate; continuation = continuation }) look e) r
  looks-there (Some (Lookbehind negate start_group end_group continuation)) e r =
      subst (λ (x : LookaroundInsn). IsConsistentLookaround a s.ip x.continuation) (some-same (record { inner = leftwards; negate = negate; continuation = continuation }) look e) r
  looks-there _ e r = cc

module _ (program : Program) (text : Text) (d : Direction) (s : State) (look : LookaroundInsn) where
  pub asks-there : (o : Option Insn) → lookaround_at o ≡ Some look → act_on program text d o s ≡ asks look.inner look.negate (state_at_next_ip s) (state_with_ip look.continuation s)
  asks-there (Some (Lookahead negate start_group end_group continuation)) e =
      ap (λ (x : LookaroundInsn). asks x.inner x.negate (state_at_next_ip s) (state_with_ip x.continuation s)) (some-same (record { inner = rightwards; negate = negate; continuation = continuation }) look e)
  asks-there (Some (Lookbehind negate start_group end_group continuation)) e =
      ap (λ (x : LookaroundInsn). asks x.inner x.negate (state_at_next_ip s) (state_with_ip x.continuation s)) (some-same (record { inner = leftwards; negate = negate; continuation = continuation }) look e)
  asks-there _ e = cc

-- ---- States behind a lookaround's contents

module _ (program : Program) (text : Text) (a : Liveness) (acc : IsLivenessFor program text a) (w : World) (d : Direction) (s : State) (g : Agree a (units text) w d s s)
    (continuation : ℕ) (looks : IsConsistentLookaround a s.ip continuation) (inner : Direction) where
  abbrev inner-world : World
  inner-world = contents-world a (units text) w d s s g continuation

  -- The end of a search of a lookaround's contents agrees with itself.
  end-sound : (turns : ℕ) (f : Found) (e : State) → search program text turns inner (running (state_at_next_ip s) ∷ []) ≡ Some f → f.end ≡ Some e
      → Agree a (units text) inner-world inner e e
  end-sound turns f e searches ended =
      let both = threads-alike program text a acc turns inner-world inner (running (state_at_next_ip s) ∷ []) (running (state_at_next_ip s) ∷ [])
      (agree-inside a (units text) w d s s g continuation looks inner, tt) in
      let found = subst (λ o. AlikeAnswers (Agree a (units text) inner-world inner) o o) searches both in
      subst (λ o. AlikeEnds (Agree a (units text) inner-world inner) o o) ended found.ends

  behind-agrees : (e : State) → SameGroups e (state_at_next_ip s) → Agree a (units text) inner-world inner e e
      → Agree a (units text) w d (state_with_ip continuation s) (record e { ip = continuation; pos = s.pos })
  behind-agrees e same sound =
      agree-of a (units text) _ _ _ _ refl refl g.within (sym (ap length same.groups)) (λ h. sym same.groups) (sym (ap length same.starts))
      (λ id h. ap (λ xs. slice_get xs id) (sym same.starts)) (sym same.loops)
      (λ l h. subst (λ o. SimilarAt a (units text) d s.pos continuation l (slice_get s.loops l) o) (sym (unwritten l (looks.left l h))) (here.loops l h))
      (λ l h. still l (here.kept l h) (g.kept l h))
    where
      here : Agree a (units text) w d (state_with_ip continuation s) (record s { ip = continuation; pos = s.pos })
      here = agree-here a (units text) w d s s g continuation looks.on

      unwritten : (l : ℕ) → a.writes (s.ip + 1) l ≡ false → slice_get e.loops l ≡ slice_get s.loops l
      unwritten l h = let k = sound.kept l (ap not h) in k.left

      still : (l : ℕ) → IsKeptIn a (units text) w (state_with_ip continuation s) (record s { ip = continuation; pos = s.pos }) l → IsKeptIn a (units text) w s s l
          → IsKeptIn a (units text) w (state_with_ip continuation s) (record e { ip = continuation; pos = s.pos }) l
      still l k before = record { left = k.left; right = unwritten l (looks.writes l before.writes) ∙ k.right; writes = k.writes }

success-goes-on : (program : Program) (text : Text) (a : Liveness) → SuccessGoesOn program text a
success-goes-on program text a acc silent are w d s look is positive quiet g found turns vs f e =
    let looks = looks-there program text a d s look (slice_get program.insns s.ip) is (acc.right.right s.ip) in
    let asked = asks-there program text d s look (slice_get program.insns s.ip) is
    ∙ ap (λ b. asks look.inner b (state_at_next_ip s) (state_with_ip look.continuation s)) positive in
    let x = asked-inner program text turns d look.inner false s (state_at_next_ip s) (state_with_ip look.continuation s) vs f asked e in
    by looks asked x.found.end turns x.found x.searches refl (found turns x.found x.searches)
  where
    by : IsConsistentLookaround a s.ip look.continuation → act program text d s ≡ asks look.inner false (state_at_next_ip s) (state_with_ip look.continuation s)
        → (end : Option State) (n : ℕ) (h : Found) → search program text n look.inner (running (state_at_next_ip s) ∷ []) ≡ Some h → h.end ≡ end → IsSome h.end
        → AgreesWithStateAfterLookaround program text a w d (state_with_ip look.continuation s) s
    by looks asked None n h searches ended some = absurd (none h.end ended some)
      where
        none : (o : Option State) → o ≡ None → IsSome o → ⊥
        none None e i = cc
        none (Some x) e i = cc
    by looks asked (Some u) n h searches ended some = record {
      behind = record u { ip = look.continuation; pos = s.pos };
      agrees = behind-agrees program text a acc w d s g look.continuation looks look.inner u
          (groups-stay program text silent are look.inner n (state_at_next_ip s) u h quiet searches ended)
          (end-sound program text a acc w d s g look.continuation looks look.inner n h u searches ended);
      simulates = subst (λ o. Simulates program text false d 1 (after_lookaround false (state_with_ip look.continuation s) o) (running s ∷ [])) ended
          (simulates-fewer program text d 1 (1 + h.steps) (after_lookaround false (state_with_ip look.continuation s) h.end) (running s ∷ []) (omega arith)
          (simulates-asks program text false d look.inner false s (state_at_next_ip s) (state_with_ip look.continuation s) n h asked searches));
    }

-- ---- Steps that skip lookarounds

module _ (program : Program) (text : Text) (a : Liveness) (acc : IsLivenessFor program text a) (w : World) (d : Direction) (s t : State) (g : Agree a (units text) w d s t) where
  abbrev Turns : Next → Next → Type 0
  Turns x y = AlikeNext (λ w d. Agree a (units text) w d) w d x y

  both-turn : (x : Next) → act program text d s ≡ x → Turns x (act program text d t)
  both-turn x e = subst (λ x. Turns x (act program text d t)) e ((agree-kept program text a acc).kept w d s t g)

  goes-too : (ts : List Thread) (y : Next) → act program text d t ≡ y → Turns (goes ts) y
      → (us : List Thread) × (act program text d t ≡ goes us) × AlikeThreads (Agree a (units text) w d) ts us
  goes-too ts (goes us) e h = (us, e, h)
  goes-too ts (scans n us) e h = absurd h
  goes-too ts (ends u) e h = absurd h
  goes-too ts (asks inner negate u v) e h = absurd h
  goes-too ts stuck e h = absurd h

  scans-too : (n : ℕ) (ts : List Thread) (y : Next) → act program text d t ≡ y → Turns (scans n ts) y
      → (us : List Thread) × (act program text d t ≡ scans n us) × AlikeThreads (Agree a (units text) w d) ts us
  scans-too n ts (goes us) e h = absurd h
  scans-too n ts (scans m us) e h = (us, e ∙ ap (λ k. scans k us) (sym h.0), h.1)
  scans-too n ts (ends u) e h = absurd h
  scans-too n ts (asks inner negate u v) e h = absurd h
  scans-too n ts stuck e h = absurd h

  ends-too : (u : State) (y : Next) → act program text d t ≡ y → Turns (ends u) y
      → (f : State) × (act program text d t ≡ ends f) × (u.pos ≡ f.pos) × (a.groups ≡ true → u.groups ≡ f.groups)
  ends-too u (goes us) e h = absurd h
  ends-too u (scans n us) e h = absurd h
  ends-too u (ends f) e h = (f, e, h.pos, h.groups)
  ends-too u (asks inner negate v x) e h = absurd h
  ends-too u stuck e h = absurd h

  turns-at-hand : TurnsAtHand program text a w d s t
  turns-at-hand = record {
    goes = λ ts e. goes-too ts (act program text d t) refl (both-turn (goes ts) e);
    scans = λ n ts e. scans-too n ts (act program text d t) refl (both-turn (scans n ts) e);
    ends = λ u e. ends-too u (act program text d t) refl (both-turn (ends u) e);
  }

-- ---- Known keys

module _ (program : Program) (text : Text) (a : Liveness) (questions : ℕ → List Question) (only : AsksOnly questions a) (w : World) (d : Direction) where
  abbrev Agreeing : State → State → Type 0
  Agreeing s t = Agree a (units text) w d s t

  empty-agrees : (pos ip l : ℕ) (o r : Option LoopData) → SimilarAt a (units text) d pos ip l o r → a.empty ip l ≡ true
      → unwrap_or (option_map (λ (x : LoopData). bool_as_digit (x.entry == pos)) o) 0 ≡ unwrap_or (option_map (λ (x : LoopData). bool_as_digit (x.entry == pos)) r) 0
  empty-agrees pos ip l None None h asked = refl
  empty-agrees pos ip l (Some x) (Some y) h asked = ap bool_as_digit (h.empty asked)
  empty-agrees pos ip l None (Some y) h asked = absurd h
  empty-agrees pos ip l (Some x) None h asked = absurd h

  fewer-agree : (j k most n : ℕ) → min j n ≡ min k n → most ≤ n → min j most ≡ min k most
  fewer-agree j k most n e le = omega (arith, e, le)

  count-agrees : (pos ip l most : ℕ) (o r : Option LoopData) → SimilarAt a (units text) d pos ip l o r → most ≤ a.up_to l
      → unwrap_or (option_map (λ (x : LoopData). min x.iters most) o) 0 ≡ unwrap_or (option_map (λ (x : LoopData). min x.iters most) r) 0
  count-agrees pos ip l most None None h le = refl
  count-agrees pos ip l most (Some x) (Some y) h le = fewer-agree x.iters y.iters most (a.up_to l) h.count le
  count-agrees pos ip l most None (Some y) h le = absurd h
  count-agrees pos ip l most (Some x) None h le = absurd h

  answer-agrees : (s t : State) → Agreeing s t → (q : Question) → IsIn q (questions s.ip) → answer_to_loop_question q s ≡ answer_to_loop_question q t
  answer-agrees s t g (is_empty l) h =
      let asked = (only.only s.ip).empty l h in
      empty-agrees s.pos s.ip l (slice_get s.loops l) (slice_get t.loops l) (g.loops l asked.0) asked.1
      ∙ ap (λ p. unwrap_or (option_map (λ (x : LoopData). bool_as_digit (x.entry == p)) (slice_get t.loops l)) 0) g.pos
  answer-agrees s t g (how_many l most) h =
      let asked = (only.only s.ip).count l most h in
      count-agrees s.pos s.ip l most (slice_get s.loops l) (slice_get t.loops l) (g.loops l asked.0) asked.1

  codes-agree : (s t : State) → (qs : List Question) → ((q : Question) → IsIn q qs → answer_to_loop_question q s ≡ answer_to_loop_question q t) → code_of qs s ≡ code_of qs t
  codes-agree s t [] h = refl
  codes-agree s t (q ∷ qs) h = ap₂ (λ m n. m + number_of_possible_answers q * n) (h q (inl refl)) (codes-agree s t qs (λ p there. h p (inr there)))

  code-agrees : (s t : State) → Agreeing s t → plan_code questions s ≡ plan_code questions t
  code-agrees s t g = codes-agree s t (questions s.ip) (answer-agrees s t g) ∙ ap (λ i. code_of (questions i) t) g.ip

  both-and : (b c e f : Bool) → b ≡ c → e ≡ f → (b && e) ≡ (c && f)
  both-and b c e f p q = ap₂ (λ x y. x && y) p q

  stands-agree : (x : Shape) (s t : State) → Agreeing s t → stands_there program (plan_code questions) x s ≡ stands_there program (plan_code questions) x t
  stands-agree x s t g =
      both-and _ _ _ _ (ap (λ n. n == x.ip) g.ip) (both-and _ _ _ _ (ap (λ n. n == x.pos) g.pos) (both-and _ _ _ _ (ap (λ n. n == x.code) (code-agrees s t g))
      (both-and _ _ _ _ (ap (λ n. n == program.groups) g.as_many_groups)
      (both-and _ _ _ _ (ap (λ n. n == program.groups) g.as_many_starts) (ap (λ n. n == program.loops) g.as_many_loops)))))

  shapes-agree : (xs : List Shape) (ts us : List Thread) → AlikeThreads Agreeing ts us
      → has_shape program (plan_code questions) xs ts ≡ has_shape program (plan_code questions) xs us
  shapes-agree [] [] [] h = refl
  shapes-agree (x ∷ xs) [] [] h = refl
  shapes-agree [] (t ∷ ts) (u ∷ us) h = refl
  shapes-agree (x ∷ xs) (running s ∷ ts) (running t ∷ us) h = ap (λ b. x.runs && b) (both-and _ _ _ _ (stands-agree x s t h.0) (shapes-agree xs ts us h.1))
  shapes-agree (x ∷ xs) (waiting s ∷ ts) (waiting t ∷ us) h = ap (λ b. not x.runs && b) (both-and _ _ _ _ (stands-agree x s t h.0) (shapes-agree xs ts us h.1))
  shapes-agree xs (running s ∷ ts) (waiting t ∷ us) h = absurd h.0
  shapes-agree xs (waiting s ∷ ts) (running t ∷ us) h = absurd h.0
  shapes-agree xs [] (u ∷ us) h = absurd h
  shapes-agree xs (t ∷ ts) [] h = absurd h

pub rows-at-hand : ThreadsStayEquivalent
rows-at-hand = record {
  behind = success-goes-on;
  turns = agree-kept;
  turned = λ program text a acc w d s t g. turns-at-hand program text a acc w d s t g;
  keys = λ program text a questions only w d xs ts us h. shapes-agree program text a questions only w d xs ts us h;
}
