-- A search keeps groups and loop data if none of its instructions can change them.
use Rattle.std.proofs.Common.{◌≡◌, ◌≤◌, ◌-◌, ℕ, Bool, true, false, ◌&&◌, List, [], ◌∷◌, length, take, drop, Some, refl, sym, ◌∙◌, ap, subst, arith, if◌then◌else◌}
use Rattle.std.specs.Prelude.{◌==◌, nat_lt, nat_le}
use mathlib.Core.Logic.{inl, inr}
use Rattle.std.specs.List.{slice_range}
use Rattle.std.proofs.lemmas.Bool.{cases_lt, and_parts, eqb-true, leb-true, lt-leb, lt-ltb, ltb-true}
use Rattle.std.proofs.lemmas.Option.{slice_get_past}
use Rattle.regex_meaning.specs.Text.{Text, Direction}
use Rattle.regex_meaning.specs.CodeUnitOffsets.{units}
use Rattle.regex_meaning.specs.CompilationRelation.{Program}
use Rattle.regress_machine.specs.Machine.{State, Found, running, search}
use Rattle.regress_memo.specs.Liveness.{Liveness, World, IsLivenessFor, Agree}
use Rattle.regress_memo.specs.ThreadBisimulation.{AlikeEnds, AlikeAnswers}
use Rattle.regress_memo.proofs.LivenessLemmas.{rows-alike}
use Rattle.regress_memo.proofs.GroupPreservingInsnLemmas.{groups-stay}
use Rattle.regress_memo.proofs.InsnsOutsideLoops.{outside-loops}
use Rattle.regress_memo.specs.declared.analysis_result.EnclosingLoop.{EnclosingLoop}
use Rattle.regress_memo.specs.declared.analysis_result.InsnAnalysis.{InsnAnalysis}
use Rattle.regress_memo.specs.declared.analysis_result.MemoAnalysis.{MemoAnalysis}
use Rattle.regress_memo.specs.AnalysisAsPotentials.{analysis_as_liveness, insn_analysis_of, enclosing_loops_of, rows_in, groups_stay_unchanged_from}
use Rattle.regress_memo.specs.CheckedAnalysis.{IsAnalysisOf}
use Rattle.regress_backtrack.specs.FailureMemo.{SearchKeepsState}
use Rattle.regress_backtrack.specs.FailuresInMemoTable.{keeps_state_from}
use Rattle.regress_backtrack.proofs.GroupChangeLists.{by-slots}

-- An empty range has no rows.
none-in : (rows : List EnclosingLoop) (line : InsnAnalysis) → line.first ≡ line.end → rows_in rows line ≡ []
none-in rows line e = by (nat_le line.first line.end && nat_le line.end (length rows))
  where
    empty : slice_range rows line.first line.end ≡ []
    empty = let none : line.end - line.first ≡ 0 = omega (arith, e) in ap (λ n. take n (drop line.first rows)) none

    by : (b : Bool) → (if b then slice_range rows line.first line.end else []) ≡ []
    by true = empty
    by false = refl

-- States with equal groups, starts and loops differ only in the address and the offset.
same-data : (s e : State) → e.groups ≡ s.groups → e.starts ≡ s.starts → e.loops ≡ s.loops → e ≡ record s { ip = e.ip; pos = e.pos }
same-data s e groups starts loops =
    ap (λ g. record e { groups = g }) groups
    ∙ ap (λ b. record e { groups = s.groups; starts = b }) starts
    ∙ ap (λ l. record e { groups = s.groups; starts = s.starts; loops = l }) loops

module _ (program : Program) (text : Text) (t : MemoAnalysis) (of : IsAnalysisOf program t) (liveness : IsLivenessFor program text (analysis_as_liveness t)) (s : State)
    (keeps : keeps_state_from t s.ip (length s.loops) ≡ true) (within : s.pos ≤ units text) where
  abbrev a : Liveness
  a = analysis_as_liveness t

  -- No loop is written in this world.
  abbrev unwritten : World
  unwritten = record { starts = λ id. false; kept = λ l. nat_lt l (length s.loops); left = s.loops; right = s.loops }

  abbrev line : InsnAnalysis
  line = insn_analysis_of t s.ip

  checks : (groups_stay_unchanged_from t s.ip ≡ true) × (((line.first == line.end) && nat_le (length s.loops) line.from) ≡ true)
  checks = and_parts (groups_stay_unchanged_from t s.ip) ((line.first == line.end) && nat_le (length s.loops) line.from) keeps

  loop-checks : ((line.first == line.end) ≡ true) × (nat_le (length s.loops) line.from ≡ true)
  loop-checks = and_parts (line.first == line.end) (nat_le (length s.loops) line.from) checks.1

  outside : enclosing_loops_of t s.ip ≡ []
  outside = none-in t.rows.items line (eqb-true line.first line.end loop-checks.0)

  most : length s.loops ≤ line.from
  most = leb-true (length s.loops) line.from loop-checks.1

  -- The state is sound in that world.
  sound : (d : Direction) → Agree a (units text) unwritten d s s
  sound d = record {
    ip = refl;
    pos = refl;
    within = within;
    as_many_groups = refl;
    groups = λ h. refl;
    as_many_starts = refl;
    starts = λ id h. refl;
    as_many_loops = refl;
    loops = λ l h. let none = outside-loops t s.ip outside l in cc;
    kept = λ l h.
        let less = ltb-true l (length s.loops) h in
        let many = most in
        record { left = refl; right = refl; writes = lt-leb line.from l (omega (arith, less, many)) };
  }

  -- The end state of a search is sound in that world.
  sound-end : (d : Direction) (turns : ℕ) (f : Found) (e : State) → search program text turns d (running s ∷ []) ≡ Some f → f.end ≡ Some e → Agree a (units text) unwritten d e e
  sound-end d turns f e searches ended =
      let both = rows-alike program text a liveness turns unwritten d (running s ∷ []) (running s ∷ []) (sound d, tt) in
      let found = subst (λ o. AlikeAnswers (Agree a (units text) unwritten d) o o) searches both in
      subst (λ o. AlikeEnds (Agree a (units text) unwritten d) o o) ended found.ends

  pub keeps-state : SearchKeepsState program text s
  keeps-state d turns f e searches ended =
      let same = groups-stay program text (groups_stay_unchanged_from t) of.silent d turns s e f checks.0 searches ended in
      let end = sound-end d turns f e searches ended in
      same-data s e same.groups same.starts
      (by-slots e.loops s.loops same.loops (λ l. elim (cases_lt l (length s.loops)) [
        | inl less ↦ (end.kept l (lt-ltb l (length s.loops) less)).left
        | inr past ↦ let many = same.loops in slice_get_past e.loops l (omega (arith, many, past)) ∙ sym (slice_get_past s.loops l past)
      ]))
