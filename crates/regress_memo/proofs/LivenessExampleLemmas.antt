-- The liveness analyses of `(?:ab)*c` and `(?:a*){2,}b` are sound, and have the stated codes and
-- costs.
use Rattle.std.proofs.Common.{◌≡◌, ◌<◌, ℕ, zero, suc, ◌≤◌, Bool, true, false, ◌&&◌, ◌+◌, ◌||◌, [], ◌∷◌, Some, refl, subst, sym, slice_get, arith}
use Rattle.std.specs.Prelude.{if◌then◌else◌, ◌==◌, IsTrue}
use mathlib.Core.Logic.{inl, inr}
use Rattle.std.proofs.lemmas.Bool.{eqb-true}
use Rattle.regex_meaning.specs.Tree.{Flags}
use Rattle.regex_meaning.specs.StartPredicate.{StartPredicate}
use Rattle.regex_meaning.specs.Text.{Text}
use Rattle.regex_meaning.specs.CodeUnitOffsets.{units}
use Rattle.regex_meaning.specs.CompilationRelation.{Insn, ByteSeq}
use Rattle.regex_meaning.proofs.BoolLemmas.{and-left, and-right}
use Rattle.regress_machine.specs.TextsForBytePrograms.{HasUtf8CharactersAndOffsets}
use Rattle.regress_machine.specs.InsnEffects.{is_byte_sequence_insn}
use Rattle.regress_memo.specs.Liveness.{IsConsistentEdge, IsConsistentPlainEdge, none, by_minimum, IsSoundLivenessAt, ReadsAsBytes}
use Rattle.regress_memo.specs.LoopDataKeyCodes.{Question, is_empty, how_many, AsksAll}
use Rattle.regress_memo.specs.LivenessExamples.{ab_loop_example_program, ab_loop_example_liveness, in_loop, two_required_program, twice_account, twice_questions, twice_at, twice_left, twice_weights}
use Rattle.regress_memo.specs.LivenessExamples.{TwiceIsRight, LivenessExamplesAreRight}
use Rattle.regress_memo.specs.ThreadPotentials.{CoversInsn, is_one_of}
use Rattle.regress_memo.specs.DistinctLists.{IsIn}

no : (b : Bool) → (b && false) ≡ true → {X : Type 0} → X
no b h = let f : false ≡ true = and-right b false h in cc

again-from : (ip : ℕ) → IsConsistentEdge ab_loop_example_liveness false (none ab_loop_example_liveness) (λ l. l == 0) ip 1
again-from ip = record {
  start = λ id h e. cc;
  inside = λ l h e. let yes = and-left (l == 0) true h in cc;
  moved = λ l h e r. no (l == 0) h;
  empty = λ l h e r. cc;
  fresh = λ l h. ends (l == 0);
  writes = λ l h. cc;
}
  where
    ends : (b : Bool) → (b && false) ≡ false
    ends true = refl
    ends false = refl

leave-from : (ip : ℕ) → IsConsistentPlainEdge ab_loop_example_liveness false ip 4
leave-from ip = record {
  start = λ id h e. cc;
  inside = λ l h e. no (l == 0) h;
  moved = λ l h e r. no (l == 0) h;
  empty = λ l h e r. cc;
  fresh = λ l h. cc;
  writes = λ l h. cc;
}

module _ (top most : ℕ) (flags : Flags) (start : StartPredicate) (less : top < most) where
  at : (ip : ℕ) → IsSoundLivenessAt ab_loop_example_liveness top (ab_loop_example_program most flags start) (slice_get (ab_loop_example_program most flags start).insns ip) ip
  at zero = record { again = again-from 0; leave = leave-from 0; writes = refl; few = λ h. cc }
  at (suc zero) = record { start = λ id h e. cc; inside = λ l h e. h; moved = λ l h e r. cc; empty = λ l h e r. cc; fresh = λ l h. cc; writes = λ l h. cc }
  at (suc (suc zero)) = record { start = λ id h e. cc; inside = λ l h e. h; moved = λ l h e r. cc; empty = λ l h e r. cc; fresh = λ l h. cc; writes = λ l h. cc }
  at (suc (suc (suc zero))) = record {
    enters = record { again = again-from 3; leave = leave-from 3; writes = refl; few = λ h. cc };
    inside = refl;
    empty = refl;
    decides = by_minimum (record { counted = refl; beyond = omega (arith, less) }) (omega arith);
  }
  at (suc (suc (suc (suc zero)))) = record { start = λ id h e. cc; inside = λ l h e. no (l == 0) h; moved = λ l h e r. cc; empty = λ l h e r. cc; fresh = λ l h. cc; writes = λ l h. cc }
  at (suc (suc (suc (suc (suc zero))))) = tt
  at (suc (suc (suc (suc (suc (suc ip)))))) = tt

-- ---- A loop of two iterations at least, which may be empty

asked-here : (b : Bool) → b ≡ true → (b || false) ≡ true
asked-here b h = rw h refl

again-twice : (ip : ℕ) → IsConsistentEdge twice_account false (none twice_account) (λ l. l == 0) ip 1
again-twice ip = record {
  start = λ id h e. cc;
  inside = λ l h e. let yes = and-left (l == 0) true h in cc;
  moved = λ l h e r. cc;
  empty = λ l h e r. let yes = and-left (l == 0) true h in cc;
  fresh = λ l h. refl;
  writes = λ l h. cc;
}

leave-twice : (ip : ℕ) (reads : Bool) → IsConsistentPlainEdge twice_account reads ip 4
leave-twice ip reads = record {
  start = λ id h e. cc;
  inside = λ l h e. no (l == 0) h;
  moved = λ l h e r. cc;
  empty = λ l h e r. no (l == 0) h;
  fresh = λ l h. cc;
  writes = λ l h. cc;
}

module _ (top most : ℕ) (flags : Flags) (start : StartPredicate) (less : top + 2 < most) where
  twice-at : (ip : ℕ) → IsSoundLivenessAt twice_account top (two_required_program most flags start) (slice_get (two_required_program most flags start).insns ip) ip
  twice-at zero = record { again = again-twice 0; leave = leave-twice 0 false; writes = refl; few = λ h. cc }
  twice-at (suc zero) = record { start = λ id h e. cc; inside = λ l h e. h; moved = λ l h e r. cc; empty = λ l h e r. asked-here _ h; fresh = λ l h. cc; writes = λ l h. cc }
  twice-at (suc (suc zero)) = record { start = λ id h e. cc; inside = λ l h e. h; moved = λ l h e r. cc; empty = λ l h e r. cc; fresh = λ l h. cc; writes = λ l h. cc }
  twice-at (suc (suc (suc zero))) = record {
    enters = record { again = again-twice 3; leave = leave-twice 3 false; writes = refl; few = λ h. cc };
    inside = refl;
    empty = refl;
    decides = by_minimum (record { counted = refl; beyond = omega (arith, less) }) (omega arith);
  }
  twice-at (suc (suc (suc (suc zero)))) = record { start = λ id h e. cc; inside = λ l h e. no (l == 0) h; moved = λ l h e r. cc; empty = λ l h e r. cc; fresh = λ l h. cc; writes = λ l h. cc }
  twice-at (suc (suc (suc (suc (suc zero))))) = tt
  twice-at (suc (suc (suc (suc (suc (suc ip)))))) = tt

among : (b : Bool) (l : ℕ) (q : ℕ → Question) → (l == 0) ≡ true → b ≡ true → IsIn (q 0) (is_empty 0 ∷ how_many 0 2 ∷ []) → IsIn (q l) (if b then is_empty 0 ∷ how_many 0 2 ∷ [] else [])
among true l q e h there = subst (λ i. IsIn (q i) (is_empty 0 ∷ how_many 0 2 ∷ [])) (sym (eqb-true l 0 e)) there
among false l q e h there = cc

both-true : (l : ℕ) → l ≡ 0 → ((l == 0) && true) ≡ true
both-true l e = rw e refl

only-empty : (b : Bool) (l : ℕ) → IsIn (is_empty l) (if b then is_empty 0 ∷ how_many 0 2 ∷ [] else []) → ((l == 0) && b) ≡ true
only-empty true l (inl e) = both-true l (let same : l ≡ 0 = cc in same)
only-empty true l (inr (inl e)) = cc
only-empty true l (inr (inr h)) = absurd h
only-empty false l h = absurd h

only-count : (b : Bool) (l most : ℕ) → IsIn (how_many l most) (if b then is_empty 0 ∷ how_many 0 2 ∷ [] else []) → (((l == 0) && b) ≡ true) × (most ≤ 2)
only-count true l most (inl e) = cc
only-count true l most (inr (inl e)) = let same : l ≡ 0 = cc in let two : most ≡ 2 = cc in (both-true l same, omega (arith, two))
only-count true l most (inr (inr h)) = absurd h
only-count false l most h = absurd h

twice-asks : AsksAll twice_questions twice_account
twice-asks = record {
  asks = λ ip. record {
    empty = λ l h e. among (in_loop ip) l (λ i. is_empty i) (and-left _ _ h) (and-right _ _ h) (inl refl);
    count = λ l h e. among (in_loop ip) l (λ i. how_many i 2) (and-left _ _ h) (and-right _ _ h) (inr (inl refl));
  };
}

-- Any text fits the literal bytes of `two_required_program`, which has none.
twice-bytes : (text : Text) (most : ℕ) (flags : Flags) (start : StartPredicate) → ReadsAsBytes (two_required_program most flags start) text
twice-bytes text most flags start ip x e literal = by ip x e literal
  where
    by : (ip : ℕ) (x : Insn) → slice_get (two_required_program most flags start).insns ip ≡ Some x → IsTrue (is_byte_sequence_insn x) → HasUtf8CharactersAndOffsets text
    by zero (ByteSeq bytes) e l = cc
    by (suc zero) (ByteSeq bytes) e l = cc
    by (suc (suc zero)) (ByteSeq bytes) e l = cc
    by (suc (suc (suc zero))) (ByteSeq bytes) e l = cc
    by (suc (suc (suc (suc zero)))) (ByteSeq bytes) e l = cc
    by (suc (suc (suc (suc (suc zero))))) (ByteSeq bytes) e l = cc
    by (suc (suc (suc (suc (suc (suc ip)))))) (ByteSeq bytes) e l = cc
    by ip _ e l = cc

module _ (most : ℕ) (flags : Flags) (start : StartPredicate) where
  twice-enough : (ip : ℕ) → CoversInsn twice_weights (two_required_program most flags start) (slice_get (two_required_program most flags start).insns ip) ip
  twice-enough zero = omega arith
  twice-enough (suc zero) = tt
  twice-enough (suc (suc zero)) = omega arith
  twice-enough (suc (suc (suc zero))) = omega arith
  twice-enough (suc (suc (suc (suc zero)))) = omega arith
  twice-enough (suc (suc (suc (suc (suc zero))))) = tt
  twice-enough (suc (suc (suc (suc (suc (suc ip)))))) = tt

  twice-recorded : (ip : ℕ) → is_one_of (2 ∷ 3 ∷ []) ip ≡ true → twice_left ip + 2 ≤ twice_at ip + 6
  twice-recorded zero h = omega arith
  twice-recorded (suc zero) h = omega arith
  twice-recorded (suc (suc zero)) h = omega arith
  twice-recorded (suc (suc (suc zero))) h = omega arith
  twice-recorded (suc (suc (suc (suc zero)))) h = omega arith
  twice-recorded (suc (suc (suc (suc (suc ip))))) h = omega arith

  it-records : true ≡ false → ⊥
  it-records h = cc

  twice-passed : (ip : ℕ) → is_one_of (2 ∷ 3 ∷ []) ip ≡ false → twice_left ip + 1 ≤ twice_at ip
  twice-passed zero h = omega arith
  twice-passed (suc zero) h = omega arith
  twice-passed (suc (suc zero)) h = absurd (it-records h)
  twice-passed (suc (suc (suc zero))) h = absurd (it-records h)
  twice-passed (suc (suc (suc (suc zero)))) h = omega arith
  twice-passed (suc (suc (suc (suc (suc ip))))) h = omega arith

twice-right : TwiceIsRight
twice-right = record {
  plan = λ text most flags start is less way ips taken. record {
    liveness = record { is_text = is; bytes = twice-bytes text most flags start; right = record { right = twice-at (units text) most flags start less } };
    no_groups = record { groups = refl; start = λ ip id. refl };
    asks = twice-asks;
  };
  paid = λ most flags start. record {
    enough = record { enough = twice-enough most flags start };
    recorded = twice-recorded most flags start;
    passed = twice-passed most flags start;
  };
  run_paid = λ most flags start. record { ready = omega arith; places = omega arith };
  right = λ top most flags start less. record { right = twice-at top most flags start less };
  no_groups = record { groups = refl; start = λ ip id. refl };
  asks = twice-asks;
  only = record {
    only = λ ip. record {
      empty = λ l h. let e = only-empty (in_loop ip) l h in (e, e);
      count = λ l most h. only-count (in_loop ip) l most h;
    };
  };
  codes = refl;
  one_code = refl;
  run = λ most flags start. record {
    run = refl;
    body = refl;
    goes = refl;
    records = refl;
    asks = refl;
    inside = λ l h. only-empty true l h;
  };
}

pub row-right : LivenessExamplesAreRight
row-right = record {
  right = λ top most flags start less. record { right = at top most flags start less };
  alone = record { no_groups = record { groups = refl; start = λ ip id. refl }; empty = λ ip l. refl; up_to = λ l. refl };
  twice = twice-right;
}
