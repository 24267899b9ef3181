-- A leap that passes the check of a plan's operations is sound for the program.
use Rattle.std.proofs.Common.{◌≡◌, ◌<◌, ◌≤◌, ℕ, zero, suc, ◌+◌, ◌-◌, ◌/◌, ◌%◌, Bool, true, false, ◌||◌, Option, Some, None, List, [], ◌∷◌, length, slice_get, get_or, refl, ap, ◌∙◌, sym, subst, arith}
use Rattle.std.proofs.Common.{inl, inr, append-nil}
use mathlib.Core.Logic.{◌⊎◌}
use Rattle.std.specs.Prelude.{min, nat_le, if◌then◌else◌, slice_index_or}
use Rattle.std.specs.Char.{encode_utf8 as encode}
use Rattle.std.specs.List.{list_all}
use Rattle.std.proofs.lemmas.Bool.{cases_lt, lt-ltb, le-ltb, ltb-true, le-leb, eqb-true, and_from, or_right}
use Rattle.std.proofs.lemmas.Option.{slice_get_within}
use Rattle.regex_meaning.specs.CodeUnits.{Encoding, utf8, utf16, ucs2, code_units_of_character}
use Rattle.regex_meaning.specs.CompilationRelation.{Program, Insn, LoopFields}
use Rattle.regex_meaning.specs.CompilationRelation as layout
use Rattle.regex_meaning.proofs.FirstByteOfCharacter.{scalar-below}
use Rattle.regress_machine.specs.Machine.{test_of}
use Rattle.regress_machine.specs.FirstSetTables.{is_character_in_encoding}
use Rattle.regress_machine.proofs.GroupAndAssertionOutcomes.{slice_get_some}
use Rattle.regress_program.specs.InsnsAsSpec.{insn_as_spec_insn}
use Rattle.regress_program.specs.declared.leap.Leap.{Leap}
use Rattle.regress_program.specs.declared.char_class_tables.Class.{Class}
use Rattle.regress_program.specs.declared.first_set_type.FirstSet.{FirstSet}
use Rattle.regress_program.specs.declared.required_prefix_analysis.OpPrefixContribution.TheVariants as ahead
use Rattle.regress_program.specs.declared.ops.CharLoop as run
use Rattle.regress_program.specs.declared.ops.Op.{Op}
use Rattle.regress_program.specs.declared.ops.Op.TheVariants as op
use Rattle.regress_program.specs.declared.plan.Plan.{Plan}
use Rattle.regress_program.specs.TableKeysOfUnits.{key, is_16_bit_encoding, is_read_length_right, read_length_at_key, unit_table_of_set}
use Rattle.regress_program.specs.Plans.{IsClassRightForProgram, IsOpOf, reads_class_char, plan_bytes_in_span, IsCharLoopOf, HasCountedLoop}
use Rattle.regress_program.specs.PrefixesAndPrefilters.{PrefixAt}
use Rattle.regress_program.specs.RequiredPrefixAnalysis.{allows_only_key, units_allowed_by_first_set, AreOpsOfProgram, FollowsFromSuccessors}
use Rattle.regress_program.specs.LeapCertificates.{AcceptsOnlyPassedUnits, ReadsBytesOver, RepeatsLoop, InsnReachesGoal, CertifiesLeap}
use Rattle.regress_program.specs.Leaps.{is_goal_key, is_passed_key, leap_to_goal, AreHighKeysAlike}
use Rattle.regress_program.specs.LeapCertificatesOfPlans.{AreAllGoalKeys, PassesUnits, PassesReadLengths, PassesClass, ArrivesAtGoal, LoopStaysOnWay, OpReachesGoal, OpsOnWayReachGoal}
use Rattle.regress_program.proofs.TableKeysOfUnitsLemmas.{key_of_first, first-key-at, first-key-below, key-low}
use Rattle.regress_program.proofs.ClosedFirstSetsLemmas.{told-some}
use Rattle.regress_program.proofs.RequiredPrefixLemmas.{insn-of, less-prefix, units-there}
use Rattle.regress_program.proofs.ClassReadLengthsLemmas.{key-past}
use Rattle.regress_program.proofs.RangeAcceptanceLemmas.{ascii-key}

-- An element of a list is the same whatever the default.
pub get-default : (xs : List ℕ) (i d e : ℕ) → i < length xs → get_or xs i d ≡ get_or xs i e
get-default [] i d e h = absurd (omega (arith, h))
get-default (x ∷ xs) zero d e h = refl
get-default (x ∷ xs) (suc i) d e h = get-default xs i d e (omega (arith, h))

-- ---- The units of a character

module _ (P : ℕ → Bool) where
  all-one : (a : ℕ) → P a ≡ true → list_all P (a ∷ []) ≡ true
  all-one a h = and_from (P a) true h refl

  pub all-of-each : (xs : List ℕ) → ((k : ℕ) → k < length xs → P (get_or xs k 0) ≡ true) → list_all P xs ≡ true
  all-of-each [] each = refl
  all-of-each (x ∷ xs) each = and_from (P x) (list_all P xs) (each 0 (omega arith)) (all-of-each xs (λ k below. each (suc k) (omega (arith, below))))

  all-more : (a : ℕ) (rest : List ℕ) → P a ≡ true → list_all P rest ≡ true → list_all P (a ∷ rest) ≡ true
  all-more a rest h more = and_from (P a) (list_all P rest) h more

  module _ (high : (u : ℕ) → 128 ≤ u → u < 256 → P u ≡ true) where
    bytes-2 : (c : ℕ) → 0x80 ≤ c → c < 0x800 → list_all P (encode c) ≡ true
    unfolding encode
    bytes-2 c h k = rw (le-ltb c 0x80 h, lt-ltb c 0x800 k) (all-more (0xC0 + c / 0x40) ((0x80 + c % 0x40) ∷ []) (high _ (omega arith) (omega arith)) (all-one (0x80 + c % 0x40) (high _ (omega arith) (omega arith))))

    bytes-3 : (c : ℕ) → 0x800 ≤ c → c < 0x1_0000 → list_all P (encode c) ≡ true
    unfolding encode
    bytes-3 c h k = rw (le-ltb c 0x80 (omega arith), le-ltb c 0x800 h, lt-ltb c 0x1_0000 k)
        (all-more (0xE0 + c / 0x1000) ((0x80 + (c / 0x40) % 0x40) ∷ (0x80 + c % 0x40) ∷ []) (high _ (omega arith) (omega arith))
        (all-more (0x80 + (c / 0x40) % 0x40) ((0x80 + c % 0x40) ∷ []) (high _ (omega arith) (omega arith)) (all-one (0x80 + c % 0x40) (high _ (omega arith) (omega arith)))))

    bytes-4 : (c : ℕ) → 0x1_0000 ≤ c → c < 0x11_0000 → list_all P (encode c) ≡ true
    unfolding encode
    bytes-4 c h k = rw (le-ltb c 0x80 (omega arith), le-ltb c 0x800 (omega arith), le-ltb c 0x1_0000 h)
        (all-more (0xF0 + c / 0x4_0000) ((0x80 + (c / 0x1000) % 0x40) ∷ (0x80 + (c / 0x40) % 0x40) ∷ (0x80 + c % 0x40) ∷ []) (high _ (omega arith) (omega arith))
        (all-more (0x80 + (c / 0x1000) % 0x40) ((0x80 + (c / 0x40) % 0x40) ∷ (0x80 + c % 0x40) ∷ []) (high _ (omega arith) (omega arith))
        (all-more (0x80 + (c / 0x40) % 0x40) ((0x80 + c % 0x40) ∷ []) (high _ (omega arith) (omega arith)) (all-one (0x80 + c % 0x40) (high _ (omega arith) (omega arith))))))

    bytes-high : (c : ℕ) → 0x80 ≤ c → c < 0x11_0000 → list_all P (encode c) ≡ true
    bytes-high c h k = elim (cases_lt c 0x800) [
      | inl b ↦ bytes-2 c h b
      | inr b ↦ elim (cases_lt c 0x1_0000) [ inl d ↦ bytes-3 c b d | inr d ↦ bytes-4 c d k ]
    ]

  byte-low : (c : ℕ) → c < 0x80 → P c ≡ true → list_all P (encode c) ≡ true
  unfolding encode
  byte-low c h is = rw (lt-ltb c 0x80 h) (all-one c is)

  in-utf8 : (c : ℕ) → list_all P (encode c) ≡ true → list_all P (code_units_of_character utf8 c) ≡ true
  in-utf8 c h = ap (λ (l : List ℕ). list_all P l) (append-nil (encode c)) ∙ h

  -- A property of a character below 128 holds of its units.
  low-units : (e : Encoding) (c : ℕ) → c < 128 → P c ≡ true → list_all P (code_units_of_character e c) ≡ true
  low-units utf8 c low is = in-utf8 c (byte-low c low is)
  low-units utf16 c low is = rw (lt-ltb c 0x1_0000 (omega (arith, low))) (all-one c is)
  low-units ucs2 c low is = all-one c is

  -- A property of all units from 128 on holds of the units of a character from 128 on.
  high-units : (e : Encoding) (c : ℕ) → 128 ≤ c → is_character_in_encoding e c ≡ true
      → ((u : ℕ) → 128 ≤ u → u < (if is_16_bit_encoding e then 0x1_0000 else 256) → P u ≡ true) → list_all P (code_units_of_character e c) ≡ true
  high-units utf8 c high is each = in-utf8 c (bytes-high each c high (scalar-below c is))
  high-units utf16 c high is each = elim (cases_lt c 0x1_0000) [
    | inl one ↦ rw (lt-ltb c 0x1_0000 one) (all-one c (each c high one))
    | inr two ↦
        let most = ltb-true c 0x11_0000 is in
        rw (le-ltb c 0x1_0000 two)
        (all-more (0xD800 + (c - 0x1_0000) / 0x400) ((0xDC00 + (c - 0x1_0000) % 0x400) ∷ []) (each _ (omega arith) (omega (arith, most)))
        (all-one (0xDC00 + (c - 0x1_0000) % 0x400) (each _ (omega arith) (omega arith))))
  ]
  high-units ucs2 c high is each = all-one c (each c high (ltb-true c 0x1_0000 is))

-- ---- The keys of units

-- A unit below 128 is its own key.
key-low-is : (wide : Bool) (u : ℕ) → u < 128 → u ≡ key wide u
key-low-is false u low = refl
key-low-is true u low = key-low u u low refl

-- The key of a unit from 128 on is at least 128 and below 256.
high-key : (wide : Bool) (u : ℕ) → 128 ≤ u → u < (if wide then 0x1_0000 else 256) → (128 ≤ key wide u) × (key wide u < 256)
high-key false u high below = (high, below)
high-key true u high below = rw (le-ltb u 128 high) (omega arith, omega (arith, below))

-- ---- Characters that the leap passes

module _ (leap : Leap) (alike : AreHighKeysAlike leap) where
  -- If a key from 128 on is passed, each key from 128 on is.
  high-passed : (a k : ℕ) → 128 ≤ a → a < 256 → is_passed_key leap a ≡ true → 128 ≤ k → k < 256 → is_passed_key leap k ≡ true
  high-passed a k from below passed high small = alike k high small ∙ sym (alike a from below) ∙ passed

  -- All units of a character are passed if it is passed when it is cut at 128.
  cut-passed : (e : Encoding) (wide : Bool) → is_16_bit_encoding e ≡ wide → (c : ℕ) → is_character_in_encoding e c ≡ true → is_passed_key leap (min c 128) ≡ true
      → list_all (λ u. is_passed_key leap (key wide u)) (code_units_of_character e c) ≡ true
  cut-passed e wide w c is passed = elim (cases_lt c 128) [
    | inl low ↦
        low-units (λ u. is_passed_key leap (key wide u)) e c low
        (subst (λ k. is_passed_key leap k ≡ true) (let same : min c 128 ≡ c = omega (arith, low) in same ∙ key-low-is wide c low) passed)
    | inr high ↦
        high-units (λ u. is_passed_key leap (key wide u)) e c high is (λ u from below.
        let k = high-key wide u from (subst (λ b. u < (if b then 0x1_0000 else 256)) w below) in
        let one : min c 128 ≡ 128 = omega (arith, high) in
        high-passed 128 (key wide u) (omega arith) (omega arith) (subst (λ k. is_passed_key leap k ≡ true) one passed) k.0 k.1)
  ]

  -- If the first unit of a character is passed, all its units are.
  char-passed : (e : Encoding) (wide : Bool) → is_16_bit_encoding e ≡ wide → (c : ℕ) → is_character_in_encoding e c ≡ true
      → is_passed_key leap (key_of_first wide c) ≡ true → list_all (λ u. is_passed_key leap (key wide u)) (code_units_of_character e c) ≡ true
  char-passed e wide w c is passed = cut-passed e wide w c is (elim (cases_lt c 128) [
    | inl low ↦
        subst (λ k. is_passed_key leap k ≡ true) (let same : c ≡ min c 128 = omega (arith, low) in ascii-key wide c low ∙ same) passed
    | inr high ↦
        let one : 128 ≡ min c 128 = omega (arith, high) in
        subst (λ k. is_passed_key leap k ≡ true) one
        (high-passed (key_of_first wide c) 128 (key-past wide c high) (first-key-below e wide w c is) passed (omega arith) (omega arith))
  ])

  -- If the leap passes the read lengths of a class, it passes the characters of that class.
  class-passed : (e : Encoding) (wide : Bool) → is_16_bit_encoding e ≡ wide → (program : Program) (class : Class) (test : ℕ → Bool) → IsClassRightForProgram wide program class
      → test_of program (Some (insn_as_spec_insn class.insn)) ≡ Some test → PassesReadLengths leap class.steps → (c : ℕ) → is_character_in_encoding e c ≡ true
      → test c ≡ true → list_all (λ u. is_passed_key leap (key wide u)) (code_units_of_character e c) ≡ true
  class-passed e wide w program class test is tests passes c character accepted =
      char-passed e wide w c character (passes (key_of_first wide c) (first-key-below e wide w c character)
      (told-some (slice_index_or class.steps (key_of_first wide c) 0) (length (code_units_of_character e c)) (test c) told accepted))
    where
      told : is_read_length_right (slice_index_or class.steps (key_of_first wide c) 0) (test c) (length (code_units_of_character e c)) ≡ true
      told =
          ap (λ o. is_read_length_right (read_length_at_key class.steps o) (test c) (length (code_units_of_character e c))) (sym (first-key-at e wide w c character))
          ∙ is.steps test tests e w c character

-- ---- The first units of an operation

module _ (plan : Plan) (leap : Leap) (ip : ℕ) where
  -- An operation that begins with one unit arrives at the goal if this unit is a goal.
  pub arrives-by-unit : (k to : ℕ) → ((wide : Bool) (program : Program) → AreOpsOfProgram wide program plan → FollowsFromSuccessors wide program ip (ahead.OneUnit k to))
      → is_goal_key leap k ≡ true → ArrivesAtGoal plan leap ip
  arrives-by-unit k to says goal wide program ops =
      less-prefix wide program ip 1 1 (allows_only_key k) (λ ahead. (leap_to_goal leap).goal) (units-there wide program ip 1 (allows_only_key k) (Some to) (says wide program ops)) (omega arith)
      (λ ahead x less same. ap (λ b. b || nat_le 256 x) (ap (is_goal_key leap) (eqb-true x k same) ∙ goal))

  -- An operation that begins with units of a set arrives at the goal if all of them are goals.
  pub arrives-by-units : (set : FirstSet) (count : ℕ) (to : Option ℕ)
      → ((wide : Bool) (program : Program) → AreOpsOfProgram wide program plan → FollowsFromSuccessors wide program ip (ahead.Units set count to))
      → 0 < count → AreAllGoalKeys leap (unit_table_of_set set) → ArrivesAtGoal plan leap ip
  arrives-by-units set count to says some goals wide program ops =
      less-prefix wide program ip 1 count (units_allowed_by_first_set set) (λ ahead. (leap_to_goal leap).goal)
      (units-there wide program ip count (units_allowed_by_first_set set) to (says wide program ops)) (omega (arith, some))
      (λ ahead x less allowed. elim (cases_lt x 256) [
        | inl below ↦ ap (λ b. b || nat_le 256 x) (goals x below allowed)
        | inr past ↦ ap (λ b. is_goal_key leap x || b) (le-leb 256 x past) ∙ or_right (is_goal_key leap x) true refl
      ])

-- ---- Instructions

module _ (e : Encoding) (wide : Bool) (is_wide : is_16_bit_encoding e ≡ wide) (program : Program) (plan : Plan) (leap : Leap) (way : ℕ → Bool)
    (ops : AreOpsOfProgram wide program plan) (alike : AreHighKeysAlike leap) where
  abbrev over : ℕ → Bool
  over = is_passed_key leap

  abbrev Leads : Insn → (ip : ℕ) → Type 0
  Leads insn ip = InsnReachesGoal e (key wide) program over way (Some insn) ip

  abbrev Accepts : Option (ℕ → Bool) → Type 0
  Accepts o = AcceptsOnlyPassedUnits e (key wide) program over way o

  as_form : (insn form : Insn) (ip : ℕ) → insn ≡ form → Leads form ip → Leads insn ip
  as_form insn form ip is h = let P : Insn → Type 0 = λ i. Leads i ip in subst P (sym is) h

  to-same : (a b : ℕ) → a ≡ b → way a ≡ true → way b ≡ true
  to-same a b same h = subst (λ k. way k ≡ true) same h

  -- If the read lengths of a class are passed, the test of its instruction accepts passed units.
  accepts : (class : Class) (insn : Insn) → IsClassRightForProgram wide program class → insn ≡ insn_as_spec_insn class.insn → PassesReadLengths leap class.steps → (o : Option (ℕ → Bool))
      → test_of program (Some insn) ≡ o → Accepts o
  accepts class insn is same passes None t = tt
  accepts class insn is same passes (Some test) t =
      λ c character accepted. class-passed leap alike e wide is_wide program class test is (ap (λ i. test_of program (Some i)) (sym same) ∙ t) passes c character accepted

  reads : (insn : Insn) (ip : ℕ) → reads_class_char insn ≡ true → Accepts (test_of program (Some insn)) → way (ip + 1) ≡ true → Leads insn ip
  reads (layout.CharSet members) ip r a h = record { accepts = a; leads = h }
  reads (layout.ByteSet members) ip r a h = record { accepts = a; leads = h }
  reads (layout.AsciiBracket members) ip r a h = record { accepts = a; leads = h }
  reads (layout.Bracket index) ip r a h = record { accepts = a; leads = h }
  reads layout.MatchAny ip r a h = record { accepts = a; leads = h }
  reads layout.MatchAnyExceptLineTerminator ip r a h = record { accepts = a; leads = h }
  reads _ ip r a h = cc

  char : (c ip : ℕ) → is_passed_key leap (min c 128) ≡ true → way (ip + 1) ≡ true → Leads (layout.Char c) ip
  char c ip passed h = record {
    accepts = λ d character same.
        let one : c ≡ d = eqb-true c d same in
        cut-passed leap alike e wide is_wide d character (subst (λ x. is_passed_key leap (min x 128) ≡ true) one passed);
    leads = h;
  }

  runs : (greedy : Bool) (r : run.CharLoop) (ip : ℕ) (insn : Insn) → IsCharLoopOf program plan greedy r ip insn → PassesClass plan leap r.class → way (ip + 2) ≡ true → Leads insn ip
  runs greedy r ip insn is passes h =
      as_form insn (layout.Loop1CharBody is.bounds.min is.bounds.max greedy) ip is.insn_is (record {
        accepts = by (slice_get program.insns (ip + 1)) refl;
        leads = h;
      })
    where
      by : (o : Option Insn) → slice_get program.insns (ip + 1) ≡ o → Accepts (test_of program o)
      by None at = tt
      by (Some read) at =
          let h = is.body read at in
          accepts h.class read (ops.classes r.class h.class h.is_there) h.is_class (passes h.class h.is_there) (test_of program (Some read)) refl

  repeats : (o : Option Insn) (begin number : ℕ) → ((f : LoopFields) → o ≡ Some (layout.EnterLoop f) → HasCountedLoop program plan number begin f) → LoopStaysOnWay plan way number (λ c. 0)
      → RepeatsLoop e (key wide) program over way o begin
  repeats None begin number row h = tt
  repeats (Some (layout.EnterLoop f)) begin number row h =
      let r = row f refl in
      let both = h r.counted r.is_there in
      (to-same (r.counted.begin + 1) (begin + 1) (ap (λ n. n + 1) r.is_row.1) both.0, to-same r.counted.exit f.exit r.is_row.2 (both.1 refl))
  repeats (Some _) begin number row h = tt

  -- A byte sequence reads only passed units, and stands only in programs for bytes.
  bytes : (f : Encoding) → is_16_bit_encoding f ≡ wide → (bs : List ℕ) (ip : ℕ) → wide ≡ false → PassesUnits leap bs → way (ip + 1) ≡ true
      → ReadsBytesOver e (key wide) program over way f bs ip
  bytes utf8 w bs ip narrow passes h = (subst (λ b. list_all (λ unit. is_passed_key leap (key b unit)) bs ≡ true) (sym narrow) passes, h)
  bytes utf16 w bs ip narrow passes h = let no : true ≡ false = w ∙ narrow in cc
  bytes ucs2 w bs ip narrow passes h = let no : true ≡ false = w ∙ narrow in cc

  looks : (forward negate : Bool) (first last past ip : ℕ) → (way past ≡ true) ⊎ ((forward ≡ true) × (negate ≡ false) × (way (ip + 1) ≡ true))
      → Leads (if forward then layout.Lookahead negate first last past else layout.Lookbehind negate first last past) ip
  looks true negate first last past ip (inl h) = inl h
  looks true negate first last past ip (inr h) = inr (h.1, h.2)
  looks false negate first last past ip (inl h) = h
  looks false negate first last past ip (inr h) = let no : false ≡ true = h.0 in cc

  edges : (icase invert : Bool) (ip : ℕ) → way (ip + 1) ≡ true → Leads (if icase then layout.WordBoundaryUnicodeICase invert else layout.WordBoundary invert) ip
  edges true invert ip h = h
  edges false invert ip h = h

  op-leads : (o : Op) (ip : ℕ) (insn : Insn) → IsOpOf program plan o ip insn → OpReachesGoal wide plan leap way o ip → Leads insn ip
  op-leads op.Goal ip insn is h = absurd h
  op-leads op.Fail ip insn is h = as_form insn layout.JustFail ip is tt
  op-leads (op.UnitChar c) ip insn is h = as_form insn (layout.Char c) ip is (char c ip h.0 h.1)
  op-leads (op.Char c) ip insn is h = as_form insn (layout.Char c) ip is (char c ip h.0 h.1)
  op-leads (op.Bytes number) ip insn is h = as_form insn _ ip is.insn_is (bytes e is_wide (plan_bytes_in_span plan is.part) ip h.0 (h.1 is.part is.is_there) h.2)
  op-leads (op.One number) ip insn is h =
      let c = is.0 in
      reads insn ip is.1 (accepts c.class insn (ops.classes number c.class c.is_there) c.is_class (h.0 c.class c.is_there) (test_of program (Some insn)) refl) h.1
  op-leads (op.LineStart multiline) ip insn is h = as_form insn (layout.StartOfLine multiline) ip is h
  op-leads (op.LineEnd multiline) ip insn is h = as_form insn (layout.EndOfLine multiline) ip is h
  op-leads (op.WordEdge edge) ip insn is h = as_form insn _ ip is (edges edge.unicode_icase edge.invert ip h)
  op-leads (op.Goto target) ip insn is h = as_form insn (layout.Jump target) ip is h
  op-leads (op.Either secondary) ip insn is h = as_form insn (layout.Alt secondary) ip is (h.0, h.1)
  op-leads (op.Enter number) ip insn is h =
      let r = is.row in
      let both = h r.counted r.is_there in
      as_form insn (layout.EnterLoop is.fields) ip is.insn_is (record {
        inside = to-same (r.counted.begin + 1) (ip + 1) (ap (λ n. n + 1) r.is_row.1) both.0;
        outside = λ none. to-same r.counted.exit is.fields.exit r.is_row.2 (both.1 (r.is_row.4 ∙ none));
      })
  op-leads (op.LoopEnd number) ip insn is h =
      as_form insn (layout.LoopAgain is.begin) ip is.insn_is (repeats (slice_get program.insns is.begin) is.begin number is.row h)
  op-leads (op.OpenGroup slot) ip insn is h = as_form insn (layout.BeginCaptureGroup slot) ip is h
  op-leads (op.CloseGroup slot) ip insn is h = as_form insn (layout.EndCaptureGroup slot) ip is h
  op-leads (op.ResetGroup slot) ip insn is h = as_form insn (layout.ResetCaptureGroup slot) ip is h
  op-leads (op.MatchBackref again) ip insn is h = absurd h
  op-leads (op.Look l) ip insn is h = as_form insn _ ip is.insn_is (looks l.forward l.negate is.start_group is.end_group l.past ip h)
  op-leads o ip insn is h = runs _ _ ip insn is h.0 h.1

-- If the operations on the way reach the goal, the way certifies the leap.
pub certified : (wide : Bool) (program : Program) (plan : Plan) (leap : Leap) (way : ℕ → Bool) → AreOpsOfProgram wide program plan → AreHighKeysAlike leap
    → way 0 ≡ true → OpsOnWayReachGoal wide plan leap way → CertifiesLeap wide program (leap_to_goal leap) way
certified wide program plan leap way ops alike first all = record { first = first; lead = λ ip member. by ip member (slice_get plan.ops.items ip) refl }
  where
    past : (ip : ℕ) → slice_get plan.ops.items ip ≡ None → (insn : Option Insn) → slice_get program.insns ip ≡ insn → (e : Encoding)
        → InsnReachesGoal e (key wide) program (is_passed_key leap) way insn ip
    past ip none None at e = tt
    past ip none (Some insn) at e =
        let same = ops.as_many in
        let o = slice_get_some plan.ops.items ip (let below = slice_get_within program.insns ip insn at in omega (arith, below, same)) in
        let no : Some o.0 ≡ None = sym o.1 ∙ none in
        cc

    by : (ip : ℕ) → way ip ≡ true → (o : Option Op) → slice_get plan.ops.items ip ≡ o
        → PrefixAt wide program ip 1 (λ ahead. (leap_to_goal leap).goal)
        ⊎ ((e : Encoding) → is_16_bit_encoding e ≡ wide → InsnReachesGoal e (key wide) program (is_passed_key leap) way (slice_get program.insns ip) ip)
    by ip member None at = inr (λ e w. past ip at (slice_get program.insns ip) refl e)
    by ip member (Some o) at = elim (all ip o at member) [
      | inl arrives ↦ inl (arrives wide program ops)
      | inr leads ↦
          let i = insn-of plan program ops o ip at in
          inr (λ e w.
          let P : Option Insn → Type 0 = λ x. InsnReachesGoal e (key wide) program (is_passed_key leap) way x ip in
          subst P (sym i.1) (op-leads e wide w program plan leap way ops alike o ip i.0 i.2 leads))
    ]
