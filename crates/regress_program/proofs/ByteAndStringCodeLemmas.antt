-- The loops that emit byte sequences and string sets append the specified instructions.
use Rattle.std.proofs.Common.{◌≡◌, ℕ, zero, suc, ◌+◌, ◌-◌, ◌*◌, ◌/◌, ◌%◌, ◌<◌, ◌≤◌, min, Bool, true, false, List, [], ◌∷◌, ◌++◌, map, length, take, drop, get_or, slice_get, Some, Vec, refl, sym, ap}
use Rattle.std.proofs.Common.{◌∙◌, arith, append_assoc, append-nil, length-append, length-drop, drop-cons, ◌==◌, if◌then◌else◌}
use Rattle.std.proofs.Math.Seq.{drop-nil}
use Rattle.regex_meaning.specs.NumberListHelpers.{numbers_from}
use Rattle.std.proofs.lemmas.List.{length-map, get_or-reverse, drop-map, drop_all}
use Rattle.std.proofs.lemmas.Option.{get_or_from_slice_get}
use Rattle.regex_meaning.specs.CompilationRelation.{Insn, Alt, Jump, ByteSeq, ResetCaptureGroup, reversed_if_in_lookbehind, chunks, first_chunks_of_bytes}
use Rattle.regex_meaning.specs.Tree.{byte_sequence, string_set}
use Rattle.regress_program.specs.CompilationOfTreesAsFunction.{group_reset_insns, string_code, strings_code, strings_size, code_of, loop_count, brackets_of}
use Rattle.regress_program.specs.EmitterStateAndAppendedCode.{EmitterState, with_code, with_insn_appended, with_insns_appended, strings_as_code_points}
use Rattle.regress_program.proofs.AppendedCodeLemmas.{same_state, length-string_code, length-reversed_if_in_lookbehind}

-- ---- Chunks

drop_drop : {A : Type 0} → (m n : ℕ) (xs : List A) → drop m (drop n xs) ≡ drop (m + n) xs
drop_drop m zero xs = ap (λ (k : ℕ). drop k xs) (add-zero-back m)
  where
    add-zero-back : (k : ℕ) → k ≡ k + 0
    add-zero-back k = omega arith
drop_drop m (suc n) [] = drop-nil m ∙ sym (drop-nil (m + suc n))
drop_drop m (suc n) (x ∷ xs) = let e : m + suc n ≡ suc (m + n) = omega arith in drop_drop m n xs ∙ sym (ap (λ (k : ℕ). drop k (x ∷ xs)) e)

-- The chunks have room for all bytes and for at most 15 more.
first_chunks_of_bytes-length : (count : ℕ) (bytes : List ℕ) → length bytes ≤ count
    → (length bytes ≤ 16 * length (first_chunks_of_bytes count bytes)) × (16 * length (first_chunks_of_bytes count bytes) < length bytes + 16)
first_chunks_of_bytes-length zero bytes h = (omega arith, omega arith)
first_chunks_of_bytes-length (suc count) [] h = (omega arith, omega arith)
first_chunks_of_bytes-length (suc count) (b ∷ bytes) h =
    let less : length (drop 16 (b ∷ bytes)) ≡ length (b ∷ bytes) - 16 = length-drop 16 (b ∷ bytes) in
    let rest = first_chunks_of_bytes-length count (drop 16 (b ∷ bytes)) (omega arith) in
    (omega (arith, rest.0, rest.1), omega (arith, rest.0, rest.1))

pub length-chunks : (bytes : List ℕ) → length (chunks bytes) ≡ length bytes / 16 + min 1 (length bytes % 16)
length-chunks bytes =
    let bounds = first_chunks_of_bytes-length (length bytes) bytes (omega arith) in
    omega (arith, bounds.0, bounds.1)

pub chunk_begins : (bytes : List ℕ) (k : ℕ) → k < length (chunks bytes) → k * 16 < length bytes
chunk_begins bytes k h = let bounds = first_chunks_of_bytes-length (length bytes) bytes (omega arith) in omega (arith, bounds.1)

chunk_of_at : (count : ℕ) (bytes : List ℕ) (k : ℕ) → length bytes ≤ count → k * 16 < length bytes
    → slice_get (first_chunks_of_bytes count bytes) k ≡ Some (take 16 (drop (k * 16) bytes))
chunk_of_at zero bytes k h g = absurd (omega arith)
chunk_of_at (suc count) [] k h g = absurd (omega arith)
chunk_of_at (suc count) (b ∷ bytes) zero h g = refl
chunk_of_at (suc count) (b ∷ bytes) (suc k) h g =
    let less : length (drop 16 (b ∷ bytes)) ≡ length (b ∷ bytes) - 16 = length-drop 16 (b ∷ bytes) in
    let same : k * 16 + 16 ≡ suc k * 16 = omega arith in
    chunk_of_at count (drop 16 (b ∷ bytes)) k (omega arith) (omega arith)
    ∙ ap (λ xs. Some (take 16 xs)) (drop_drop (k * 16) 16 (b ∷ bytes) ∙ ap (λ (n : ℕ). drop n (b ∷ bytes)) same)

pub chunk_at : (bytes : List ℕ) (k : ℕ) → k * 16 < length bytes → slice_get (chunks bytes) k ≡ Some (take 16 (drop (k * 16) bytes))
chunk_at bytes k h = chunk_of_at (length bytes) bytes k (omega arith) h

-- ---- Parts in order or reversed

get_or-reversed_if_in_lookbehind : {A : Type 0} → (d : Bool) (xs : List A) (at : ℕ) (x : A) → at < length xs
    → get_or (reversed_if_in_lookbehind d xs) at x ≡ get_or xs (if d then length xs - 1 - at else at) x
get_or-reversed_if_in_lookbehind true xs at x h = get_or-reverse xs at x h
get_or-reversed_if_in_lookbehind false xs at x h = refl

pub reversed_if_in_lookbehind-next : {A : Type 0} → (d : Bool) (xs : List A) (at k : ℕ) (x : A) → at < length xs → k ≡ (if d then length xs - 1 - at else at)
    → slice_get xs k ≡ Some x → drop at (reversed_if_in_lookbehind d xs) ≡ x ∷ drop (at + 1) (reversed_if_in_lookbehind d xs)
reversed_if_in_lookbehind-next d xs at k x h e g =
    let within : at < length (reversed_if_in_lookbehind d xs) = omega (arith, length-reversed_if_in_lookbehind d xs) in
    let here : get_or (reversed_if_in_lookbehind d xs) at x ≡ x = get_or-reversed_if_in_lookbehind d xs at x h ∙ ap (λ n. get_or xs n x) (sym e) ∙ get_or_from_slice_get xs k x x g in
    let next : suc at ≡ at + 1 = omega arith in
    drop-cons (reversed_if_in_lookbehind d xs) at x within ∙ ap (λ y. y ∷ drop (suc at) (reversed_if_in_lookbehind d xs)) here ∙ ap (λ (n : ℕ). x ∷ drop n (reversed_if_in_lookbehind d xs)) next

-- ---- Strings

-- This is the size of strings of which each has a branch and a jump.
unfoldable pub front_size : List (List ℕ) → ℕ
front_size [] = 0
front_size (s ∷ strings) = length s + 2 + front_size strings

pub strings_size-cons : (s : List ℕ) (others : List (List ℕ)) → strings_size (s ∷ others) ≡ length s + front_size others
unfolding front_size
strings_size-cons s [] = omega arith
strings_size-cons s (t ∷ others) = omega (arith, strings_size-cons t others)

pub strings_size-next : (s : List ℕ) (rest : List (List ℕ)) → 0 < length rest → strings_size (s ∷ rest) ≡ length s + 2 + strings_size rest
strings_size-next s [] h = absurd (omega arith)
strings_size-next s (t ∷ more) h = refl

pub strings_code-next : (u icase d : Bool) (s : List ℕ) (rest : List (List ℕ)) (at : ℕ) → 0 < length rest
    → strings_code u icase d (s ∷ rest) at
    ≡ Alt (at + length s + 2) ∷ (string_code u icase d s ++ Jump (at + length s + 2 + strings_size rest) ∷ strings_code u icase d rest (at + length s + 2))
strings_code-next u icase d s [] at h = absurd (omega arith)
strings_code-next u icase d s (t ∷ more) at h = refl

-- ---- States

pub insns_step : (x : Insn) (xs : List Insn) (s t : EmitterState) → t ≡ with_insn_appended x s → with_insns_appended xs t ≡ with_insns_appended (x ∷ xs) s
insns_step x xs s t e =
    same_state (with_insns_appended xs t) (with_insns_appended (x ∷ xs) s)
    (ap (λ r. r.insns ++ xs) e ∙ append_assoc s.insns (x ∷ []) xs) (ap (λ r. r.loops) e) (ap (λ r. r.brackets) e)

pub parts_step : {A : Type 0} (f : A → Insn) (ys : List A) (at : ℕ) (y : A) (s t whole : EmitterState) → drop at ys ≡ y ∷ drop (at + 1) ys
    → t ≡ with_insn_appended (f y) s → with_insns_appended (map f (drop at ys)) s ≡ whole → with_insns_appended (map f (drop (at + 1) ys)) t ≡ whole
parts_step f ys at y s t whole next e inv =
    insns_step (f y) (map f (drop (at + 1) ys)) s t e ∙ sym (ap (λ zs. with_insns_appended (map f zs) s) next) ∙ inv

pub with_insns-none : (s : EmitterState) → with_insns_appended [] s ≡ s
with_insns-none s = same_state (with_insns_appended [] s) s (append-nil s.insns) refl refl

-- If no parts are left, the code is complete.
pub parts_end : {A : Type 0} (f : A → Insn) (ys : List A) (at : ℕ) (s whole : EmitterState) → length ys ≤ at → with_insns_appended (map f (drop at ys)) s ≡ whole → s ≡ whole
parts_end f ys at s whole h inv = sym (with_insns-none s) ∙ sym (ap (λ zs. with_insns_appended (map f zs) s) (drop_all at ys h)) ∙ inv

pub with_code-byte_sequence : (u d : Bool) (bytes : List ℕ) (s : EmitterState) → with_code u d (byte_sequence bytes) s ≡ with_insns_appended (map ByteSeq (reversed_if_in_lookbehind d (chunks bytes))) s
unfolding code_of loop_count brackets_of
with_code-byte_sequence u d bytes s =
    same_state (with_code u d (byte_sequence bytes) s) (with_insns_appended (map ByteSeq (reversed_if_in_lookbehind d (chunks bytes))) s) refl (omega arith) (append-nil s.brackets)

pub with_code-string_set : (u d icase : Bool) (strings : List (List ℕ)) (s : EmitterState) → with_code u d (string_set strings icase) s ≡ with_insns_appended (strings_code u icase d strings (length s.insns)) s
unfolding code_of loop_count brackets_of
with_code-string_set u d icase strings s =
    same_state (with_code u d (string_set strings icase) s) (with_insns_appended (strings_code u icase d strings (length s.insns)) s) refl (omega arith) (append-nil s.brackets)

-- ---- Vectors of code points

pub front_size-next : {R : Type 0} → (strings : List (Vec ℕ R)) (i : ℕ) (s : Vec ℕ R) → i < length strings → s ≡ get_or strings i s
    → front_size (strings_as_code_points (drop i strings)) ≡ length s.items + 2 + front_size (strings_as_code_points (drop (i + 1) strings))
unfolding front_size
front_size-next strings i s h e =
    let next : suc i ≡ i + 1 = omega arith in
    ap (λ xs. front_size (strings_as_code_points xs)) (drop-cons strings i s h ∙ ap (λ x. x ∷ drop (suc i) strings) (sym e) ∙ ap (λ (n : ℕ). s ∷ drop n strings) next)

pub code_points-next : {R : Type 0} → (strings : List (Vec ℕ R)) (i : ℕ) (s : Vec ℕ R) → i < length strings → s ≡ get_or strings i s
    → drop i (strings_as_code_points strings) ≡ s.items ∷ drop (i + 1) (strings_as_code_points strings)
code_points-next {R = R} strings i s h e =
    let next : suc i ≡ i + 1 = omega arith in
    let items = λ (v : Vec ℕ R). v.items in
    drop-map items i strings
    ∙ ap (map items) (drop-cons strings i s h ∙ ap (λ x. x ∷ drop (suc i) strings) (sym e) ∙ ap (λ (n : ℕ). s ∷ drop n strings) next)
    ∙ ap (λ xs. s.items ∷ xs) (sym (drop-map items (i + 1) strings))

pub length-code_points : {R : Type 0} → (strings : List (Vec ℕ R)) (i : ℕ) → length (drop i (strings_as_code_points strings)) ≡ length strings - i
length-code_points strings i = length-drop i (strings_as_code_points strings) ∙ ap (λ n. n - i) (length-map strings _)

-- Before the last string, the size is that of one string, two instructions and the rest.
pub size_from : {R : Type 0} → (strings : List (Vec ℕ R)) (i : ℕ) (s : Vec ℕ R) → i + 1 < length strings → s ≡ get_or strings i s
    → strings_size (drop i (strings_as_code_points strings)) ≡ length s.items + 2 + strings_size (drop (i + 1) (strings_as_code_points strings))
size_from strings i s h e =
    ap strings_size (code_points-next strings i s (omega arith) e)
    ∙ strings_size-next s.items (drop (i + 1) (strings_as_code_points strings)) (omega (arith, length-code_points strings (i + 1)))

pub last_code : {R : Type 0} → (u icase d : Bool) (strings : List (Vec ℕ R)) (i at : ℕ) (s : Vec ℕ R) → i + 1 ≡ length strings → s ≡ get_or strings i s
    → strings_code u icase d (drop i (strings_as_code_points strings)) at ≡ string_code u icase d s.items
last_code {R = R} u icase d strings i at s h e =
    let none : drop (i + 1) (strings_as_code_points strings) ≡ [] = drop_all (i + 1) (strings_as_code_points strings) (omega (arith, length-map strings (λ (v : Vec ℕ R). v.items))) in
    ap (λ xs. strings_code u icase d xs at) (code_points-next strings i s (omega arith) e ∙ ap (λ xs. s.items ∷ xs) none)

-- A branch, a string and a jump emit one string of a set before the others.
pub strings_step : (u icase d : Bool) (str : List ℕ) (rest : List (List ℕ)) (s s1 s2 s3 : EmitterState) (second target : ℕ) → 0 < length rest
    → second ≡ length s.insns + length str + 2 → target ≡ second + strings_size rest
    → s1 ≡ with_insn_appended (Alt second) s → s2 ≡ with_insns_appended (string_code u icase d str) s1 → s3 ≡ with_insn_appended (Jump target) s2
    → with_insns_appended (strings_code u icase d rest (length s3.insns)) s3 ≡ with_insns_appended (strings_code u icase d (str ∷ rest) (length s.insns)) s
strings_step u icase d str rest s s1 s2 s3 second target h es et e1 e2 e3 =
    let cs = string_code u icase d str in
    let at = length s.insns in
    let flat : s3.insns ≡ ((s.insns ++ Alt second ∷ []) ++ cs) ++ Jump target ∷ [] =
    ap (λ r. r.insns) e3 ∙ ap (λ r. r.insns ++ Jump target ∷ []) e2 ∙ ap (λ r. (r.insns ++ cs) ++ Jump target ∷ []) e1 in
    let len : length s3.insns ≡ second =
    omega (arith, es, ap length flat, length-append ((s.insns ++ Alt second ∷ []) ++ cs) (Jump target ∷ []), length-append (s.insns ++ Alt second ∷ []) cs, length-append s.insns (Alt second ∷ []), length-string_code u icase d str) in
    let later = strings_code u icase d rest second in
    let assoc : (((s.insns ++ Alt second ∷ []) ++ cs) ++ Jump target ∷ []) ++ later ≡ s.insns ++ Alt second ∷ (cs ++ Jump target ∷ later) = simp append_assoc in
    let whole : s.insns ++ Alt second ∷ (cs ++ Jump target ∷ later) ≡ s.insns ++ strings_code u icase d (str ∷ rest) at =
    ap (λ n. s.insns ++ Alt second ∷ (cs ++ Jump n ∷ later)) et
    ∙ ap (λ n. s.insns ++ Alt n ∷ (cs ++ Jump (n + strings_size rest) ∷ strings_code u icase d rest n)) es
    ∙ sym (ap (λ is. s.insns ++ is) (strings_code-next u icase d str rest at h)) in
    same_state (with_insns_appended (strings_code u icase d rest (length s3.insns)) s3) (with_insns_appended (strings_code u icase d (str ∷ rest) at) s)
    (ap (λ n. s3.insns ++ strings_code u icase d rest n) len ∙ ap (λ is. is ++ later) flat ∙ assoc ∙ whole)
    (ap (λ r. r.loops) e3 ∙ ap (λ r. r.loops) e2 ∙ ap (λ r. r.loops) e1)
    (ap (λ r. r.brackets) e3 ∙ ap (λ r. r.brackets) e2 ∙ ap (λ r. r.brackets) e1)

pub strings_target : (u icase d : Bool) (str : List ℕ) (s s1 s2 s3 : EmitterState) (second target : ℕ)
    → second ≡ length s.insns + length str + 2 → s1 ≡ with_insn_appended (Alt second) s → s2 ≡ with_insns_appended (string_code u icase d str) s1 → s3 ≡ with_insn_appended (Jump target) s2
    → length s3.insns ≡ second
strings_target u icase d str s s1 s2 s3 second target es e1 e2 e3 =
    omega (
      arith,
      es,
      ap (λ r. length r.insns) e3,
      length-append s2.insns (Jump target ∷ []),
      ap (λ r. length r.insns) e2,
      length-append s1.insns (string_code u icase d str),
      ap (λ r. length r.insns) e1,
      length-append s.insns (Alt second ∷ []),
      length-string_code u icase d str,
    )

-- ---- Resets

pub resets-next : (g e : ℕ) → g < e → group_reset_insns g e ≡ ResetCaptureGroup g ∷ group_reset_insns (g + 1) e
resets-next g e h = let n : e - g ≡ suc (e - (g + 1)) = omega arith in ap (λ k. map ResetCaptureGroup (numbers_from g k)) n

pub resets-past : (g e : ℕ) → e ≤ g → group_reset_insns g e ≡ []
resets-past g e h = let n : e - g ≡ 0 = omega arith in ap (λ k. map ResetCaptureGroup (numbers_from g k)) n

-- ---- Empty lists

pub ne_zero : {A : Type 0} → (xs : List A) → false ≡ (length xs == 0) → 0 < length xs
ne_zero [] h = cc
ne_zero (x ∷ xs) h = omega arith
