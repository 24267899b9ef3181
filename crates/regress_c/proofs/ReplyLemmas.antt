-- The ranges of a match are written over the buffer one after another, as the reply says.
use Rattle.std.proofs.Common.{◌≡◌, ℕ, zero, suc, ◌+◌, ◌-◌, ◌<◌, ◌≤◌, List, [], ◌∷◌, ◌++◌, append_assoc, length, take, drop, set, get_or, option_map, None, Some, Ok, if◌then◌else◌, refl, sym, ap, ap₂}
use Rattle.std.proofs.Common.{◌∙◌, arith}
use Rattle.std.proofs.Math.ListN.{drop_of_length-le, get_or-map}
use Rattle.std.proofs.lemmas.Bool.{le-leb, lt-leb}
use Rattle.std.proofs.lemmas.List.{append-nil, length-drop, length-map, take_all}
use Rattle.std.proofs.Math.Seq.{drop-drop, take-length}
use Rattle.regex_meaning.specs.MatchGroupsByNumberAndName.{Answer, group}
use Rattle.regress_search.specs.GroupIterators.{all_groups}
use Rattle.regress_search.specs.MatchesAsSpecAnswers.{answer_of, range_as_pair}
use Rattle.regress_search.specs.declared.exec.Match.{Match}
use Rattle.regress_search.proofs.GroupIteratorLemmas.{group-at}
use Rattle.regress_c.specs.Codes.{code_of_refusal, done}
use Rattle.regress_c.specs.Replies.{buffer_after_search, reply_to, span_of, spans_of, with_front_overwritten}
use Rattle.regress_c.specs.declared.refusal.Refusal.TheVariants.{ShortBuffer}
use Rattle.regress_c.specs.declared.reply.Span.{Span}

one-more : {X : Type 0} (new old : List X) (i : ℕ) (d : X) → i < length new → i < length old
    → set (take i new ++ drop i old) i (get_or new i d) ≡ take (suc i) new ++ drop (suc i) old
one-more [] old i d p q = absurd (omega arith)
one-more (x ∷ new) [] i d p q = absurd (omega arith)
one-more (x ∷ new) (y ∷ old) zero d p q = refl
one-more (x ∷ new) (y ∷ old) (suc i) d p q = ap (λ zs. x ∷ zs) (one-more new old i d (omega arith) (omega arith))

-- A part written from an index to the end of a buffer is written in the whole buffer.
pub written_part : {X : Type 0} (new old part : List X) (at n count : ℕ) → n ≡ length old - at → part ≡ new ++ drop count (take n (drop at old))
    → take at old ++ (part ++ drop n (drop at old)) ≡ take at old ++ new ++ drop (at + count) old
written_part new old part at n count rest written =
    let all : length (drop at old) ≤ n = omega (arith, rest, length-drop at old) in
    let e : part ++ drop n (drop at old) ≡ new ++ drop (at + count) old =
    ap₂ (λ xs ys. xs ++ ys) written (drop_of_length-le (drop at old) all) ∙ append-nil _
    ∙ ap (λ xs. new ++ drop count xs) (take_all n (drop at old) all) ∙ ap (λ xs. new ++ xs) (drop-drop count at old) in
    ap (λ xs. take at old ++ xs) e ∙ sym (append_assoc (take at old) new (drop (at + count) old))

module _ (m : Answer) where
  span-at : (id : ℕ) → get_or (spans_of m) id (span_of None) ≡ span_of (group m id)
  span-at id = get_or-map span_of (all_groups m) id None ∙ ap span_of (group-at m id)

  pub written_more : (old : List Span) (id : ℕ) → id < length (spans_of m) → length (spans_of m) ≤ length old
      → set (take id (spans_of m) ++ drop id old) id (span_of (group m id)) ≡ take (id + 1) (spans_of m) ++ drop (id + 1) old
  written_more old id inside room =
      let next : suc id ≡ id + 1 = omega arith in
      ap (λ s. set (take id (spans_of m) ++ drop id old) id s) (sym (span-at id))
      ∙ (one-more (spans_of m) old id (span_of None) inside (omega arith) ∙ ap (λ n. take n (spans_of m) ++ drop n old) next)

  pub spans-count : length (spans_of m) ≡ suc (length m.captures)
  spans-count = ap suc (length-map m.captures span_of)

  pub written_all : (old : List Span) (count : ℕ) → count ≡ length (spans_of m)
      → take count (spans_of m) ++ drop count old ≡ with_front_overwritten (spans_of m) old
  written_all old count all = ap (λ n. take n (spans_of m) ++ drop n old) all ∙ ap (λ s. s ++ drop (length (spans_of m)) old) (take-length (spans_of m))

module _ (m : Match) where
  abbrev spans : List Span
  spans = spans_of (answer_of m)

  pub count_is : (captures : ℕ) → length m.captures.items ≡ captures → captures + 1 ≡ length spans
  count_is captures e =
      let all : length spans ≡ suc captures = spans-count (answer_of m) ∙ ap suc (length-map m.captures.items (option_map range_as_pair) ∙ e) in omega arith

  pub done_reply : (room : ℕ) → length spans ≤ room → reply_to (Ok (Some m)) room ≡ record { code = done; count = length spans }
  done_reply room h = ap (λ b. record { code = if b then done else code_of_refusal ShortBuffer; count = length spans }) (le-leb (length spans) room h)

  pub short_reply : (room : ℕ) → room < length spans → reply_to (Ok (Some m)) room ≡ record { code = code_of_refusal ShortBuffer; count = length spans }
  short_reply room h = ap (λ b. record { code = if b then done else code_of_refusal ShortBuffer; count = length spans }) (lt-leb (length spans) room h)

  pub done_left : (before : List Span) → length spans ≤ length before → buffer_after_search (Ok (Some m)) before ≡ with_front_overwritten spans before
  done_left before h = ap (λ b. if b then with_front_overwritten spans before else before) (le-leb (length spans) (length before) h)

  pub short_left : (before : List Span) → length before < length spans → buffer_after_search (Ok (Some m)) before ≡ before
  short_left before h = ap (λ b. if b then with_front_overwritten spans before else before) (lt-leb (length spans) (length before) h)
