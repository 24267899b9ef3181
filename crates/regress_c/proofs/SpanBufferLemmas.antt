-- The ranges of one more match follow those of the matches before it in the buffer.
use Rattle.std.proofs.Common.{◌≡◌, ℕ, ◌+◌, ◌*◌, List, [], ◌∷◌, ◌++◌, length, take, drop, sym, ap, ap₂, ◌∙◌, arith}
use Rattle.std.proofs.Math.Seq.{drop-drop, drop_at, take_at}
use Rattle.std.proofs.lemmas.Grind.{flat_map-append}
use Rattle.std.proofs.lemmas.List.{append-nil, length-append}
use Rattle.std.specs.Prelude.{flat_map}
use Rattle.regex_meaning.specs.MatchGroupsByNumberAndName.{Answer}
use Rattle.regress_c.specs.Replies.{spans_of, with_front_overwritten}
use Rattle.regress_c.specs.declared.reply.Span.{Span}

-- The index after one more match is the number of matches times the ranges of each.
pub at-more : (k n at ranges each : ℕ) → at ≡ k * each → n ≡ k + 1 → ranges ≡ each → at + ranges ≡ n * each
at-more k n at ranges each a l r = rw (a, r, l) (omega arith)

-- The ranges of one more match follow those of the matches before it.
pub written-more : (found : List Answer) (m : Answer) (before now after : List Span) (at ranges : ℕ)
    → length (spans_of m) ≡ ranges → length (flat_map spans_of found) ≡ at
    → now ≡ with_front_overwritten (flat_map spans_of found) before → after ≡ take at now ++ spans_of m ++ drop (at + ranges) now
    → (length (flat_map spans_of (found ++ m ∷ [])) ≡ at + ranges) × (after ≡ with_front_overwritten (flat_map spans_of (found ++ m ∷ [])) before)
written-more found m before now after at ranges long until was w =
    let flat = flat_map spans_of found in
    let more : flat_map spans_of (found ++ m ∷ []) ≡ flat ++ spans_of m =
    flat_map-append spans_of found (m ∷ []) ∙ ap (λ xs. flat ++ xs) (append-nil (spans_of m)) in
    let length_is : length (flat ++ spans_of m) ≡ at + ranges = length-append flat (spans_of m) ∙ ap₂ (λ a b. a + b) until long in
    let front : take at now ≡ flat = ap (take at) was ∙ take_at flat (drop (length flat) before) at until in
    let back : drop (at + ranges) now ≡ drop (length (flat ++ spans_of m)) before =
    sym (drop-drop ranges at now) ∙ ap (λ xs. drop ranges (drop at xs)) was ∙ ap (drop ranges) (drop_at flat (drop (length flat) before) at until)
    ∙ drop-drop ranges (length flat) before ∙ ap (λ n. drop (n + ranges) before) until ∙ ap (λ n. drop n before) (sym length_is) in (
      ap length more ∙ length_is,
      w ∙ ap₂ (λ xs ys. xs ++ spans_of m ++ ys) front back ∙ ap (λ xs. with_front_overwritten xs before) (sym more),
    )
