-- A text that is built from the results of a closure, match by match, replaces each match by its result.
use Rattle.std.proofs.Common.{◌≡◌, ℕ, List, [], ◌∷◌, ◌++◌, map, drop, refl, sym, ap, subst, ◌∙◌, append_assoc, append-nil}
use Rattle.std.proofs.lemmas.List.{map-append}
use Rattle.std.specs.Borrow.{Bor}
use Rattle.std.specs.Prelude.{Result, Ok, Err, IfErr, slice_range}
use Rattle.std.specs.Result.{IsErrAnd, IsOkAnd}
use Rattle.regex_meaning.specs.MatchGroupsByNumberAndName.{Answer}
use Rattle.regex_meaning.specs.Replace.{replaced}
use Rattle.regex_meaning.proofs.EachElementLemmas.{Each-append}
use Rattle.regress_search.specs.declared.exec.Match.{Match}
use Rattle.regress_match.specs.ClosureReplacement.{ClosureMayReturnForMatch, AreClosureResults, IsClosureErrorOrOutOfMemory, IsPossibleReplaceError, IsReplacedBy, ClosureFailedAtMatch}
use Rattle.regress_match.specs.declared.api.compile_and_replace_errors.ReplaceError.{ReplaceError}
use Rattle.regress_match.specs.declared.api.compile_and_replace_errors.ReplaceError.TheVariants.{Search, Closure}

module _ {T E : Type 0} (says : Bor Match → Result T E → Type 0) (units : T → List ℕ) (text : List ℕ) where
  -- The matches before `from` are replaced in `made`, and those in `left` are still to come:
  -- appending their replacement to `made` gives the whole replaced text.
  pub record IsBegun (ms left : List Answer) (from : ℕ) (made : List ℕ) : Type 0 where
    pub pieces : List (Answer × List ℕ)
    pub matches : map (λ p. p.0) pieces ++ left ≡ ms
    pub answered : AreClosureResults says units pieces
    pub goes_on : (rest : List (Answer × List ℕ)) → made ++ replaced text from rest ≡ replaced text 0 (pieces ++ rest)

  pub begins : (ms left : List Answer) (made : List ℕ) → left ≡ ms → made ≡ [] → IsBegun ms left 0 made
  begins ms left made all none = record {
    pieces = [];
    matches = all;
    answered = tt;
    goes_on = λ rest. ap (λ bs. bs ++ replaced text 0 rest) none;
  }

  module _ (ms left : List Answer) (from : ℕ) (made : List ℕ) (b : IsBegun ms left from made) where
    -- The next match is replaced by the closure's result.
    pub goes : (rest : List Answer) (to : ℕ) (reached next : List ℕ) (m : Answer) (piece : T) → left ≡ m ∷ rest
        → reached ≡ made ++ slice_range text from m.range.0 → next ≡ reached ++ units piece → to ≡ m.range.1
        → ClosureMayReturnForMatch says m (Ok piece) → IsBegun ms rest to next
    unfolding replaced
    goes rest to reached next m piece l r n t says_so =
        let first = (λ (p : Answer × List ℕ). p.0) in
        let last = (m, units piece) ∷ [] in
        record {
          pieces = b.pieces ++ last;
          matches =
              ap (λ ms. ms ++ rest) (map-append first b.pieces last) ∙ append_assoc (map first b.pieces) (m ∷ []) rest
              ∙ ap (λ ms. map first b.pieces ++ ms) (sym l) ∙ b.matches;
          answered = Each-append _ b.pieces last b.answered ((piece, refl, says_so), tt);
          goes_on = λ more.
              rw (n, r, t)
              (append_assoc (made ++ slice_range text from m.range.0) (units piece) _
              ∙ append_assoc made (slice_range text from m.range.0) _
              ∙ b.goes_on ((m, units piece) ∷ more) ∙ ap (replaced text 0) (sym (append_assoc b.pieces last more)));
        }

    -- If no match is left, the rest of the text is appended.
    pub ends : (final : List ℕ) → left ≡ [] → final ≡ made ++ drop from text → IsReplacedBy says units text ms final
    unfolding replaced
    ends final l f = record {
      pieces = b.pieces;
      matches = sym (append-nil (map (λ p. p.0) b.pieces)) ∙ ap (λ ms. map (λ p. p.0) b.pieces ++ ms) (sym l) ∙ b.matches;
      answered = b.answered;
      made_is = f ∙ b.goes_on [] ∙ ap (replaced text 0) (append-nil b.pieces);
    }

    -- If the closure fails at the next match, the replacement fails with that error.
    pub refuses : (rest : List Answer) (m : Answer) (e : E) → left ≡ m ∷ rest → ClosureMayReturnForMatch says m (Err e) → ClosureFailedAtMatch says units ms e
    refuses rest m e l says_so = record {
      before = b.pieces;
      at = m;
      behind = rest;
      matches = ap (λ ms. map (λ p. p.0) b.pieces ++ ms) (sym l) ∙ b.matches;
      answered = b.answered;
      refused = says_so;
    }

    module _ (rest : List Answer) (m : Answer) (answer : Result T E) (l : left ≡ m ∷ rest) (says_so : ClosureMayReturnForMatch says m answer) where
      -- If the closure's result was written, the next match is replaced.
      pub goes-answered : (to : ℕ) (reached next : List ℕ) → reached ≡ made ++ slice_range text from m.range.0
          → IsOkAnd answer (λ piece. next ≡ reached ++ units piece) → to ≡ m.range.1 → IsBegun ms rest to next
      goes-answered to reached next r n t = by answer n says_so
        where
          by : (answer : Result T E) → IsOkAnd answer (λ piece. next ≡ reached ++ units piece) → ClosureMayReturnForMatch says m answer → IsBegun ms rest to next
          by (Ok piece) n h = goes rest to reached next m piece l r n t h
          by (Err e) n h = absurd n

      -- An error of the replacement is the closure's error or an allocation failure.
      pub refuses-answered : {W : Type 0} (r : Result W (ReplaceError E)) (e : ReplaceError E) → IsErrAnd r (λ x. x ≡ e) → IsClosureErrorOrOutOfMemory answer e
          → IfErr r (IsPossibleReplaceError says units ms)
      refuses-answered (Ok x) e h can = absurd h
      refuses-answered (Err x) e h can = subst (IsPossibleReplaceError says units ms) (sym h) (by e can)
        where
          by : (e : ReplaceError E) → IsClosureErrorOrOutOfMemory answer e → IsPossibleReplaceError says units ms e
          by (Search e) can = can.1
          by (Closure e) can = refuses rest m e l (subst (ClosureMayReturnForMatch says m) can says_so)
