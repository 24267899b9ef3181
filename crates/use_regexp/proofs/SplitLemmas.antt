-- Successive separators, and the pieces between them.
use Rattle.std.proofs.Common.{◌≡◌, ℕ, ◌+◌, ◌-◌, ◌<◌, ◌≤◌, ◌⊎◌, inl, inr, Bool, true, false, List, [], ◌∷◌, ◌++◌, length, map, take, nat_eq, nat_lt, refl, sym, subst, ap, ◌∙◌, arith, append_assoc}
use Rattle.std.proofs.Common.{append-nil, length-append}
use Rattle.std.specs.Bool.{MatchBool}
use Rattle.std.specs.Prelude.{Option, Some, None, IfSome, option_map, if◌then◌else◌}
use Rattle.std.proofs.lemmas.List.{length-map}
use Rattle.std.proofs.lemmas.Bool.{cases_lt, eqb-false}
use Rattle.regex_meaning.specs.MatchGroupsByNumberAndName.{Answer}
use Rattle.regex_meaning.specs.Outcomes.{Groups}
use Rattle.regex_meaning.specs.CodeUnits.{AreU16Units}
use Rattle.regress_search.specs.MatchesAsSpecAnswers.{answer_of}
use Rattle.regress_search.specs.declared.exec.Match.{Match}
use Rattle.use_regexp.specs.Exec.{IsRangeFromIndexOn, first_match}
use Rattle.use_regexp.specs.Split.{ArePieces, AreSeparators, CutsNoSurrogatePair, IsSeparator, IsSplit, match_if_before_end, chosen, has_match_ending_at, pieces, pieces_of_empty_text, separator}
use Rattle.use_regexp.specs.Units.{advanced}
use Rattle.use_regexp.specs.declared.pattern.Pattern.{Pattern}
use Rattle.use_regexp.proofs.FoundStands.{first-stands}
use Rattle.use_regexp.proofs.PairLemmas.{advanced-starts, start-whole}

module _ (p : Pattern) (us : List ℕ) where
  -- ---- The position of a separator

  before-is : (chosen : Option Answer) (m : Answer) → match_if_before_end us chosen ≡ Some m → chosen ≡ Some m
  before-is None m e = cc
  before-is (Some n) m e = by (nat_lt n.range.0 (length us)) e
    where
      by : (b : Bool) → (if b then Some n else None) ≡ Some m → Some n ≡ Some m
      by true e = e
      by false e = cc

  module _ (small : AreU16Units us) (from : ℕ) where
    of-next : (m : Answer) → first_match p us (advanced p.flags.unicode us from) ≡ Some m → IsSeparator p us from m
    of-next m e =
        let s = first-stands p us (advanced p.flags.unicode us from) small m e in
        let less = advanced-starts p.flags.unicode us from in
        record {
          fits = s.fits;
          behind = λ _. omega (arith, less, s.behind);
          goes_on = λ _. omega (arith, less, s.behind, s.fits.whole);
          whole = s.whole;
        }

    of-first : (m : Answer) → first_match p us from ≡ Some m → nat_eq m.range.1 from ≡ false → IsSeparator p us from m
    of-first m e differs =
        let s = first-stands p us from small m e in
        let other = eqb-false m.range.1 from differs in
        record {
          fits = s.fits;
          behind = λ whole. let same = start-whole p.flags.unicode us from whole in omega (arith, same, s.behind);
          goes_on = λ whole. let same = start-whole p.flags.unicode us from whole in omega (arith, same, s.behind, s.fits.whole, other);
          whole = s.whole;
        }

    pub separator-stands : (m : Answer) → separator p us from ≡ Some m → IsSeparator p us from m
    unfolding separator
    separator-stands m e =
        by (first_match p us from) refl (before-is (chosen p us from (first_match p us from)) m e)
      where
        taken : (n : Answer) → first_match p us from ≡ Some n → (b : Bool) → nat_eq n.range.1 from ≡ b
            → (if b then first_match p us (advanced p.flags.unicode us from) else Some n) ≡ Some m → IsSeparator p us from m
        taken n q true d e = of-next m e
        taken n q false d e = let same : n ≡ m = cc e in subst (IsSeparator p us from) same (of-first n q d)

        by : (first : Option Answer) → first_match p us from ≡ first
            → (if has_match_ending_at from first then first_match p us (advanced p.flags.unicode us from) else first) ≡ Some m → IsSeparator p us from m
        by None q e = cc
        by (Some n) q e = taken n q (nat_eq n.range.1 from) refl e

    -- The result of a call.
    pub separator-stands-if : (m : Option Match) → option_map answer_of m ≡ separator p us from → IfSome m (λ f. IsSeparator p us from (answer_of f))
    separator-stands-if None e = tt
    separator-stands-if (Some f) e = separator-stands (answer_of f) (sym e)

  -- The result of a call is the next separator.
  pub separator-is : (from : ℕ) (first taken got : Option Answer) → first ≡ first_match p us from → taken ≡ chosen p us from first → got ≡ match_if_before_end us taken
      → got ≡ separator p us from
  unfolding separator
  separator-is from first taken got f t g = g ∙ ap (match_if_before_end us) (t ∙ ap (chosen p us from) f)

  -- ---- The pieces so far

  -- The separators so far lead to an offset, with these pieces. They can be continued by the
  -- separators from this offset on.
  pub record IsSplitTo (limit from : ℕ) (made : Groups) : Type 0 where
    pub ms : List Answer
    pub goes_on : (rest : List Answer) → AreSeparators p us from (limit - length made) rest → AreSeparators p us 0 limit (ms ++ rest)
    pub same : (rest : List Answer) → pieces p us 0 (ms ++ rest) ≡ made ++ pieces p us from rest

  pub split-none : (limit : ℕ) (made : Groups) → made ≡ [] → IsSplitTo limit 0 made
  split-none limit made none = record {
    ms = [];
    goes_on = λ rest h. let all : limit - length made ≡ limit = omega (arith, ap length none) in subst (λ n. AreSeparators p us 0 n rest) all h;
    same = λ rest. ap (λ (gs : Groups). gs ++ pieces p us 0 rest) (sym none);
  }

  module _ (limit from : ℕ) (made : Groups) (b : IsSplitTo limit from made) where
    pub split-more : (to : ℕ) (more : Groups) (m : Answer) → separator p us from ≡ Some m → to ≡ m.range.1
        → more ≡ made ++ Some (from, m.range.0) ∷ m.captures → IsSplitTo limit to more
    split-more to more m e t n =
        let fewer : limit - length more ≡ limit - length made - (length m.captures + 1) = omega (arith, ap length n, length-append made (Some (from, m.range.0) ∷ m.captures)) in
        record {
          ms = b.ms ++ m ∷ [];
          goes_on = λ rest h.
              rw (append_assoc b.ms (m ∷ []) rest)
              (b.goes_on (m ∷ rest) (e, subst (λ at. AreSeparators p us at (limit - length made - (length m.captures + 1)) rest) t (subst (λ k. AreSeparators p us to k rest) fewer h)));
          same = λ rest.
              ap (pieces p us 0) (append_assoc b.ms (m ∷ []) rest) ∙ b.same (m ∷ rest)
              ∙ sym (append_assoc made (Some (from, m.range.0) ∷ m.captures) (pieces p us m.range.1 rest))
              ∙ ap (λ (gs : Groups). gs ++ pieces p us m.range.1 rest) (sym n) ∙ ap (λ at. more ++ pieces p us at rest) (sym t);
        }

    pub split-end : (all result : Groups) → (separator p us from ≡ None) ⊎ (limit ≤ length made) → all ≡ made ++ Some (from, length us) ∷ [] → result ≡ take limit all → ArePieces p us limit result
    split-end all result ends a r = (
      b.ms,
      subst (AreSeparators p us 0 limit) (append-nil b.ms) (b.goes_on [] (last ends)),
      r ∙ ap (take limit) (a ∙ sym (b.same []) ∙ ap (pieces p us 0) (append-nil b.ms)),
    )
      where
        last : (separator p us from ≡ None) ⊎ (limit ≤ length made) → (separator p us from ≡ None) ⊎ (limit - length made ≡ 0)
        last (inl none) = inl none
        last (inr enough) = inr (omega (arith, enough))

  -- ---- An iteration of the loop

  -- The state of the loop: an offset in the text that is not within a pair, and the pieces so far.
  pub record IsCutTo (limit from : ℕ) (made : Groups) : Type 0 where
    pub inside : from ≤ length us
    pub whole : CutsNoSurrogatePair p us from
    pub split : IsSplitTo limit from made

  pub cut-none : (limit : ℕ) (made : Groups) → made ≡ [] → IsCutTo limit 0 made
  cut-none limit made none = record { inside = omega arith; whole = λ _. refl; split = split-none limit made none }

  module _ (limit from : ℕ) (made : Groups) (b : IsCutTo limit from made) (got : Option Match) (f : Match) (is : got ≡ Some f) (to : ℕ) (t : to ≡ (answer_of f).range.1)
      (stands : IfSome got (λ f. IsSeparator p us from (answer_of f))) where
    stands-there : IsSeparator p us from (answer_of f)
    stands-there = subst (λ o. IfSome o (λ f. IsSeparator p us from (answer_of f))) is stands

    pub cut-more : (more : Groups) → IfSome got (λ f. separator p us from ≡ Some (answer_of f))
        → more ≡ made ++ Some (from, (answer_of f).range.0) ∷ (answer_of f).captures → IsCutTo limit to more
    cut-more more goes n =
        let s = stands-there in
        let e : separator p us from ≡ Some (answer_of f) = subst (λ o. IfSome o (λ f. separator p us from ≡ Some (answer_of f))) is goes in
        record {
          inside = omega (arith, s.fits.whole, t);
          whole = subst (CutsNoSurrogatePair p us) (sym t) s.whole;
          split = split-more limit from made b.split to more (answer_of f) e t n;
        }

    pub cut-smaller : length us - to < length us - from
    cut-smaller =
        let s = stands-there in
        let less = s.goes_on b.whole in
        omega (arith, less, s.fits.whole, t)

  -- There are enough pieces, counted by what they represent.
  pub enough : {A : Type 0} (f : A → Option (ℕ × ℕ)) (limit from : ℕ) (items list : List A) → list ≡ items → (separator p us from ≡ None) ⊎ (limit ≤ length list)
      → (separator p us from ≡ None) ⊎ (limit ≤ length (map f items))
  enough f limit from items list e (inl none) = inl none
  enough f limit from items list e (inr le) = inr (omega (arith, le, ap length e, length-map items f))

  -- ---- By the length of the text

  pub split-empty : (limit : ℕ) (made : Groups) → nat_eq (length us) 0 ≡ true → made ≡ take limit (pieces_of_empty_text p us) → IsSplit p us limit made
  split-empty limit made e h = subst (λ (b : Bool). MatchBool b (made ≡ take limit (pieces_of_empty_text p us)) (ArePieces p us limit made)) (sym e) h

  pub split-some : (limit : ℕ) (made : Groups) → nat_eq (length us) 0 ≡ false → ArePieces p us limit made → IsSplit p us limit made
  split-some limit made e h = subst (λ (b : Bool). MatchBool b (made ≡ take limit (pieces_of_empty_text p us)) (ArePieces p us limit made)) (sym e) h
