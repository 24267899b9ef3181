-- A search of threads followed by others ends within the former or continues with the others.
use Rattle.std.proofs.Common.{◌≡◌, ℕ, zero, suc, ◌+◌, ◌≤◌, List, [], ◌∷◌, ◌++◌, Option, Some, None, Bool, refl, ap, ◌∙◌, sym, subst, arith, append_assoc}
use Rattle.std.specs.Prelude.{IsSome}
use Rattle.regex_meaning.specs.Text.{Text, Direction}
use Rattle.regex_meaning.specs.CompilationRelation.{Program}
use Rattle.regress_machine.specs.Machine.{State, Thread, running, waiting, Next, goes, scans, ends, asks, stuck, Found, with_steps, after_lookaround, after_lookaround_search, search_after_effect}
use Rattle.regress_machine.specs.Machine.{act, search}

abbrev pub later : ℕ → Found → Found
later c g = record { steps = c + g.steps; end = g.end }

module _ (program : Program) (text : Text) (d : Direction) where
  abbrev Rest : Type 0
  Rest = List Thread → Option Found

  -- The first threads end the search, or they leave the other threads with these turns.
  pub data Parts (n : ℕ) (whole : Rest) (xs : List Thread) (f : Found) : Type 0 where
    ended : IsSome f.end → ((ys : List Thread) → whole ys ≡ Some f) → Parts n whole xs f
    passed : (m c : ℕ) (g : Found) → m ≤ n → search program text m d xs ≡ Some g → later c g ≡ f
        → ((ys : List Thread) (h : Found) → search program text m d ys ≡ Some h → whole ys ≡ Some (later c h)) → Parts n whole xs f

  module _ (xs : List Thread) where
    abbrev Parted : ℕ → Type 0
    Parted n = (us : List Thread) (f : Found) → search program text n d (us ++ xs) ≡ Some f → Parts n (λ ys. search program text n d (us ++ ys)) xs f

    later-twice : (k c : ℕ) (g f h : Found) → later k g ≡ f → later c h ≡ g → later (k + c) h ≡ f
    later-twice k c g f h a b =
        let steps : k + (c + h.steps) ≡ (k + c) + h.steps = omega arith in
        ap (λ n. record { steps = n; end = h.end }) (sym steps) ∙ ap (later k) b ∙ a

    stepped : (n k : ℕ) (us : List Thread) → Parted n → (f : Found) → with_steps k (search program text n d (us ++ xs)) ≡ Some f
        → Parts (suc n) (λ ys. with_steps k (search program text n d (us ++ ys))) xs f
    stepped n k us parted f e = by (search program text n d (us ++ xs)) refl e
      where
        by_case : (g : Found) → later k g ≡ f → Parts n (λ ys. search program text n d (us ++ ys)) xs g → Parts (suc n) (λ ys. with_steps k (search program text n d (us ++ ys))) xs f
        by_case g is (ended some all) = ended (subst (λ (h : Found). IsSome h.end) is some) (λ ys. ap (with_steps k) (all ys) ∙ ap Some is)
        by_case g is (passed m c h le at sum on) =
            passed m (k + c) h (omega (arith, le)) at (later-twice k c g f h is sum)
            (λ ys r q. ap (with_steps k) (on ys r q) ∙ ap (λ n. Some (record { steps = n; end = r.end })) (omega arith))

        by : (r : Option Found) → search program text n d (us ++ xs) ≡ r → with_steps k r ≡ Some f → Parts (suc n) (λ ys. with_steps k (search program text n d (us ++ ys))) xs f
        by None q e = cc
        by (Some g) q e = let is : later k g ≡ f = cc in by_case g is (parted us g q)

    joined : (n k : ℕ) (ss us : List Thread) → Parted n → (f : Found) → with_steps k (search program text n d (ss ++ (us ++ xs))) ≡ Some f
        → Parts (suc n) (λ ys. with_steps k (search program text n d (ss ++ (us ++ ys)))) xs f
    joined n k ss us parted f e =
        by (stepped n k (ss ++ us) parted f (ap (λ l. with_steps k (search program text n d l)) (append_assoc ss us xs) ∙ e))
      where
        row : (ys : List Thread) → with_steps k (search program text n d (ss ++ (us ++ ys))) ≡ with_steps k (search program text n d ((ss ++ us) ++ ys))
        row ys = ap (λ l. with_steps k (search program text n d l)) (sym (append_assoc ss us ys))

        by : Parts (suc n) (λ ys. with_steps k (search program text n d ((ss ++ us) ++ ys))) xs f → Parts (suc n) (λ ys. with_steps k (search program text n d (ss ++ (us ++ ys)))) xs f
        by (ended some all) = ended some (λ ys. row ys ∙ all ys)
        by (passed m c g le at sum on) = passed m c g le at sum (λ ys r q. row ys ∙ on ys r q)

    asked : (n : ℕ) (negate : Bool) (w : State) (us : List Thread) → Parted n → (r : Option Found) (f : Found)
        → after_lookaround_search (search program text n d) negate w (us ++ xs) r ≡ Some f → Parts (suc n) (λ ys. after_lookaround_search (search program text n d) negate w (us ++ ys) r) xs f
    asked n negate w us parted None f e = cc
    asked n negate w us parted (Some g) f e = joined n (1 + g.steps) (after_lookaround negate w g.end) us parted f e

    after : (n : ℕ) (x : Next) (us : List Thread) → Parted n → (f : Found) → search_after_effect (λ d us. search program text n d us) d x (us ++ xs) ≡ Some f
        → Parts (suc n) (λ ys. search_after_effect (λ d us. search program text n d us) d x (us ++ ys)) xs f
    after n (goes ss) us parted f e = joined n 1 ss us parted f e
    after n (scans tries ss) us parted f e = joined n (1 + tries) ss us parted f e
    after n (ends s) us parted f e = ended (by e) (λ ys. e)
      where
        by : Some (record { steps = 1; end = Some s }) ≡ Some f → IsSome f.end
        by e = let same : record { steps = 1; end = Some s } ≡ f = cc in subst (λ (h : Found). IsSome h.end) same refl
    after n (asks inner negate u w) us parted f e = asked n negate w us parted (search program text n inner (running u ∷ [])) f e
    after n stuck us parted f e = cc

    pub parts : (n : ℕ) → Parted n
    unfolding search
    parts n [] f e = passed n 0 f (omega arith) e (ap (λ n. record { steps = n; end = f.end }) (omega arith)) (λ ys h q. q ∙ ap (λ n. Some (record { steps = n; end = h.end })) (omega arith))
    parts zero (t ∷ us) f e = cc
    parts (suc n) (waiting s ∷ us) f e = stepped n 1 (running s ∷ us) (λ us f e. parts n us f e) f e
    parts (suc n) (running s ∷ us) f e = after n (act program text d s) us (λ us f e. parts n us f e) f e
