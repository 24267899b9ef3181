-- A loop that pushes states one by one pushes all but the preferred one, in their order.
use Rattle.std.proofs.Common.{◌≡◌, List, [], ◌∷◌, ◌++◌, sym, ap, ◌∙◌, map, append_assoc, drop}
use Rattle.std.proofs.lemmas.List.{reverse-append, reverse-reverse}
use Rattle.std.specs.Prelude.{reverse}
use Rattle.regex_meaning.proofs.ListLemmas.{map-snoc}

module _ {X Y : Type 0} (f : X → Y) (first : X) where
  abbrev pub IsTaken : List Y → List X → List Y → Type 0
  IsTaken stack left all = stack ++ map f (reverse left ++ first ∷ []) ≡ all

  pub taken-more : (stack all : List Y) (xs ys : List X) (x : X) → IsTaken stack xs all → xs ≡ ys ++ x ∷ [] → IsTaken (stack ++ f x ∷ []) ys all
  taken-more stack all xs ys x h e =
      append_assoc stack (f x ∷ []) (map f (reverse ys ++ first ∷ []))
      ∙ ap (λ l. stack ++ map f (l ++ first ∷ [])) (sym (ap reverse e ∙ reverse-append ys (x ∷ [])))
      ∙ h

  pub taken-first : (stack : List Y) (xs left : List X) → left ≡ reverse xs → IsTaken stack left (stack ++ map f (xs ++ first ∷ []))
  taken-first stack xs left e = ap (λ l. stack ++ map f (l ++ first ∷ [])) (ap reverse e ∙ reverse-reverse xs)

snoc-same : {Y : Type 0} (xs ys : List Y) (y : Y) → xs ++ y ∷ [] ≡ ys ++ y ∷ [] → xs ≡ ys
snoc-same xs ys y e =
    sym (reverse-reverse xs)
    ∙ ap reverse (ap (drop 1) (sym (reverse-append xs (y ∷ [])) ∙ ap reverse e ∙ reverse-append ys (y ∷ [])))
    ∙ reverse-reverse ys

-- Once no state is left, all but the preferred one have been pushed.
pub taken-all : {X Y : Type 0} (f : X → Y) (first : X) (stack old : List Y) (left states others : List X) → IsTaken f first stack left (old ++ map f states) → left ≡ []
    → states ≡ others ++ first ∷ [] → stack ≡ old ++ map f others
taken-all f first stack old left states others h none e =
    snoc-same stack (old ++ map f others) (f first)
    (ap (λ l. stack ++ map f (reverse l ++ first ∷ [])) (sym none) ∙ h ∙ ap (λ l. old ++ map f l) e ∙ ap (λ l. old ++ l) (map-snoc f others first)
    ∙ sym (append_assoc old (map f others) (f first ∷ [])))
