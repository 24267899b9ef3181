-- Three tests decide whether renamings are safe.
use Rattle.std.proofs.Common.{◌≡◌, ℕ, Bool, true, false, not, ◌||◌, List, [], ◌∷◌, ◌++◌, map, refl, sym, ap, subst}
use Rattle.std.specs.Prelude.{All, Contains, IsTrue, Option, Some, None, find}
use Rattle.use_renamer.specs.Names.{AllDiffer, AreRenamingsSafe, all_differ, is_among, is_file_name}
use Rattle.use_renamer.proofs.Found.{among-either, among-neither, differ, none-found, not-differing, some-found}

map-map : {A B C : Type 0} (g : B → C) (f : A → B) (xs : List A) → map (λ x. g (f x)) xs ≡ map g (map f xs)
map-map g f [] = refl
map-map g f (x ∷ xs) = ap (λ ys. g (f x) ∷ ys) (map-map g f xs)

stays : (b : Bool) → not b ≡ false → IsTrue b
stays true e = refl
stays false e = sym e

leaves : (b : Bool) → not b ≡ true → ¬ IsTrue b
leaves true e h = let never : false ≡ true = e in absurd (cc)
leaves false e h = absurd (cc)

module _ {S R : Type 0} (name_of : S → List ℕ) (move : R → List ℕ × List ℕ) (files others : List S) (renames : List R) where
  abbrev folder : List (List ℕ)
  folder = map name_of files ++ map name_of others

  abbrev new : R → List ℕ
  new r = (move r).1

  abbrev taken : R → Bool
  taken r = is_among name_of (new r) files || is_among name_of (new r) others

  pub safe : find (λ r. not (is_file_name (new r))) renames ≡ None → find taken renames ≡ None → all_differ new renames ≡ true
      → AreRenamingsSafe folder (map move renames)
  safe names free differing = record {
    stay = none-found (λ m. IsTrue (is_file_name m.1)) move (λ r. not (is_file_name (new r))) (λ r e. stays (is_file_name (new r)) e) renames names;
    distinct = subst AllDiffer (map-map (λ m. m.1) move renames) (differ new renames differing);
    free = none-found (λ m. ¬ Contains folder m.1) move taken (λ r e. among-neither name_of (new r) files others e) renames free;
  }

  pub unsafe-name : (r : R) → find (λ r. not (is_file_name (new r))) renames ≡ Some r → ¬ AreRenamingsSafe folder (map move renames)
  unsafe-name r e h = some-found (λ m. IsTrue (is_file_name m.1)) move (λ r. not (is_file_name (new r))) (λ r e. leaves (is_file_name (new r)) e) renames r e h.stay

  pub unsafe-taken : (r : R) → find taken renames ≡ Some r → ¬ AreRenamingsSafe folder (map move renames)
  unsafe-taken r e h = some-found (λ m. ¬ Contains folder m.1) move taken (λ r e free. free (among-either name_of (new r) files others e)) renames r e h.free

  pub unsafe-pair : all_differ new renames ≡ false → ¬ AreRenamingsSafe folder (map move renames)
  unsafe-pair e h = not-differing new renames e (subst AllDiffer (sym (map-map (λ m. m.1) move renames)) h.distinct)
