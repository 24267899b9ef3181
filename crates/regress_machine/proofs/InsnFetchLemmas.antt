-- An instruction at which the machine is not stuck exists in the program.
use Rattle.std.proofs.Common.{◌≡◌, ℕ, zero, suc, ◌<◌, List, [], ◌∷◌, length, map, Option, Some, None, Bool, refl, ap, sym, subst, arith, slice_get, get_or}
use Rattle.std.specs.Prelude.{is_some, IsTrue}
use Rattle.regex_meaning.specs.Text.{Text, Direction}
use Rattle.regex_meaning.specs.CompilationRelation.{Program, Insn}
use Rattle.regress_machine.specs.Machine.{State, Next, with_some, test_of, loop_again_effect, act_on}
use Rattle.regress_machine.specs.InsnEffects.{IsNotStuck}

some-at : {X Y : Type 0} (f : X → Y) (xs : List X) (i : ℕ) (x : X) → x ≡ get_or xs i x → IsTrue (is_some (slice_get (map f xs) i)) → slice_get (map f xs) i ≡ Some (f x)
some-at f [] i x e h = cc
some-at f (y ∷ xs) zero x e h = ap (λ z. Some (f z)) (sym e)
some-at f (y ∷ xs) (suc i) x e h = some-at f xs i x e h

pub fetched-some : {X Y : Type 0} (f : X → Y) (xs : List X) (ys : List Y) (i : ℕ) (x : X) → x ≡ get_or xs i x → map f xs ≡ ys → IsTrue (is_some (slice_get ys i)) → slice_get ys i ≡ Some (f x)
fetched-some f xs ys i x e same h = subst (λ ys. IsTrue (is_some (slice_get ys i)) → slice_get ys i ≡ Some (f x)) same (some-at f xs i x e) h

some-below : {X Y : Type 0} (f : X → Y) (xs : List X) (i : ℕ) → IsTrue (is_some (slice_get (map f xs) i)) → i < length xs
some-below f [] i h = cc
some-below f (x ∷ xs) zero h = omega arith
some-below f (x ∷ xs) (suc i) h = let less = some-below f xs i h in omega (arith, less)

pub fetched-below : {X Y : Type 0} (f : X → Y) (xs : List X) (ys : List Y) (i : ℕ) → map f xs ≡ ys → IsTrue (is_some (slice_get ys i)) → i < length xs
fetched-below f xs ys i same h = some-below f xs i (subst (λ ys. IsTrue (is_some (slice_get ys i))) (sym same) h)

-- ---- Instructions at which the machine is not stuck

pub act-some : (program : Program) (text : Text) (d : Direction) (o : Option Insn) (s : State) → IsNotStuck (act_on program text d o s) → IsTrue (is_some o)
act-some program text d None s can = absurd can
act-some program text d (Some insn) s can = refl

pub again-some : (o : Option Insn) (begin : ℕ) (s : State) → IsNotStuck (loop_again_effect o begin s) → IsTrue (is_some o)
again-some None begin s can = absurd can
again-some (Some insn) begin s can = refl

pub test-some : (program : Program) (o : Option Insn) (f : (ℕ → Bool) → Next) → IsNotStuck (with_some (test_of program o) f) → IsTrue (is_some o)
test-some program None f can = absurd can
test-some program (Some insn) f can = refl
