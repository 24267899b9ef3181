-- If an effect is not stuck, the options that it uses have values and its conditions hold.
use Rattle.std.proofs.Common.{◌≡◌, Option, Some, None, Bool, true, false, refl, subst}
use Rattle.std.specs.Prelude.{is_some, IsTrue}
use Rattle.regress_machine.specs.Machine.{Next, with_some, only_if}
use Rattle.regress_machine.specs.InsnEffects.{IsNotStuck}

pub by-some : {X : Type 0} (o : Option X) (f : X → Next) (n : Next) → IsNotStuck (with_some o f) → ((x : X) → o ≡ Some x → n ≡ f x) → n ≡ with_some o f
by-some None f n can h = absurd can
by-some (Some x) f n can h = h x refl

pub can-some : {X : Type 0} (o : Option X) (f : X → Next) → IsNotStuck (with_some o f) → IsTrue (is_some o)
can-some None f can = absurd can
can-some (Some x) f can = refl

pub can-then : {X : Type 0} (o : Option X) (f : X → Next) (x : X) → o ≡ Some x → IsNotStuck (with_some o f) → IsNotStuck (f x)
can-then o f x e can = subst (λ o. IsNotStuck (with_some o f)) e can

pub by-only : (b : Bool) (x : Next) → IsNotStuck (only_if b x) → x ≡ only_if b x
by-only true x can = refl
by-only false x can = absurd can

pub can-only : (b : Bool) (x : Next) → IsNotStuck (only_if b x) → IsNotStuck x
can-only true x can = can
can-only false x can = absurd can
