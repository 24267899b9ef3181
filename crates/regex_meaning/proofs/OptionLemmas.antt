-- Equal `Some` values have equal contents.
use Rattle.std.proofs.Common.{◌≡◌, Some}

pub some-same : {X : Type 0} (x y : X) → Some x ≡ Some y → x ≡ y
some-same x y e = cc
