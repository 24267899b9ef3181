-- What a handle owns: a pattern on the heap, or nothing if its pointer is null.
use Rattle.std.specs.Prelude.{◌≡◌, Option, Some, None}
use Rattle.std.specs.Box.Ownership.{box_owns}
use Rattle.std.specs.declared.alloc.Global.{Global}
use Rattle.std.specs.contracts.impls.GlobalAllocator.TheImpl.{ghosts}
use base.Fml.{Fml, ftrue, fex}
use denote.RattleType.{RattleType}
use denote.RawPtr.{Ptr, null_ptr}

-- The only value of the global allocator. Its token is the right to free a block.
abbrev pub global : Global
global = record { memory = record { seal = tt } }

-- What a handle with this pointer and this content owns.
abbrev pub ownership_of_handle : (R : RattleType) → Ptr → Option R.Denot → Fml
ownership_of_handle R p (Some x) = box_owns (ghosts.dealloc_token global) R p x
ownership_of_handle R p None = fex (p ≡ null_ptr) (λ _. ftrue)
