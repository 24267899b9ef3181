use Rattle.std.proofs.Common.{◌≡◌, inr, string_bytes, sym}
use Rattle.use_renamer.specs.Names.{move_of}
use Rattle.use_renamer.proofs.Safe.{safe, unsafe-name, unsafe-pair, unsafe-taken}
use Rattle.use_renamer.proofs.plan.check.Goals as goal

pub returns-in-Some-clause-refused : goal.returns-in-Some-clause-refused
returns-in-Some-clause-refused c = inr (unsafe-name string_bytes move_of _ _ _ _ (sym c.in-Some.ensures))

pub returns-in-Some-first_with_existing_new_name-clause-refused : goal.returns-in-Some-first_with_existing_new_name-clause-refused
returns-in-Some-first_with_existing_new_name-clause-refused c = inr (unsafe-taken string_bytes move_of _ _ _ _ (sym c.in-Some-first_with_existing_new_name.ensures))

pub returns-in-Some-first_two_with_same_new_name-clause-refused : goal.returns-in-Some-first_two_with_same_new_name-clause-refused
returns-in-Some-first_two_with_same_new_name-clause-refused c = inr (unsafe-pair string_bytes move_of _ _ _ (sym c.in-Some-first_two_with_same_new_name.ensures))

pub returns-clause-safe : goal.returns-clause-safe
returns-clause-safe c = safe string_bytes move_of _ _ _ (sym c.in_default.ensures) (sym c.in_default-first_with_existing_new_name.ensures) (sym c.in_default-first_two_with_same_new_name.ensures)
