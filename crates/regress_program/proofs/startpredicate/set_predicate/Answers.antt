use Rattle.std.proofs.Common.{◌∙◌, ◌∷◌, ap, false, get_or}
use Rattle.regex_pattern_front.specs.ByteSetMembers.{member_bytes_of_byte_bitmap}
use Rattle.regress_program.proofs.ByteSetLemmas.{bytes_from-all}
use Rattle.regress_program.proofs.JoinedStartsLemmas.{predicate-none, predicate-members, predicate-bracket, members_behind, more_than_three}
use Rattle.regress_program.proofs.startpredicate.set_predicate.Goals as goal

pub returns-in_default-clause-predicate : goal.returns-in_default-clause-predicate
returns-in_default-clause-predicate c = predicate-none (member_bytes_of_byte_bitmap c.args.set) (bytes_from-all (λ b. get_or c.args.set.table b false)) c.in_default.ensures

pub returns-in_default-least_byte_in_set_from-clause-predicate : goal.returns-in_default-least_byte_in_set_from-clause-predicate
returns-in_default-least_byte_in_set_from-clause-predicate c =
    let set = member_bytes_of_byte_bitmap c.args.set in
    let a = c.in-Some.a in
    predicate-members set a _ (bytes_from-all (λ b. get_or c.args.set.table b false))
    (c.in-Some.ensures ∙ ap (λ t. a ∷ t) (members_behind set _ a c.from.result c.from.ensures c.in_default-least_byte_in_set_from.ensures))

pub returns-in_default-least_byte_in_set_from-2-clause-predicate : goal.returns-in_default-least_byte_in_set_from-2-clause-predicate
returns-in_default-least_byte_in_set_from-2-clause-predicate c =
    let set = member_bytes_of_byte_bitmap c.args.set in
    let a = c.in-Some.a in
    let b = c.in-Some-least_byte_in_set_from.b in
    predicate-members set a _ (bytes_from-all (λ b. get_or c.args.set.table b false))
    (c.in-Some.ensures
    ∙ ap (λ t. a ∷ t) (members_behind set _ a c.from.result c.from.ensures c.in-Some-least_byte_in_set_from.ensures
    ∙ ap (λ t. b ∷ t) (members_behind set _ b c.from-2.result c.from-2.ensures c.in_default-least_byte_in_set_from-2.ensures)))

pub returns-in-None-clause-predicate : goal.returns-in-None-clause-predicate
returns-in-None-clause-predicate c =
    let set = member_bytes_of_byte_bitmap c.args.set in
    let a = c.in-Some.a in
    let b = c.in-Some-least_byte_in_set_from.b in
    let d = c.in-Some-least_byte_in_set_from-2.c in
    predicate-members set a _ (bytes_from-all (λ b. get_or c.args.set.table b false))
    (c.in-Some.ensures
    ∙ ap (λ t. a ∷ t) (members_behind set _ a c.from.result c.from.ensures c.in-Some-least_byte_in_set_from.ensures
    ∙ ap (λ t. b ∷ t) (members_behind set _ b c.from-2.result c.from-2.ensures c.in-Some-least_byte_in_set_from-2.ensures
    ∙ ap (λ t. d ∷ t) (members_behind set _ d c.from-3.result c.from-3.ensures c.in-None.ensures))))

pub returns-in-Some-least_byte_in_set_from-3-clause-predicate : goal.returns-in-Some-least_byte_in_set_from-3-clause-predicate
returns-in-Some-least_byte_in_set_from-3-clause-predicate c = predicate-bracket (member_bytes_of_byte_bitmap c.args.set) c.in-Some.a _ (bytes_from-all (λ b. get_or c.args.set.table b false)) c.in-Some.ensures

pub returns-in-Some-least_byte_in_set_from-3-clause-over_three : goal.returns-in-Some-least_byte_in_set_from-3-clause-over_three
returns-in-Some-least_byte_in_set_from-3-clause-over_three c =
    let set = member_bytes_of_byte_bitmap c.args.set in
    let a = c.in-Some.a in
    let b = c.in-Some-least_byte_in_set_from.b in
    let d = c.in-Some-least_byte_in_set_from-2.c in
    more_than_three set a b d c.in-Some-least_byte_in_set_from-3.field-0 _ (bytes_from-all (λ b. get_or c.args.set.table b false))
    (c.in-Some.ensures
    ∙ ap (λ t. a ∷ t) (members_behind set _ a c.from.result c.from.ensures c.in-Some-least_byte_in_set_from.ensures
    ∙ ap (λ t. b ∷ t) (members_behind set _ b c.from-2.result c.from-2.ensures c.in-Some-least_byte_in_set_from-2.ensures
    ∙ ap (λ t. d ∷ t) (members_behind set _ d c.from-3.result c.from-3.ensures c.in-Some-least_byte_in_set_from-3.ensures))))
