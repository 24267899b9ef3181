use Rattle.std.proofs.Common.{◌∙◌, sym, ap, refl, arith, ◌≡◌, true}
use Rattle.std.specs.Prelude.{string_bytes, ◌++◌, ◌∷◌, []}
use Rattle.regex_parser.proofs.GroupNameLemmas.{name-begins, name-goes_on, name-ends, name-stops, name-unclosed, one_byte, follows, follows-not, goes_on, none-append, not_end, is_end, may_follow}
use Rattle.regex_parser.proofs.escapes_and_group_names.name.Goals as goal

pub loop-c-init : goal.loop-c-init
loop-c-init c = record {
  moves = omega arith;
  so_far = rw c.new-name.ensures.bytes (name-begins _);
  first = rw c.new-name.ensures.bytes refl;
}

pub returns-then-ends_name-clause-text : goal.returns-then-ends_name-clause-text
returns-then-ends_name-clause-text c =
    let i = c.loop-c.invariant in
    let end = is_end (string_bytes c.loop-c.name) c.loop-c.is_first c.in-Some.c i.first (sym c.ends_name.ensures ∙ c.if-ends_name.true) in
    name-ends _ _ _ _ i.so_far end.0 (c.in-Some.ensures.text ∙ ap (λ x. x ∷ c.next.new.self.rest.now) end.1)

pub loop-c-preserved : goal.loop-c-preserved
loop-c-preserved c =
    let i = c.loop-c.invariant in
    let letter = c.in-Some-letter_of_name.ensures in
    let stands : may_follow (string_bytes c.loop-c.name) c.in-Some.c ≡ true = follows (string_bytes c.loop-c.name) c.loop-c.is_first c.in-Some.c i.first letter.1 in
    let bytes : string_bytes c.push.new.self ≡ string_bytes c.loop-c.name ++ c.in-Some.c ∷ [] =
    c.in_ok-push.ensures.bytes ∙ ap (λ x. string_bytes c.loop-c.name ++ x) (one_byte c.in-Some-letter_of_name.letter c.in-Some.c letter.0 (goes_on (string_bytes c.loop-c.name) c.in-Some.c stands) c.in_ok-push.ensures.ascii) in
    record {
      moves = omega arith;
      so_far = rw bytes (name-goes_on _ (string_bytes c.loop-c.name) _ _ c.in-Some.c i.so_far c.in-Some.ensures.text stands);
      first = rw bytes (sym (none-append (string_bytes c.loop-c.name) c.in-Some.c));
    }

pub returns-in_default-letter_of_name-clause-text : goal.returns-in_default-letter_of_name-clause-text
returns-in_default-letter_of_name-clause-text c =
    let i = c.loop-c.invariant in
    λ r. name-stops _ (string_bytes c.loop-c.name) _ _ c.in-Some.c i.so_far c.in-Some.ensures.text (follows-not (string_bytes c.loop-c.name) c.loop-c.is_first c.in-Some.c i.first c.in_default-letter_of_name.ensures)
    (not_end (string_bytes c.loop-c.name) c.loop-c.is_first c.in-Some.c i.first (sym c.ends_name.ensures ∙ c.if-ends_name.false))

pub returns-clause-text : goal.returns-clause-text
returns-clause-text c = λ r. name-unclosed _ _ _ c.loop-c.invariant.so_far c.in_default.ensures.text.0
