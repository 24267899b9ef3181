use Rattle.std.proofs.Common.{◌<◌, length, string_bytes, bytes_eq, map, option_map, true, false, ap, sym, ◌∙◌, arith}
use Rattle.regex_meaning.specs.Outcomes.{group_range}
use Rattle.regress_search.specs.MatchesAsSpecAnswers.{answer_of, range_as_pair}
use Rattle.regress_search.proofs.NamedGroupLookup.{found-first, other-name, none-here, is_some-image}
use Rattle.regress_search.proofs.exec.Match.first_matched_group_with_name.Goals as goal

pub returns-then-is_some : goal.returns-then-is_some
returns-then-is_some c =
    let names = c.as_slice-names.result.now in
    let inside : c.loop-id.id < length names = omega arith in
    let range = c.group_range_with_id-range.ensures ∙ ap (λ xs. group_range (map (option_map range_as_pair) xs) c.loop-id.id) c.deref.ensures.value in
    range ∙ found-first string_bytes names c.loop-id.id c.index-names-id.result inside c.index-names-id.is
    (answer_of c.args.self.now) c.args.name.now
    (ap (bytes_eq c.args.name.now) (sym c.as_str.ensures.value) ∙ sym c.if-eq.ensures)
    (is_some-image range_as_pair c.group_range_with_id-range.result _ true range (sym c.is_some.ensures ∙ c.if-is_some.true)) c.loop-id.invariant

pub loop-id-preserved : goal.loop-id-preserved
loop-id-preserved c =
    let names = c.as_slice-names.result.now in
    let inside : c.loop-id.id < length names = omega arith in
    elim c.if-eq.branch [
      | goal.then-eq+else-is_some w ↦
          let range = w.group_range_with_id-range.ensures ∙ ap (λ xs. group_range (map (option_map range_as_pair) xs) c.loop-id.id) w.deref.ensures.value in
          none-here string_bytes names c.loop-id.id c.index-names-id.result inside c.index-names-id.is (answer_of c.args.self.now) c.args.name.now
          (ap (bytes_eq c.args.name.now) (sym c.as_str.ensures.value) ∙ sym w.if-eq.ensures)
          (is_some-image range_as_pair w.group_range_with_id-range.result _ false range (sym w.is_some.ensures ∙ w.if-is_some.false)) c.loop-id.invariant
      | goal.else-eq w ↦
          other-name string_bytes names c.loop-id.id c.index-names-id.result inside c.index-names-id.is (answer_of c.args.self.now) c.args.name.now
          (ap (bytes_eq c.args.name.now) (sym c.as_str.ensures.value) ∙ sym w.if-eq.ensures) c.loop-id.invariant
    ]
