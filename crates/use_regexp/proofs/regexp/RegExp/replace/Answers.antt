use Rattle.std.proofs.Common.{◌∙◌, ap, map, subst, sym}
use Rattle.std.specs.Prelude.{if◌then◌else◌, slice_get}
use Rattle.regex_meaning.specs.Replace.{replaced}
use Rattle.regress_search.specs.MatchesAsSpecAnswers.{answer_of}
use Rattle.use_regexp.specs.Exec.{last_index_after_search}
use Rattle.use_regexp.specs.Replace.{AreRangesInOrderFrom, substituted}
use Rattle.use_regexp.proofs.TurnLemmas.{taken-last, taken-stand}
use Rattle.use_regexp.proofs.regexp.RegExp.replace.Goals as goal

pub replace_matches_by_template-requires : goal.replace_matches_by_template-requires
replace_matches_by_template-requires c =
    subst (λ xs. AreRangesInOrderFrom c.args.text.now 0 (map answer_of xs)) (sym c.as_slice.ensures.value)
    (taken-stand c.args.self.now.pattern c.args.text.now (λ k _. (c.type_inv.text k).fits) c.args.self.now.last_index (map answer_of c.in_ok-matches.matches.items) c.in_ok-matches.ensures.taken)

pub returns-clause-made : goal.returns-clause-made
returns-clause-made c = (
  map answer_of c.in_ok-matches.matches.items,
  c.in_ok-matches.ensures.taken,
  c.in_ok-made.ensures ∙ ap (λ xs. replaced c.args.text.now 0 (substituted c.args.text.now c.args.template.now (map answer_of xs))) c.as_slice.ensures.value,
)

pub returns-clause-last : goal.returns-clause-last
returns-clause-last c =
    let p = c.args.self.now.pattern in
    let last = c.args.self.now.last_index in
    c.set_last_index_after.ensures.last
    ∙ ap (λ xs. if p.flags.global then 0 else last_index_after_search p last (slice_get (map answer_of xs) 0)) c.as_slice-2.ensures.value
    ∙ taken-last p c.args.text.now last (map answer_of c.in_ok-matches.matches.items) c.in_ok-matches.ensures.taken
