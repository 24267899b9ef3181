use Rattle.std.proofs.Common.{◌∙◌, ap, map}
use Rattle.std.specs.Prelude.{if◌then◌else◌, slice_get}
use Rattle.regress_search.specs.MatchesAsSpecAnswers.{answer_of}
use Rattle.use_regexp.specs.Exec.{last_index_after_search}
use Rattle.use_regexp.proofs.TurnLemmas.{taken-last}
use Rattle.use_regexp.proofs.regexp.RegExp.match_text.Goals as goal

pub returns-clause-last : goal.returns-clause-last
returns-clause-last c =
    let p = c.args.self.now.pattern in
    let last = c.args.self.now.last_index in
    c.set_last_index_after.ensures.last
    ∙ ap (λ xs. if p.flags.global then 0 else last_index_after_search p last (slice_get (map answer_of xs) 0)) c.as_slice.ensures.value
    ∙ taken-last p c.args.text.now last (map answer_of c.in_ok-matches.matches.items) c.in_ok-matches.ensures.taken
