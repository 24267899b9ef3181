use Rattle.std.proofs.Common.{◌∙◌}
use Rattle.regex_parser.proofs.ParserContractsLemmas.{err-reads, no-tree-same}
use Rattle.regex_parser.proofs.parse.Parser.read_all.Goals as goal

pub loop-c-preserved : goal.loop-c-preserved
loop-c-preserved c = record {
  reading = c.in_ok-read_what_code_point_begins.ensures.reading;
  same = (
    c.in_ok-read_what_code_point_begins.ensures.same.0 ∙ c.loop-c.invariant.same.0,
    c.in_ok-read_what_code_point_begins.ensures.same.1 ∙ c.loop-c.invariant.same.1,
    c.in_ok-read_what_code_point_begins.ensures.same.2 ∙ c.loop-c.invariant.same.2,
    c.in_ok-read_what_code_point_begins.ensures.same.3 ∙ c.loop-c.invariant.same.3,
  );
  text = λ pattern names h.
      let k = c.loop-c.invariant.text pattern names h in
      c.in_ok-read_what_code_point_begins.ensures.text pattern names (record { known = k.known; few = k.few; stands = rw c.in-Some.ensures.text at k.stands });
}

pub returns-in_err-read_what_code_point_begins-clause-text : goal.returns-in_err-read_what_code_point_begins-clause-text
returns-in_err-read_what_code_point_begins-clause-text c =
    err-reads _ c.args.self.now _ c.from_residual.result _ c.from_residual.ensures.1 (λ x h. h)
    (λ r pattern names h.
    let k = c.loop-c.invariant.text pattern names h in
    no-tree-same c.loop-c.invariant.same.2 c.loop-c.invariant.same.0
    (c.in_err-read_what_code_point_begins.ensures.text r pattern names (record { known = k.known; few = k.few; stands = rw c.in-Some.ensures.text at k.stands })))

pub returns-clause-text : goal.returns-clause-text
returns-clause-text c = λ pattern names h.
    let k = c.loop-c.invariant.text pattern names h in
    record { known = k.known; few = k.few; stands = rw c.in_default.ensures.text.1 k.stands }
