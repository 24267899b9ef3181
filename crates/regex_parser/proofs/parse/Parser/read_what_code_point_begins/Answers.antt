use Rattle.std.proofs.Common.{◌≡◌, ◌∙◌, sym}
use Rattle.regex_parser.proofs.DialectRequirementLemmas.{readable}
use Rattle.regex_parser.proofs.ParserInvariantsLemmas.{stands-bar}
use Rattle.regex_parser.proofs.parse.Parser.read_what_code_point_begins.Goals as goal

pub returns-in_ok-end_alternative-in-Some-eq124-clause-reading : goal.returns-in_ok-end_alternative-in-Some-eq124-clause-reading
returns-in_ok-end_alternative-in-Some-eq124-clause-reading c =
    let r = c.requires in
    record {
      inner = r.inner;
      around = r.around;
      level = c.in_ok-end_alternative-in-Some-eq124.ensures.parts r.inner c.args.self.now.groups c.args.self.now.leaves.references r.level;
    }

pub returns-in_ok-end_alternative-in-Some-eq124-clause-text : goal.returns-in_ok-end_alternative-in-Some-eq124-clause-text
returns-in_ok-end_alternative-in-Some-eq124-clause-text c = λ pattern names h.
    let bar : c.args.c ≡ 124 = sym c.in-Some-eq124.ensures.value.1 ∙ c.in-Some-eq124.field-0-test in
    record {
      known = h.known;
      few = h.few;
      stands = rw c.in_ok-end_alternative-in-Some-eq124.ensures.level (stands-bar (readable c.args.self.now.leaves.syntax) (rw bar at h.stands));
    }
