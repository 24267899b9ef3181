use Rattle.regress_c.proofs.NextCallLemmas.{fills-utf16}
use Rattle.regress_c.proofs.next_matches.fill_in_encoding.Goals as goal

pub returns-in-Utf16-None : goal.returns-in-Utf16-None
returns-in-Utf16-None c =
    fills-utf16 c.args.re.now c.args.search.now c.args.encoding c.args.steps c.args.spans.now c.in_utf16.new.spans c.in_utf16.result
    c.in-Utf16-None.is-0 c.in-Utf16-None.is-1 c.in_utf16.ensures
