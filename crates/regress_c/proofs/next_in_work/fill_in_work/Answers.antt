use Rattle.regress_c.proofs.NextInWorkLemmas.{fills-in}
use Rattle.regress_c.specs.declared.search.Encoding.TheVariants.{Utf8, Utf16, Ucs2}
use Rattle.regress_c.proofs.next_in_work.fill_in_work.Goals as goal

pub returns-in-Utf8 : goal.returns-in-Utf8
returns-in-Utf8 c = fills-in c.args.re.now c.args.search.now c.args.encoding Utf8 c.args.work.now _ c.args.spans.now _ _ c.in-Utf8.is (rw (← c.text.ensures) c.fill_utf8_in_work.ensures)

pub returns-in-Utf16 : goal.returns-in-Utf16
returns-in-Utf16 c = fills-in c.args.re.now c.args.search.now c.args.encoding Utf16 c.args.work.now _ c.args.spans.now _ _ c.in-Utf16.is c.fill_utf16_in_work.ensures

pub returns-in-Ucs2 : goal.returns-in-Ucs2
returns-in-Ucs2 c = fills-in c.args.re.now c.args.search.now c.args.encoding Ucs2 c.args.work.now _ c.args.spans.now _ _ c.in-Ucs2.is c.fill_ucs2_in_work.ensures
