use Rattle.regress_match.proofs.SearchStartLemmas.{utf8_start}
use Rattle.regress_c.proofs.next_in_work.fill_utf8_in_work.Goals as goal

pub fill-filled-requires-clause-starts : goal.fill-filled-requires-clause-starts
fill-filled-requires-clause-starts c =
    utf8_start _ c.args.text.now _ c.in_ok-executor.ensures.text c.utf8.text c.args.start (c.splits_utf8_character.ensures.whole c.if-splits_utf8_character.false)
