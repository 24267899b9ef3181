use Rattle.regress_c.proofs.regress_c_find_utf8_in_work.Goals as goal

pub returns-clause-replies : goal.returns-clause-replies
returns-clause-replies c = (c.find.result, c.find.ensures.finds, c.reply_to_search_result.ensures.reply, c.reply_to_search_result.ensures.written)
