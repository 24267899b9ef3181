use Rattle.regress_c.proofs.first_match.search.Goals as goal

pub returns-clause-replies : goal.returns-clause-replies
returns-clause-replies g c = (c.find.result, c.find.ensures.finds, c.reply_to_search_result.ensures.reply, c.reply_to_search_result.ensures.written)
