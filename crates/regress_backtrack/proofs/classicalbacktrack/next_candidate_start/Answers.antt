use Rattle.regress_backtrack.proofs.classicalbacktrack.next_candidate_start.Goals as goal

pub returns-in-Some : goal.returns-in-Some
returns-in-Some g c = rw (← c.offset_in_searched_text.ensures, c.position_in_searched_text.ensures) c.in-Some.ensures.next

pub returns-in-None : goal.returns-in-None
returns-in-None g c = rw (← c.offset_in_searched_text.ensures) c.in-None.ensures.next
