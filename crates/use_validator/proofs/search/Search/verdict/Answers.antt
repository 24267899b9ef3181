use Rattle.use_validator.proofs.search.Search.verdict.Goals as goal

pub returns : goal.returns
returns c = (c.in-Some.re.now, c.in-Some.ensures, c.in_ok-judge_with_work_if_needed.ensures)
