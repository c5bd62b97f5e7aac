use Rattle.ibcplan_folders.proofs.reading.with_answers.Goals as goal

pub returns-in-Ok : goal.returns-in-Ok
returns-in-Ok g c = (c.in_ok-more.more.items, c.in-Ok.ensures.items, c.in_ok-more.ensures)
