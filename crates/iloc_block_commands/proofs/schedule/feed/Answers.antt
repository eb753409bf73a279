use Rattle.iloc_block_commands.proofs.schedule.feed.Goals as goal

pub returns-in-Some-clause-took : goal.returns-in-Some-clause-took
returns-in-Some-clause-took g c = rw c.in-Some.is c.feed.ensures.took

pub returns-in-None-clause-took : goal.returns-in-None-clause-took
returns-in-None-clause-took g c = rw c.in-None.is c.feed_as.ensures.took
