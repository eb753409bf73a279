use Rattle.iloc_block_commands.proofs.schedule.lend.Goals as goal

pub returns-in-Some : goal.returns-in-Some
returns-in-Some c = rw c.in-Some.is c.lend.ensures

pub returns-in-None : goal.returns-in-None
returns-in-None c = rw c.in-None.is c.lend_as.ensures
