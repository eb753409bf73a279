use Rattle.iloc_sched.proofs.edges.by_address.LastsByAddress.clear.Goals as goal

pub returns-clause-known : goal.returns-clause-known
returns-clause-known c ops = record { registers = c.clear.ensures ops; memory = c.clear-2.ensures.before ops }
