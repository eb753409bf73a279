use Rattle.iloc_sched.proofs.Ranks.Moves.{moved_one, kept_else}
use Rattle.iloc_sched.proofs.cycle.words.move_word.Goals as goal

pub returns-clause-moved : goal.returns-clause-moved
returns-clause-moved c = moved_one c.args.words.now c.args.word c.args.bucket c.requires.bucket c.requires.there

pub returns-clause-others : goal.returns-clause-others
returns-clause-others c = kept_else c.args.words.now c.args.word c.args.bucket c.requires.bucket c.requires.there
