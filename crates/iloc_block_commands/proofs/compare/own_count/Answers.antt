use Rattle.std.proofs.Common.{refl}
use Rattle.iloc_block_commands.proofs.compare.own_count.Goals as goal

pub returns-in_ok-count_by-in-Some : goal.returns-in_ok-count_by-in-Some
returns-in_ok-count_by-in-Some c = rw c.in-Some.is c.in_ok-count_by-in-Some.ensures

pub returns-in-None : goal.returns-in-None
returns-in-None c = λ rule lat block is. rw c.in-None.is refl
