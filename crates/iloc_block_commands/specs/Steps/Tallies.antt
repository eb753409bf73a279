-- What is summed over blocks that are compared.
use Rattle.std.specs.Prelude.{ℕ}
use Rattle.iloc_block_commands.specs.declared.compare.ComparedCycles.{ComparedCycles}
use Rattle.iloc_block_commands.specs.declared.compare.Tally.{Tally}
use Rattle.iloc_block_commands.specs.declared.compare.Tally.TheVariants as tally
use Rattle.iloc_block_commands.specs.declared.compare.Total.{Total}
use Rattle.iloc_block_commands.specs.declared.compare.Total.TheVariants as total
use Rattle.iloc_block_commands.specs.Compare.{best_of, bound_of, counted_own, fewest, optimal}

-- what one block adds to a tally for a schedule of `cycles` cycles
abbrev pub counted : Tally → ℕ → ComparedCycles → ℕ
counted tally.Cycles cycles c = cycles
counted tally.Fewest cycles c = fewest cycles c
counted tally.Optimal cycles c = optimal cycles c

-- what it adds whatever the heuristic
abbrev pub added : Total → ComparedCycles → ℕ
added total.Least c = c.least
added total.Bound c = bound_of c
added total.Best c = best_of c
added (total.Own tally) c = counted_own (counted tally) c
