-- How many cycles schedules take at most.
use Rattle.std.specs.Prelude.{ℕ, ◌+◌, ◌*◌}
use Rattle.iloc_ops.specs.Limits.{MAX_OPS}
use Rattle.iloc_timed.specs.Limits.{MAX_ROWS}
use Rattle.iloc_rules.specs.declared.delay_pairs.TheConstants.{LONGEST_DELAY}

-- the greedy schedule of a block: the longest latency for each operation
abbrev pub most_cycles : ℕ
most_cycles = LONGEST_DELAY * MAX_OPS

-- any schedule: it ends within the longest latency behind its rows
abbrev pub most_proposed_cycles : ℕ
most_proposed_cycles = MAX_ROWS + LONGEST_DELAY
