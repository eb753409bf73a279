-- By what a command ranks the ready operations.
use Rattle.std.specs.Prelude.{Bool, true, false}
use Rattle.iloc_args.specs.declared.request.Task.{Task}
use Rattle.iloc_args.specs.declared.request.Task.TheVariants.{Simulate, Trace, Schedule, Counts, Compare, Explain}

-- whether it can rank them by numbers of somebody's own
abbrev pub ranks_by_own : Task → Bool
ranks_by_own Simulate = true
ranks_by_own Trace = true
ranks_by_own Schedule = true
ranks_by_own Counts = true
ranks_by_own Compare = true
ranks_by_own Explain = true
ranks_by_own _ = false
