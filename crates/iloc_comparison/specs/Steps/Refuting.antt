-- A memory on which rows don't do what their block does.
use Rattle.std.specs.Prelude.{List, ℤ}
use Rattle.iloc_meaning.specs.Outcome.{outcome}
use Rattle.iloc_timed.specs.Timed.{timed_outcome}
use Rattle.iloc_comparison.specs.declared.difference.Difference.{Difference}
use Rattle.iloc_comparison.specs.declared.refutation.Trial.{Trial}
use Rattle.iloc_comparison.specs.Difference.{IsDifference}

-- on this memory the rows' outcome differs from the block's, there
abbrev pub DiffersAt : Trial → List ℤ → Difference → Type 0
DiffersAt trial memory difference =
    IsDifference trial.outputs_alone (timed_outcome trial.latencies.now trial.schedule.now.ops trial.schedule.now.rows memory)
    (outcome trial.block.now.ops memory) difference
