-- Operations that are left out of rows or added.
use Rattle.std.specs.Prelude.{ℕ, ◌≡◌, ◌<◌, List, length, Option, Some, None, Contains}
use Rattle.iloc_ops.specs.declared.op.Op.{Op}
use Rattle.iloc_meaning.specs.Trace.{op_at}
use Rattle.iloc_timed.specs.declared.row.Row.{Row}
use Rattle.iloc_timed.specs.Rows.{issue_cycle}
use Rattle.iloc_facts.specs.declared.lawfulness.Issue.{Issue}
use Rattle.iloc_facts.specs.declared.lawfulness.LeftOut.{LeftOut}
use Rattle.iloc_facts.specs.declared.lawfulness.Added.{Added}
use Rattle.iloc_facts.specs.Counts.{lacking, IsShort}

-- Operations left out and added

-- operation k of the rows, with its cycle
abbrev pub issue_of : List Op → List Row → ℕ → Issue
issue_of ops rows k = record { cycle = issue_cycle rows k; op = op_at ops k }

-- how many operations of the block have no counterpart in the rows; and of one of which the rows have too few, its name
abbrev pub AreLeftOut : List Op → List Op → Option LeftOut → Type 0
AreLeftOut block ops None = lacking block ops ≡ 0
AreLeftOut block ops (Some it) = (it.count ≡ lacking block ops) × Contains block it.op × IsShort it.op block ops

-- how many operations of the rows have no counterpart in the block; and of one of which the block has too few, its name
abbrev pub AreAdded : List Op → List Op → List Row → Option Added → Type 0
AreAdded block ops rows None = lacking ops block ≡ 0
AreAdded block ops rows (Some it) = (it.count ≡ lacking ops block)
    × ((k : ℕ) × (k < length ops) × (it.issue ≡ issue_of ops rows k)) × IsShort it.issue.op ops block
