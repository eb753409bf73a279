-- Which operations rows leave out or add.
use Rattle.std.specs.Prelude.{List}
use Rattle.iloc_ops.specs.declared.op.Op.{Op}
use Rattle.iloc_timed.specs.declared.row.Row.{Row}
use Rattle.iloc_facts.specs.Lawfulness.{AreLeftOut, AreAdded}
use Rattle.iloc_verdict.specs.declared.checked.changes.Changes.{Changes}

-- what is said to be left out of a block or added to it, is
pub record AreChanges (block ops : List Op) (rows : List Row) (changes : Changes) : Type 0 where
  pub left_out : AreLeftOut block ops changes.left_out
  pub added : AreAdded block ops rows changes.added
