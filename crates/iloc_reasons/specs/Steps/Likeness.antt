-- Terms that tell operations of rows from operations of a block.
use Rattle.std.specs.Prelude.{ℕ, ◌≢◌, ◌<◌, List, length, slice_index, None}
use Rattle.std.specs.Ordering.{nat_cmp}
use Rattle.std.specs.BTreeMap.{get}
use Rattle.iloc_ops.specs.declared.op.Op.{Op}
use Rattle.iloc_timed.specs.declared.latencies.Latencies.{Latencies}
use Rattle.iloc_timed.specs.declared.row.Row.{Row}
use Rattle.iloc_reasons.specs.declared.likeness.Terms.{Terms}
use Rattle.iloc_facts.specs.Facts.{AreUnlike}

-- operations whose terms differ are unlike, and all terms of the block can be looked up
pub record TellApart (lat : Latencies) (block ops : List Op) (rows : List Row) (terms : Terms) : Type 0 where
  pub unlike : (i k : ℕ) → i < length block → k < length ops
      → slice_index terms.block.items i ≢ slice_index terms.rows.items k → AreUnlike lat block ops rows i k
  pub known : (i : ℕ) → i < length block → get nat_cmp terms.known (slice_index terms.block.items i) ≢ None
