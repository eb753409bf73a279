-- Rows by the book in a block's own numbers.
use Rattle.std.specs.Prelude.{ℕ, ◌≡◌, ◌<◌, List, length, map, option_map}
use Rattle.iloc_ops.specs.declared.op.Op.{Op}
use Rattle.iloc_meaning.specs.Trace.{op_at}
use Rattle.iloc_timed.specs.declared.latencies.Latencies.{Latencies}
use Rattle.iloc_timed.specs.declared.row.Row.{Row}
use Rattle.iloc_timed.specs.Schedule.{Table}
use Rattle.iloc_rules.specs.Renaming.{renamed, without_nops}
use Rattle.iloc_validation.specs.ByTheBook.{IsScheduleUnder}

-- a row in which each number is another
abbrev pub renumber : (ℕ → ℕ) → Row → Row
renumber f row = record { zero = option_map f row.zero; one = option_map f row.one }

-- By some pairing `rows` are a schedule of `block` by the book. In `own`, the operations of `block` are, renamed, in
-- the slots of the ones that are issued for them, and `issued` has what is issued for each.
pub record AreOwnRows (lat : Latencies) (block ops : List Op) (rows : List Row) (own : Table) (issued : List Op)
    : Type 0 where
  pub origin : ℕ → ℕ
  pub partner : ℕ → ℕ
  pub under : IsScheduleUnder lat (without_nops block) ops rows origin partner
  pub names : own.ops ≡ renamed block
  pub slots : own.rows ≡ map (renumber origin) rows
  pub many : length issued ≡ length own.ops
  pub each : (i : ℕ) → i < length issued → op_at issued i ≡ op_at ops (partner i)
