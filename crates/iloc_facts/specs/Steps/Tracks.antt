-- Rows in mid-run against the log of what they have issued.
use Rattle.std.specs.Prelude.{ℕ, ◌+◌, ◌≡◌, List, map}
use Rattle.iloc_ops.specs.declared.op.Reg.{Reg}
use Rattle.iloc_timed.specs.Timed.{Issued, register_in}
use Rattle.iloc_timed.specs.Steps.Wheel.{AreUnderWay}
use Rattle.iloc_timed.specs.Steps.Machine.{landed, AllLand}
use Rattle.iloc_facts.specs.declared.reading.run.Run.{Run}
use Rattle.iloc_facts.specs.Steps.Tracks.Holders.{holder}
use Rattle.iloc_facts.specs.Steps.Tracks.Arrivals.{mark, sent_as}
pub mod Arrivals
pub mod Holders

-- registers hold the numbers that were due before cycle c, and the rest is under way
pub record Tracks (c : ℕ) (log : List Issued) (run : Run) : Type 0 where
  pub held : (r : Reg) → mark (holder run.holders r) ≡ register_in (landed c log) r
  pub under_way : AreUnderWay c log (map (map sent_as) run.wheel)
  pub all_land : AllLand (c + 16) log
