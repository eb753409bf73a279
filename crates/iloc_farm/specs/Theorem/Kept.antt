-- What is listed of schedules that keep their blocks.
use Rattle.std.specs.Prelude.{ℕ, List, Option}
use Rattle.std.specs.List.{AllZip}
use Rattle.std.specs.Io.KnownBytes.{Appends}
use Rattle.iloc_ops.specs.declared.file.Block.{Block}
use Rattle.iloc_timed.specs.declared.latencies.Latencies.{Latencies}
use Rattle.iloc_timed.specs.Schedule.{Table}
use Rattle.iloc_rules.specs.declared.memory_rule.MemoryRule.{MemoryRule}
use Rattle.iloc_rules.specs.Lawful.{IsLawfulWhere}
use Rattle.iloc_rules.specs.Rule.{counts_by}
use Rattle.iloc_args.specs.Asked.{Asked}
use Rattle.iloc_farm.specs.Headline.{KeepsItsBlock}
use Rattle.iloc_farm.specs.Reads.{ReadsBlocks}
use Rattle.iloc_farm.specs.Theorem.Options.{AreLatencies, rule_asked}

-- The schedule `s` is lawful for the block: its operations are the block's, renamed, and each waits for those that it has to, by
-- this rule of memory.
abbrev pub IsLawfulFor : MemoryRule → Latencies → Block → (s : Table) → Type 0
IsLawfulFor rule lat b s = IsLawfulWhere (counts_by rule s.ops) lat b.ops s.ops s.rows

-- Blocks were read, and just `text` was written, which is what `lists` says of `schedules`. These are one for each block, in
-- order. With the latencies that are asked for, each keeps its block, and is lawful for it by the rule of memory that is asked
-- for.
pub record KeepsEachBlock (asked : Asked) (lists : Latencies → List Block → List Table → List ℕ → Type 0)
    (read_old read_new written_old written_new : Option (List ℕ)) : Type 0 where
  pub blocks : List Block
  pub read : ReadsBlocks read_old read_new blocks
  pub latencies : Latencies
  pub are_asked : AreLatencies asked latencies
  pub schedules : List Table
  pub keep : AllZip (KeepsItsBlock latencies) blocks schedules
  pub lawful : AllZip (IsLawfulFor (rule_asked asked.flags) latencies) blocks schedules
  pub text : List ℕ
  pub listed : lists latencies blocks schedules text
  pub written : Appends written_old written_new text
