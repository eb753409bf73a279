-- The bound on cycles by a rule of memory. By the book it is `Least`'s, word for word.
use Rattle.std.specs.Prelude.{ℕ, ◌+◌, max, nat_le, Bool, true, List, map, filter, slice_index}
use Rattle.iloc_ops.specs.declared.op.Op.{Op}
use Rattle.iloc_timed.specs.declared.kind.Kind.{Kind}
use Rattle.iloc_timed.specs.declared.latencies.Latencies.{Latencies}
use Rattle.iloc_timed.specs.Kinds.{is_memory, is_mult, is_output}
use Rattle.iloc_rules.specs.declared.memory_rule.MemoryRule.{MemoryRule}
use Rattle.iloc_rules.specs.declared.memory_rule.MemoryRule.TheVariants.{Book, Address}
use Rattle.iloc_rules.specs.Apart.{by_address}
use Rattle.iloc_rules.specs.Least.{needed, tails, of_kind, lowest}
use Rattle.iloc_rules.specs.Priority.{priorities_where}
use Rattle.iloc_rules.specs.Renaming.{renamed}
use Rattle.iloc_rules.specs.Rule.{counts_by}
use Rattle.iloc_rules.specs.Starts.{starts_where}

-- how many cycles are left at least from the issue of each operation. By address not all loads after a store wait for
-- it, so there they are the longest chains of delays alone.
abbrev pub tails_under : MemoryRule → Latencies → List Op → List ℕ
tails_under Book lat ops = tails lat ops
tails_under Address lat ops = priorities_where (by_address ops) lat ops

-- what the operations need whose kind passes `test` and that can't be issued before the cycle `first`, by the `starts`
-- and the `tails` of all
abbrev pub needed_after : ℕ → ℕ → (Kind → Bool) → (starts tails : List ℕ) → List Op → ℕ
needed_after first width test starts tails ops = needed first width
    (map (slice_index tails) (filter (λ i. nat_le first (slice_index starts i)) (of_kind test ops)))

-- the lowest start of an operation whose kind passes `test`
abbrev pub first_start : (Kind → Bool) → List ℕ → List Op → ℕ
first_start test starts ops = lowest (map (slice_index starts) (of_kind test ops))

-- what the operations whose kind passes `test` need, all of them, or without the ones of the lowest start
abbrev pub needed_by : ℕ → (Kind → Bool) → (starts tails : List ℕ) → List Op → ℕ
needed_by width test starts tails ops = max (needed_after (first_start test starts ops) width test starts tails ops)
    (needed_after (first_start test starts ops + 1) width test starts tails ops)

-- for the operations that share slots
abbrev pub least_by : (starts tails : List ℕ) → List Op → ℕ
least_by starts tails ops =
    max (needed_by 1 is_memory starts tails ops) (max (needed_by 1 is_mult starts tails ops)
    (max (needed_by 1 is_output starts tails ops) (needed_by 2 (λ k. true) starts tails ops)))

-- the bound of renamed operations by a rule
abbrev pub least_of_under : MemoryRule → Latencies → List Op → ℕ
least_of_under rule lat ops = least_by (starts_where (counts_by rule ops) lat ops) (tails_under rule lat ops) ops

-- the same of a block
abbrev pub least_under : MemoryRule → Latencies → List Op → ℕ
least_under rule lat block = least_of_under rule lat (renamed block)
