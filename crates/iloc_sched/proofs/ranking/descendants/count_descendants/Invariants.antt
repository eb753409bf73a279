use Rattle.iloc_sched.proofs.Common.{◌≡◌, ℕ, ◌*◌, ◌<◌, length, get_or, count_by, range_with_len, depends_on_where, counts_by}
use Rattle.iloc_sched.proofs.ranking.descendants.count_descendants.Given as goal

abbrev pub invariant-loop-chunk : goal.invariant-loop-chunk
invariant-loop-chunk l = record {
  size : length l.found.items ≡ length l.tables.ops.items;
  counted : (i : ℕ) → i < length l.tables.ops.items
      → get_or l.found.items i 0
      ≡ count_by (depends_on_where (counts_by l.tables.rule l.tables.ops.items) l.tables.latencies l.tables.ops.items i) (range_with_len 0 (64 * l.chunk));
}
