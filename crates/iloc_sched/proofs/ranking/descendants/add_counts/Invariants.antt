use Rattle.std.proofs.Common.{ℕ, ◌+◌, ◌≡◌, ◌<◌, ◌≤◌, ◌^◌, length, get_or, count_ones}
use Rattle.iloc_sched.proofs.ranking.descendants.add_counts.Given as goal

abbrev pub invariant-loop-i : goal.invariant-loop-i
invariant-loop-i l = record {
  size : length l.counts.items ≡ length l.fn.counts.items;
  done : (k : ℕ) → k < l.i → (get_or l.masks k 0 < 2 ^ 64)
      × (get_or l.counts.items k 0 ≡ get_or l.fn.counts.items k 0 + count_ones (get_or l.masks k 0));
  rest : (k : ℕ) → l.i ≤ k → get_or l.counts.items k 0 ≡ get_or l.fn.counts.items k 0;
}
