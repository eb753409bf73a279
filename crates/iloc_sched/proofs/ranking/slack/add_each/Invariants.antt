use Rattle.std.proofs.Common.{ℕ, ◌+◌, ◌≡◌, ◌<◌, ◌≤◌, length, get_or}
use Rattle.iloc_sched.proofs.ranking.slack.add_each.Given as goal

abbrev pub invariant-loop-i : goal.invariant-loop-i
invariant-loop-i l = record {
  size : length l.sums.items ≡ length l.fn.sums.items;
  done : (k : ℕ) → k < l.i → get_or l.sums.items k 0 ≡ get_or l.others k 0 + get_or l.fn.sums.items k 0;
  rest : (k : ℕ) → l.i ≤ k → get_or l.sums.items k 0 ≡ get_or l.fn.sums.items k 0;
}
