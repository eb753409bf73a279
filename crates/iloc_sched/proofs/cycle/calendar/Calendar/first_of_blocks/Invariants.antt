use Rattle.iloc_sched.proofs.Common.{◌≡◌, ℕ, ◌/◌, ◌<◌, HasSameSets, place_of, open_bit}
use Rattle.iloc_sched.proofs.cycle.calendar.Calendar.first_of_blocks.Given as goal

abbrev pub invariant-loop-block : goal.invariant-loop-block
invariant-loop-block l = record {
  passed : (r : ℕ) → r / 64 / 64 < l.block → open_bit l.fn.self.words.items (place_of l.beside) r ≡ 0;
  same : HasSameSets l.fn.self l.self;
}
