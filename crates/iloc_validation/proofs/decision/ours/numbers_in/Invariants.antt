use Rattle.iloc_validation.proofs.Common.{◌≡◌, length, IssueTheSame, AreNumbersIn}
use Rattle.iloc_validation.proofs.decision.ours.numbers_in.Given as goal

abbrev pub invariant-loop-c : goal.invariant-loop-c
invariant-loop-c l = record {
  size : length l.numbers.items ≡ length l.schedule.ops;
  noted : IssueTheSame l.others.ops l.others.rows l.schedule.ops l.schedule.rows
      → AreNumbersIn (length l.schedule.ops) l.others.rows l.schedule.rows l.c l.numbers.items;
}
