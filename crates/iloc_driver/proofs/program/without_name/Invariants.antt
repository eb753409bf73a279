use Rattle.std.proofs.Common.{◌≡◌}
use Rattle.iloc_driver.proofs.program.without_name.Given as goal

abbrev pub invariant-loop-word : goal.invariant-loop-word
invariant-loop-word l = l.after.items ≡ l.yielded
