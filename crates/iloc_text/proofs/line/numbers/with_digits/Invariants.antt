use Rattle.iloc_text.proofs.Common.{◌≡◌, ◌-◌, ◌≤◌, length, drop, digits_after}
use Rattle.iloc_text.proofs.line.numbers.with_digits.Given as goal

abbrev pub invariant-loop-digit : goal.invariant-loop-digit
invariant-loop-digit l = (digits_after l.value (drop l.count l.fn.bytes) ≡ digits_after l.fn.value l.fn.bytes)
    × (l.count ≤ length l.fn.bytes)

abbrev pub decreases-loop-digit : goal.decreases-loop-digit
decreases-loop-digit l = length l.fn.bytes - l.count
