use Rattle.std.proofs.Common.{◌≤◌, length}
use Rattle.iloc_text.proofs.text_parts.split_before_label.Given as goal

abbrev pub invariant-loop : goal.invariant-loop
invariant-loop l = record { within : l.end ≤ length l.fn.text }
