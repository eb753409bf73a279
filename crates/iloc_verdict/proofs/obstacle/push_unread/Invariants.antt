use Rattle.iloc_verdict.proofs.Common.{◌≡◌, ◌++◌, take, in_one_line}
use Rattle.iloc_verdict.proofs.obstacle.push_unread.Given as goal

abbrev pub invariant-loop-byte : goal.invariant-loop-byte
invariant-loop-byte l = l.text.items ≡ l.initial.text.items ++ in_one_line (take l.byte-index l.words)
