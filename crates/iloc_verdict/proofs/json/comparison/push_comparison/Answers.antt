use Rattle.std.proofs.Common.{append_assoc}
use Rattle.iloc_verdict.proofs.json.comparison.push_comparison.Goals as goal

pub returns-in_ok-extend_from_slice-in-Void-2 : goal.returns-in_ok-extend_from_slice-in-Void-2
returns-in_ok-extend_from_slice-in-Void-2 c =
    rw c.in-Void.is (rw (c.in_ok-push_void-in-Void.ensures, c.in_ok-extend_from_slice-in-Void.ensures.items, append_assoc, append_assoc)
    at c.in_ok-extend_from_slice-in-Void-2.ensures.items)
