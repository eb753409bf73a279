use Rattle.std.proofs.Common.{append_assoc}
use Rattle.iloc_verdict.proofs.json.operations.push_operations.Goals as goal

pub returns : goal.returns
returns c =
    rw (c.in_ok-push_rows.ensures, c.in_ok-extend_from_slice.ensures.items, append_assoc, append_assoc)
    at c.in_ok-extend_from_slice-2.ensures.items
