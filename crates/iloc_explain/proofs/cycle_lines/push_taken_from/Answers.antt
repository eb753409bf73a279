use Rattle.iloc_explain.proofs.Common.{◌<◌, not, length, IfSome, sym, subst, holds}
use Rattle.iloc_explain.proofs.ReadyLines.{found_known}
use Rattle.iloc_explain.proofs.cycle_lines.push_taken_from.Goals as goal

pub push_next-requires-clause-known : goal.push_next-requires-clause-known
push_next-requires-clause-known c =
    subst (λ o. IfSome o (λ j. j < length c.args.ops.now)) (sym c.left_out.ensures)
    (found_known (λ j. not (holds c.args.row j)) (length c.args.ops.now) c.args.list.now.ready.keys c.requires.known)
