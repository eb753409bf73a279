use Rattle.iloc_sched.proofs.Common.{◌≡◌, ◌*◌, ◌≤◌, take, numbering, renamed_by, without_nops, Named}
use Rattle.iloc_sched.specs.Steps.Renaming.CurrentNames.{current_of}
use Rattle.iloc_sched.proofs.renaming.Names.rename_block.Given as goal

abbrev pub invariant-loop-op : goal.invariant-loop-op
invariant-loop-op l =
    (l.self.given ≤ 3 * l.op-index)
    × Named (without_nops (take l.op-index l.op-items)) l.self.given (current_of l.self)
    × (l.ops.items ≡ renamed_by (without_nops (take l.op-index l.op-items))
    (numbering (without_nops (take l.op-index l.op-items))))
