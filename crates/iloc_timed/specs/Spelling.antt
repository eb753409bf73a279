-- How a row is written.
use Rattle.std.specs.Prelude.{ℕ, List, ◌++◌, Option, Some, None, codes}
use Rattle.iloc_ops.specs.declared.op.Op.{Op}
use Rattle.iloc_ops.specs.declared.op.Op.TheVariants.{Nop}
use Rattle.iloc_ops.specs.Spelling.{spelling}
use Rattle.iloc_meaning.specs.Trace.{op_at}
use Rattle.iloc_timed.specs.declared.row.Row.{Row}

-- the operation in a slot, `nop` where it is empty
abbrev pub op_in : List Op → Option ℕ → Op
op_in ops None = Nop
op_in ops (Some i) = op_at ops i

-- `[ X ; Y ]`: the operation on unit 0, then that on unit 1
abbrev pub row_spelling : List Op → Row → List ℕ
row_spelling ops row = codes "[ " ++ spelling (op_in ops row.zero) ++ codes " ; " ++ spelling (op_in ops row.one) ++ codes " ]"

-- the same on a line
abbrev pub row_line : List Op → Row → List ℕ
row_line ops row = row_spelling ops row ++ codes "\n"
