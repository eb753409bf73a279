-- The operands of an operation as the code has them.
use Rattle.std.specs.Prelude.{List, [], ◌∷◌}
use Rattle.iloc_ops.specs.declared.forms.Operands.{Operands}
use Rattle.iloc_ops.specs.declared.forms.Operands.TheVariants as o
use Rattle.iloc_ops.specs.Forms.{Operand, ◌▹◌}
use Rattle.iloc_ops.specs.Forms.Lead.{space, comma, arrow}
use Rattle.iloc_ops.specs.Forms.Value.{Use, Definition, Constant}

abbrev pub operands_in : Operands → List Operand
operands_in o.Nothing = []
operands_in (o.Constant value) = space ▹ Constant value ∷ []
operands_in (o.Immediate value dest) = space ▹ Constant value ∷ arrow ▹ Definition dest ∷ []
operands_in (o.Copied source dest) = space ▹ Use source ∷ arrow ▹ Definition dest ∷ []
operands_in (o.Stored value addr) = space ▹ Use value ∷ arrow ▹ Use addr ∷ []
operands_in (o.Sources left right dest) = space ▹ Use left ∷ comma ▹ Use right ∷ arrow ▹ Definition dest ∷ []
operands_in (o.WithConstant left value dest) = space ▹ Use left ∷ comma ▹ Constant value ∷ arrow ▹ Definition dest ∷ []
operands_in (o.StoredAt value addr offset) = space ▹ Use value ∷ arrow ▹ Use addr ∷ comma ▹ Constant offset ∷ []
