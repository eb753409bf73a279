-- How a block's name and operations are held.
use Rattle.std.specs.Prelude.{ℕ, List, string_bytes}
use Rattle.std.specs.Arc.{arc_value}
use Rattle.std.specs.List.{slice_range}
use Rattle.iloc_ops.specs.declared.name.Text.{Text}
use Rattle.iloc_ops.specs.declared.name.Text.TheVariants.{Short, Long}
use Rattle.iloc_ops.specs.declared.op.Op.{Op}
use Rattle.iloc_ops.specs.declared.ops.Shared.{Shared}
use Rattle.iloc_ops.specs.declared.ops.Held.{Held}
use Rattle.iloc_ops.specs.declared.ops.Held.TheVariants as held

-- the text of a name
abbrev pub name_text : Text → List ℕ
name_text (Short text) = text.bytes
name_text (Long text) = string_bytes text

-- the operations of a range of a shared list
abbrev pub shared_ops : Shared → List Op
shared_ops shared = slice_range (arc_value shared.all).items shared.start shared.end

-- the operations of a block
abbrev pub operations : Held → List Op
operations (held.Own items) = items.items
operations (held.Shared shared) = shared_ops shared
