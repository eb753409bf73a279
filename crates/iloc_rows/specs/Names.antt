-- Which heads name their block.
use Rattle.std.specs.Prelude.{ℕ, ◌-◌, nat_lt, Bool, true, false, ◌&&◌, not, if◌then◌else◌, Option, Some, None, List, slice_get}
use Rattle.std.specs.Option.{option_map_or}
use Rattle.std.specs.Str.{bytes_eq}
use Rattle.iloc_ops.specs.declared.file.Block.{Block}
use Rattle.iloc_text.specs.ScheduleLines.{Said}
use Rattle.iloc_text.specs.ScheduleLines.Said.{nothing, row, head, cycles, total}

-- the same name, or none both
abbrev pub is_same_name : Option (List ℕ) → Option (List ℕ) → Bool
is_same_name None None = true
is_same_name None (Some name) = false
is_same_name (Some name) None = false
is_same_name (Some name) (Some other) = bytes_eq name other

-- block k, counted from 1, is there and has this name
abbrev pub is_named : List Block → ℕ → Option (List ℕ) → Bool
is_named blocks k name = option_map_or (λ block. is_same_name block.name name) (slice_get blocks (k - 1)) false

-- it is there, and has another name
abbrev pub is_named_otherwise : List Block → ℕ → Option (List ℕ) → Bool
is_named_otherwise blocks k name =
    nat_lt 0 k && option_map_or (λ block. not (is_same_name block.name name)) (slice_get blocks (k - 1)) false

-- the number of the block of which this is the head by another name, if it is one
abbrev pub misnamed : List Block → Said → Option ℕ
misnamed blocks nothing = None
misnamed blocks (row zero one) = None
misnamed blocks (head k name) = if is_named_otherwise blocks k name then Some k else None
misnamed blocks (cycles c) = None
misnamed blocks (total t) = None
