-- Rows that keep the operations of their block.
use Rattle.std.specs.Prelude.{◌&&◌, Bool, true, false, not, List}
use Rattle.std.specs.Option.{is_some}
use Rattle.iloc_ops.specs.declared.op.Op.{Op}
use Rattle.iloc_rows.specs.declared.proposal.Proposed.{Proposed}
use Rattle.iloc_rules.specs.Renaming.{without_nops}
use Rattle.iloc_facts.specs.Counts.{has_operations}

-- whether `ops` are the operations of `block`, `nop`s left out, where that is asked for
abbrev pub has_asked : (asked : Bool) → List Op → List Op → Bool
has_asked false block ops = true
has_asked true block ops = has_operations (without_nops block) ops

-- whether the rows of a proposal can be read, and have the operations of `block` where that is asked for
abbrev pub keeps_operations : (asked : Bool) → List Op → Proposed → Bool
keeps_operations asked block proposal = not (is_some proposal.unread) && has_asked asked block proposal.ops
