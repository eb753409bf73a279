-- How what is proposed grows by one line.
use Rattle.std.specs.Prelude.{◌≡◌, ◌≢◌, ℕ, ◌+◌, ◌-◌, ◌≤◌, ◌<◌, nat_lt, nat_le, max, ◌==◌, ◌&&◌, true, false, if◌then◌else◌, Option, Some, None, Result, Ok, Err, List, [], ◌∷◌, ◌++◌, length, slice_index_or, slice_set}
use Rattle.iloc_ops.specs.Limits.{MAX_OPS}
use Rattle.iloc_ops.specs.declared.op.Op.{Op}
use Rattle.iloc_ops.specs.declared.file.Block.{Block}
use Rattle.iloc_text.specs.declared.fault.ReadFault.TheVariants.{InputTooLong, BadLine, NumberTooLarge, TooManyBlocks, TooManyOperations, NoMemory}
use Rattle.iloc_rows.specs.declared.fault.RowsFault.{RowsFault}
use Rattle.iloc_rows.specs.declared.fault.RowsFault.TheVariants.{Read, NoBlocks, NoSuchBlock}
use Rattle.iloc_rows.specs.declared.proposal.Proposed.{Proposed}
use Rattle.iloc_rows.specs.declared.proposal.unread.Unread.{Unread}
use Rattle.iloc_rows.specs.declared.proposing.Proposing.{Proposing}
use Rattle.iloc_rows.specs.Names.{is_named}
use Rattle.iloc_rows.specs.Told.{Told, is_unread}
use Rattle.iloc_rows.specs.Proposing.{last_block, filled, slot, proposals_of, is_of_block, op_count, Fits}

-- nothing is proposed
abbrev pub none_proposed : Proposed
none_proposed = record { ops = []; rows = []; claimed = None; unread = None }

-- one more row is proposed
abbrev pub with_row : Proposed → Op → Op → Proposed
with_row p zero one = record {
  ops = p.ops ++ (filled zero ++ filled one);
  rows = p.rows ++ record { zero = slot (length p.ops) zero; one = slot (length p.ops + length (filled zero)) one } ∷ [];
  claimed = p.claimed;
  unread = p.unread;
}

-- this one where there is none yet
abbrev pub or_this : Option Unread → Unread → Option Unread
or_this None u = Some u
or_this (Some first) u = Some first

-- one more row is proposed, a line that can't be read, with its number
abbrev pub with_unread : Proposed → ℕ → List ℕ → Proposed
with_unread p n text = record {
  ops = p.ops;
  rows = p.rows ++ record { zero = None; one = None } ∷ [];
  claimed = p.claimed;
  unread = or_this p.unread record { line = n; row = length p.rows; text = text };
}

-- `p`, of which the given number of cycles is claimed
abbrev pub with_cycles : Proposed → ℕ → Proposed
with_cycles p c = record { ops = p.ops; rows = p.rows; claimed = Some c; unread = p.unread }

-- the place of the block of which rows are, if there is one, by the number of the last block and the count of blocks
abbrev pub place : ℕ → ℕ → Option ℕ
place last count = if nat_lt 0 last then Some (last - 1) else (if count == 1 then Some 0 else None)

-- the place of block k, if it comes after the last block and is there
abbrev pub later_place : ℕ → ℕ → ℕ → Option ℕ
later_place last k count = if nat_lt last k && nat_le k count then Some (k - 1) else None

abbrev pub at_place : List Proposed → ℕ → Proposed
at_place proposals i = slice_index_or proposals i none_proposed

-- what the lines say has been proposed
pub record HasProposed (blocks : List Block) (lines : List Told) (state : Proposing) : Type 0 where
  pub proposals : state.proposals.items ≡ proposals_of (length blocks) lines
  pub last : state.last ≡ last_block lines

-- what comes of a line with this number that tells this
abbrev pub AddsTold : List Block → List Told → Told → ℕ → Proposing → Result (Unit {0}) RowsFault → Type 0
AddsTold blocks lines told number state (Ok done) = Fits blocks lines told × HasProposed blocks (lines ++ told ∷ []) state
AddsTold blocks lines told number state (Err (Read InputTooLong)) = ⊥
AddsTold blocks lines told number state (Err (Read (BadLine n))) =
    (n ≡ number) × (is_unread told ≡ true) × (is_of_block blocks lines told ≡ false)
AddsTold blocks lines told number state (Err (Read (NumberTooLarge n))) = ⊥
AddsTold blocks lines told number state (Err (Read (TooManyBlocks n))) = ⊥
AddsTold blocks lines told number state (Err (Read (TooManyOperations n))) =
    (n ≡ number) × (is_of_block blocks lines told ≡ true) × (MAX_OPS < op_count lines told)
AddsTold blocks lines told number state (Err (Read NoMemory)) = Unit {0}
AddsTold blocks lines told number state (Err NoBlocks) = ⊥
AddsTold blocks lines told number state (Err (NoSuchBlock n)) =
    (n ≡ number) × (is_unread told ≡ false) × (is_of_block blocks lines told ≡ false)

-- so does a row in this state
abbrev pub RowAdds : Proposing → Op → Op → ℕ → Proposing → Result (Unit {0}) RowsFault → Type 0
RowAdds old zero one number new (Ok done) =
    (i : ℕ) × (place old.last (length old.proposals.items) ≡ Some i)
    × (new.proposals.items ≡ slice_set old.proposals.items i (with_row (at_place old.proposals.items i) zero one))
    × (new.last ≡ max 1 old.last) × (length (with_row (at_place old.proposals.items i) zero one).ops ≤ MAX_OPS)
RowAdds old zero one number new (Err (Read InputTooLong)) = ⊥
RowAdds old zero one number new (Err (Read (BadLine n))) = ⊥
RowAdds old zero one number new (Err (Read (NumberTooLarge n))) = ⊥
RowAdds old zero one number new (Err (Read (TooManyBlocks n))) = ⊥
RowAdds old zero one number new (Err (Read (TooManyOperations n))) =
    (n ≡ number) × (i : ℕ) × (place old.last (length old.proposals.items) ≡ Some i)
    × (MAX_OPS < length (with_row (at_place old.proposals.items i) zero one).ops)
RowAdds old zero one number new (Err (Read NoMemory)) = Unit {0}
RowAdds old zero one number new (Err NoBlocks) = ⊥
RowAdds old zero one number new (Err (NoSuchBlock n)) =
    (n ≡ number) × (place old.last (length old.proposals.items) ≡ None)

-- So does a line without operations by which the proposal at a place becomes another: a number of cycles, or a line that can't be
-- read, which may turn to another block. Where there is no block of which it could be, it has this fault.
abbrev pub Becomes : Proposing → Option ℕ → ℕ → (Proposed → Proposed) → RowsFault → Proposing → Result (Unit {0}) RowsFault
    → Type 0
Becomes old at last change homeless new (Ok done) =
    (i : ℕ) × (at ≡ Some i)
    × (new.proposals.items ≡ slice_set old.proposals.items i (change (at_place old.proposals.items i)))
    × (new.last ≡ last)
Becomes old at last change homeless new (Err fault) = fault ≢ Read NoMemory → (fault ≡ homeless) × (at ≡ None)

-- so does a head
abbrev pub Turns : List Block → Proposing → ℕ → Option (List ℕ) → ℕ → Proposing → Result (Unit {0}) RowsFault → Type 0
Turns blocks old k name number new (Ok done) =
    (old.last < k) × (is_named blocks k name ≡ true)
    × (new.proposals.items ≡ old.proposals.items) × (new.last ≡ k)
Turns blocks old k name number new (Err (Read fault)) = ⊥
Turns blocks old k name number new (Err NoBlocks) = ⊥
Turns blocks old k name number new (Err (NoSuchBlock n)) =
    (n ≡ number) × ((nat_lt old.last k && is_named blocks k name) ≡ false)
