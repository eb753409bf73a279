-- What holds of texts with rows as a whole.
use Rattle.std.specs.Prelude.{◌≡◌, ℕ, ◌≤◌, ◌⊎◌, Bool, IsTrue, List, [], ◌∷◌, length}
use Rattle.std.specs.List.{AllByRecursion}
use Rattle.iloc_ops.specs.declared.file.Block.{Block}
use Rattle.iloc_ops.specs.Limits.{MAX_BLOCKS, MAX_OPS}
use Rattle.iloc_ops.specs.declared.op.Op.{Op}
use Rattle.iloc_text.specs.ScheduleLines.{alone}
use Rattle.iloc_timed.specs.Rows.{keeps_units}
use Rattle.iloc_timed.specs.Schedule.{AreOnce, AreInRange}
use Rattle.iloc_rows.specs.declared.fault.RowsFault.{RowsFault}
use Rattle.iloc_rows.specs.declared.proposal.Proposed.{Proposed}
use Rattle.iloc_rows.specs.EitherSlot.{placed}
use Rattle.iloc_rows.specs.Proposing.{ops_in, numbered}
use Rattle.iloc_rows.specs.Submissions.{Denotes, DenoteApart, IsRefused}

-- a text denotes at most one list of blocks with one list of proposals, or one refusal, and never both
pub record TextsHaveOneAnswer : Type 0 where
  pub blocks : (input : List ℕ) (blocks blocks' : List Block) (proposals proposals' : List Proposed)
      → Denotes input blocks proposals → Denotes input blocks' proposals'
      → (blocks ≡ blocks') × (proposals ≡ proposals')
  pub refusal : (input : List ℕ) (fault fault' : RowsFault) → IsRefused input fault → IsRefused input fault'
      → fault ≡ fault'
  pub apart : (input : List ℕ) (blocks : List Block) (proposals : List Proposed) (fault : RowsFault)
      → Denotes input blocks proposals → IsRefused input fault → ⊥

-- each text denotes blocks with proposals, or a refusal
abbrev pub TextsHaveAnAnswer : Type 0
TextsHaveAnAnswer = (input : List ℕ)
    → ((blocks : List Block) × (proposals : List Proposed) × Denotes input blocks proposals)
    ⊎ ((fault : RowsFault) × IsRefused input fault)

-- There are at most 65,535 blocks and as many proposals, each of at most 10,000 operations. Each operation of a
-- proposal is in exactly one slot of its rows, and each number there is an operation's.
pub record AreWithinLimits (blocks : List Block) (proposals : List Proposed) : Type 0 where
  pub few_blocks : length blocks ≤ MAX_BLOCKS
  pub short_blocks : AllByRecursion (λ b. length b.ops ≤ MAX_OPS) blocks
  pub as_many : length proposals ≡ length blocks
  pub short_proposals : AllByRecursion (λ p. length p.ops ≤ MAX_OPS) proposals
  pub once : AllByRecursion (λ p. AreOnce (length p.ops) p.rows) proposals
  pub in_range : AllByRecursion (λ p. AreInRange (length p.ops) p.rows) proposals

-- so are the blocks and the proposals that a text denotes
abbrev pub SubmissionsAreWithinLimits : Type 0
SubmissionsAreWithinLimits = (input : List ℕ) (blocks : List Block) (proposals : List Proposed)
    → Denotes input blocks proposals → AreWithinLimits blocks proposals

-- so are the blocks of a task and the proposals that stand apart from them
abbrev pub SubmissionsApartAreWithinLimits : Type 0
SubmissionsApartAreWithinLimits = (task input : List ℕ) (blocks : List Block) (proposals : List Proposed)
    → DenoteApart task input blocks proposals → AreWithinLimits blocks proposals

-- so are the proposals with leave for either slot
abbrev pub PlacedRowsAreWithinLimits : Type 0
PlacedRowsAreWithinLimits = (either_slot : Bool) (blocks : List Block) (proposals : List Proposed)
    → AreWithinLimits blocks proposals → AreWithinLimits blocks (placed either_slot proposals)

-- the row of a single operation keeps the rules of the units
abbrev pub SingleOperationsKeepTheUnits : Type 0
SingleOperationsKeepTheUnits = (op : Op)
    → AllByRecursion (λ row. IsTrue (keeps_units (ops_in (alone op ∷ [])) row)) (numbered 0 (alone op ∷ []))

-- whatever is handed in for a task, its blocks are the same
abbrev pub HandInsDontChangeTheTask : Type 0
HandInsDontChangeTheTask = (task input input' : List ℕ) (blocks blocks' : List Block) (proposals proposals' : List Proposed)
    → DenoteApart task input blocks proposals → DenoteApart task input' blocks' proposals' → blocks ≡ blocks'

-- a task and rows apart from it denote at most one list of blocks with one list of proposals
abbrev pub TextsApartHaveOneAnswer : Type 0
TextsApartHaveOneAnswer = (task input : List ℕ) (blocks blocks' : List Block) (proposals proposals' : List Proposed)
    → DenoteApart task input blocks proposals → DenoteApart task input blocks' proposals'
    → (blocks ≡ blocks') × (proposals ≡ proposals')
