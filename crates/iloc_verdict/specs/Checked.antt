-- What is found of the rows that are proposed for a block, by their verdict.
use Rattle.std.specs.Prelude.{ℕ, ◌≡◌, ◌&&◌, not, Bool, true, false, Option}
use Rattle.iloc_timed.specs.declared.latencies.Latencies.{Latencies}
use Rattle.iloc_timed.specs.Cycles.{cycles}
use Rattle.iloc_rows.specs.declared.proposal.Proposed.{Proposed}
use Rattle.iloc_rules.specs.declared.sought.Sought.{Sought}
use Rattle.iloc_comparison.specs.declared.comparison.Comparison.{Comparison}
use Rattle.iloc_comparison.specs.declared.comparison.Comparison.TheVariants as of
use Rattle.iloc_comparison.specs.declared.task.JudgedBlock.{JudgedBlock}
use Rattle.iloc_verdict.specs.declared.verdict.Verdict.{Verdict}
use Rattle.iloc_verdict.specs.declared.verdict.Verdict.TheVariants.{Refused, Lawful, Unlawful, Undecided}
use Rattle.iloc_verdict.specs.declared.obstacle.Obstacle.TheVariants.{Unread, Units}
use Rattle.iloc_verdict.specs.declared.verdict.kind.VerdictKind.{VerdictKind}
use Rattle.iloc_verdict.specs.declared.verdict.kind.VerdictKind.TheVariants as kind
use Rattle.iloc_verdict.specs.declared.checked.Checked.{Checked}

abbrev pub compared_kind : Comparison → VerdictKind
compared_kind (of.Void why) = kind.Void
compared_kind of.Same = kind.Same
compared_kind of.Prints = kind.Prints
compared_kind of.Agrees = kind.Agrees
compared_kind (of.Differs difference) = kind.Differs
compared_kind (of.DiffersOn probe difference) = kind.Differs

-- A verdict in a word. Where nothing but rows by the book passes, that this isn't decided comes before how they compare.
abbrev pub kind_of : Bool → Verdict → VerdictKind
kind_of lawful (Refused (Unread unread words) changes) = kind.Unread
kind_of lawful (Refused (Units c) changes) = kind.Units
kind_of lawful Lawful = kind.Lawful
kind_of lawful (Unlawful reasons found) = compared_kind found
kind_of true (Undecided found) = kind.Undecided
kind_of false (Undecided found) = compared_kind found

-- what goes with a word: whether the block's operations are kept, the cycles of our schedule, what was sought, the least, and
-- the cycles of `proposal`, found and claimed
abbrev pub found : VerdictKind → Bool → ℕ → Option Sought → ℕ → Latencies → Proposed → Checked
found word keeps ours sought least lat proposal = record {
  kind = word;
  keeps_operations = keeps;
  cycles = cycles lat proposal.ops proposal.rows;
  ours = ours;
  sought = sought;
  least = least;
  claimed = proposal.claimed;
}

-- what is known of the block beside the proposal is as the task has it
abbrev pub IsBeside : JudgedBlock → Checked → Type 0
IsBeside task c = (c.ours ≡ task.cycles) × (c.sought ≡ task.sought) × (c.least ≡ task.least)

-- whether rows of this verdict pass, where nothing but rows by the book does or where others may
abbrev pub is_passing : Bool → VerdictKind → Bool
is_passing lawful kind.Lawful = true
is_passing lawful kind.Same = not lawful
is_passing lawful kind.Prints = not lawful
is_passing lawful word = false

abbrev pub passes : Bool → Checked → Bool
passes lawful checked = checked.keeps_operations && is_passing lawful checked.kind
