-- What a board, a pass and a root keep inside.
use Rattle.std.specs.Prelude.{◌≡◌, ℕ, ◌+◌, ◌≤◌, []}
use Rattle.atomic_table.specs.Seated.{TableId}
use Rattle.iloc_board.specs.declared.board.state.State.{State}
use Rattle.iloc_board.specs.Limits.{MOST_JOBS}
use Rattle.iloc_board.specs.Core.{IsWithin}
use Rattle.iloc_board.specs.Journal.{state_of, handed, all_handed}
use Rattle.iloc_board.specs.Steps.Rule.{Sat, pass_seat, root_seat}
use Rattle.iloc_board.specs.Views.{PassView, RootView}
use Rattle.iloc_board.specs.Finished.{AllFit, priced}

-- the table was told the number of jobs, and has a word for the next job and one for each cost
pub record IsBoard (number count key : ℕ) (id : TableId) : Type 0 where
  pub count_is : count ≡ number
  pub few : count ≤ MOST_JOBS
  pub told : key ≡ count
  pub words : id.words ≡ count + 1
  pub slots : id.slots ≡ 0

-- what the seat knows is the pass's journal; its state follows from it; and it has a fitting answer for each hand-back of the journal
pub record IsPass {J A : Type 0} (number : ℕ) (fits : ℕ → A → Type 0) (price : A → ℕ) (me : Sat) (worker : ℕ) (about : State) (p : PassView J A) : Type 0 where
  pub seat : me ≡ (pass_seat number p.journal, [])
  pub worker_is : worker ≡ p.journal.worker
  pub state_is : about ≡ state_of p.journal.entries
  pub within : IsWithin number about
  pub fit : AllFit fits p.answers
  pub each : priced price p.answers ≡ handed p.journal.entries

pub record IsRoot {J A : Type 0} (number : ℕ) (fits : ℕ → A → Type 0) (price : A → ℕ) (me : Sat) (r : RootView J A) : Type 0 where
  pub seat : me ≡ (root_seat number r.made r.gathered, [])
  pub fit : AllFit fits r.answers
  pub each : priced price r.answers ≡ all_handed r.gathered
