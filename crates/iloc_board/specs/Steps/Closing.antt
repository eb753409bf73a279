-- What is known of a board that was closed.
use Rattle.std.specs.Prelude.{◌≡◌, ℕ, List}
use mathlib.Core.Option.{some}
use lib.ListN.{get_elem?}
use Rattle.iloc_board.specs.declared.step.Step.{Step}
use Rattle.iloc_board.specs.declared.step.Journal.{Journal}
use Rattle.iloc_board.specs.Journal.{all_handed}
use Rattle.iloc_board.specs.Views.{RootView}
use Rattle.iloc_board.specs.Finished.{AreFitting}
use Rattle.iloc_board.specs.Collecting.{IsOneList}
use Rattle.iloc_board.specs.Steps.Rule.{Tells, Apart}

-- `steps` were made at the board of the root `r`, which has gathered what its journals show
pub record IsClosed {J A : Type 0} (count : ℕ) (fits : ℕ → A → Type 0) (price : A → ℕ) (r : RootView J A) (steps : List Step) : Type 0 where
  pub one_list : IsOneList count r.made r.gathered steps
  pub tells : (i : ℕ) (j : Journal) → get_elem? r.gathered i ≡ some j → Tells count steps j
  pub apart : Apart r.gathered
  pub fitting : AreFitting fits price r.answers (all_handed r.gathered)
