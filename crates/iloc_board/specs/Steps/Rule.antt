-- The rule that holds of the board's table between any two steps.
use Rattle.std.specs.Prelude.{◌≡◌, ℕ, suc, ◌≤◌, cond, ◌==◌, List, [], ◌∷◌, ◌++◌, length}
use mathlib.Core.Option.{some}
use lib.ListN.{get_elem?}
use Rattle.atomic_table.specs.Table as table
use Rattle.atomic_table.specs.Table.{Me}
use Rattle.iloc_board.specs.declared.step.Step.{Step}
use Rattle.iloc_board.specs.declared.step.Step.TheVariants.{Look, Try, Hand}
use Rattle.iloc_board.specs.declared.step.Reply.{Reply}
use Rattle.iloc_board.specs.declared.step.Reply.TheVariants.{Took, Handed}
use Rattle.iloc_board.specs.declared.step.Journal.{Journal}
use Rattle.iloc_board.specs.declared.board.seat_view.Role.TheVariants.{Root, Pass, Spent}
use Rattle.iloc_board.specs.declared.board.seat_view.SeatView.{SeatView}
use Rattle.iloc_board.specs.Core.{opening, played, look_finds, missed}
use Rattle.iloc_board.specs.Journal.{journal_of, entries_of, seen, seen_in, noted}
use Rattle.iloc_board.specs.Play.{final}
use Rattle.iloc_board.specs.Collecting.{AllMade, AllAnswered}

abbrev pub TableState : Type 0
TableState = table.State (Unit {0}) SeatView

abbrev pub no_journal : Journal
no_journal = journal_of 0 0 []

abbrev pub root_seat : ℕ → ℕ → List Journal → SeatView
root_seat count made gathered = record { role = Root; count = count; made = made; gathered = gathered; journal = no_journal }

abbrev pub pass_seat : ℕ → Journal → SeatView
pass_seat count j = record { role = Pass; count = count; made = 0; gathered = []; journal = j }

abbrev pub spent_seat : SeatView
spent_seat = record { role = Spent; count = 0; made = 0; gathered = []; journal = no_journal }

-- the journal is its worker's part of the steps, and shows no more than the next job that they lead to
pub record Tells (count : ℕ) (steps : List Step) (j : Journal) : Type 0 where
  pub entries : entries_of j.worker (played count (opening count) steps) ≡ j.entries
  pub seen_low : seen count j ≤ (final count steps).next

-- the pass of the worker w has the seat w + 1
pub record FitsPass (count : ℕ) (steps : List Step) (seat : ℕ) (v : SeatView) : Type 0 where
  pub place : seat ≡ suc v.journal.worker
  pub counts : v.count ≡ count
  pub tells : Tells count steps v.journal

-- no worker stands at two places
abbrev pub Apart : List Journal → Type 0
Apart js = (a b : ℕ) (i j : Journal) → get_elem? js a ≡ some i → get_elem? js b ≡ some j → i.worker ≡ j.worker → a ≡ b

-- the root has the seat 0; where a pass was gathered, its seat is spent
pub record FitsRoot (count made : ℕ) (steps : List Step) (seats : List SeatView) (seat : ℕ) (v : SeatView) : Type 0 where
  pub place : seat ≡ 0
  pub counts : v.count ≡ count
  pub made_is : v.made ≡ made
  pub gathered : (i : ℕ) (j : Journal) → get_elem? v.gathered i ≡ some j → Tells count steps j × (get_elem? seats (suc j.worker) ≡ some spent_seat)
  pub apart : Apart v.gathered

abbrev pub Fits : ℕ → ℕ → List Step → List SeatView → ℕ → SeatView → Type 0
Fits count made steps seats seat v = (v.role ≡ Pass → FitsPass count steps seat v) × (v.role ≡ Root → FitsRoot count made steps seats seat v)

-- there is one list of steps, by workers that were made, none forbidden, that leads to the words and of which each seat knows its part
pub record IsKept (count : ℕ) (s : TableState) : Type 0 where
  pub made : ℕ
  pub seats : length s.views ≡ suc made
  pub steps : List Step
  pub words : s.words ≡ (final count steps).next ∷ (final count steps).costs
  pub below : AllMade made steps
  pub answered : AllAnswered (played count (opening count) steps)
  pub fits : (i : ℕ) (v : SeatView) → get_elem? s.views i ≡ some v → Fits count made steps s.views i v

abbrev pub Sat : Type 0
Sat = Me (Unit {0}) SeatView

-- what a step tells: of the step, the seat before, the number found and the seat after
abbrev pub StepEffect : Type 1
StepEffect = table.Step (Unit {0}) → Sat → ℕ → Sat → Type 0

abbrev pub adds : Sat → Step → Reply → Sat
adds m x r = (pass_seat m.0.count (noted m.0.journal x r), m.1)

-- a load of word 0
abbrev pub looks : StepEffect
looks st m n after = (after ≡ adds m (Look m.0.journal.worker) (look_finds m.0.count n)) × (seen m.0.count m.0.journal ≤ n)

-- a load of word 0 by the root: at that moment the rule held, with the root's seat as it was
abbrev pub tells_all : StepEffect
tells_all st m n after = (after ≡ m) × (s : TableState) × IsKept m.0.count s × (id : ℕ) × (get_elem? s.views id ≡ some m.0)

-- a compare and exchange of word 0
abbrev pub tries : StepEffect
tries st m n after = (after ≡ adds m (Try m.0.journal.worker) (cond (n == st.first) (Took st.first) (missed m.0.count n))) × (seen m.0.count m.0.journal ≤ n)

-- a store of a cost
abbrev pub hands : StepEffect
hands st m n after = after ≡ adds m (Hand m.0.journal.worker n) Handed

-- the root after it made a pass, and the pass
abbrev pub makes : SeatView → SeatView
makes v = root_seat v.count (suc v.made) v.gathered

abbrev pub made_pass : SeatView → SeatView
made_pass v = pass_seat v.count (journal_of v.made (seen_in v.count v.gathered) [])

-- the root after it gathered a pass
abbrev pub gathers : SeatView → SeatView → SeatView
gathers v w = root_seat v.count v.made (v.gathered ++ w.journal ∷ [])
