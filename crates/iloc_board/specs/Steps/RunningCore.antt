-- The core as `play` has it: numbers, and a map with the workers' states.
use Rattle.std.specs.Prelude.{◌≡◌, ℕ, List}
use Rattle.std.specs.Option.{unwrap_or}
use Rattle.std.specs.BTreeMap.{BTreeMap, get}
use Rattle.std.specs.Ordering.{nat_cmp}
use Rattle.iloc_board.specs.declared.board.state.State.{State}
use Rattle.iloc_board.specs.declared.board.state.State.TheVariants.{Free}
use Rattle.iloc_board.specs.Core.{Core}

-- the state that a map of states gives to a worker: free, where it has none
abbrev pub state_in : BTreeMap ℕ State → ℕ → State
state_in states q = unwrap_or (get nat_cmp states q) Free

-- `next`, `costs` and `states` are the core `c`
pub record Shows (next : ℕ) (costs : List ℕ) (states : BTreeMap ℕ State) (c : Core) : Type 0 where
  pub next_is : next ≡ c.next
  pub costs_are : costs ≡ c.costs
  pub states_are : (q : ℕ) → state_in states q ≡ c.state q
