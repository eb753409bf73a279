-- What `play` promises of a list of steps.
use Rattle.std.specs.Prelude.{◌≡◌, ℕ, List, map}
use Rattle.std.specs.List.{range_with_len}
use Rattle.iloc_board.specs.declared.step.Step.{Step}
use Rattle.iloc_board.specs.declared.step.Reply.{Reply}
use Rattle.iloc_board.specs.Core.{Core, opening, ends, played}
use Rattle.iloc_board.specs.Sequential.{Call, Legal, opened, board_after}
use Rattle.iloc_board.specs.History.{history, takes, hand_backs, StandsAt}

-- the replies to a list of steps, in order
abbrev pub replies : ℕ → List Step → List Reply
replies count steps = map (λ e. e.reply) (played count (opening count) steps)

-- the core after a list of steps
abbrev pub final : ℕ → List Step → Core
final count steps = ends count (opening count) steps

-- the jobs that were taken, in order
abbrev pub taken_jobs : ℕ → List Step → List ℕ
taken_jobs count steps = map (λ p. p.1) (takes (played count (opening count) steps))

-- the history of a list of steps where the answer to a job is its cost
abbrev pub calls_with_costs : ℕ → List Step → List (Call ℕ)
calls_with_costs count steps = history (λ k cost. cost) count (opening count) steps

-- the history is legal, where every cost fits
abbrev pub IsLegal : ℕ → List Step → Type 0
IsLegal count steps = Legal (λ k cost. Unit {0}) (opened count) (calls_with_costs count steps)

-- the jobs taken are the first ones, each once: no job is taken twice
abbrev pub TakesEachOnce : ℕ → List Step → Type 0
TakesEachOnce count steps = taken_jobs count steps ≡ range_with_len 0 (final count steps).next

-- the history ends where the core does, with the holders in the order of their takes and the accepted hand-backs in order
abbrev pub EndsAlike : ℕ → List Step → Type 0
EndsAlike count steps =
    StandsAt count (final count steps)
    (takes (played count (opening count) steps))
    (hand_backs count (opening count) steps)
    (board_after (opened count) (calls_with_costs count steps))
