-- What the program tells that ends with status 0: from the bytes that it reads to what it writes of them.
use Rattle.std.specs.Prelude.{◌≡◌, ℕ, List, Option, None, Result}
use Rattle.std.specs.declared.io.Error.{Error}
use Rattle.iloc_args.specs.Asked.{Asked}
use Rattle.iloc_args.specs.declared.flag.Flag.TheVariants.{Csv, Cycles}
use Rattle.iloc_args.specs.declared.request.Task.{Task}
use Rattle.iloc_args.specs.declared.request.Task.TheVariants as task
use Rattle.iloc_driver.specs.Run.Apart.{Held}
use Rattle.iloc_driver.specs.Words.{Args, AskFor}
use Rattle.iloc_farm.specs.Theorem.Options.{memory_asked, rule_asked}
use Rattle.iloc_farm.specs.Theorem.Checked.{ReadsTheSame}
use Rattle.iloc_farm.specs.Theorem.Compared.{ComparesEachBlock}
use Rattle.iloc_farm.specs.Theorem.Kept.{KeepsEachBlock}
use Rattle.iloc_farm.specs.Theorem.Listed.{ListsBounds, ListsCounts, ListsExplained, ListsOutcomes, ListsSchedules}
use Rattle.iloc_farm.specs.Theorem.Shown.{ShowsEachBlock}
pub mod Checked
pub mod Compared
pub mod Farmed
pub mod Kept
pub mod Listed
pub mod Options
pub mod Shown

-- this holds of what the words ask for, if that is this task
abbrev pub IfAsked : Result Args Error → Task → (Asked → Type 0) → Type 0
IfAsked words t holds = (asked : Asked) → AskFor words asked → asked.task ≡ t → holds asked

-- By what is known of texts, and of input and output before and after. Of `trace`, `graph`, `lint`, and of `explain` with
-- `--task`, it tells no more than how the program ends.
pub record Status0Tells (held : Held) (words : Result Args Error) (read_old read_new written_old written_new : Option (List ℕ))
    : Type 0 where
  pub run : IfAsked words task.Run (λ asked. ShowsEachBlock asked read_old read_new written_old written_new)
  pub simulate : IfAsked words task.Simulate
      (λ asked. KeepsEachBlock asked (ListsOutcomes (memory_asked asked)) read_old read_new written_old written_new)
  pub schedule : IfAsked words task.Schedule
      (λ asked. KeepsEachBlock asked ListsSchedules read_old read_new written_old written_new)
  pub counts : IfAsked words task.Counts
      (λ asked. KeepsEachBlock asked (ListsCounts (asked.flags Csv)) read_old read_new written_old written_new)
  pub compare : IfAsked words task.Compare (λ asked. ComparesEachBlock asked read_old read_new written_old written_new)
  pub optimize : IfAsked words task.Optimize
      (λ asked. KeepsEachBlock asked (ListsBounds (rule_asked asked.flags)) read_old read_new written_old written_new)
  pub explain : IfAsked words task.Explain (λ asked. asked.task_file ≡ None
      → KeepsEachBlock asked (ListsExplained (asked.flags Csv) (asked.flags Cycles) (rule_asked asked.flags)) read_old read_new written_old written_new)
  pub check : IfAsked words task.Check (λ asked. ReadsTheSame held asked read_old read_new)
