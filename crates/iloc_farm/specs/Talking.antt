-- What the program does where somebody may sit at a terminal.
use Rattle.std.specs.Prelude.{◌≡◌, ℕ, false, List, Option, Result}
use Rattle.std.specs.declared.io.Error.{Error}
use Rattle.iloc_args.specs.declared.request.Task.{Task}
use Rattle.iloc_driver.specs.Command.{Command}
use Rattle.iloc_driver.specs.Program.{Ends}
use Rattle.iloc_driver.specs.Run.Apart.{Held}
use Rattle.iloc_driver.specs.Words.{Args}
use Rattle.iloc_driver.specs.declared.program.Ending.{Ending}
use Rattle.iloc_farm.specs.Reason.{Explains}
use Rattle.iloc_farm.specs.declared.talking.Terminals.{Terminals}

-- The program ends as it does with no terminal, between what was said `before` and `after`. Nothing more is said before unless the
-- input is a terminal. After it may be said why a text isn't understood, where `kept` was kept of the input; and nothing more unless
-- faults go to a terminal.
pub record EndsTalking (command_of : Task → Command) (held : Held) (words : Result Args Error) (terminals : Terminals)
    (kept : List ℕ) (read_old read_new written_old written_new said_old said_new : Option (List ℕ)) (ending : Ending) : Type 0 where
  pub before : Option (List ℕ)
  pub after : Option (List ℕ)
  pub ends : Ends command_of held words read_old read_new written_old written_new before after ending
  pub none_before : terminals.input ≡ false → before ≡ said_old
  pub explained : Option (List ℕ)
  pub explains : Explains held kept after explained
  pub none_after : terminals.faults ≡ false → said_new ≡ explained
