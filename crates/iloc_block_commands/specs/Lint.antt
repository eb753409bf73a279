-- The listing of what is wrong with a text.
use Rattle.std.specs.Prelude.{◌≡◌, ℕ, Bool, List}
use Rattle.iloc_lint.specs.Listing.{ListsLint}
use Rattle.iloc_driver.specs.Fault.{finding_of_text}
use Rattle.iloc_driver.specs.declared.commands.Finding.{Finding}
use Rattle.iloc_driver.specs.Command.{Command, OfText, of_no_file}

-- each line that the grammar refuses is listed, and the finding is whether there is none
abbrev pub ListsLinted : List ℕ → Finding → List ℕ → Type 0
ListsLinted input finding text = (reads : Bool) × ListsLint input reads text × (finding ≡ finding_of_text reads)

abbrev pub lint_command : Command
lint_command = record of_no_file { input = OfText; reports = ListsLinted }
