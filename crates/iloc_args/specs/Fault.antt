-- The text and the exit status of a fault.
use Rattle.std.specs.Prelude.{ℕ, List, ◌++◌, codes}
use Rattle.std.specs.List.{join_by}
use Rattle.std.specs.String.{string_bytes}
use Rattle.iloc_args.specs.declared.fault.Exclusion.{Exclusion}
use Rattle.iloc_args.specs.declared.fault.Exclusion.TheVariants.{CsvAndJson, PriorityAndPriorities, PrioritiesAndTask, LawfulAndDisambiguate, TaskAndPriority, TaskAndDisambiguate, TaskAndCycles, TaskAndCsv, CsvAndCycles}
use Rattle.iloc_args.specs.declared.fault.LineFault.{LineFault}
use Rattle.iloc_args.specs.declared.fault.LineFault.TheVariants.{Help, Refused, BadStart, TooManyWords, NoSuchPriority, Excluded, NoMemory}
use Rattle.iloc_args.specs.Priority.{priority_word}
use Rattle.iloc_rules.specs.Heuristics.Listed.{heuristics}

-- what is said of options that exclude each other
abbrev pub excluded_text : Exclusion → List ℕ
excluded_text CsvAndJson = codes "--csv and --json exclude each other"
excluded_text PriorityAndPriorities = codes "--priority and --priorities exclude each other"
excluded_text PrioritiesAndTask = codes "--priorities and --task exclude each other"
excluded_text LawfulAndDisambiguate = codes "--lawful and --disambiguate exclude each other"
excluded_text TaskAndPriority = codes "--task and --priority exclude each other"
excluded_text TaskAndDisambiguate = codes "--task and --disambiguate exclude each other"
excluded_text TaskAndCycles = codes "--task and --cycles exclude each other"
excluded_text TaskAndCsv = codes "--task and --csv exclude each other"
excluded_text CsvAndCycles = codes "--csv and --cycles exclude each other"

-- what is said of a fault: the parser's own text, or one of the texts below
abbrev pub line_text : LineFault → List ℕ
line_text (Help text) = string_bytes text
line_text (Refused text) = string_bytes text
line_text (BadStart at) = codes "--at is not a multiple of 4"
line_text TooManyWords = codes "the words do not fit into memory"
line_text NoSuchPriority = codes "--priority is none of " ++ join_by priority_word (codes ", ") heuristics
line_text (Excluded exclusion) = excluded_text exclusion
line_text NoMemory = codes "out of memory"

-- the exit status of a fault
abbrev pub status_of : LineFault → ℕ
status_of (Help text) = 0
status_of (Refused text) = 2
status_of (BadStart at) = 2
status_of TooManyWords = 2
status_of NoSuchPriority = 2
status_of (Excluded exclusion) = 2
status_of NoMemory = 3
