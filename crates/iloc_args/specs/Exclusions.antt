-- Which options of a command exclude each other.
use Rattle.std.specs.Prelude.{◌&&◌, Bool, true, false, List, [], ◌∷◌, Option, find}
use Rattle.iloc_args.specs.declared.fault.Exclusion.{Exclusion}
use Rattle.iloc_args.specs.declared.fault.Exclusion.TheVariants.{CsvAndJson, PriorityAndPriorities, PrioritiesAndTask, LawfulAndDisambiguate, TaskAndPriority, TaskAndDisambiguate, TaskAndCycles, TaskAndCsv, CsvAndCycles}
use Rattle.iloc_args.specs.declared.flag.Flag.{Flag}
use Rattle.iloc_args.specs.declared.flag.Flag.TheVariants.{Csv, Json, Lawful, Cycles, Disambiguate}
use Rattle.iloc_args.specs.declared.request.Task.{Task}
use Rattle.iloc_args.specs.declared.request.Task.TheVariants.{Trace, Explain}

-- whether the rows that others made are traced, with `--task`
abbrev pub traces : Task → Bool
traces Trace = true
traces _ = false

-- whether they are traced or explained
abbrev pub shows_rows : Task → Bool
shows_rows Trace = true
shows_rows Explain = true
shows_rows _ = false

-- whether both options are given to the command: by its task, its flags, and whether it has `--priority`, `--priorities` and
-- `--task`
abbrev pub excludes : Task → (Flag → Bool) → Bool → Bool → Bool → Exclusion → Bool
excludes task flags named ranked apart CsvAndJson = flags Csv && flags Json
excludes task flags named ranked apart PriorityAndPriorities = named && ranked
excludes task flags named ranked apart PrioritiesAndTask = ranked && apart
excludes task flags named ranked apart LawfulAndDisambiguate = flags Lawful && flags Disambiguate
excludes task flags named ranked apart TaskAndPriority = (apart && traces task) && named
excludes task flags named ranked apart TaskAndDisambiguate = (apart && shows_rows task) && flags Disambiguate
excludes task flags named ranked apart TaskAndCycles = (apart && shows_rows task) && flags Cycles
excludes task flags named ranked apart TaskAndCsv = (apart && shows_rows task) && flags Csv
excludes task flags named ranked apart CsvAndCycles = flags Csv && flags Cycles

-- all of them, in the order in which they are refused
abbrev pub exclusions : List Exclusion
exclusions =
    CsvAndJson ∷ PriorityAndPriorities ∷ PrioritiesAndTask ∷ LawfulAndDisambiguate ∷ TaskAndPriority ∷ TaskAndDisambiguate
    ∷ TaskAndCycles ∷ TaskAndCsv ∷ CsvAndCycles ∷ []

-- the first of which both options are given, if there is one
abbrev pub first_excluded : Task → (Flag → Bool) → Bool → Bool → Bool → Option Exclusion
first_excluded task flags named ranked apart = find (excludes task flags named ranked apart) exclusions
