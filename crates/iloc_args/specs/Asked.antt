-- What a command line asks for, as a function of its words.
use Rattle.std.specs.Prelude.{ℕ, Bool, false, if◌then◌else◌, List, [], map, Option, None, find, codes, option_and_then, option_map, unwrap_or, is_some}
use Rattle.std.specs.Option.{option_map_or}
use Rattle.std.specs.Str.{bytes_eq}
use Rattle.std.specs.Str.Parse.{digits_value, without_leading_plus}
use Rattle.std.specs.String.{string_bytes}
use Rattle.clap.specs.Words.{Row, Text, first_of, many_of, one_of, subcommand_of}
use Rattle.iloc_args.specs.Command.{Subcommand, entries, farm_app}
use Rattle.iloc_args.specs.Flags.{flag_word, has}
use Rattle.iloc_args.specs.Priority.{priority_word}
use Rattle.iloc_args.specs.Ranking.{ranks_by_own}
use Rattle.iloc_args.specs.declared.flag.Flag.{Flag}
use Rattle.iloc_args.specs.declared.request.Request.{Request}
use Rattle.iloc_args.specs.declared.request.Task.{Task}

-- a command with its options, where nothing is said yet of their ranges
pub record Asked : Type 0 where
  pub task : Task
  pub workers : ℕ
  pub at : ℕ
  pub words : List ℕ
  pub load : ℕ
  pub store : ℕ
  pub mult : ℕ
  pub priority : Text
  pub priority_given : Bool
  pub priorities_file : Option Text
  pub nodes : Option ℕ
  pub task_file : Option Text
  pub flags : Flag → Bool

-- what a request asks for
abbrev pub asked_in : Request → Asked
asked_in r = record {
  task = r.task;
  workers = r.workers;
  at = r.at;
  words = r.words.items;
  load = r.latencies.load;
  store = r.latencies.store;
  mult = r.latencies.mult;
  priority = priority_word r.priority;
  priority_given = r.priority_given;
  priorities_file = option_map string_bytes r.priorities_file;
  nodes = r.nodes;
  task_file = option_map string_bytes r.task_file;
  flags = has r.flags;
}

-- the number that a text of digits writes, where a plus may stand first
abbrev pub number_of : Text → ℕ
number_of text = digits_value 10 (without_leading_plus text)

-- the number that the matches have for an option, where they have one
abbrev pub number_if : Text → List Row → Option ℕ
number_if id rows = option_map number_of (one_of id rows)

-- or this one where the command does not take it
abbrev pub number_or : ℕ → Text → List Row → ℕ
number_or otherwise id rows = unwrap_or (number_if id rows) otherwise

-- the numbers that the matches have for an argument, none where it was not given
abbrev pub numbers_in : Text → List Row → List ℕ
numbers_in id rows = map number_of (unwrap_or (many_of id rows) [])

-- whether the matches have a flag
abbrev pub flag_in : List Row → Flag → Bool
flag_in rows flag = option_map_or (λ text. bytes_eq text (codes "true")) (first_of (flag_word flag) rows) false

-- the text that the matches have for an option, or this one where the command does not take it
abbrev pub text_or : Text → Text → List Row → Text
text_or otherwise id rows = unwrap_or (first_of id rows) otherwise

-- the file of priorities that the matches name, for a task that can rank by it
abbrev pub priorities_in : Task → List Row → Option Text
priorities_in task rows = if ranks_by_own task then first_of (codes "priorities") rows else None

-- a task with its options, by the matches of the command's arguments
abbrev pub asked_as : Task → List Row → Asked
asked_as task rows = record {
  task = task;
  workers = number_or 2 (codes "workers") rows;
  at = number_or 1024 (codes "at") rows;
  words = numbers_in (codes "words") rows;
  load = number_or 5 (codes "load") rows;
  store = number_or 5 (codes "store") rows;
  mult = number_or 3 (codes "mult") rows;
  priority = text_or (codes "chain") (codes "priority") rows;
  priority_given = is_some (first_of (codes "priority") rows);
  priorities_file = priorities_in task rows;
  nodes = number_if (codes "nodes") rows;
  task_file = first_of (codes "task") rows;
  flags = flag_in rows;
}

-- the task of the first of `commands` that has `name`
abbrev pub task_among : List Subcommand → Text → Option Task
task_among commands name = option_map (λ e. e.task) (find (λ e. bytes_eq e.name name) commands)

-- the task of the command of this name
abbrev pub task_named : Text → Option Task
task_named name = task_among entries name

-- what the command of this name asks for, by the matches of its arguments
abbrev pub asked_by : Text × List Row → Option Asked
asked_by named = option_map (λ task. asked_as task named.1) (task_named named.0)

-- what the words ask for, by the matches that the parser gives for them
abbrev pub asked : List Text → Option Asked
asked words = option_and_then asked_by (subcommand_of farm_app words)
