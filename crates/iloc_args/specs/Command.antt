-- The program's command line, as the parser reads it.
use Rattle.std.specs.Prelude.{ℕ, List, [], ◌∷◌, ◌++◌, Some, map, pos, codes, true, false}
use Rattle.clap.specs.declared.builder.action.ArgAction.TheVariants.{Append, SetTrue}
use Rattle.clap.specs.declared.builder.value_parser.ValueParser.TheVariants.{Signed}
use Rattle.clap.specs.Lexer.{usize_max}
use Rattle.clap.specs.Words.{App, Rule, Shape, Text, new_rule}
use Rattle.clap.specs.Simple.{new_shape}
use Rattle.iloc_meaning.specs.Address.{LAST_ADDRESS}
use Rattle.iloc_timed.specs.Limits.{LONGEST_LATENCY}
use Rattle.iloc_args.specs.Flags.{flag_word}
use Rattle.iloc_args.specs.declared.flag.Flag.{Flag}
use Rattle.iloc_args.specs.declared.flag.Flag.TheVariants.{Csv, Json, Lawful, Operations, Outputs, EitherSlot, Where, Cycles, Disambiguate}
use Rattle.iloc_args.specs.declared.request.Task.{Task}
use Rattle.iloc_args.specs.declared.request.Task.TheVariants.{Run, Simulate, Trace, Schedule, Counts, Compare, Optimize, Explain, Check, Graph, Lint}

-- `--NAME N`, a number within these bounds
abbrev pub bounded_rule : Text → ℕ → ℕ → Rule
bounded_rule name low high = record (new_rule name) {
  long = Some name;
  value_names = 1;
  parser = Some (Signed (pos low) (pos high));
}

-- the same, and this one where it is not given
abbrev pub number_rule : Text → Text → ℕ → ℕ → Rule
number_rule name default low high = record (bounded_rule name low high) { defaults = default ∷ [] }

abbrev pub at_rule : Rule
at_rule = number_rule (codes "at") (codes "1024") 0 LAST_ADDRESS

abbrev pub workers_rule : Rule
workers_rule = number_rule (codes "workers") (codes "2") 1 8

-- `--nodes N` of a command that always searches
abbrev pub nodes_rule : Rule
nodes_rule = number_rule (codes "nodes") (codes "1000") 0 100000

-- and of one that searches where it is given
abbrev pub search_rule : Rule
search_rule = bounded_rule (codes "nodes") 0 100000

-- the latency of an operation, in cycles
abbrev pub latency_rule : Text → Text → Rule
latency_rule name usual = number_rule name usual 1 LONGEST_LATENCY

-- `[--load N] [--store N] [--mult N]`
abbrev pub latency_rules : List Rule
latency_rules =
    latency_rule (codes "load") (codes "5")
    ∷ latency_rule (codes "store") (codes "5")
    ∷ latency_rule (codes "mult") (codes "3")
    ∷ []

-- any number of WORD, each from 0 to 4294967295
abbrev pub words_rule : Rule
words_rule = record (new_rule (codes "words")) {
  value_names = 1;
  range = Some (record { start_inclusive = 0; end_inclusive = usize_max });
  action = Some Append;
  parser = Some (Signed (pos 0) (pos 4294967295));
}

-- `--NAME`
abbrev pub bare_rule : Text → Rule
bare_rule name = record (new_rule name) { long = Some name; action = Some SetTrue }

-- that of a flag
abbrev pub flag_rule : Flag → Rule
flag_rule flag = bare_rule (flag_word flag)

-- `--NAME VALUE`, any text
abbrev pub text_rule : Text → Rule
text_rule name = record (new_rule name) { long = Some name; value_names = 1 }

-- `--priority NAME`
abbrev pub priority_rule : Rule
priority_rule = text_rule (codes "priority")

-- `--priorities FILE`
abbrev pub priorities_rule : Rule
priorities_rule = text_rule (codes "priorities")

-- `--task FILE`
abbrev pub task_rule : Rule
task_rule = text_rule (codes "task")

-- a command: its name, the task that it asks for, and its arguments
pub record Subcommand : Type 0 where
  pub name : Text
  pub task : Task
  pub rules : List Rule

-- `run [--at N] [WORD].. [--where]`
abbrev pub run_entry : Subcommand
run_entry = record { name = codes "run"; task = Run; rules = at_rule ∷ words_rule ∷ flag_rule Where ∷ [] }

-- `simulate [--at N] [WORD].. [--load N] [--store N] [--mult N] [--priority NAME] [--priorities FILE] [--disambiguate]`
abbrev pub simulate_entry : Subcommand
simulate_entry = record {
  name = codes "simulate";
  task = Simulate;
  rules = at_rule ∷ words_rule ∷ latency_rules ++ priority_rule ∷ priorities_rule ∷ flag_rule Disambiguate ∷ [];
}

-- `trace [--at N] [WORD].. [--load N] [--store N] [--mult N] [--priority NAME] [--priorities FILE] [--task FILE] [--either-slot] [--disambiguate]`
abbrev pub trace_entry : Subcommand
trace_entry = record {
  name = codes "trace";
  task = Trace;
  rules = at_rule ∷ words_rule ∷ latency_rules ++ priority_rule ∷ priorities_rule ∷ task_rule
      ∷ map flag_rule (EitherSlot ∷ Disambiguate ∷ []);
}

-- `schedule [--workers N] [--load N] [--store N] [--mult N] [--priority NAME] [--priorities FILE] [--disambiguate]`
abbrev pub schedule_entry : Subcommand
schedule_entry = record {
  name = codes "schedule";
  task = Schedule;
  rules = workers_rule ∷ latency_rules ++ priority_rule ∷ priorities_rule ∷ flag_rule Disambiguate ∷ [];
}

-- `counts [--workers N] [--load N] [--store N] [--mult N] [--priority NAME] [--priorities FILE] [--disambiguate] [--csv]`
abbrev pub counts_entry : Subcommand
counts_entry = record {
  name = codes "counts";
  task = Counts;
  rules = workers_rule ∷ latency_rules ++ priority_rule ∷ priorities_rule ∷ map flag_rule (Disambiguate ∷ Csv ∷ []);
}

-- `compare [--nodes N] [--workers N] [--load N] [--store N] [--mult N] [--priorities FILE] [--disambiguate] [--csv]`
abbrev pub compare_entry : Subcommand
compare_entry = record {
  name = codes "compare";
  task = Compare;
  rules = search_rule ∷ workers_rule ∷ latency_rules ++ priorities_rule ∷ map flag_rule (Disambiguate ∷ Csv ∷ []);
}

-- `optimize [--nodes N] [--workers N] [--load N] [--store N] [--mult N] [--disambiguate]`
abbrev pub optimize_entry : Subcommand
optimize_entry = record {
  name = codes "optimize";
  task = Optimize;
  rules = nodes_rule ∷ workers_rule ∷ latency_rules ++ flag_rule Disambiguate ∷ [];
}

-- `explain [--workers N] [--load N] [--store N] [--mult N] [--priority NAME] [--priorities FILE] [--task FILE] [--either-slot] [--disambiguate] [--cycles] [--csv]`
abbrev pub explain_entry : Subcommand
explain_entry = record {
  name = codes "explain";
  task = Explain;
  rules = workers_rule ∷ latency_rules ++ priority_rule ∷ priorities_rule ∷ task_rule
      ∷ map flag_rule (EitherSlot ∷ Disambiguate ∷ Cycles ∷ Csv ∷ []);
}

-- `check [--at N] [WORD].. [--load N] [--store N] [--mult N] [--nodes N] [--task FILE] [--either-slot] [--disambiguate] [--lawful] [--operations] [--outputs] [--csv] [--json]`
abbrev pub check_entry : Subcommand
check_entry = record {
  name = codes "check";
  task = Check;
  rules = at_rule ∷ words_rule ∷ latency_rules ++ search_rule ∷ task_rule
      ∷ map flag_rule (EitherSlot ∷ Disambiguate ∷ Lawful ∷ Operations ∷ Outputs ∷ Csv ∷ Json ∷ []);
}

-- `graph [--load N] [--store N] [--mult N] [--disambiguate]`
abbrev pub graph_entry : Subcommand
graph_entry = record { name = codes "graph"; task = Graph; rules = latency_rules ++ flag_rule Disambiguate ∷ [] }

-- `lint`
abbrev pub lint_entry : Subcommand
lint_entry = record { name = codes "lint"; task = Lint; rules = [] }

-- the commands that there are
abbrev pub entries : List Subcommand
entries =
    run_entry
    ∷ simulate_entry
    ∷ trace_entry
    ∷ schedule_entry
    ∷ counts_entry
    ∷ compare_entry
    ∷ optimize_entry
    ∷ explain_entry
    ∷ check_entry
    ∷ graph_entry
    ∷ lint_entry
    ∷ []

-- a command as the parser has it
abbrev pub shape : Subcommand → Shape
shape e = record (new_shape e.name) { rules = e.rules }

-- the program without its commands: its words stand after its name, the first of them is a command,
-- one has to be there, and `--version` and the command `help` are the parser's own
abbrev pub top_shape : Shape
top_shape = record (new_shape (codes "ilocfarm")) {
  no_binary_name = true;
  subcommand_required = true;
  has_version = true;
}

-- the whole command line
abbrev pub farm_app : App
farm_app = record { top = record top_shape { is_leaf = false }; subs = map shape entries }
