-- The parser in the making: its arguments and its commands, one by one.
use Rattle.std.specs.Prelude.{◌≡◌, List, [], ◌∷◌, Some, false, fold, map}
use Rattle.clap.specs.declared.builder.arg.Arg.{Arg}
use Rattle.clap.specs.declared.builder.command.Command.{Command}
use Rattle.clap.specs.declared.builder.command.Command.TheViews.{out-Command}
use Rattle.clap.specs.declared.builder.value_parser.ValueParser.{ValueParser}
use Rattle.clap.specs.Words.{App, Rule, Shape, Text, app_of, new_rule, rule_of, with_subcommand}
use Rattle.clap.specs.Simple.{new_shape}
use Rattle.iloc_args.specs.Command.{Subcommand, at_rule, flag_rule, latency_rule, nodes_rule, search_rule, shape, top_shape, text_rule, words_rule, workers_rule}
use Rattle.iloc_args.specs.declared.command.Argument.{Argument}
use Rattle.iloc_args.specs.declared.command.Argument.TheVariants.{At, Words, Workers, Latency, Nodes, NodesIfGiven, Valued, Flag, FlagSaying}
use Rattle.iloc_args.specs.declared.command.Entry.{Entry}

-- `--NAME N`, a number that this parser takes
abbrev pub option_rule : Text → ValueParser → Rule
option_rule name parser = record (new_rule name) { long = Some name; value_names = 1; parser = Some parser }

-- the same, and this one where it is not given
abbrev pub default_rule : Text → Text → ValueParser → Rule
default_rule name default parser = record (option_rule name parser) { defaults = default ∷ [] }

-- it has no commands below it
abbrev pub alone : Shape → App
alone s = record { top = s; subs = [] }

abbrev pub app : Subcommand → App
app e = alone (shape e)

-- the argument has this rule, and is for its own command alone
pub record HasRule (wanted : Rule) (a : Arg) : Type 0 where
  pub rule : rule_of a ≡ wanted
  pub global : a.global ≡ false

-- the command is this one, and its arguments are for it alone
pub record HasApp (wanted : App) (c : Command) : Type 0 where
  pub app : app_of c ≡ wanted
  pub globals : (out-Command c).has_globals ≡ false

-- the rule of an argument
abbrev pub rule_for : Argument → Rule
rule_for At = at_rule
rule_for Words = words_rule
rule_for Workers = workers_rule
rule_for (Latency name help usual) = latency_rule name.now usual.now
rule_for Nodes = nodes_rule
rule_for NodesIfGiven = search_rule
rule_for (Valued name value help) = text_rule name.now
rule_for (Flag flag) = flag_rule flag
rule_for (FlagSaying flag help) = flag_rule flag

-- the command that an entry of the table stands for
abbrev pub subcommand_for : Entry → Subcommand
subcommand_for e = record { name = e.name.now; task = e.task; rules = map rule_for e.arguments.now }

-- a command with a name and arguments
abbrev pub with_arguments : Text → List Argument → App
with_arguments name arguments = alone (record (new_shape name) { rules = map rule_for arguments })

-- and as the parser has it
abbrev pub app_for : Entry → App
app_for e = with_arguments e.name.now e.arguments.now

-- the program with commands
abbrev pub app_with : List Entry → App
app_with entries = fold (λ a e. with_subcommand a (app_for e).top) (alone top_shape) entries
