-- An argument or a command with one setting, argument or subcommand more.
use Rattle.iloc_args.proofs.Common.{◌≡◌, ℕ, suc, ◌+◌, ◌<◌, Bool, false, ◌||◌, List, [], ◌∷◌, map, length, get_or, take, Option, option_map, find, bytes_eq, sym, refl, ap, ◌∙◌, subst, arith, Shape, app_of_fields, new_shape, on_top, Rule, Text, AddsArg, AddsSubcommand, App, app_of, rule_of, with_rule, with_subcommand, task_among, top_shape, HasApp, HasRule, alone, app_for, app_with, rule_for, subcommand_for, with_arguments}
use Rattle.std.proofs.Math.Seq.{take-suc}
use Rattle.std.proofs.lemmas.List.{map_more}
use Rattle.std.proofs.lemmas.List.Sums.{fold-append}
use Rattle.clap.specs.declared.builder.arg.Arg.{Arg}
use Rattle.clap.specs.declared.builder.command.Command.{Command}
use Rattle.clap.specs.declared.builder.command.Command.TheOpen.{Command-F}
use Rattle.clap.specs.declared.builder.command.Command.TheViews.{out-Command}
use Rattle.iloc_args.specs.declared.request.Task.{Task}
use Rattle.iloc_args.specs.declared.command.Argument.{Argument}
use Rattle.iloc_args.specs.declared.command.Entry.{Entry}

-- a setting of an argument
pub set_rule : (change : Rule → Rule) (r : Rule) (old new set : Arg) → HasRule r old → new ≡ set
    → rule_of set ≡ change (rule_of old) → set.global ≡ old.global → HasRule (change r) new
set_rule change r old new set had is rule global = grind arith

-- a setting of a command
pub set_shape : (change : Shape → Shape) (a : App) (old new : Command) (set : Command-F Command) → HasApp a old
    → out-Command new ≡ set
    → app_of_fields set ≡ on_top change (app_of old) → set.has_globals ≡ (out-Command old).has_globals
    → HasApp (on_top change a) new
set_shape change a old new set had is app globals = grind arith

-- a setting that reads nothing of the command
pub set_flag : (set : Command-F Command → Command-F Command) (change : Shape → Shape) (a : App) (old new : Command)
    → HasApp a old → out-Command new ≡ set (out-Command old)
    → ((c : Command-F Command) → app_of_fields (set c) ≡ on_top change (app_of_fields c))
    → ((c : Command-F Command) → (set c).has_globals ≡ c.has_globals) → HasApp (on_top change a) new
set_flag set change a old new had is app globals =
    set_shape change a old new (set (out-Command old)) had is (app (out-Command old)) (globals (out-Command old))

neither : (a b c : Bool) → a ≡ (b || c) → b ≡ false → c ≡ false → a ≡ false
neither a b c is p q = is ∙ rw (p, q) refl

pub more_rule : (a : App) (r : Rule) (old : Command) (arg : Arg) (new : Command) → HasApp a old → HasRule r arg
    → AddsArg old arg new → HasApp (with_rule a r) new
more_rule a r old arg new had rule adds = grind (arith, neither)

pub more_command : (a s : App) (old sub new : Command) → HasApp a old → HasApp s sub → AddsSubcommand old sub new
    → HasApp (with_subcommand a s.top) new
more_command a s old sub new had has adds = grind (arith, neither)

-- a command with its next argument
pub next_argument : (name : Text) (arguments : List Argument) (i : ℕ) (d : Argument) (old : Command) (arg : Arg) (new : Command)
    → i < length arguments → HasApp (with_arguments name (take i arguments)) old
    → HasRule (rule_for (get_or arguments i d)) arg → AddsArg old arg new
    → HasApp (with_arguments name (take (i + 1) arguments)) new
next_argument name arguments i d old arg new within had rule adds =
    let P : List Rule → Type 0 = λ rs. HasApp (alone (record (new_shape name) { rules = rs })) new in
    subst P (sym (map_more rule_for arguments i d within)) (more_rule _ _ old arg new had rule adds)

-- the program with its next command
pub next_command : (entries : List Entry) (i : ℕ) (d : Entry) (old sub new : Command) → i < length entries
    → HasApp (app_with (take i entries)) old → HasApp (app_for (get_or entries i d)) sub → AddsSubcommand old sub new
    → HasApp (app_with (take (i + 1) entries)) new
next_command entries i d old sub new within had has adds =
    let after : i + 1 ≡ suc i = omega arith in
    let P : List Entry → Type 0 = λ rs. HasApp (app_with rs) new in
    let step = fold-append (λ a r. with_subcommand a (app_for r).top) (alone top_shape) (take i entries) (get_or entries i d ∷ []) in
    subst P (sym (ap (λ n. take n entries) after ∙ take-suc entries i d within))
    (subst (λ a. HasApp a new) (sym step) (more_command _ _ old sub new had has adds))

same_task : (entries : List Entry) (name : Text)
    → option_map (λ (r : Entry). r.task) (find (λ (r : Entry). bytes_eq r.name.now name) entries)
    ≡ task_among (map subcommand_for entries) name
same_task [] name = refl
same_task (r ∷ entries) name = grind (arith, same_task entries name)

-- the task of the row of a name is that of the command that it stands for
pub found_in : (entries : List Entry) (name : Text) (found : Option Task)
    → found ≡ option_map (λ (r : Entry). r.task) (find (λ (r : Entry). bytes_eq r.name.now name) entries)
    → found ≡ task_among (map subcommand_for entries) name
found_in entries name found is = is ∙ same_task entries name
