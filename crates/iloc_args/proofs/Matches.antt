-- The matches of a command hold numbers in their ranges, where the parser finds no fault in the words.
use Rattle.iloc_args.proofs.Common.{◌≡◌, ℕ, Bool, true, false, cond, ◌||◌, List, [], ◌∷◌, ◌++◌, map, pos, IfSome, slice_get, Some, None, box_value, codes, Option, Box, option_map, find, option_and_then, bytes_eq, unwrap_or, sym, refl, ap, ◌∙◌, subst, arith, bytes_eq-Decides, AllByRecursion, list_all, option_map_or, LAST_ADDRESS, LONGEST_LATENCY, entered_fault, level_fault, walk_fault, values_kinds, Shape, built, built_leaf, entered, help_shape, inherited, label_of, names_of, rows_at, subcommand_of, subcommand_rows, read_as, Row, Rule, Text, answers_to, nothing_held, row_text, rows_after, stop_after, walk_from, Signed, asked, asked_as, asked_by, task_named, Subcommand, entries, farm_app, shape, AreNumbersIn, HoldValues, HoldsIn, IsNumberIn}
use Rattle.std.proofs.lemmas.Bool.{and_parts}
use Rattle.clap.specs.declared.builder.value_parser.Reading.{Reading}
use Rattle.clap.specs.declared.builder.value_parser.Reading.TheVariants.{WithoutMinus}
use Rattle.clap.specs.declared.parser.matches.ArgMatches.TheViews.{out-SubCommand}
use Rattle.clap.specs.declared.parser.matches.SubCommand.{SubCommand}
use Rattle.iloc_args.specs.Due.{faults_in}
use Rattle.iloc_args.specs.declared.request.Task.{Task}
use Rattle.iloc_args.proofs.Fits.{IsFit, TakesIn, fits, is_fit}
use Rattle.iloc_args.proofs.Leaves.{found_kept, leaf_kept, row_in}
use Rattle.iloc_args.proofs.Numbers.{taken_numbers}
use Rattle.iloc_args.proofs.Rows.{IsKept, both_empty}
use Rattle.iloc_args.proofs.Stops.{IsElsewhere, walk_elsewhere}

-- ---- numbers in rows

-- the parser takes the values of a row, and they are read as it says
row_taken : (low high : ℕ) (id : Text) (rules : List Rule) (r : Row) → TakesIn low high id rules → IsKept rules r × (r.id ≡ id)
    → (r.reading ≡ WithoutMinus) × (ignore_case : Bool) × (values_kinds ignore_case (Signed (pos low) (pos high)) r.values ≡ [])
row_taken low high id rules r takes kept = grind (arith, pos)

-- the values of a row are numbers within these bounds
row_read : (low high : ℕ) (id : Text) (rules : List Rule) (r : Row) → TakesIn low high id rules → IsKept rules r
    × (r.id ≡ id)
    → (r.reading ≡ WithoutMinus) × AreNumbersIn low high (map (read_as WithoutMinus) r.values)
row_read low high id rules r takes kept = grind (arith, pos, row_taken, taken_numbers)

option_read : (low high : ℕ) (id : Text) (rules : List Rule) (o : Option Row) → TakesIn low high id rules
    → IfSome o (λ r. IsKept rules r × (r.id ≡ id))
    → IfSome (option_and_then row_text o) (IsNumberIn low high)
option_read low high id rules None takes kept = tt
option_read low high id rules (Some r) takes kept =
    let read = row_read low high id rules r takes kept in
    go r.reading r.values read.0 read.1
  where
    go : (how : Reading) (values : List Text) → how ≡ WithoutMinus
        → AreNumbersIn low high (map (read_as WithoutMinus) values)
        → IfSome (option_map (read_as how) (slice_get values 0)) (IsNumberIn low high)
    go how [] reading numbers = tt
    go how (v ∷ vs) reading numbers = subst (λ (h : Reading). IsNumberIn low high (read_as h v)) (sym reading) numbers.0

values_read : (low high : ℕ) (id : Text) (rules : List Rule) (o : Option Row) → TakesIn low high id rules
    → IfSome o (λ r. IsKept rules r × (r.id ≡ id))
    → AreNumbersIn low high (unwrap_or (option_map (λ r. map (read_as r.reading) r.values) o) [])
values_read low high id rules None takes kept = tt
values_read low high id rules (Some r) takes kept = grind (arith, row_read)

-- ---- a command, as the parser builds it

abbrev built_of : Subcommand → Shape
built_of e = built_leaf (inherited farm_app.top (shape e))

leaf_holds : (s : Shape) (words : List Text) → IsFit s.rules → level_fault s [] nothing_held words false [] ≡ []
    → HoldValues (rows_after s.rules [] words)
leaf_holds s words fit e =
    let rows = rows_after s.rules [] words in
    let kept = leaf_kept s words fit.ours e in
    let number : (low high : ℕ) (id : Text) → TakesIn low high id s.rules → HoldsIn low high id rows =
    λ low high id takes. option_read low high id s.rules (row_in id rows) takes (found_kept s.rules id rows kept) in
    record {
      workers = number 1 8 (codes "workers") fit.workers;
      at = number 0 LAST_ADDRESS (codes "at") fit.at;
      words = values_read 0 4294967295 (codes "words") s.rules (row_in (codes "words") rows) fit.words
          (found_kept s.rules (codes "words") rows kept);
      load = number 1 LONGEST_LATENCY (codes "load") fit.load;
      store = number 1 LONGEST_LATENCY (codes "store") fit.store;
      mult = number 1 LONGEST_LATENCY (codes "mult") fit.mult;
      nodes = number 0 100000 (codes "nodes") fit.nodes;
    }

every_fits : (es : List Subcommand) → list_all (λ (e : Subcommand). is_fit (built_of e).rules) es ≡ true
    → AllByRecursion (λ e. IsFit (built_of e).rules) es
every_fits [] are = tt
every_fits (e ∷ es) are =
    let parts = and_parts (is_fit (built_of e).rules) (list_all (λ (x : Subcommand). is_fit (built_of x).rules) es) are in
    (fits (built_of e).rules parts.0, every_fits es parts.1)

all_fit : AllByRecursion (λ e. IsFit (built_of e).rules) entries
all_fit = every_fits entries refl

-- ---- the whole command line

-- a command of the list has this name, and the matches hold numbers in their ranges
pub record IsEntered (es : List Subcommand) (word : Text) (named : Text × List Row) : Type 0 where
  pub same : named.0 ≡ word
  pub entry : Subcommand
  pub first : find (λ e. bytes_eq e.name word) es ≡ Some entry
  pub hold : HoldValues named.1

-- these commands as the parser builds them, and its own command `help` after them
abbrev with_help : List Subcommand → List Shape
with_help es = map built_of es ++ built_leaf help_shape ∷ []

entered_one : (es : List Subcommand) (p : Text × List Text) (named : Text × List Row)
    → AllByRecursion (λ e. IsFit (built_of e).rules) es → bytes_eq p.0 (codes "help") ≡ false
    → option_map (λ s. rows_at s p.1) (find (λ s. answers_to p.0 (label_of s)) (with_help es)) ≡ Some named
    → option_map_or (λ s. level_fault s [] nothing_held p.1 false [])
    (find (λ s. answers_to p.0 (label_of s)) (with_help es)) [] ≡ []
    → IsEntered es p.0 named
entered_one [] p named fit other is e = grind (arith, bytes_eq-Decides, codes)
entered_one (x ∷ es) p named fit other is e =
    go (bytes_eq x.name p.0) refl is e (entered_one es p named fit.1 other)
  where
    rest : Option Shape
    rest = find (λ s. answers_to p.0 (label_of s)) (with_help es)

    go : (b : Bool) → bytes_eq x.name p.0 ≡ b
        → option_map (λ s. rows_at s p.1) (cond (b || false) (Some (built_of x))
        (find (λ s. answers_to p.0 (label_of s)) (with_help es))) ≡ Some named
        → option_map_or (λ s. level_fault s [] nothing_held p.1 false [])
        (cond (b || false) (Some (built_of x)) (find (λ s. answers_to p.0 (label_of s)) (with_help es))) [] ≡ []
        → (option_map (λ s. rows_at s p.1) (find (λ s. answers_to p.0 (label_of s)) (with_help es)) ≡ Some named
        → option_map_or (λ s. level_fault s [] nothing_held p.1 false [])
        (find (λ s. answers_to p.0 (label_of s)) (with_help es)) [] ≡ []
        → IsEntered es p.0 named)
        → IsEntered (x ∷ es) p.0 named
    go true same is e later =
        let taken : rows_at (built_of x) p.1 ≡ named = ap (λ o. unwrap_or o (rows_at (built_of x) p.1)) is in
        record {
          same = sym (ap (λ (n : Text × List Row). n.0) taken) ∙ (bytes_eq-Decides x.name p.0).0 same;
          entry = x;
          first = rw same refl;
          hold = subst (λ (n : Text × List Row). HoldValues n.1) taken (leaf_holds (built_of x) p.1 fit.0 e);
        }
    go false other is e later =
        let found = later is e in
        record { same = found.same; entry = found.entry; first = rw other found.first; hold = found.hold }

entered_some : (stop : Option (Text × List Text)) (named : Text × List Row) → IsElsewhere stop
    → entered (built farm_app) stop ≡ Some named
    → entered_fault (built farm_app) stop ≡ [] → IsEntered entries named.0 named
entered_some None named other is e = cc
entered_some (Some p) named other is e =
    let found = entered_one entries p named all_fit other is e in
    record {
      same = refl;
      entry = found.entry;
      first = subst (λ (w : Text). find (λ e. bytes_eq e.name w) entries ≡ Some found.entry) (sym found.same)
          found.first;
      hold = found.hold;
    }

-- the words name a command, and its matches hold numbers in their ranges
pub taken_matches : (words : List Text) (named : Text × List Row) → subcommand_of farm_app words ≡ Some named
    → faults_in words ≡ []
    → IsEntered entries named.0 named
unfolding faults_in
taken_matches words named is e =
    let top = (built farm_app).top in
    let names = names_of (built farm_app) in
    let stop = stop_after top.rules names words in
    let walked = both_empty (walk_fault top names (walk_from nothing_held) words) _ e in
    let below = both_empty (entered_fault (built farm_app) stop) _ walked.1 in
    let elsewhere = walk_elsewhere top names refl words (walk_from nothing_held) tt walked.0 in
    entered_some stop named elsewhere is below.0

-- what a parse has entered, by the words: a command of this task, of which the words ask this
pub record IsCommand (words : List Text) (name : Text) (rows : List Row) : Type 0 where
  pub task : Task
  pub named : task_named name ≡ Some task
  pub hold : HoldValues rows
  pub asks : asked words ≡ Some (asked_as task rows)

pub entered_command : (words : List Text) (name : Text) (rows : List Row) (o : Option (Text × List Row))
    → o ≡ subcommand_of farm_app words
    → Some rows ≡ option_map (λ p. p.1) o → Some name ≡ option_map (λ p. p.0) o → faults_in words ≡ []
    → IsCommand words name rows
entered_command words name rows None is has named e = cc
entered_command words name rows (Some p) is has named e =
    let found = taken_matches words p (sym is) e in
    let same_rows : p.1 ≡ rows = sym (ap (λ o. unwrap_or o rows) has) in
    let same_name : p.0 ≡ name = sym (ap (λ o. unwrap_or o name) named) in
    let task : task_named p.0 ≡ Some found.entry.task = ap (option_map (λ (e : Subcommand). e.task)) found.first in
    record {
      task = found.entry.task;
      named = ap task_named (sym same_name) ∙ task;
      hold = subst HoldValues same_rows found.hold;
      asks = ap (option_and_then asked_by) (sym is)
          ∙ (ap (option_map (λ t. asked_as t p.1)) task ∙ ap (λ rs. Some (asked_as found.entry.task rs)) same_rows);
    }

module _ {Z : Type 0} where
  -- the name of a subcommand, by its rows
  pub name-rows : (o : Option (Box SubCommand Z)) → option_map (λ p. p.0) (subcommand_rows o)
      ≡ option_map (λ b. (out-SubCommand (box_value b)).name.now) o
  name-rows None = refl
  name-rows (Some b) = refl
