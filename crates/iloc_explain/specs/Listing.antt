-- The listing of what explains a schedule.
use Rattle.std.specs.Prelude.{ℕ, ◌+◌, ◌≡◌, ◌==◌, if◌then◌else◌, List, [], ◌∷◌, ◌++◌, Option, Some, None, codes}
use Rattle.std.specs.List.{flat_map}
use Rattle.std.specs.Fmt.{decimal}
use Rattle.iloc_ops.specs.declared.op.Op.{Op}
use Rattle.iloc_ops.specs.Spelling.{spelling}
use Rattle.iloc_ops.specs.Columns.{column}
use Rattle.iloc_timed.specs.declared.latencies.Latencies.{Latencies}
use Rattle.iloc_timed.specs.declared.row.Row.{Row}
use Rattle.iloc_timed.specs.Cycles.{cycles}
use Rattle.iloc_rules.specs.Renaming.{without_nops}
use Rattle.iloc_rules.specs.declared.memory_rule.MemoryRule.{MemoryRule}
use Rattle.iloc_explain.specs.declared.explanation.Explained.{Explained}
use Rattle.iloc_explain.specs.declared.explanation.Unit.{Unit as unit_type}
use Rattle.iloc_explain.specs.declared.explanation.Unit.TheVariants as unit
use Rattle.iloc_explain.specs.declared.holding.Holder.{Holder}
use Rattle.iloc_explain.specs.declared.holding.Holder.TheVariants.{Delays, Operation, Nothing}
use Rattle.iloc_explain.specs.declared.path.Stretch.{Stretch}
use Rattle.iloc_explain.specs.declared.path.Stretch.TheVariants.{Delay, Held, Free}
use Rattle.iloc_explain.specs.Chain.{IsLongestChain}
use Rattle.iloc_explain.specs.Explained.{AreExplained}
use Rattle.iloc_explain.specs.Path.{IsPath}

-- numbers with `mark` between them, `-` where there are none
abbrev pub separated : (mark : List ℕ) → List ℕ → List ℕ
separated mark [] = codes "-"
separated mark (n ∷ rest) = decimal n ++ flat_map (λ m. mark ++ decimal m) rest

abbrev pub unit_number : unit_type → ℕ
unit_number unit.Zero = 0
unit_number unit.One = 1

-- `-` for delays, the number of an operation, `free` for nothing
abbrev pub holder_text : Holder → List ℕ
holder_text Delays = codes "-"
holder_text (Operation i) = decimal i
holder_text Nothing = codes "free"

-- ` priority P earliest E slack S held H`
abbrev pub measures : Explained → List ℕ
measures e =
    column (codes "priority") e.priority ++ column (codes "earliest") e.earliest ++ column (codes "slack") e.slack
    ++ codes " held " ++ holder_text e.held

-- `J cycle C unit U ready R after I,I priority P earliest E slack S held H OPERATION ; ISSUED`
abbrev pub explained_line : ℕ → Explained → Op → Op → List ℕ
explained_line j e op issued =
    decimal j ++ column (codes "cycle") e.cycle ++ column (codes "unit") (unit_number e.unit)
    ++ column (codes "ready") e.ready ++ codes " after " ++ separated (codes ",") e.after.items
    ++ measures e ++ codes " " ++ spelling op ++ codes " ; " ++ spelling issued ++ codes "\n"

-- `,J,C,U,R`
abbrev pub place_fields : ℕ → Explained → List ℕ
place_fields j e =
    codes "," ++ decimal j ++ codes "," ++ decimal e.cycle ++ codes "," ++ decimal (unit_number e.unit)
    ++ codes "," ++ decimal e.ready

-- `,P,E,S,H`
abbrev pub measure_fields : Explained → List ℕ
measure_fields e =
    codes "," ++ decimal e.priority ++ codes "," ++ decimal e.earliest ++ codes "," ++ decimal e.slack
    ++ codes "," ++ holder_text e.held

-- `,J,C,U,R,I I,P,E,S,H,"OPERATION","ISSUED"`, a row of a table after its block
abbrev pub explained_row : ℕ → Explained → Op → Op → List ℕ
explained_row j e op issued =
    place_fields j e ++ codes "," ++ separated (codes " ") e.after.items ++ measure_fields e
    ++ codes ",\"" ++ spelling op ++ codes "\",\"" ++ spelling issued ++ codes "\"\n"

-- the `line` of each operation from number j on, as it is in the block, and as it is issued
abbrev pub explained_lines : (line : ℕ → Explained → Op → Op → List ℕ) → ℕ → List Explained → List Op → List Op
    → List (List ℕ)
explained_lines line j [] ops issued = []
explained_lines line j (e ∷ more) [] issued = []
explained_lines line j (e ∷ more) (op ∷ ops) [] = []
explained_lines line j (e ∷ more) (op ∷ ops) (own ∷ issued) =
    line j e op own ∷ explained_lines line (j + 1) more ops issued

-- `lines`, each after `head`
abbrev pub each_after : (head : List ℕ) → (lines : List (List ℕ)) → List ℕ
each_after head lines = flat_map (λ line. head ++ line) lines

-- what each line begins with: in a table what that has of the `block`, and else nothing
abbrev pub beginning : (block : Option (List ℕ)) → List ℕ
beginning None = []
beginning (Some head) = head

-- the line that follows: in a table a row
abbrev pub line_after : (block : Option (List ℕ)) → ℕ → Explained → Op → Op → List ℕ
line_after None = explained_line
line_after (Some head) = explained_row

-- `chain I J ..`, the operations of a chain, `-` where there are none
abbrev pub chain_line : List ℕ → List ℕ
chain_line [] = codes "chain -\n"
chain_line (i ∷ chain) = codes "chain" ++ flat_map (λ j. codes " " ++ decimal j) (i ∷ chain) ++ codes "\n"

-- ` I +D`, ` H =1` or ` ~N`
abbrev pub stretch_text : Stretch → List ℕ
stretch_text (Delay i d) = codes " " ++ decimal i ++ codes " +" ++ decimal d
stretch_text (Held h) = codes " " ++ decimal h ++ codes " =1"
stretch_text (Free n) = codes " ~" ++ decimal n

-- `path I +D H =1 ..`, the stretches of a path, `-` where there are none
abbrev pub path_line : List Stretch → List ℕ
path_line [] = codes "path -\n"
path_line (first ∷ path) = codes "path" ++ flat_map stretch_text (first ∷ path) ++ codes "\n"

-- `cycles C least L`: cycles and their lower bound, and ` optimal` where they are equal, so that no lawful schedule takes
-- fewer
abbrev pub cycles_line : ℕ → ℕ → List ℕ
cycles_line taken bound =
    codes "cycles " ++ decimal taken ++ codes " least " ++ decimal bound
    ++ (if taken == bound then codes " optimal" else []) ++ codes "\n"

-- `text` explains the operations `ops` in `rows`, a schedule of `block` by `rule` that the priorities `prios` rank: a
-- line for each operation, the cycles with their lower `bound`, a longest chain of delays, and what binds in this
-- schedule. A line shows its operation as it is `issued`, which for a schedule of ours is as it is in `ops`.
pub record IsExplanation (prios : List ℕ) (rule : MemoryRule) (lat : Latencies) (bound : ℕ) (block ops : List Op)
    (rows : List Row) (issued : List Op) (text : List ℕ) : Type 0 where
  pub explained : List Explained
  pub are_explained : AreExplained prios rule lat ops rows explained
  pub chain : List ℕ
  pub is_longest : IsLongestChain rule lat ops chain
  pub path : List Stretch
  pub is_path : IsPath rule lat ops rows path
  pub listed : text ≡
      each_after [] (explained_lines explained_line 0 explained (without_nops block) issued)
      ++ cycles_line (cycles lat ops rows) bound
      ++ chain_line chain
      ++ path_line path

-- `table` has a row for each of the operations `ops` in `rows`, a schedule of `block` by `rule` that the priorities `prios`
-- rank. What its rows begin with, the block, is left out.
pub record AreTableRows (prios : List ℕ) (rule : MemoryRule) (lat : Latencies) (block ops : List Op) (rows : List Row)
    (table : List (List ℕ)) : Type 0 where
  pub explained : List Explained
  pub are_explained : AreExplained prios rule lat ops rows explained
  pub listed : table ≡ explained_lines explained_row 0 explained (without_nops block) ops
