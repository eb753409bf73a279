-- Every pairing keeps the first colours.
use Rattle.iloc_validation.proofs.Common.{◌≡◌, ℕ, List, Some, None, Option, unwrap_or, ap, Op, label, ByLabel, AreColoured, AreKept, AreKeptColours, label_colour, Coloured, Sides}
use Rattle.std.specs.BTreeMap.{get}
use Rattle.iloc_ops.specs.contracts.op.OpOrd.TheImpl as in_order
use Rattle.iloc_facts.proofs.LabelKeys.{same_key}

pub same_label_colour : (labels : ByLabel) (a b : Op) → label a ≡ label b → label_colour labels a ≡ label_colour labels b
same_label_colour labels a b same =
    ap (λ key. unwrap_or (get (in_order.ghosts).cmp labels.numbers key) 18446744073709551615) (same_key a b same)

-- colours that are made of those that every pairing keeps
pub colours_kept : (sides : Sides) (here there : List ℕ) (found : Option Coloured) → AreColoured sides here there found
    → AreKept sides here there → AreKeptColours sides found
colours_kept sides here there None are kept =
    λ origin partner under. are origin partner under (kept origin partner under)
colours_kept sides here there (Some new) are kept = record {
  here_size = are.here_size;
  there_size = are.there_size;
  kept = λ origin partner under. are.kept origin partner under (kept origin partner under);
}
