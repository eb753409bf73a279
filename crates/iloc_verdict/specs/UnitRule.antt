-- Which rule of the units a row breaks.
use Rattle.std.specs.Prelude.{◌&&◌, ◌≡◌, Bool, not, Option, List, [], ◌∷◌, ℕ, find, codes}
use Rattle.std.specs.Option.{is_some}
use Rattle.iloc_ops.specs.declared.op.Op.{Op}
use Rattle.iloc_timed.specs.declared.kind.Kind.{Kind}
use Rattle.iloc_timed.specs.declared.row.Row.{Row}
use Rattle.iloc_timed.specs.Rows.{keeps_units, kind_in, is_some_kind}
use Rattle.iloc_timed.specs.Units.{needs_zero, needs_one, stands_alone}
use Rattle.iloc_verdict.specs.declared.checked.unit_rule.UnitRule.{UnitRule}
use Rattle.iloc_verdict.specs.declared.checked.unit_rule.UnitRule.TheVariants.{OneMemory, OneProduct, OneOutput, ProductsOnOne, MemoryOnZero}

-- whether what is on unit 0 and on unit 1 breaks a rule
abbrev pub breaks : Option Kind → Option Kind → UnitRule → Bool
breaks zero one OneMemory = is_some_kind needs_zero zero && is_some_kind needs_zero one
breaks zero one OneProduct = is_some_kind needs_one zero && is_some_kind needs_one one
breaks zero one OneOutput = is_some_kind stands_alone zero && is_some_kind stands_alone one
breaks zero one ProductsOnOne = is_some_kind needs_one zero
breaks zero one MemoryOnZero = is_some_kind needs_zero one

-- in the order in which they are named
abbrev pub unit_rules : List UnitRule
unit_rules = OneMemory ∷ OneProduct ∷ OneOutput ∷ ProductsOnOne ∷ MemoryOnZero ∷ []

-- the first of them that a row breaks
abbrev pub broken_rule : List Op → Row → Option UnitRule
broken_rule ops row = find (breaks (kind_in ops row.zero) (kind_in ops row.one)) unit_rules

-- what a row has that breaks the rule
abbrev pub rule_words : UnitRule → List ℕ
rule_words OneMemory = codes "two loads or stores"
rule_words OneProduct = codes "two products"
rule_words OneOutput = codes "two outputs"
rule_words ProductsOnOne = codes "a product on unit 0"
rule_words MemoryOnZero = codes "a load or store on unit 1"

-- of each row that breaks the rules of the units a rule is named, and of no other
abbrev pub BadRowsBreakARule : Type 0
BadRowsBreakARule = (ops : List Op) (row : Row) → is_some (broken_rule ops row) ≡ not (keeps_units ops row)
