-- The lines that say why rows aren't a schedule of their block by the book.
use Rattle.std.specs.Prelude.{ℕ, ◌==◌, if◌then◌else◌, List, [], ◌++◌, Option, Some, None, codes}
use Rattle.std.specs.List.{flat_map}
use Rattle.std.specs.Fmt.{decimal}
use Rattle.iloc_ops.specs.Spelling.{spelling}
use Rattle.iloc_facts.specs.declared.lawfulness.Added.{Added}
use Rattle.iloc_facts.specs.declared.lawfulness.LeftOut.{LeftOut}
use Rattle.iloc_facts.specs.declared.fact.Fact.{Fact}
use Rattle.iloc_facts.specs.declared.fact.Reasons.{Reasons}
use Rattle.iloc_comparison.specs.declared.task.Form.TheVariants.{Lines}
use Rattle.iloc_verdict.specs.Remarks.{fact_remark}

-- `left out N: OP`, if some operations are
abbrev pub left_out_told : Option LeftOut → List ℕ
left_out_told None = []
left_out_told (Some it) = codes "  left out " ++ decimal it.count ++ codes ": " ++ spelling it.op ++ codes "\n"

-- `added N: row R: OP`, if some are
abbrev pub added_told : Option Added → List ℕ
added_told None = []
added_told (Some it) =
    codes "  added " ++ decimal it.count ++ codes ": row " ++ decimal it.issue.cycle ++ codes ": " ++ spelling it.issue.op
    ++ codes "\n"

abbrev pub fact_told : Fact → List ℕ
fact_told fact = fact_remark Lines fact ++ codes "\n"

-- `and N more`, if there are any
abbrev pub more_told : ℕ → List ℕ
more_told n = if n == 0 then [] else codes "  and " ++ decimal n ++ codes " more\n"

abbrev pub reasons_told : Reasons → List ℕ
reasons_told it =
    left_out_told it.left_out ++ added_told it.added ++ flat_map fact_told it.facts.items ++ more_told it.more
