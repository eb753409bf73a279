-- What is left out of rows, and what is added, by what lacks a counterpart.
use Rattle.iloc_facts.proofs.Common.{◌≡◌, List, Some, sym, ◌∙◌, subst, get_or_default, Op, Nop, op_at, Row, AreLacking, IsShort, Lacking}
use Rattle.iloc_facts.specs.declared.lawfulness.Issue.{Issue}
use Rattle.iloc_facts.specs.Lawfulness.{issue_of, AreLeftOut, AreAdded}

pub left_out_is : (block ops : List Op) (it : Lacking) (op : Op) → AreLacking block ops it → op ≡ op_at block it.number
    → AreLeftOut block ops (Some (record { count = it.count; op = op }))
left_out_is block ops it op are is = (
  are.count,
  (it.number, are.within, get_or_default block it.number op Nop are.within ∙ sym is),
  subst (λ o. IsShort o block ops) (sym is) are.short,
)

pub added_is : (block ops : List Op) (rows : List Row) (it : Lacking) (issue : Issue) → AreLacking ops block it
    → issue ≡ issue_of ops rows it.number → AreAdded block ops rows (Some (record { count = it.count; issue = issue }))
added_is block ops rows it issue are is = (
  are.count,
  (it.number, are.within, is),
  subst (λ (i : Issue). IsShort i.op ops block) (sym is) are.short,
)
