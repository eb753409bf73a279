use Rattle.iloc_row_commands.proofs.Common.{not, length, sym, refl, ◌∙◌, arith, rules, tests, YieldsList-from_range, find_from_yields_List, row_at, take_the_same}
use Rattle.std.proofs.lemmas.Iterator.Adapters.{option_map_id}
use Rattle.iloc_row_commands.proofs.explain.departure.first_unlike.Goals as goal

pub returns : goal.returns
returns c =
    sym (option_map_id c.find.result)
    ∙ find_from_yields_List (λ i. not (take_the_same (row_at c.args.rows.now i) (row_at c.args.others.now i))) _ _
    c.find.result c.find.ensures.ran
    (YieldsList-from_range 0 (length c.args.rows.now) (length c.args.rows.now) refl (omega arith))
    (λ x b q k. search (rules, tests))
