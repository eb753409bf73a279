use Rattle.iloc_view_commands.proofs.Common.{[], ◌∷◌, sym, refl, ◌∙◌, on_ok_weaker}
use Rattle.iloc_view_commands.proofs.explain.push_entry.Goals as goal

pub returns-then-csv : goal.returns-then-csv
returns-then-csv c =
    let asked = sym c.has-csv.ensures ∙ c.if-csv.true in
    on_ok_weaker c.push_rows.result (λ told. (told.0, rw asked told.1, rw asked told.2)) c.push_rows.ensures

pub returns-else-csv : goal.returns-else-csv
returns-else-csv c =
    let asked = sym c.has-csv.ensures ∙ c.if-csv.false in
    on_ok_weaker c.push_text.result
    (λ told. (told.0 ∷ [], rw asked (told.0, rw c.has-by_cycle.ensures at told.1, refl), rw asked told.2)) c.push_text.ensures
