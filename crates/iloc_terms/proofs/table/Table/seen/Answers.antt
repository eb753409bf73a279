use Rattle.std.proofs.Common.{◌≡◌, Some, None, sym}
use Rattle.iloc_terms.proofs.Terms.Epochs.{read_at_location, same_base}
use Rattle.iloc_terms.proofs.table.Table.seen.Goals as goal

pub returns-in-Term : goal.returns-in-Term
returns-in-Term c = λ words d meaning.
    let same : c.in-Some-Epoch.last ≡ c.location-base.result.base = same_base _ _ (sym c.if-ne.ensures) in
    read_at_location words c.args.self.now d c.args.memory _ _ c.args.address c.location-base.result.key
    c.in-Some-Epoch.last (Some (d.word c.in-Term.value)) meaning
    (rw c.in-Some-Epoch.field-0-is at c.in-Some-Epoch.ensures) (rw same (c.location-base.ensures words d meaning))
    (c.in-Term.ensures words d meaning)

pub returns-in-Nothing : goal.returns-in-Nothing
returns-in-Nothing c = λ words d meaning.
    let same : c.in-Some-Epoch.last ≡ c.location-base.result.base = same_base _ _ (sym c.if-ne.ensures) in
    read_at_location words c.args.self.now d c.args.memory _ _ c.args.address c.location-base.result.key
    c.in-Some-Epoch.last None meaning
    (rw c.in-Some-Epoch.field-0-is at c.in-Some-Epoch.ensures) (rw same (c.location-base.ensures words d meaning))
    (c.in-Nothing.ensures words d meaning)
