use Rattle.iloc_driver.proofs.Common.{◌≡◌, sym, refl, subst, ListsRead, AreIn, ListsFarmed}
use Rattle.iloc_board.specs.Finished.{ReceiptView}
use Rattle.iloc_driver.specs.declared.commands.Finding.TheVariants.{Passed}
use Rattle.iloc_driver.specs.declared.commands.Listed.{Listed}
use Rattle.iloc_driver.proofs.commands.shared.Goals as goal

pub returns : goal.returns
returns g c =
    let request = c.args.request.now in
    let own = AreIn c.args.request.now.priorities_file (g.T.Texts.held c.args.texts.now) in
    let old = g.R.Read.remaining c.args.reader.now in
    let new = g.R.Read.remaining c.listed_by_workers.new.reader in
    let farmed = c.in_ok-text.ensures.ok in
    subst (λ (listed : Listed). (ListsRead (g.L.FarmedLister.lists request) own old new listed.text × (listed.finding ≡ Passed))
    × ((kept : ReceiptView g.row.L-Answer.Denot) × g.K.From.from_gives kept c.from.result × ListsFarmed
    (g.L.FarmedLister.answers request) g.L.FarmedLister.cycles_in (g.L.FarmedLister.made_of request)
    (g.L.FarmedLister.lists request) own request.workers old new listed.text kept))
    (sym c.of_file.ensures) ((farmed.read, refl), (c.in_ok-text.receipt, c.from.ensures, farmed))
