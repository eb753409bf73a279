use Rattle.iloc_driver.proofs.Common.{◌≡◌, sym, refl, subst, IsListingOf, ListsRead, AreIn, own_of}
use Rattle.iloc_driver.specs.declared.commands.Finding.TheVariants.{Passed}
use Rattle.iloc_driver.specs.declared.commands.Listed.{Listed}
use Rattle.iloc_driver.proofs.commands.alone.Goals as goal

pub returns : goal.returns
returns g c =
    let request = c.args.request.now in
    let are_own = AreIn c.args.request.now.priorities_file (g.T.Texts.held c.args.texts.now) in
    let old = g.R.Read.remaining c.args.reader.now in
    let new = g.R.Read.remaining c.listed_alone.new.reader in (
      subst (λ (listed : Listed). ListsRead (λ own. IsListingOf (λ k. g.L.Lister.lists request (own_of own k) k) g.L.Lister.ending)
          are_own old new listed.text × (listed.finding ≡ Passed)) (sym c.of_file.ensures) (c.in_ok-text.ensures.ok, refl),
      refl,
    )
