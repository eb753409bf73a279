use Rattle.iloc_farm.proofs.Headline.{run_has_headline}
use Rattle.iloc_farm.proofs.program.run_with_receipt.Goals as goal

pub returns-clause-headline : goal.returns-clause-headline
returns-clause-headline g c = run_has_headline _ _ _ _ _ _ _ c.run_request.ensures.ok
