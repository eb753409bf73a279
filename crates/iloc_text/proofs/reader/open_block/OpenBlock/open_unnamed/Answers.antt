use Rattle.std.proofs.Common.{None, refl, ap}
use Rattle.iloc_text.proofs.Growing.{opened_first}
use Rattle.iloc_text.proofs.reader.open_block.OpenBlock.open_unnamed.Goals as goal

pub returns : goal.returns
returns c = λ done blocks h. opened_first done blocks c.args.self.now _ h c.requires refl
    (ap (λ ops. record { name = None; ops = ops }) c.clear.ensures)
