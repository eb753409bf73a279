use Rattle.std.proofs.Common.{None, subst}
use Rattle.iloc_args.specs.declared.request.Request.{Request}
use Rattle.iloc_driver.proofs.Entries.{one_more}
use Rattle.iloc_driver.proofs.lister.AsReadTakeBlocks.take.Goals as goal

pub returns : goal.returns
returns g c = λ start blocks h number.
    let added = c.in_ok-found.ensures.listed in
    let P : Request → Type 0 = λ request. g.L.Lister.lists request None c.args.number c.args.block.now added.entry c.in_ok-found.found in (
      h.0,
      one_more (g.L.Lister.lists start.request.now None) blocks c.args.block.now c.args.number start.text.items
          c.args.self.now.text.items _ added.entry start.found.items c.args.self.now.found.items _ c.in_ok-found.found h.1
          number (subst P h.0 added.right) added.added c.in_ok-push.ensures.items,
    )
