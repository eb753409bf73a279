use Rattle.iloc_optimum.proofs.Common.{◌≡◌, ◌+◌, ◌-◌, ◌<◌, ◌≤◌, length, get_or, ◌∙◌, arith, length-set, get_or_read}
use Rattle.iloc_optimum.proofs.NarrowerWindows.{lowered, edge_at, ends_at, waits_at}
use Rattle.iloc_optimum.proofs.waits.lower_lasts.Goals as goal

pub loop-x-preserved : goal.loop-x-preserved
loop-x-preserved c =
    let e = edge_at c.args.edges.now (c.loop-x.x - 1) in
    let size : length c.loop-x.lasts.items ≡ length c.args.lasts.now.items = c.loop-x.invariant.0 in
    let ends = ends_at (length c.args.lasts.now.items) c.args.edges.now (c.loop-x.x - 1) (omega arith) c.requires.there in
    let from_there : e.from < length c.args.lasts.now.items = ends.0 in
    let to_there : e.to < length c.args.lasts.now.items = ends.1 in (
      length-set c.loop-x.lasts.items e.from c.min.result ∙ size,
      λ firsts t waits w.
          let before = c.loop-x.invariant.1 firsts t waits w in
          let wait : t e.from + e.delay ≤ t e.to = waits_at c.args.edges.now t (c.loop-x.x - 1) (omega arith) waits in
          let from : t e.from ≤ get_or c.loop-x.lasts.items e.from 0 = before.to e.from (omega arith) in
          let to : t e.to ≤ get_or c.loop-x.lasts.items e.to 0 = before.to e.to (omega arith) in
          let read_one : c.index.result.now ≡ get_or c.loop-x.lasts.items e.to 0 =
          get_or_read c.loop-x.lasts.items e.to c.index.result.now (omega arith) c.index.ensures 0 in
          let read_two : c.index-in-loop-x.result.now ≡ get_or c.loop-x.lasts.items e.from 0 =
          get_or_read c.loop-x.lasts.items e.from c.index-in-loop-x.result.now (omega arith) c.index-in-loop-x.ensures 0 in
          let sum = c.saturating_sub-limit.ensures in
          let most = c.min.ensures in
          lowered firsts c.loop-x.lasts.items t e.from c.min.result (omega arith) (omega arith) before,
    )
