use Rattle.iloc_optimum.proofs.Common.{◌≡◌, ◌+◌, ◌-◌, ◌*◌, ◌≤◌, length, sym, ◌∙◌, ap₂, subst₂, arith, is_at_least, width, count_inside, Within}
use Rattle.iloc_optimum.proofs.FullCycles.{too_many}
use Rattle.iloc_optimum.proofs.crowds.hold.Goals as goal
use Rattle.iloc_optimum.proofs.crowds.hold.Goals.{then-count-room, else-count-room}

pub returns : goal.returns
returns c = λ t crowds w.
    let kinds = c.args.kinds.now in
    let F = c.args.firsts.now in
    let L = c.args.lasts.now in
    let most : count_inside kinds F L c.args.share c.args.from c.args.to (length kinds)
    ≤ width c.args.share * (c.args.to + 1 - c.args.from) =
    too_many kinds F L c.args.share c.args.from c.args.to t c.requires.firsts c.requires.lasts (crowds c.args.share) w in
    let counted = c.count_inside.ensures in
    let as_long = c.from-count.ensures in
    let first = c.from-2.ensures in
    let last = c.from.ensures in
    let rows : c.from.result + 1 - c.from-2.result ≡ c.args.to + 1 - c.args.from = omega arith in
    let room : c.from-width.result * (c.from.result + 1 - c.from-2.result) ≡ width c.args.share * (c.args.to + 1 - c.args.from) =
    ap₂ (λ a b. a * b) (c.from-width.ensures ∙ c.width.ensures) rows in (
      is_at_least c.from-count.result (c.from-width.result * (c.from.result + 1 - c.from-2.result)) (omega arith),
      elim c.if-count-room.branch [
        | then-count-room v ↦ subst₂ (λ fs ls. Within fs ls t) (sym v.firsts-is) (sym v.lasts-is) (v.keep_out.ensures t crowds w)
        | else-count-room v ↦ subst₂ (λ fs ls. Within fs ls t) (sym v.firsts-is) (sym v.lasts-is) w
      ],
    )
