use Rattle.iloc_listing.proofs.Common.{◌≡◌, ◌+◌, ◌-◌, codes, refl, ap, arith, empty_rows}
use Rattle.iloc_listing.proofs.Joining.{all_joined, none_joined, part_failed, part_joined}
use Rattle.iloc_listing.proofs.Written.{on_err}
use Rattle.iloc_listing.proofs.Unfolded.{one_row_less}
use Rattle.iloc_listing.proofs.text.write_empty_rows.Goals as goal

pub loop-row-init : goal.loop-row-init
loop-row-init g c = none_joined _ _ _ _ _ refl (ap empty_rows (let all : c.args.rows - 0 ≡ c.args.rows = omega arith in all))

pub loop-row-preserved : goal.loop-row-preserved
loop-row-preserved g c =
    part_joined _ _ _ _ _ _ c.loop-row.invariant (codes "[ nop ; nop ]\n") (empty_rows (c.args.rows - (c.loop-row._row + 1)))
    (one_row_less c.args.rows c.loop-row._row (omega arith)) _ _ c.in_ok-write_joined.ensures.ok

pub returns-in_err-write_joined-clause-err : goal.returns-in_err-write_joined-clause-err
returns-in_err-write_joined-clause-err g c =
    on_err c.from_residual.result
    (part_failed _ _ _ _ _ _ c.loop-row.invariant (codes "[ nop ; nop ]\n")
    (empty_rows (c.args.rows - (c.loop-row._row + 1))) (one_row_less c.args.rows c.loop-row._row (omega arith)) _
    c.in_err-write_joined.ensures.err)

pub returns-clause-ok : goal.returns-clause-ok
returns-clause-ok g c =
    all_joined _ _ _ _ _ _ c.loop-row.invariant
    (ap empty_rows (let none : c.args.rows - c.loop-row._row ≡ 0 = omega arith in none))
