use Rattle.std.proofs.Common.{refl}
use Rattle.iloc_lint.proofs.Listed.{all_listed}
use Rattle.iloc_lint.proofs.listing.report_of.Goals as goal

pub returns : goal.returns
returns c =
    all_listed c.args.input.now c.in_ok-found.ensures.0 c.in_ok-found.found.faults c.in_ok-found.found.blocks
    c.in_ok-found.found.ops c.reads.result c.in_ok-push_entries.ensures.0 c.in_ok-push_hints_where.ensures.0
    c.push_totals.new.text.items c.in_ok-found.ensures.1 c.in_ok-found.ensures.2
    (rw c.deref.ensures.value at c.in_ok-push_entries.ensures.1) c.in_ok-push_hints_where.ensures.1 c.reads.ensures
    (rw (
      c.in_ok-push_totals.ensures,
      c.in_ok-push_hints_where.ensures.2,
      c.in_ok-push_more.ensures,
      c.in_ok-push_entries.ensures.2,
      c.new-text.ensures.items,
    ) refl)
