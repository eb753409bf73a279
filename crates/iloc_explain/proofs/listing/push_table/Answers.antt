use Rattle.iloc_explain.proofs.Common.{length, sym, refl, ap, ◌∙◌, on_ok_weaker, length-renamed_by, without_nops}
use Rattle.iloc_explain.specs.Listing.{explained_lines, explained_row}
use Rattle.iloc_explain.proofs.listing.push_table.Goals as goal

pub push_lines-requires-clause-all : goal.push_lines-requires-clause-all
push_lines-requires-clause-all c =
    ap length c.deref.ensures.value ∙ (c.in_ok-explained.ensures.all ∙ sym (ap length c.ops-issued.ensures.ops))

pub push_lines-requires-clause-same : goal.push_lines-requires-clause-same
push_lines-requires-clause-same c =
    rw (c.as_slice-ops.ensures, c.ops-issued.ensures.ops, c.args.subject.now.names, length-renamed_by) refl

pub returns : goal.returns
returns c =
    let block = c.args.subject.now.block.now.ops in
    let ops = c.args.subject.now.schedule.now.ops in
    let explained = c.in_ok-explained.explained.items in
    on_ok_weaker c.push_lines.result (λ pushed. (
      explained_lines explained_row 0 explained (without_nops block) ops,
      record { explained = explained; are_explained = c.in_ok-explained.ensures; listed = refl },
      rw (c.deref.ensures.value, c.as_slice-ops.ensures, c.ops-issued.ensures.ops) at pushed,
    )) c.push_lines.ensures
