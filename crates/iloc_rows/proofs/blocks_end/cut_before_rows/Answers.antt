use Rattle.std.proofs.Common.{◌∙◌, Some, None, ap, take, arith}
use Rattle.iloc_rows.proofs.Ends.{AreBlocks, end_here, blocks_step, blocks_number, starts, all_blocks}
use Rattle.iloc_rows.proofs.blocks_end.cut_before_rows.Goals as goal

pub overflow_sub-input : goal.overflow_sub-input
overflow_sub-input c =
    let here : AreBlocks c.args.input.now c.loop-rest.lines (Some c.in-Some.text) =
    rw c.in-Some.is at c.loop-rest.invariant in
    (end_here c.args.input.now c.in-Some.text.now here.before _ _ c.split_line.ensures here.lines).within

pub returns-then-is_schedule_line : goal.returns-then-is_schedule_line
returns-then-is_schedule_line c =
    let here : AreBlocks c.args.input.now c.loop-rest.lines (Some c.in-Some.text) =
    rw c.in-Some.is at c.loop-rest.invariant in
    let end = end_here c.args.input.now c.in-Some.text.now here.before _ _ c.split_line.ensures here.lines in
    record {
      before = here.before;
      lines = here.lines;
      ends = record {
        none = here.none;
        first = starts _ _ _ c.split_line.ensures c.if-is_schedule_line.ensures;
      };
      blocks = ap (λ n. take n c.args.input.now) c.saturating_sub-end.ensures ∙ end.here;
      count = here.count;
    }

pub overflow_add-lines : goal.overflow_add-lines
overflow_add-lines c = omega (arith, blocks_number c.loop-rest.invariant, c.requires)

pub loop-rest-preserved : goal.loop-rest-preserved
loop-rest-preserved c =
    let here : AreBlocks c.args.input.now c.loop-rest.lines (Some c.in-Some.text) =
    rw c.in-Some.is at c.loop-rest.invariant in
    blocks_step here c.split_line.result.0.now c.split_line.result.1 c.split_line.ensures
    c.if-is_schedule_line.ensures

pub returns : goal.returns
returns c =
    let here : AreBlocks c.args.input.now c.loop-rest.lines None = rw c.in_default.is at c.loop-rest.invariant in
    record {
      before = here.before;
      lines = here.lines;
      ends = record { none = here.none; first = tt };
      blocks = all_blocks here;
      count = here.count;
    }
