use Rattle.std.proofs.Common.{◌+◌, arith}
use Rattle.iloc_lint.specs.declared.place.Part.TheVariants.{Space}
use Rattle.iloc_lint.proofs.PartsAlong.{part_fits, part_over, part_stops, all_over, rest_of}
use Rattle.iloc_lint.proofs.place.along.Goals as goal

pub returns-then-not-whole : goal.returns-then-not-whole
returns-then-not-whole c =
    let stops = rw (rest_of c.loop-part.at c.args.bytes.now, c.if-not-whole.true) at c.part_at-count.ensures.part in
    part_stops c.args.parts.now c.args.bytes.now c.loop-part.part-index c.loop-part.at c.part_at-count.result.0 Space
    c.loop-part-test.true c.loop-part.invariant.fit c.loop-part.invariant.goes_on stops

pub loop-part-preserved : goal.loop-part-preserved
loop-part-preserved c =
    let over = rw (rest_of c.loop-part.at c.args.bytes.now, c.if-not-whole.false) at c.part_at-count.ensures.part in
    let now = c.loop-part.invariant in
    record {
      within = omega arith;
      fit = part_fits c.args.parts.now c.loop-part.part-index Space c.loop-part-test.true now.fit;
      goes_on = part_over c.args.parts.now c.args.bytes.now c.loop-part.part-index c.loop-part.at c.part_at-count.result.0
          Space c.loop-part-test.true now.fit now.goes_on over;
    }

pub returns : goal.returns
returns c =
    let blanks = rw (rest_of c.loop-part.at c.args.bytes.now) at c.blanks_at-at.ensures.count in
    let comment = rw (rest_of (c.loop-part.at + c.blanks_at-at.result) c.args.bytes.now) at c.comment_at.ensures.count in
    all_over c.args.parts.now c.args.bytes.now c.loop-part.part-index c.loop-part.at c.blanks_at-at.result
    c.comment_at.result c.loop-part-test.false c.loop-part.invariant.goes_on blanks comment
