use Rattle.std.proofs.Common.{sym, refl, arith}
use Rattle.iloc_lint.proofs.Counted.{counted, ops_more}
use Rattle.iloc_lint.proofs.faults.counts.Counts.add.Goals as goal

pub returns-then-blocks-gt-MAX_BLOCKS : goal.returns-then-blocks-gt-MAX_BLOCKS
returns-then-blocks-gt-MAX_BLOCKS c = λ before label count labelled.
    let n = counted before c.args.self.now label c.args.said.now.op c.args.said.now.labelled c.grown-blocks.result count
    labelled c.grown-blocks.ensures in
    (refl, (refl, omega (arith, n.0, c.if-blocks-gt-MAX_BLOCKS.true)))

pub returns-then-last-gt-MAX_OPS : goal.returns-then-last-gt-MAX_OPS
returns-then-last-gt-MAX_OPS c = λ before label count labelled.
    let n = counted before c.args.self.now label c.args.said.now.op c.args.said.now.labelled c.grown-blocks.result count
    labelled c.grown-blocks.ensures in
    (refl, (refl, omega (arith, n.0, c.if-blocks-gt-MAX_BLOCKS.false), omega (arith, n.1, c.if-last-gt-MAX_OPS.true)))

pub returns : goal.returns
returns c = λ before label count labelled.
    let n = counted before c.args.self.now label c.args.said.now.op c.args.said.now.labelled c.grown-blocks.result count
    labelled c.grown-blocks.ensures in
    let o = count.ops in (
      record {
        blocks = sym n.0;
        last = sym n.1;
        ops = omega (arith, c.one_if.ensures, ops_more before (record { label = label; op = c.args.said.now.op }));
      },
      record {
        blocks = omega (arith, n.0, c.if-blocks-gt-MAX_BLOCKS.false);
        operations = omega (arith, n.1, c.if-last-gt-MAX_OPS.false);
      },
    )
