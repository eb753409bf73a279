use Rattle.std.proofs.Common.{subst, inl, inr, arith}
use Rattle.iloc_text.specs.Lines.{lines_left}
use Rattle.iloc_lint.specs.Listing.{ListsLint}
use Rattle.iloc_farm.proofs.reason.linted.Goals as goal

pub returns : goal.returns
returns c = inr (inl (record {
  listing = c.in_ok-report.report.text.items;
  lists = subst (λ r. ListsLint c.args.text.now r c.in_ok-report.report.text.items) c.if-report.false c.in_ok-report.ensures;
  what = c.split_line.result.0.now;
  line = c.split_line-2.result.0.now;
  caret = c.split_line-3.result.0.now;
  more = lines_left c.split_line-3.result.1;
  lines = grind arith;
  whole = grind arith;
}))
