use Rattle.iloc_farm.proofs.Common.{◌++◌, ap, ◌∙◌, inl, inr, arith}
use Rattle.iloc_farm.proofs.Reasons.{row_told}
use Rattle.iloc_farm.proofs.reason.of_blocks.Goals as goal

pub returns : goal.returns
returns c = inr (inr (inl (record {
  n = c.args.number;
  line = c.in-Some.line.now;
  is_line = c.in-Some.ensures;
  row = c.is_row.ensures (grind arith);
  told = row_told c.args.of_row.now _ c.requires
      (c.in_ok-extend_from_slice.ensures.items ∙ ap (λ xs. xs ++ c.args.of_row.now) c.new-said.ensures.items);
})))
