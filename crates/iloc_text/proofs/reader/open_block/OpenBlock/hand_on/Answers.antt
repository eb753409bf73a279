use Rattle.iloc_text.proofs.Common.{◌≡◌, [], ◌∷◌, ◌++◌, length, sym, ap, ◌∙◌, append_assoc, arith, length-append, all_of}
use Rattle.iloc_text.proofs.reader.open_block.OpenBlock.hand_on.Goals as goal

pub returns : goal.returns
returns c = λ start before taken.
    let first = c.pop.new.self.items in
    let last = c.in-Some.last in
    let whole : c.args.blocks ≡ first ++ last ∷ [] = sym c.into_vec-further.ensures ∙ c.in-Some.ensures.items in
    let handed = c.in_ok-hand_over.ensures start before taken in (
      before ++ first,
      c.in_ok-append.ensures ∙ ap (λ front. front ++ first) handed ∙ append_assoc (all_of start) before first,
      record {
        before = omega (arith, taken.2.count, c.len.ensures, ap length c.in-Some.ensures.items, length-append before first, length-append first (last ∷ []));
        count = omega (arith, taken.2.count, c.len.ensures, ap length c.into_vec-further.ensures, length-append before c.args.blocks);
        last = λ some. ap (λ blocks. before ++ blocks) whole ∙ sym (append_assoc before first (last ∷ []));
      },
    )
