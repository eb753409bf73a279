use Rattle.iloc_text.proofs.Common.{◌-◌, ◌^◌, ◌≤◌, min, length, sym, refl, ap, ◌∙◌, subst, arith, length-append, MAX_INPUT, StandsAt}
use Rattle.iloc_text.proofs.TextReads.{goes_as, count_further, none_where_not_some}
use Rattle.iloc_text.proofs.stream.text_reader.TextReader.read.Goals as goal

pub returns-in_default-fault : goal.returns-in_default-fault
returns-in_default-fault g c = λ start text read. record {
  counted = c.in-Err.ensures.length
      ∙ count_further _ _ (length c.args.piece.now) _ c.saturating_add-self.ensures read.counted
      ∙ ap (λ n. min n (2 ^ 64 - 1)) (sym (length-append text c.args.piece.now));
  stands = λ short.
      let self = c.args.self.now in
      let took = g.T.TakeBlocks.took in
      let none = none_where_not_some self.fault (sym c.is_some.ensures ∙ c.if-is_some.false) in
      let before : length text ≤ MAX_INPUT = omega (arith, short, length-append text c.args.piece.now) in
      let goes = subst (λ fault. StandsAt fault took start self text) none (read.stands before) in
      c.in-Err.ensures.err start text (goes_as took start self _ text refl refl refl refl goes)
      c.in_default-fault.not-NoMemory;
}
