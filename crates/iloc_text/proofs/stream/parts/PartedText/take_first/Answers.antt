use Rattle.iloc_text.proofs.Common.{◌++◌, flat_map, sym, ap, ◌∙◌, ended}
use Rattle.iloc_text.proofs.PartReads.{first_taken}
use Rattle.iloc_text.proofs.stream.parts.PartedText.take_first.Goals as goal

pub returns-in_default-clause-begun : goal.returns-in_default-clause-begun
returns-in_default-clause-begun g c = λ text begun. record {
  start = begun.start;
  none = begun.none;
  done = begun.done;
  read = begun.read;
  whole = begun.whole
      ∙ ap (λ parts. begun.done ++ flat_map ended parts) (c.in_default.ensures.none.0 ∙ sym c.in_default.ensures.none.1);
}

pub returns-clause-begun : goal.returns-clause-begun
returns-clause-begun g c = λ text begun.
    first_taken g.P.ReadParts.texts c.args.self.now _ c.in-Some.part.text.items text c.in-Some.ensures.some.0
    c.in_ok-self.ensures begun
