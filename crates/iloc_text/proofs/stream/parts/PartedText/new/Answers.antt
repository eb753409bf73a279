use Rattle.iloc_text.proofs.Common.{[], flat_map, sym, ap, ended}
use Rattle.iloc_text.proofs.stream.parts.PartedText.new.Goals as goal

pub returns : goal.returns
returns g c = record {
  front = [];
  begun = record {
    start = c.new.result;
    none = c.new.ensures;
    done = [];
    read = c.new-2.ensures;
    whole = sym (ap (flat_map ended) c.requires);
  };
  whole = sym c.new-3.ensures.items;
}
