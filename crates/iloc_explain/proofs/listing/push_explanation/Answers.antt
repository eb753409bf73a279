use Rattle.iloc_explain.proofs.Common.{[], ◌++◌, length, sym, refl, ap, ◌∙◌, on_ok_weaker, cycles, length-renamed_by, without_nops}
use Rattle.iloc_explain.specs.Listing.{each_after, explained_line, explained_lines, cycles_line, chain_line, path_line}
use Rattle.iloc_explain.proofs.Lines.{parts_pushed}
use Rattle.iloc_explain.proofs.listing.push_explanation.Goals as goal

pub push_lines-requires-clause-all : goal.push_lines-requires-clause-all
push_lines-requires-clause-all c =
    ap length c.deref.ensures.value ∙ (c.in_ok-explained.ensures.all ∙ sym c.requires.issued)

pub push_lines-requires-clause-same : goal.push_lines-requires-clause-same
push_lines-requires-clause-same c =
    rw (c.as_slice.ensures, c.requires.issued, c.args.subject.now.names, length-renamed_by) refl

pub longest_chain-requires : goal.longest_chain-requires
longest_chain-requires c = rw c.args.subject.now.measured (c.deref-2.ensures.value ∙ c.requires.measured.chains)

pub returns : goal.returns
returns c =
    let lat = c.args.subject.now.measures.now.delays.latencies.now in
    let block = c.args.subject.now.block.now.ops in
    let schedule = c.args.subject.now.schedule.now in
    let measures = c.args.subject.now.measures.now in
    let explained = c.in_ok-explained.explained.items in
    let chain = c.in_ok-longest_chain.field-0.items in
    let path = c.in_ok-path_of.field-0.items in
    let taken = cycles lat schedule.ops schedule.rows in
    let lines = each_after [] (explained_lines explained_line 0 explained (without_nops block) c.args.issued.now) in
    on_ok_weaker c.push_path.result (λ pushed. (
      lines ++ cycles_line taken measures.least ++ chain_line chain ++ path_line path,
      record {
        explained = explained;
        are_explained = c.in_ok-explained.ensures;
        chain = chain;
        is_longest = rw c.args.subject.now.measured at c.in_ok-longest_chain.ensures.chosen;
        path = path;
        is_path = c.in_ok-path_of.ensures measures.ranks.items measures.delays.rule
            (rw c.deref-4.ensures.value c.in_ok-explained.ensures);
        listed = refl;
      },
      parts_pushed c.args.text.now.items lines (cycles_line taken measures.least) (chain_line chain) (path_line path)
          c.push_lines.new.text.items c.push_cycles.new.text.items c.push_chain.new.text.items c.push_path.new.text.items
          (rw (c.deref.ensures.value, c.as_slice.ensures) at c.in_ok-push_lines.ensures)
          (rw c.cycles.ensures at c.in_ok-push_cycles.ensures)
          (c.in_ok-push_chain.ensures ∙ ap (λ found. c.push_cycles.new.text.items ++ chain_line found) c.deref-3.ensures.value)
          (pushed ∙ ap (λ found. c.push_chain.new.text.items ++ path_line found) c.deref-5.ensures.value),
    )) c.push_path.ensures
