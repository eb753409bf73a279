use Rattle.iloc_facts.proofs.Common.{◌≡◌, ◌+◌, length, get_or, ap, ◌∙◌, get_or_default, length_push, defined, used, Op, Nop, op_at, given, sources_of, holder}
use Rattle.iloc_facts.specs.declared.reading.sources.Sources.{Sources}
use Rattle.iloc_facts.specs.declared.reading.sources.Sources.TheVariants.{Nothing}
use Rattle.iloc_facts.proofs.GivenSources.{push_more, none_set, one_set}
use Rattle.iloc_facts.proofs.SourceLists.{sources_same}
use Rattle.iloc_facts.proofs.reading.given.givens.Goals as goal
use Rattle.iloc_facts.proofs.reading.given.givens.Goals.{in-Some+in_ok-set, in_default}

pub loop-i-preserved : goal.loop-i-preserved
loop-i-preserved c =
    let block = c.args.block.now in
    let same : (d : Op) → get_or block c.loop-i.i d ≡ op_at block c.loop-i.i = λ d. get_or_default block c.loop-i.i d Nop c.loop-i-test.true in
    record {
      held = elim c.match-defines.branch [
        | in-Some+in_ok-set w ↦
            rw w.holders-is (one_set block c.loop-i.i w.in-Some.register c.loop-i.holders w.set.new.self
            (w.in-Some.ensures ∙ ap defined (same _)) c.loop-i.invariant.held w.in_ok-set.ensures)
        | in_default w ↦ rw w.holders-is (none_set block c.loop-i.i c.loop-i.holders (w.in_default.ensures ∙ ap defined (same _)) c.loop-i.invariant.held)
      ];
      size = ap length c.in_ok-push.ensures.items ∙ length_push c.loop-i.givens.items c.sources.result ∙ ap (λ n. n + 1) c.loop-i.invariant.size;
      each =
          let now : c.sources.result ≡ sources_of (given block c.loop-i.i) (used (op_at block c.loop-i.i)) =
          c.sources.ensures
          ∙ ap (λ op. sources_of (holder c.loop-i.holders) (used op)) (same _)
          ∙ sources_same (holder c.loop-i.holders) (given block c.loop-i.i) (used (op_at block c.loop-i.i)) c.loop-i.invariant.held in
          rw c.in_ok-push.ensures.items
          (push_more (λ j (s : Sources). s ≡ sources_of (given block j) (used (op_at block j))) c.loop-i.givens.items
          c.sources.result Nothing c.loop-i.i c.loop-i.invariant.size c.loop-i.invariant.each now);
    }
