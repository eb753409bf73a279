use Rattle.iloc_driver.proofs.Common.{◌≡◌, length, sym, ap, ◌∙◌, map-id}
use Rattle.std.proofs.lemmas.Iterator.Adapters.{YieldsList-from_skip, YieldsList-from_vec}
use Rattle.std.proofs.lemmas.Iterator.Consumers.{YieldsList-end}
use Rattle.std.specs.Iterator.Adapters.{skip_count, skip_source}
use Rattle.std.specs.Vec.Iter.{into_iter_items, into_iter_len}
use Rattle.iloc_driver.proofs.program.without_name.Goals as goal

pub returns : goal.returns
returns c =
    let len : into_iter_len c.args.words ≡ length (into_iter_items c.args.words) = c.args.words.rest.ok.0 in
    let same : c.into_iter-word-iterator.result ≡ c.skip-word-items.result = c.into_iter-word-iterator.ensures.into_iter_gives in
    let source = ap skip_source same ∙ c.skip-word-items.ensures.source in
    let all = YieldsList-from_skip {s = c.into_iter-word-iterator.result} 1
    (YieldsList-from_vec (into_iter_items c.args.words) (ap into_iter_items source) (ap into_iter_len source ∙ len))
    (ap skip_count same ∙ c.skip-word-items.ensures.count) in
    c.loop-word.invariant ∙ (sym (map-id c.loop-word.yielded)
    ∙ (YieldsList-end all c.loop-word.yielded c.loop-word.word-iterator c.loop-word.yielded_by _ c.next.new.self c.in-None.is c.next.ensures.steps).0)
