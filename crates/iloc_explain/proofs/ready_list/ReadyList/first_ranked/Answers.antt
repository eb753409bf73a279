use Rattle.iloc_explain.proofs.Common.{◌≡◌, [], ◌++◌, map, length, sym, ap, ◌∙◌, arith, common_steps, Place, shown}
use Rattle.std.specs.Map.Iter.{deref}
use Rattle.std.proofs.lemmas.Map.Iter.{rest_all}
use Rattle.iloc_explain.specs.declared.ready_list.TheConstants.{MOST_LISTED}
use Rattle.iloc_explain.proofs.ReadyLines.{all_taken, first_taken}
use Rattle.iloc_explain.proofs.ready_list.ReadyList.first_ranked.Goals as goal
use Rattle.iloc_explain.proofs.ready_list.ReadyList.first_ranked.Goals.{in-None, in-Some+then-len-eq-MOST_LISTED}

pub returns : goal.returns
returns c =
    let first = c.loop-place.first.items in
    let all = map shown c.args.self.now.ready.keys in
    elim c.match-next.branch [
      | in-None w ↦
          let none : c.loop-place.place-iterator ≡ [] = rest_all (deref {X = Place}) c.loop-place.place-iterator _ _ w.in-None.is c.next.ensures.steps in
          all_taken MOST_LISTED first all (ap (λ rest. first ++ map shown rest) (sym none) ∙ c.loop-place.invariant.2) c.loop-place.invariant.3
      | in-Some+then-len-eq-MOST_LISTED w ↦
          let size : length first ≡ MOST_LISTED = grind (arith, common_steps, w.len.ensures, w.if-len-eq-MOST_LISTED.true) in
          first_taken MOST_LISTED first (map shown c.loop-place.place-iterator) all c.loop-place.invariant.2 size
    ]
