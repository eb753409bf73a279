use Rattle.iloc_addresses.proofs.Common.{◌≡◌, not, ◌&&◌, length, get_or, sym, ap, ◌∙◌, subst, arith, get_or_default, list_any, used, Op, Nop, op_at, AreUsesCounted, definer, is_by_memory, is_number}
use Rattle.iloc_addresses.proofs.AddressesCounted.{at_most_one}
use Rattle.iloc_addresses.proofs.SuccessorsCounted.{all_uses, uses_few, uses_more}
use Rattle.iloc_addresses.proofs.successors.uses.count_uses.Goals as goal

pub count_use-requires-clause-small : goal.count_use-requires-clause-small
count_use-requires-clause-small c i =
    let ops = c.args.ops.now in
    omega (arith, c.loop-j.invariant.found.each i, uses_few ops c.args.addresses.now i c.loop-j.j, c.requires.few)

pub count_use-requires-in-loop-j-clause-small : goal.count_use-requires-in-loop-j-clause-small
count_use-requires-in-loop-j-clause-small c i =
    let ops = c.args.ops.now in
    omega (
      arith,
      c.count_use.ensures.each i,
      at_most_one (is_number i c.sources-first.result.0 && not (is_by_memory ops c.args.addresses.now i c.loop-j.j)),
      c.loop-j.invariant.found.each i,
      uses_few ops c.args.addresses.now i c.loop-j.j,
      c.requires.few,
    )

pub loop-j-preserved : goal.loop-j-preserved
loop-j-preserved c =
    let ops = c.args.ops.now in
    let j = c.loop-j.j in
    let definers = c.loop-j.definers in
    let here : (d : Op) → op_at ops j ≡ get_or ops j d = λ d. get_or_default ops j Nop d c.loop-j-test.true in
    record {
      definers = c.in_ok-take.ensures ops c.requires.renamed (here _) c.loop-j.invariant.definers;
      found = uses_more ops c.args.addresses.now j definers c.sources-first.result.0 c.sources-first.result.1 c.loop-j.invariant.definers
          (λ i. c.sources-first.ensures.each i
          ∙ ap (λ op. list_any (λ r. is_number i (definer definers r)) (used op)) (sym (here _)))
          c.sources-first.ensures.once c.loop-j.found.items c.count_use.new.found.items
          c.count_use-in-loop-j.new.found.items c.loop-j.invariant.found c.count_use.ensures.size
          c.count_use-in-loop-j.ensures.size c.count_use.ensures.each c.count_use-in-loop-j.ensures.each;
    }

pub returns : goal.returns
returns c =
    let ops = c.args.ops.now in
    let end : c.loop-j.j ≡ length ops = omega arith in
    all_uses ops c.args.addresses.now c.loop-j.found.items (subst (AreUsesCounted ops c.args.addresses.now c.loop-j.found.items) end c.loop-j.invariant.found)
