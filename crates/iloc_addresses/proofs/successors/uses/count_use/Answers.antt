use Rattle.iloc_addresses.proofs.Common.{◌≡◌, ℕ, ◌<◌, length, sym, ap, ◌∙◌, arith, get_or_default, get_or_read, Nop, None, kind, is_by_memory}
use Rattle.iloc_addresses.proofs.SuccessorsCounted.{is_its, waits_read, use_counted, use_skipped}
use Rattle.iloc_addresses.proofs.successors.uses.count_use.Goals as goal

pub bounds-ops-i : goal.bounds-ops-i
bounds-ops-i c =
    let before = c.requires.source c.in-Some.i (is_its c.in-Some.i c.args.source c.in-Some.is) in
    omega (arith, before, c.requires.there)

pub bounds-addresses-i : goal.bounds-addresses-i
bounds-addresses-i c =
    let before = c.requires.source c.in-Some.i (is_its c.in-Some.i c.args.source c.in-Some.is) in
    omega (arith, before, c.requires.there, c.requires.reached)

pub bounds-addresses-j : goal.bounds-addresses-j
bounds-addresses-j c =
    omega (arith, c.requires.there, c.requires.reached)

pub index_mut-requires : goal.index_mut-requires
index_mut-requires c =
    let before = c.requires.source c.in-Some.i (is_its c.in-Some.i c.args.source c.in-Some.is) in
    omega (arith, before, c.requires.there, c.requires.size)

pub overflow_add-index_mut : goal.overflow_add-index_mut
overflow_add-index_mut c =
    let i : ℕ = c.in-Some.i in
    let before = c.requires.source i (is_its i c.args.source c.in-Some.is) in
    let read = get_or_read c.args.found.now.items i c.index_mut.result.now
    (omega (arith, before, c.requires.there, c.requires.size)) c.index_mut.ensures.value 0 in
    omega (arith, read, c.requires.small i)

pub returns-then-not-waits_by_memory-clause-each : goal.returns-then-not-waits_by_memory-clause-each
returns-then-not-waits_by_memory-clause-each c =
    let ops = c.args.ops.now in
    let i : ℕ = c.in-Some.i in
    let before : i < c.args.j = c.requires.source i (is_its i c.args.source c.in-Some.is) in
    let there = c.requires.there in
    let within : i < length ops = omega arith in
    let waits : c.waits_by_memory.result ≡ is_by_memory ops c.args.addresses.now i c.args.j =
    waits_read ops c.args.addresses.now i c.args.j _ _ _ _ c.waits_by_memory.result c.waits_by_memory.ensures
    (c.of.ensures ∙ ap kind (sym (get_or_default ops i Nop _ within)))
    (sym (get_or_default c.args.addresses.now i None _ (omega (arith, c.requires.reached))))
    (c.of-in-Some.ensures ∙ ap kind (sym (get_or_default ops c.args.j Nop _ there)))
    (sym (get_or_default c.args.addresses.now c.args.j None _ (omega (arith, c.requires.reached)))) in
    let inside : i < length c.args.found.now.items = omega (arith, c.requires.size) in
    use_counted ops c.args.addresses.now c.args.found.now.items i c.args.j c.args.source c.in-Some.is c.index_mut.result.now inside
    (get_or_read c.args.found.now.items i c.index_mut.result.now inside c.index_mut.ensures.value 0)
    (sym waits ∙ c.if-not-waits_by_memory.true)

pub returns-else-not-waits_by_memory-clause-each : goal.returns-else-not-waits_by_memory-clause-each
returns-else-not-waits_by_memory-clause-each c =
    let ops = c.args.ops.now in
    let i : ℕ = c.in-Some.i in
    let before : i < c.args.j = c.requires.source i (is_its i c.args.source c.in-Some.is) in
    let there = c.requires.there in
    let within : i < length ops = omega arith in
    let waits : c.waits_by_memory.result ≡ is_by_memory ops c.args.addresses.now i c.args.j =
    waits_read ops c.args.addresses.now i c.args.j _ _ _ _ c.waits_by_memory.result c.waits_by_memory.ensures
    (c.of.ensures ∙ ap kind (sym (get_or_default ops i Nop _ within)))
    (sym (get_or_default c.args.addresses.now i None _ (omega (arith, c.requires.reached))))
    (c.of-in-Some.ensures ∙ ap kind (sym (get_or_default ops c.args.j Nop _ there)))
    (sym (get_or_default c.args.addresses.now c.args.j None _ (omega (arith, c.requires.reached)))) in
    use_skipped ops c.args.addresses.now c.args.found.now.items i c.args.j c.args.source c.in-Some.is
    (sym waits ∙ c.if-not-waits_by_memory.false)
