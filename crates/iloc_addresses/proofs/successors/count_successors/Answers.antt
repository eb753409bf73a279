use Rattle.iloc_addresses.proofs.Common.{◌≡◌, map, range_with_len, uses_before, ℕ, ◌+◌, ◌-◌, ◌<◌, List, length, Some, None, Option, get_or, sym, refl, ap, ◌∙◌, subst, arith, get_or_default, get_or_read, Nop, op_at, kind, Word, AreCounted, AreNoted, AreReached}
use Rattle.iloc_rules.specs.Rule.{counts_by}
use Rattle.iloc_addresses.proofs.SuccessorsCounted.{only_uses, none_noted, one_noted, skip_noted, waiting_is, waiting_few, found_few, one_counted, skip_counted, all_counted}
use Rattle.iloc_addresses.proofs.successors.count_successors.Goals as goal

pub loop-j-init : goal.loop-j-init
loop-j-init c =
    let ops = c.args.ops.now in
    let reached : List (Option Word) = c.in_ok-addresses.addresses.items in
    let are : AreReached (counts_by c.args.rule ops) ops reached = c.in_ok-addresses.ensures in
    record {
      counted = only_uses ops reached c.in_ok-found.found.items (length ops) refl
          (subst (λ xs. c.in_ok-found.found.items ≡ map (λ i. uses_before ops xs i (length ops)) (range_with_len 0 (length ops)))
          c.as_slice.ensures.value c.in_ok-found.ensures);
      noted = none_noted ops reached c.new-later.result (length ops) refl c.new-later.ensures.waiting c.new-later.ensures.noted
          c.new-later.ensures.counts;
    }

pub overflow_add-index_mut : goal.overflow_add-index_mut
overflow_add-index_mut c =
    let ops = c.args.ops.now in
    let reached : List (Option Word) = c.in_ok-addresses.addresses.items in
    let are : AreReached (counts_by c.args.rule ops) ops reached = c.in_ok-addresses.ensures in
    let j : ℕ = c.loop-j.j - 1 in
    let back : c.loop-j.j ≡ j + 1 = omega arith in
    let within : j < length ops = omega arith in
    let found : List ℕ = c.loop-j.found.items in
    let counted = subst (AreCounted ops reached found) back c.loop-j.invariant.counted in
    let at : get_or reached j None ≡ Some c.in-Some.address =
    get_or_default reached j None _ (omega (arith, are.size)) ∙ sym c.index.ensures ∙ c.in-Some.is in
    let is : c.of-kind.result ≡ kind (op_at ops j) =
    c.of-kind.ensures ∙ ap kind (sym (get_or_default ops j Nop _ within)) in
    let waiting = waiting_is ops reached j within c.loop-j.later c.of-kind.result c.in-Some.address c.waiting_for.result
    c.waiting_for.ensures.waiting c.waiting_for.ensures.short is at
    (subst (AreNoted ops reached c.loop-j.later) back c.loop-j.invariant.noted) in
    let read = get_or_read found j c.index_mut.result.now (omega (arith, counted.size)) c.index_mut.ensures.value 0 in
    omega (arith, read, waiting, waiting_few ops reached j within, found_few ops reached j within found counted, c.requires.few)

pub loop-j-preserved-in-Continue-branch-3 : goal.loop-j-preserved-in-Continue-branch-3
loop-j-preserved-in-Continue-branch-3 c =
    let ops = c.args.ops.now in
    let reached : List (Option Word) = c.in_ok-addresses.addresses.items in
    let are : AreReached (counts_by c.args.rule ops) ops reached = c.in_ok-addresses.ensures in
    let j : ℕ = c.loop-j.j - 1 in
    let back : c.loop-j.j ≡ j + 1 = omega arith in
    let within : j < length ops = omega arith in
    let found : List ℕ = c.loop-j.found.items in
    let counted = subst (AreCounted ops reached found) back c.loop-j.invariant.counted in
    let noted = subst (AreNoted ops reached c.loop-j.later) back c.loop-j.invariant.noted in
    let at : get_or reached j None ≡ Some c.in-Some.address =
    get_or_default reached j None _ (omega (arith, are.size)) ∙ sym c.index.ensures ∙ c.in-Some.is in
    let is : c.of-kind.result ≡ kind (op_at ops j) =
    c.of-kind.ensures ∙ ap kind (sym (get_or_default ops j Nop _ within)) in
    let waiting = waiting_is ops reached j within c.loop-j.later c.of-kind.result c.in-Some.address c.waiting_for.result
    c.waiting_for.ensures.waiting c.waiting_for.ensures.short is at noted in
    let read = get_or_read found j c.index_mut.result.now (omega (arith, counted.size)) c.index_mut.ensures.value 0 in
    record {
      counted = one_counted ops reached j within found c.index_mut.result.now c.waiting_for.result counted read waiting;
      noted = one_noted ops reached j within c.loop-j.later c.note.new.self c.of-kind.result c.in-Some.address is at noted
          c.in_ok-note.ensures.waiting c.in_ok-note.ensures.noted c.in_ok-note.ensures.counts;
    }

pub loop-j-preserved : goal.loop-j-preserved
loop-j-preserved c =
    let ops = c.args.ops.now in
    let reached : List (Option Word) = c.in_ok-addresses.addresses.items in
    let are : AreReached (counts_by c.args.rule ops) ops reached = c.in_ok-addresses.ensures in
    let j : ℕ = c.loop-j.j - 1 in
    let back : c.loop-j.j ≡ j + 1 = omega arith in
    let within : j < length ops = omega arith in
    let found : List ℕ = c.loop-j.found.items in
    let none = are.none j within
    (get_or_default reached j None _ (omega (arith, are.size)) ∙ sym c.index.ensures ∙ c.in_default.is) in
    record {
      counted = skip_counted ops reached j within found none (subst (AreCounted ops reached found) back c.loop-j.invariant.counted);
      noted = skip_noted ops reached j within c.loop-j.later none (subst (AreNoted ops reached c.loop-j.later) back c.loop-j.invariant.noted);
    }

pub returns : goal.returns
returns c lat =
    let ops = c.args.ops.now in
    let reached : List (Option Word) = c.in_ok-addresses.addresses.items in
    let are : AreReached (counts_by c.args.rule ops) ops reached = c.in_ok-addresses.ensures in
    let end : c.loop-j.j ≡ 0 = omega arith in
    all_counted (counts_by c.args.rule ops) lat ops reached c.loop-j.found.items are (subst (AreCounted ops reached c.loop-j.found.items) end c.loop-j.invariant.counted)
