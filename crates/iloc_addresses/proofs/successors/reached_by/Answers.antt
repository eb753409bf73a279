use Rattle.iloc_addresses.proofs.Common.{sym, subst, AreReached}
use Rattle.std.proofs.lemmas.Result.{IfOk-weaker}
use Rattle.iloc_rules.specs.Rule.{counts_by}
use Rattle.iloc_rules.specs.declared.memory_rule.MemoryRule.{MemoryRule}
use Rattle.iloc_addresses.proofs.ReachedAddresses.{known_reached, one_reached}
use Rattle.iloc_addresses.proofs.successors.reached_by.Goals as goal

pub returns-in-Address : goal.returns-in-Address
returns-in-Address c =
    let ops = c.args.ops.now in
    IfOk-weaker c.known_addresses.result _ _
    (λ found are. subst (λ (rule : MemoryRule). AreReached (counts_by rule ops) ops found.items) (sym c.in-Address.is)
    (known_reached ops found.items are)) c.known_addresses.ensures

pub returns-in-Book : goal.returns-in-Book
returns-in-Book c =
    let ops = c.args.ops.now in
    IfOk-weaker c.one_address_each.result _ _
    (λ found are. subst (λ (rule : MemoryRule). AreReached (counts_by rule ops) ops found.items) (sym c.in-Book.is)
    (one_reached ops found.items are)) c.one_address_each.ensures
