use Rattle.std.proofs.Common.{arith, rules}
use Rattle.std.proofs.lemmas.Grind.{common_steps}
use Rattle.iloc_reasons.proofs.OnceListed.{once_more}
use Rattle.iloc_reasons.proofs.reasons.first_facts.Goals as goal
use Rattle.iloc_reasons.proofs.reasons.first_facts.Goals.{in-Some+then-not-contains+then-len-lt-MOST_FACTS+in_ok-push, in-Some+then-not-contains+else-len-lt-MOST_FACTS, in_default}

pub loop-claim-preserved : goal.loop-claim-preserved
loop-claim-preserved c = elim c.match-fact.branch [
  | in-Some+then-not-contains+then-len-lt-MOST_FACTS+in_ok-push w ↦ record {
    facts = grind (arith, common_steps);
    once = rw (w.facts-is, w.in_ok-push.ensures.items) (once_more c.loop-claim.facts.items w.deref.result.now w.in-Some.fact
        w.contains.result w.deref.ensures.value w.contains.ensures.cases w.if-not-contains.true c.loop-claim.invariant.once);
    few = search rules;
    more = search rules;
  }
  | in-Some+then-not-contains+else-len-lt-MOST_FACTS w ↦ search rules
  | in_default w ↦ search rules
]
