use Rattle.iloc_facts.proofs.Common.{◌≤◌, take, IfSome, IsLackingIn}
use Rattle.iloc_facts.proofs.counterparts.lacking.first_lacking.Given as goal

abbrev pub invariant-loop-number : goal.invariant-loop-number
invariant-loop-number l = record {
  lacking : IsLackingIn (take l.number l.counterparts) l.found;
  few : IfSome l.found (λ it. it.count ≤ l.number);
}
