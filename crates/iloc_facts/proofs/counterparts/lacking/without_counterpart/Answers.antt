use Rattle.iloc_facts.proofs.Common.{◌≡◌, ℕ, ◌<◌, List, length, Some, None, Option, sym, ◌∙◌, arith, Op, op_at, AreLacking, IsShort, lacking, AreCounterparts, IsLackingIn, Lacking}
use Rattle.iloc_facts.proofs.NthLike.{lacking_is, short_is}
use Rattle.iloc_facts.proofs.counterparts.lacking.without_counterpart.Goals as goal

-- What is said of operations that have no counterpart.
none_lacking : (ops others : List Op) (counterparts : List (Option ℕ)) → AreCounterparts ops others counterparts
    → IsLackingIn counterparts None → lacking ops others ≡ 0
none_lacking ops others counterparts are none = sym (lacking_is ops others counterparts are) ∙ none

module _ (ops others : List Op) (counterparts : List (Option ℕ)) (are : AreCounterparts ops others counterparts) (it : Lacking)
    (found : IsLackingIn counterparts (Some it)) where
  lacking_within : it.number < length ops
  lacking_within = omega (arith, found.2, are.size)

  lacking_short : IsShort (op_at ops it.number) ops others
  lacking_short = short_is ops others counterparts are it.number lacking_within found.3

  some_lacking : (number : ℕ) → number < length ops → IsShort (op_at ops number) ops others
      → AreLacking ops others (record { count = it.count; number = number })
  some_lacking number within short = record {
    count = found.0 ∙ lacking_is ops others counterparts are;
    some = found.1;
    within = within;
    short = short;
  }

pub short_or-number-requires-clause-within : goal.short_or-number-requires-clause-within
short_or-number-requires-clause-within c =
    lacking_within _ c.args.others.now _ c.in_ok-counterparts.ensures c.in-Some.it (rw c.deref.ensures.value at c.in-Some.ensures)

pub short_or-number-requires-clause-short : goal.short_or-number-requires-clause-short
short_or-number-requires-clause-short c =
    lacking_short _ _ _ c.in_ok-counterparts.ensures c.in-Some.it (rw c.deref.ensures.value at c.in-Some.ensures)

pub returns-in-Some-clause-some : goal.returns-in-Some-clause-some
returns-in-Some-clause-some c =
    some_lacking _ _ _ c.in_ok-counterparts.ensures c.in-Some.it (rw c.deref.ensures.value at c.in-Some.ensures)
    c.short_or-number.result c.short_or-number.ensures.within c.short_or-number.ensures.short

pub returns-clause-none : goal.returns-clause-none
returns-clause-none c = none_lacking _ _ _ c.in_ok-counterparts.ensures (rw c.deref.ensures.value at c.in-None.ensures)
