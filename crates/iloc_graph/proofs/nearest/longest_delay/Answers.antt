use Rattle.iloc_graph.proofs.Common.{◌≡◌, ℕ, ◌≤◌, Bool, List, Contains, sym, ap, ◌∙◌, subst, inl, inr, arith, false≢true, get_or_default, Op, latency, Latencies, fold_max_each}
use Rattle.iloc_graph.proofs.Common.{fold_max_reached, contains_from, in_from, delay_at_most_where, delay_is_where, delays_where, longest_delay}
use Rattle.iloc_ops.specs.declared.op.Op.TheVariants.{Nop}
use Rattle.iloc_graph.proofs.nearest.longest_delay.Goals as goal

-- A delay is the latency of the first or a cycle, so the longest is the latency where that is one of them.
module _ (counts : Bool) (lat : Latencies) (a b : Op) where
  abbrev all : List ℕ
  all = delays_where counts lat a b

  abbrev longest : ℕ
  longest = longest_delay counts lat a b

  longest_own : Contains all (latency lat a) → latency lat a ≡ longest
  longest_own there =
      let most : latency lat a ≤ longest = fold_max_each 0 all (latency lat a) (in_from all (latency lat a) there) in
      elim (fold_max_reached 0 all) [
        | inl none ↦ let zero : longest ≡ 0 = none in omega arith
        | inr reached ↦
            let few : longest ≤ latency lat a = delay_at_most_where counts lat a b longest (contains_from all longest reached) in
            omega arith
      ]

  longest_cycle : (Contains all (latency lat a) → ⊥) → Contains all 1 → 1 ≡ longest
  longest_cycle without there =
      let most : 1 ≤ longest = fold_max_each 0 all 1 (in_from all 1 there) in
      elim (fold_max_reached 0 all) [
        | inl none ↦ let zero : longest ≡ 0 = none in absurd (omega arith)
        | inr reached ↦ elim (delay_is_where counts lat a b longest (contains_from all longest reached)) [
          | inl own ↦ absurd (without (subst (Contains all) (sym own) (contains_from all longest reached)))
          | inr a_cycle ↦ a_cycle
        ]
      ]

  longest_none : (Contains all (latency lat a) → ⊥) → (Contains all 1 → ⊥) → 0 ≡ longest
  longest_none without none_of_one = elim (fold_max_reached 0 all) [
    | inl none ↦ sym none
    | inr reached ↦ elim (delay_is_where counts lat a b longest (contains_from all longest reached)) [
      | inl own ↦ absurd (without (subst (Contains all) (sym own) (contains_from all longest reached)))
      | inr a_cycle ↦ absurd (none_of_one (subst (Contains all) (sym a_cycle) (contains_from all longest reached)))
    ]
  ]

pub returns-then-has : goal.returns-then-has
returns-then-has c =
    let lat = c.args.delays.now.latencies.now in
    let own = c.latency-own.ensures.latency ∙ ap (latency lat) (get_or_default c.args.delays.now.ops.now c.args.i _ Nop c.requires.first) in
    own ∙ longest_own _ lat _ _ (rw own at c.has.ensures.0 c.if-has.true)

pub returns-then-has-2 : goal.returns-then-has-2
returns-then-has-2 c =
    let lat = c.args.delays.now.latencies.now in
    let own = c.latency-own.ensures.latency ∙ ap (latency lat) (get_or_default c.args.delays.now.ops.now c.args.i _ Nop c.requires.first) in
    longest_cycle _ lat _ _ (λ there. false≢true (sym c.if-has.false ∙ c.has.ensures.1 (rw own there)))
    (c.has-else-has.ensures.0 c.if-has-2.true)

pub returns-else-has-2 : goal.returns-else-has-2
returns-else-has-2 c =
    let lat = c.args.delays.now.latencies.now in
    let own = c.latency-own.ensures.latency ∙ ap (latency lat) (get_or_default c.args.delays.now.ops.now c.args.i _ Nop c.requires.first) in
    longest_none _ lat _ _ (λ there. false≢true (sym c.if-has.false ∙ c.has.ensures.1 (rw own there)))
    (λ there. false≢true (sym c.if-has-2.false ∙ c.has-else-has.ensures.1 there))
