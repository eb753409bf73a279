-- Whether an operation puts a delay on another: `has_delay`, `waits_for`.
use Rattle.iloc_explain.proofs.Common.{◌≡◌, ℕ, ◌<◌, Bool, ◌&&◌, ◌↔◌, List, IsTrue, ◌==◌, Contains, sym, refl, ap, ◌∙◌, subst, ap₂, eq-eqb, eqb-true, lt-ltb, list_any, Op, op_at, Latencies, any_at, contains_from, from_any, in_from, Counts, MemoryRule, counts_by, delays_where, In}
use Rattle.iloc_explain.specs.Steps.Waits.{waits_for}

-- what a test of each delay finds of operations that stand at two places
found_at : (counts : Counts) (lat : Latencies) (ops : List Op) (i j d : ℕ) (first second : Op) (count found : Bool)
    → count ≡ counts i j → first ≡ op_at ops i → second ≡ op_at ops j
    → found ≡ list_any (λ x. x == d) (delays_where count lat first second)
    → found ≡ list_any (λ x. x == d) (delays_where (counts i j) lat (op_at ops i) (op_at ops j))
found_at counts lat ops i j d first second count found counted at_first at_second is =
    is ∙ (ap (λ b. list_any (λ x. x == d) (delays_where b lat first second)) counted
    ∙ ap₂ (λ a b. list_any (λ x. x == d) (delays_where (counts i j) lat a b)) at_first at_second)

-- it finds one where the delay is one of them
pub has_delay_at : (counts : Counts) (lat : Latencies) (ops : List Op) (i j d : ℕ) (first second : Op) (count found : Bool)
    → count ≡ counts i j → first ≡ op_at ops i → second ≡ op_at ops j
    → found ≡ list_any (λ x. x == d) (delays_where count lat first second)
    → IsTrue found ↔ Contains (delays_where (counts i j) lat (op_at ops i) (op_at ops j)) d
has_delay_at counts lat ops i j d first second count found counted at_first at_second is =
    let ds : List ℕ = delays_where (counts i j) lat (op_at ops i) (op_at ops j) in
    let same = found_at counts lat ops i j d first second count found counted at_first at_second is in (
      λ holds.
          let one = from_any (λ x. x == d) ds (sym same ∙ holds) in
          contains_from ds d (subst (In ds) (eqb-true one.0 d one.2) one.1),
      λ there. same ∙ any_at (λ x. x == d) ds d (in_from ds d there) (eq-eqb d d refl),
    )

-- who comes later waits where it finds one
pub waits_is : (rule : MemoryRule) (lat : Latencies) (ops : List Op) (i j d : ℕ) (first second : Op) (count found : Bool)
    → i < j → count ≡ counts_by rule ops i j → first ≡ op_at ops i → second ≡ op_at ops j
    → found ≡ list_any (λ x. x == d) (delays_where count lat first second) → found ≡ waits_for rule lat ops j d i
waits_is rule lat ops i j d first second count found order counted at_first at_second is =
    found_at (counts_by rule ops) lat ops i j d first second count found counted at_first at_second is
    ∙ sym (ap (λ b. b && list_any (λ x. x == d) (delays_where (counts_by rule ops i j) lat (op_at ops i) (op_at ops j)))
    (lt-ltb i j order))
