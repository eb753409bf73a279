-- The bucket of a cycle modulo 32 has just what becomes ready then; for `Waiting::release`.
use Rattle.iloc_sched.proofs.Common.{◌≡◌, ℕ, ◌+◌, ◌%◌, ◌<◌, Bool, true, false, ◌≢◌, ◌⊎◌, None, Option, inl, inr, true≢false, arith, CanIssue, Progress, Waits, Graph, IsGraph}

pub earliest_bound : (graph : Graph) (w : Progress) (f i : ℕ) (at : Option ℕ) → IsGraph graph → Waits graph w f i at
    → (j : ℕ) → j < graph.ops → w.earliest j < f + 16
earliest_bound graph w f i at is waits j there =
    elim (waits.reached j there) [
      | inl at_once ↦ omega arith
      | inr h ↦
          grind arith
    ]

-- what is in the bucket of cycle c becomes ready just then
pub due_now : (graph : Graph) (w : Progress) (c : ℕ) → IsGraph graph → Waits graph w c 0 None → (j : ℕ) → j < graph.ops
    → w.bucket (c % 32) j ≡ true → CanIssue graph w (c + 1) j
due_now graph w c is waits j there held = grind (arith, earliest_bound)

-- who can be issued one cycle later could before, or is in the bucket
pub then_due : (graph : Graph) (w : Progress) (c : ℕ) → Waits graph w c 0 None → (j : ℕ) → CanIssue graph w (c + 1) j
    → CanIssue graph w c j ⊎ (w.bucket (c % 32) j ≡ true)
then_due graph w c waits j can = grind arith

-- who could be issued still can one cycle later
pub later_still : (graph : Graph) (w : Progress) (c j : ℕ) → CanIssue graph w c j → CanIssue graph w (c + 1) j
later_still graph w c j can = grind arith

-- the bucket of cycle c is emptied
pub empties : (graph : Graph) (w : Progress) (c : ℕ) (bucket' : ℕ → ℕ → Bool) → IsGraph graph → Waits graph w c 0 None
    → ((j : ℕ) → bucket' (c % 32) j ≡ false) → ((b j : ℕ) → b < 32 → b ≢ c % 32 → bucket' b j ≡ w.bucket b j)
    → Waits graph (record w { bucket = bucket' }) (c + 1) 0 None
empties graph w c bucket' is waits emptied others = grind (arith, earliest_bound, true≢false)

-- other buckets with the same operations
pub same_buckets : (graph : Graph) (w : Progress) (f i : ℕ) (at : Option ℕ) (bucket' : ℕ → ℕ → Bool) → Waits graph w f i at
    → ((b j : ℕ) → b < 32 → bucket' b j ≡ w.bucket b j) → Waits graph (record w { bucket = bucket' }) f i at
same_buckets graph w f i at bucket' waits same = grind arith
