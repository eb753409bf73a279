-- What a step does, case by case.
use Rattle.iloc_board.proofs.Common.{◌≡◌, ℕ, ◌<◌, ◌≤◌, Bool, true, false, ◌≢◌, [], ◌∷◌, nat_lt, ◌==◌, slice_set, refl, arith, ltb-false, ltb-true, eq-eqb, ne_eqb, eqb-true, Core, after, costs_at, is_holding, reply_to, state_after, worker_of, handed_by, State, Free, Holding, Looked, Block, Handed, NoneLeft, NotNow, Stale, Took, Step, Hand, Look, Try}

-- a step leaves the costs
abbrev pub SameCosts : Core → Step → Type 0
SameCosts c x = costs_at c.costs (c.state (worker_of x)) x ≡ c.costs

pub data Effect (count : ℕ) (c : Core) (x : Step) : Type 0 where
  finds : SameCosts c x → is_holding (c.state (worker_of x)) ≡ false → c.next < count
      → reply_to count c x ≡ Block c.next → Effect count c x
  misses : SameCosts c x → is_holding (c.state (worker_of x)) ≡ false → c.next < count
      → reply_to count c x ≡ Stale c.next → Effect count c x
  none : SameCosts c x → is_holding (c.state (worker_of x)) ≡ false → count ≤ c.next → reply_to count c x ≡ NoneLeft
      → Effect count c x
  wins : (k : ℕ) → SameCosts c x → c.state (worker_of x) ≡ Looked k → c.next ≡ k → reply_to count c x ≡ Took k
      → Effect count c x
  returns : (w cost k : ℕ) → x ≡ Hand w cost → c.state (worker_of x) ≡ Holding k → handed_by (c.state (worker_of x)) x
      ≡ (k, cost) ∷ [] → costs_at c.costs (c.state (worker_of x)) x ≡ slice_set c.costs k cost
      → reply_to count c x ≡ Handed → Effect count c x
  waits : SameCosts c x → reply_to count c x ≡ NotNow → Effect count c x

looks : (count : ℕ) (c : Core) (w : ℕ) (s : State) → c.state w ≡ s → (b : Bool) → nat_lt c.next count ≡ b
    → Effect count c (Look w)
looks count c w s e b lt = grind (arith, ltb-false, ltb-true)

tries : (count : ℕ) (c : Core) (w : ℕ) (s : State) → c.state w ≡ s → (b : Bool) → nat_lt c.next count ≡ b
    → Effect count c (Try w)
tries count c w Free e b lt = waits refl (rw e)
tries count c w (Holding k) e b lt = waits refl (rw e)
tries count c w (Looked k) e b lt = go (c.next == k) refl b lt
  where
    go : (h : Bool) → (c.next == k) ≡ h → (b : Bool) → nat_lt c.next count ≡ b → Effect count c (Try w)
    go true here b lt = wins k refl e (eqb-true _ _ here) (rw (e, here))
    go false here true lt = misses refl (rw e) (ltb-true _ _ lt) (rw (e, here, lt))
    go false here false lt = none refl (rw e) (ltb-false _ _ lt) (rw (e, here, lt))

hands : (count : ℕ) (c : Core) (w cost : ℕ) (s : State) → c.state w ≡ s → Effect count c (Hand w cost)
hands count c w cost Free e = waits (rw e) (rw e)
hands count c w cost (Looked k) e = waits (rw e) (rw e)
hands count c w cost (Holding k) e = returns w cost k refl e (rw e) (rw e) (rw e)

pub effect : (count : ℕ) (c : Core) (x : Step) → Effect count c x
effect count c (Look w) = looks count c w (c.state w) refl (nat_lt c.next count) refl
effect count c (Try w) = tries count c w (c.state w) refl (nat_lt c.next count) refl
effect count c (Hand w cost) = hands count c w cost (c.state w) refl

-- the state of the worker itself after its step, and of another
pub state_here : (count : ℕ) (c : Core) (x : Step) (w : ℕ) → w ≡ worker_of x
    → (after count c x).state w ≡ state_after (c.state w) (reply_to count c x)
state_here count c x w e = rw (eq-eqb w (worker_of x) e)

pub state_else : (count : ℕ) (c : Core) (x : Step) (w : ℕ) → w ≢ worker_of x → (after count c x).state w ≡ c.state w
state_else count c x w ne = rw (ne_eqb w (worker_of x) ne)
