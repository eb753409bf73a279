use Rattle.std.proofs.Common.{arith, refl, ◌≡◌, ◌<◌, ◌+◌, ℕ, zero, suc, List, [], ◌∷◌, length, take, subst}
use Rattle.std.specs.Prelude.{slice_index_or}
use Rattle.iloc_meaning.specs.Outcome.{outcome}
use Rattle.iloc_meaning.specs.declared.outcome.Outcome.TheVariants.{Fault}
use Rattle.iloc_comparison.proofs.void.fault.Goals as goal

-- what stands for what is past the end doesn't matter before it
same_index : {A : Type 0} (xs : List A) (i : ℕ) (d e : A) → i < length xs → slice_index_or xs i d ≡ slice_index_or xs i e
same_index [] i d e within = absurd (omega arith)
same_index (x ∷ xs) zero d e within = refl
same_index (x ∷ xs) (suc i) d e within = same_index xs i d e (omega arith)

pub returns : goal.returns
returns c =
    let inv = c.loop-finishing.invariant in
    let next : c.loop-finishing.faulting ≡ c.loop-finishing.finishing + 1 = omega arith in
    let within : c.loop-finishing.finishing < length c.args.block.now.ops = omega arith in record {
      faults = inv.whole;
      earlier = c.loop-finishing.finishing;
      before = inv.finishes;
      there = subst (λ (n : ℕ). outcome (take n c.args.block.now.ops) c.args.memory.now ≡ Fault) next inv.faults;
      is = rw c.as_slice.ensures (same_index c.args.block.now.ops c.loop-finishing.finishing _ _ within);
    }
