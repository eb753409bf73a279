-- A block without its `nop`s has the block's outcome; for `rename` (`outcome`).
use Rattle.iloc_rules.proofs.Common.{◌≡◌, ℕ, zero, suc, ◌+◌, true, List, [], ◌∷◌, length, drop, ℤ, append-nil, arith, with_registers, Op, Nop, Reg, by_bool, effect_same, outcome, Executed, before, register_after, then_executed, is_nop, without_nops}
use Rattle.std.proofs.Math.Seq.{drop-cons, drop-length}
use Rattle.iloc_rules.proofs.Renamed.SameOutcome.{SameEnd, same_outcome}

-- two traces leave the same behind
pub record Alike (memory : List ℤ) (trace other : List Executed) : Type 0 where
  pub registers : (r : Reg) → register_after trace r ≡ register_after other r
  pub end : SameEnd memory trace other

alike_after : (memory : List ℤ) (trace other : List Executed) (op : Op) → Alike memory trace other
    → Alike memory (then_executed memory op trace) (then_executed memory op other)
alike_after memory trace other op alike = grind (arith, effect_same)

pub is_nop-true : (op : Op) → is_nop op ≡ true → op ≡ Nop
is_nop-true op is = grind arith

pub is_nop-with_registers : (new : Reg → Reg) (own : Reg) (op : Op) → is_nop (with_registers new own op) ≡ is_nop op
is_nop-with_registers new own op = grind arith

-- a `nop` changes nothing
alike_nop : (memory : List ℤ) (trace other : List Executed) (op : Op) → is_nop op ≡ true → Alike memory trace other
    → Alike memory trace (then_executed memory op other)
alike_nop memory trace other op is alike = grind (arith, append-nil, is_nop-true)

-- the trace from there through these operations
abbrev onward : List ℤ → List Op → List Executed → List Executed
onward memory [] trace = trace
onward memory (op ∷ rest) trace = onward memory rest (then_executed memory op trace)

onward_alike : (memory : List ℤ) (ops : List Op) (trace other : List Executed) → Alike memory trace other
    → Alike memory (onward memory (without_nops ops) trace) (onward memory ops other)
onward_alike memory [] trace other alike = alike
onward_alike memory (op ∷ rest) trace other alike =
    by_bool (is_nop op)
    (λ t. rw t (onward_alike memory rest trace _ (alike_nop memory trace other op t alike)))
    (λ t. rw t (onward_alike memory rest _ _ (alike_after memory trace other op alike)))

-- the operations that are left lead to the whole trace
onward_rest : (memory : List ℤ) (ops : List Op) (left i : ℕ) → left + i ≡ length ops
    → onward memory (drop i ops) (before memory ops i) ≡ before memory ops (length ops)
onward_rest memory ops zero i all = grind (arith, drop-length)
onward_rest memory ops (suc left) i all = grind (arith, drop-cons, onward_rest memory ops left (suc i))

onward_all : (memory : List ℤ) (ops : List Op) → onward memory ops [] ≡ before memory ops (length ops)
onward_all memory ops = onward_rest memory ops (length ops) 0 (omega arith)

pub outcome_without_nops : (ops : List Op) (memory : List ℤ) → outcome (without_nops ops) memory ≡ outcome ops memory
outcome_without_nops ops memory =
    rw (← onward_all memory (without_nops ops), ← onward_all memory ops)
    (grind (arith, onward_alike, same_outcome))
