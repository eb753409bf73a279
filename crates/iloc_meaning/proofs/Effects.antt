-- What an effect depends on.
use Rattle.std.proofs.Common.{◌≡◌, ℕ, suc, ℤ, pos, negsuc, Bool, true, false, List, [], ◌∷◌, Contains, None, map, arith, refl, ap₂}
use Rattle.iloc_ops.specs.declared.op.Reg.{Reg}
use Rattle.iloc_ops.specs.declared.op.Op.{Op}
use Rattle.iloc_ops.specs.declared.op.Op.TheVariants.{Nop}
use Rattle.iloc_ops.specs.Registers.{used, defined, with_registers}
use Rattle.iloc_meaning.specs.declared.effect.Effect.{Effect}
use Rattle.iloc_meaning.specs.declared.effect.Effect.TheVariants.{Faults, Gives, Writes}
use Rattle.iloc_meaning.specs.Address.{is_good, good_address}
use Rattle.iloc_meaning.specs.Effect.{effect, at_address}
use Rattle.iloc_meaning.specs.Results.{GoesTo}
use Rattle.iloc_meaning.proofs.Cases.{by_bool}

-- acts that agree at good addresses do the same at every address
pub at_address_same : (z : ℤ) (act other : ℕ → Effect) → ((a : ℕ) → is_good (pos a) ≡ true → act a ≡ other a)
    → at_address (good_address z) act ≡ at_address (good_address z) other
at_address_same (pos a) act other same = by_bool (is_good (pos a)) (λ t. rw t (same a t)) (λ t. rw t refl)
at_address_same (negsuc n) act other same = refl

-- what is done at an address is a fault, or it is done at a good address
pub at_address_cases : (P : Effect → Type 0) (z : ℤ) (act : ℕ → Effect) → P Faults
    → ((a : ℕ) → is_good (pos a) ≡ true → P (act a)) → P (at_address (good_address z) act)
at_address_cases P (pos a) act fault done = by_bool (is_good (pos a)) (λ t. rw t (done a t)) (λ t. rw t fault)
at_address_cases P (negsuc n) act fault done = fault

-- the used registers have the same values
values_same : (rs : List Reg) (reg reg' : Reg → ℤ) → ((r : Reg) → Contains rs r → reg r ≡ reg' r)
    → map reg rs ≡ map reg' rs
values_same [] reg reg' same = refl
values_same (r ∷ rs) reg reg' same = ap₂ (λ v vs. v ∷ vs) (same r (0, omega arith, refl))
    (values_same rs reg reg' (λ s there. same s (suc there.0, omega (arith, there.1), there.2)))

effect_by_values : (op : Op) (reg reg' : Reg → ℤ) (word word' : ℕ → ℤ) → map reg (used op) ≡ map reg' (used op)
    → ((a : ℕ) → is_good (pos a) ≡ true → word a ≡ word' a) → effect op reg word ≡ effect op reg' word'
effect_by_values op reg reg' word word' regs words = grind arith

-- an effect depends on the values of the used registers and on the words at good addresses alone
pub effect_same : (op : Op) (reg reg' : Reg → ℤ) (word word' : ℕ → ℤ)
    → ((r : Reg) → Contains (used op) r → reg r ≡ reg' r) → ((a : ℕ) → is_good (pos a) ≡ true → word a ≡ word' a)
    → effect op reg word ≡ effect op reg' word'
effect_same op reg reg' word word' regs words =
    effect_by_values op reg reg' word word' (values_same (used op) reg reg' regs) words

-- an operation with other registers does what its own would do with the values of the new ones
pub effect-with_registers : (new : Reg → Reg) (own : Reg) (op : Op) (reg : Reg → ℤ) (word : ℕ → ℤ)
    → effect (with_registers new own op) reg word ≡ effect op (λ r. reg (new r)) word
effect-with_registers new own Nop reg word = refl
effect-with_registers new own _ reg word = refl

-- a result goes to the defined register
pub results_go : (op : Op) (reg : Reg → ℤ) (word : ℕ → ℤ) → GoesTo (defined op) (effect op reg word)
results_go op reg word = grind arith

-- whether an effect is neither a result nor a fault
abbrev pub has_no_result : Effect → Bool
has_no_result Faults = false
has_no_result (Gives result) = false
has_no_result _ = true

-- an operation that gives no result defines no register
pub defined-no_result : (op : Op) (reg : Reg → ℤ) (word : ℕ → ℤ) → has_no_result (effect op reg word) ≡ true
    → defined op ≡ None
defined-no_result op reg word is = grind arith

-- whether a write, if the effect is one, is to a good address
abbrev pub writes_well : Effect → Bool
writes_well (Writes address word) = is_good (pos address)
writes_well _ = true

-- each write is to a good address
pub writes_well-effect : (op : Op) (reg : Reg → ℤ) (word : ℕ → ℤ) → writes_well (effect op reg word) ≡ true
writes_well-effect op reg word = grind arith
