-- An operation of three numbers, of which those that it has no place for stand for nothing.
use Rattle.iloc_text.proofs.Common.{◌≡◌, ℕ, [], ◌∷◌, refl, op_of, Opcode}
use Rattle.iloc_ops.specs.declared.forms.Opcode.TheVariants as O

pub zero_stands_for_none : (o : Opcode) (a b : ℕ) → op_of o (a ∷ b ∷ 0 ∷ []) ≡ op_of o (a ∷ b ∷ [])
zero_stands_for_none O.Nop a b = refl
zero_stands_for_none _ a b = refl

pub zeros_stand_for_none : (o : Opcode) (a : ℕ) → op_of o (a ∷ 0 ∷ 0 ∷ []) ≡ op_of o (a ∷ [])
zeros_stand_for_none O.Nop a = refl
zeros_stand_for_none _ a = refl

pub all_zeros_stand_for_none : (o : Opcode) → op_of o (0 ∷ 0 ∷ 0 ∷ []) ≡ op_of o []
all_zeros_stand_for_none O.Nop = refl
all_zeros_stand_for_none _ = refl
