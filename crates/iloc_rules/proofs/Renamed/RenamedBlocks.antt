-- The renamed operations define each register once and have the block's outcome: `rename` (`once`, `outcome`).
use Rattle.iloc_rules.proofs.Common.{◌≡◌, ℕ, zero, suc, ◌<◌, ◌≤◌, true, false, ◌≢◌, List, [], ◌∷◌, map, length, ℤ, Some, Option, option_map, sym, refl, ap, ◌∙◌, inl, inr, arith, eq-eqb, ne_eqb, get_or_past, defined, used, Op, Reg, by_bool, effect-with_registers, effect_same, effect, outcome, outcome_of, before, is_register, op_at, register_after, result_of, word_after, IsRenamed, is_nop, name_of, numbering, place_of, renamed, renamed_by, source, without_nops, In, Stands}
use Rattle.std.proofs.lemmas.List.Elements.{All-get_or, filter_passes}
use Rattle.iloc_ops.proofs.Renaming.{used-with_registers, defined-with_registers}
use Rattle.iloc_rules.specs.Renaming.Source.{Result}
use Rattle.iloc_rules.proofs.Basics.Members.{in_from}
use Rattle.iloc_rules.proofs.Renamed.Sources.{place_apart, name_apart}
use Rattle.iloc_rules.proofs.Renamed.MentionedSources.{source_earlier, use_numbered, definition_numbered, renamed_op_at, length-renamed_by}
use Rattle.iloc_rules.proofs.Renamed.SameOutcome.{SameEffects, same_words, same_end, same_outcome}
use Rattle.iloc_rules.proofs.Renamed.WithoutNops.{is_nop-with_registers, outcome_without_nops}

-- an operation that is renamed defines the register that is named for it
own_is_defined : (d : Option Reg) (r own : Reg) → is_register r d ≡ true → is_register own (option_map (λ q. own) d)
    ≡ true
own_is_defined d r own is = grind (arith, eq-eqb)

other_is_not : (d : Option Reg) (other own : Reg) → ((q : Reg) → d ≡ Some q → other.0 ≢ own.0)
    → is_register other (option_map (λ q. own) d) ≡ false
other_is_not d other own apart = grind (arith, ne_eqb)

-- the operations, renamed
abbrev new : List Op → List Op
new ops = renamed_by ops (numbering ops)

pub defined_at : (ops : List Op) (i : ℕ) → i < length ops
    → defined (op_at (new ops) i) ≡ option_map (λ r. name_of (numbering ops) (Result i)) (defined (op_at ops i))
defined_at ops i below = grind (arith, defined-with_registers, renamed_op_at)

used_at : (ops : List Op) (i : ℕ) → i < length ops
    → used (op_at (new ops) i) ≡ map (λ r. name_of (numbering ops) (source ops i r)) (used (op_at ops i))
used_at ops i below = ap used (renamed_op_at ops (numbering ops) i below) ∙ used-with_registers _ _ (op_at ops i)

-- where the operations before k have the same effects, a source's register has the value that the source's own had
register_renamed : (memory : List ℤ) (ops : List Op) (k : ℕ) → k ≤ length ops
    → SameEffects (before memory (new ops) k) (before memory ops k) → (r : Reg)
    → Stands (numbering ops) (source ops k r)
    → register_after (before memory (new ops) k) (name_of (numbering ops) (source ops k r))
    ≡ register_after (before memory ops k) r
register_renamed memory ops zero within same r stands = refl
register_renamed memory ops (suc k) within same r stands = by_bool (is_register r (defined (op_at ops k)))
    (λ here.
    let own : is_register (name_of (numbering ops) (Result k)) (defined (op_at (new ops) k)) ≡ true =
    rw (defined_at ops k below) (own_is_defined _ r _ here) in
    rw (here, own) (ap result_of same.0))
    (λ elsewhere.
    let still : Stands (numbering ops) (source ops k r) = rw elsewhere at stands in
    let other : is_register (name_of (numbering ops) (source ops k r)) (defined (op_at (new ops) k)) ≡ false =
    rw (defined_at ops k below) (other_is_not _ _ _ (apart still)) in
    grind (arith, register_renamed memory ops k))
  where
    below : k < length ops
    below = omega arith

    apart : Stands (numbering ops) (source ops k r) → (q : Reg) → defined (op_at ops k) ≡ Some q
        → place_of (numbering ops) (source ops k r) ≢ place_of (numbering ops) (Result k)
    apart still q is one_place =
        let itself : k < k = source_earlier ops k k r (place_apart (numbering ops) (source ops k r) (Result k) still
        (definition_numbered ops k q below is) one_place) in omega arith

-- one by one the renamed operations have the effects of the operations
same_effects : (memory : List ℤ) (ops : List Op) (k : ℕ) → k ≤ length ops
    → SameEffects (before memory (new ops) k) (before memory ops k)
same_effects memory ops zero within = tt
same_effects memory ops (suc k) within =
    let same = same_effects memory ops k (omega arith) in
    let below : k < length ops = omega arith in (
      ap (λ op. effect op (register_after (before memory (new ops) k)) (word_after memory (before memory (new ops) k)))
          (renamed_op_at ops (numbering ops) k below)
          ∙ effect-with_registers (λ r. name_of (numbering ops) (source ops k r)) _ (op_at ops k) _ _
          ∙ effect_same (op_at ops k) _ (register_after (before memory ops k)) _
          (word_after memory (before memory ops k)) (λ r there. register_renamed memory ops k (omega arith) same r
          (use_numbered ops k r below (in_from _ r there))) (λ a good. same_words memory _ _ same a),
      same,
    )

outcome_new : (ops : List Op) (memory : List ℤ) → outcome (new ops) memory ≡ outcome ops memory
outcome_new ops memory =
    ap (λ n. outcome_of memory (before memory (new ops) n)) (length-renamed_by ops (numbering ops))
    ∙ same_outcome memory _ _ (same_end memory _ _ (same_effects memory ops (length ops) (omega arith)))

pub renaming_keeps_the_outcome : (block : List Op) (memory : List ℤ) → outcome (renamed block) memory
    ≡ outcome block memory
renaming_keeps_the_outcome block memory = grind (arith, outcome_new, outcome_without_nops)

-- what defines or uses a register is an operation of the block
defining_within : (ops : List Op) (i : ℕ) (r : Reg) → defined (op_at ops i) ≡ Some r → i < length ops
defining_within ops i r is = grind (arith, get_or_past)

using_within : (ops : List Op) (i : ℕ) (r : Reg) → In (used (op_at ops i)) r → i < length ops
using_within ops i r there = grind (arith, get_or_past)

mapped : {X Y : Type 0} (f : X → Y) (xs : List X) (y : Y) → In (map f xs) y → (x : X) × In xs x × (f x ≡ y)
mapped f [] y there = absurd there
mapped f (x ∷ xs) y (inl here) = (x, inl refl, here)
mapped f (x ∷ xs) y (inr there) = let rest = mapped f xs y there in (rest.0, inr rest.1, rest.2)

-- the register that a renamed operation defines is named for it, and its source stands in the numbering
record Defines (ops : List Op) (i : ℕ) (r : Reg) : Type 0 where
  stands : Stands (numbering ops) (Result i)
  name : name_of (numbering ops) (Result i) ≡ r

pub named_defined : (d : Option Reg) (own r : Reg) → option_map (λ q. own) d ≡ Some r → (q : Reg) × (d ≡ Some q) × (own ≡ r)
named_defined d own r is = grind arith

defines_new : (ops : List Op) (i : ℕ) (r : Reg) → i < length ops → defined (op_at (new ops) i) ≡ Some r
    → Defines ops i r
defines_new ops i r below is = grind (arith, defined_at, definition_numbered, named_defined)

no_nop : (block : List Op) (i : ℕ) → i < length (without_nops block) → is_nop (op_at (without_nops block) i) ≡ false
no_nop block i below = grind (arith, All-get_or, filter_passes)

renamed_once : (ops : List Op) (i j : ℕ) (r : Reg) → defined (op_at (new ops) i) ≡ Some r
    → defined (op_at (new ops) j) ≡ Some r → i ≡ j
renamed_once ops i j r first second = grind (arith, defines_new, defining_within, length-renamed_by, name_apart)

renamed_before : (ops : List Op) (i j : ℕ) (r : Reg) → In (used (op_at (new ops) i)) r
    → defined (op_at (new ops) j) ≡ Some r → j < i
renamed_before ops i j r there is =
    let below : i < length ops = rw length-renamed_by at (using_within (new ops) i r there) in
    let at_j = defines_new ops j r (rw length-renamed_by at (defining_within (new ops) j r is)) is in
    let found = mapped (λ q. name_of (numbering ops) (source ops i q)) (used (op_at ops i)) r
    (rw (used_at ops i below) at there) in
    source_earlier ops i j found.0 (name_apart (numbering ops) (source ops i found.0) (Result j)
    (use_numbered ops i found.0 below found.1) at_j.stands (found.2 ∙ sym at_j.name))

pub renamed_is_renamed : (block : List Op) → IsRenamed (renamed block)
renamed_is_renamed block = record {
  no_nop = grind (arith, is_nop-with_registers, length-renamed_by, no_nop, renamed_op_at);
  once = λ i j r. renamed_once (without_nops block) i j r;
  defined_before = λ i j r there. renamed_before (without_nops block) i j r (in_from _ r there);
}
