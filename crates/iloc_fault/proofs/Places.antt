-- Where a block faults.
use Rattle.std.proofs.Common.{◌≡◌, ◌∙◌, ℕ, ◌+◌, ◌-◌, ◌<◌, ◌≤◌, ◌||◌, Bool, true, false, List, length, refl, sym, ap, subst, Option, Some, unwrap_or, ℤ, pos, negsuc, ◌+ℤ◌, get_or, inl, inr, arith}
use Rattle.std.proofs.lemmas.Bool.{cases_lt, or_left}
use Rattle.std.proofs.lemmas.List.{get_or_default}
use Rattle.iloc_ops.specs.declared.op.Reg.{Reg}
use Rattle.iloc_ops.specs.declared.op.Op.{Op}
use Rattle.iloc_ops.specs.declared.op.Op.TheVariants.{Load, Store, Output, Nop, LoadAI, StoreAI}
use Rattle.iloc_meaning.specs.declared.effect.Effect.{Effect}
use Rattle.iloc_meaning.specs.declared.effect.Effect.TheVariants.{Gives, Writes, Emits}
use Rattle.iloc_meaning.specs.declared.machine_state.MachineState.{MachineState}
use Rattle.iloc_meaning.specs.declared.outcome.Outcome.TheVariants.{Fault}
use Rattle.iloc_meaning.specs.Address.{good_address, is_good}
use Rattle.iloc_meaning.specs.Arithmetic.{wrapped, constant}
use Rattle.iloc_meaning.specs.Effect.{at_address, effect}
use Rattle.iloc_meaning.specs.Outcome.{has_fault, is_fault, outcome}
use Rattle.iloc_meaning.specs.Registers.{value_of}
use Rattle.iloc_meaning.specs.MachineState.{Follows}
use Rattle.iloc_meaning.specs.Trace.{before, op_at, register_after, then_executed, word_after}
use Rattle.iloc_meaning.proofs.Cases.{by_bool}
use Rattle.iloc_meaning.proofs.Runs.{fault_stays, next}
use Rattle.iloc_fault.specs.declared.place.FaultPlace.{FaultPlace}
use Rattle.iloc_fault.specs.Place.{reached, IsFaultPlace, BlocksFaultAtOnePlace}

-- at a good address nothing faults
good_or_not : (a : ℤ) (act : ℕ → Effect) → ((n : ℕ) → is_fault (act n) ≡ false)
    → is_fault (at_address (good_address a) act) ≡ true → is_good a ≡ false
good_or_not (pos n) act fine h = by_bool (is_good (pos n))
    (λ good. let finds : is_fault (at_address (good_address (pos n)) act) ≡ false = rw good (fine n) in cc)
    (λ bad. bad)
good_or_not (negsuc n) act fine h = refl

-- what faults reaches a bad address
record ReachesBad (op : Op) (reg : Reg → ℤ) : Type 0 where
  address : ℤ
  reaches : reached op reg ≡ Some address
  bad : is_good address ≡ false

faults_reach : (op : Op) (reg : Reg → ℤ) (word : ℕ → ℤ) → is_fault (effect op reg word) ≡ true → ReachesBad op reg
faults_reach (Load addr dest) reg word h =
    record { address = reg addr; reaches = refl; bad = good_or_not (reg addr) (λ a. Gives (word a)) (λ n. refl) h }
faults_reach (Store value addr) reg word h =
    record { address = reg addr; reaches = refl; bad = good_or_not (reg addr) (λ a. Writes a (reg value)) (λ n. refl) h }
faults_reach (Output addr) reg word h =
    record { address = constant addr; reaches = refl; bad = good_or_not (constant addr) (λ a. Emits (word a)) (λ n. refl) h }
faults_reach (LoadAI addr offset dest) reg word h =
    record { address = wrapped (reg addr +ℤ constant offset); reaches = refl; bad = good_or_not (wrapped (reg addr +ℤ constant offset)) (λ a. Gives (word a)) (λ n. refl) h }
faults_reach (StoreAI value addr offset) reg word h =
    record { address = wrapped (reg addr +ℤ constant offset); reaches = refl; bad = good_or_not (wrapped (reg addr +ℤ constant offset)) (λ a. Writes a (reg value)) (λ n. refl) h }
faults_reach _ reg word h = cc

-- and the other way round
bad_faults : (a : ℤ) (act : ℕ → Effect) → is_good a ≡ false → is_fault (at_address (good_address a) act) ≡ true
bad_faults (pos n) act bad = rw bad refl
bad_faults (negsuc n) act bad = refl

same_address : (a b : ℤ) → Some a ≡ Some b → is_good b ≡ false → is_good a ≡ false
same_address a b same bad = let one : a ≡ b = cc in ap is_good one ∙ bad

reach_faults : (op : Op) (reg : Reg → ℤ) (word : ℕ → ℤ) (address : ℤ) → reached op reg ≡ Some address
    → is_good address ≡ false → is_fault (effect op reg word) ≡ true
reach_faults (Load addr dest) reg word a r bad = bad_faults (reg addr) (λ n. Gives (word n)) (same_address (reg addr) a r bad)
reach_faults (Store value addr) reg word a r bad = bad_faults (reg addr) (λ n. Writes n (reg value)) (same_address (reg addr) a r bad)
reach_faults (Output addr) reg word a r bad = bad_faults (constant addr) (λ n. Emits (word n)) (same_address (constant addr) a r bad)
reach_faults (LoadAI addr offset dest) reg word a r bad = bad_faults (wrapped (reg addr +ℤ constant offset)) (λ n. Gives (word n)) (same_address (wrapped (reg addr +ℤ constant offset)) a r bad)
reach_faults (StoreAI value addr offset) reg word a r bad = bad_faults (wrapped (reg addr +ℤ constant offset)) (λ n. Writes n (reg value)) (same_address (wrapped (reg addr +ℤ constant offset)) a r bad)
reach_faults _ reg word a r bad = cc

-- after the place a block has a fault
has_faulted : (ops : List Op) (memory : List ℤ) (place : FaultPlace) → IsFaultPlace ops memory place
    → has_fault (before memory ops (place.operation + 1)) ≡ true
has_faulted ops memory place is =
    let trace = before memory ops place.operation in
    let op = op_at ops place.operation in
    let faults : is_fault (effect op (register_after trace) (word_after memory trace)) ≡ true =
    reach_faults op (register_after trace) (word_after memory trace) place.address is.reaches is.bad in
    let here : has_fault (then_executed memory op trace) ≡ true =
    or_left (is_fault (effect op (register_after trace) (word_after memory trace))) (has_fault trace) faults in
    rw (next memory ops ops place.operation Nop refl is.within) here

later_faulted : (ops : List Op) (memory : List ℤ) (place : FaultPlace) (k : ℕ) → IsFaultPlace ops memory place
    → place.operation < k → has_fault (before memory ops k) ≡ true
later_faulted ops memory place k is lt =
    let rest : place.operation + 1 + (k - (place.operation + 1)) ≡ k = omega arith in
    subst (λ n. has_fault (before memory ops n) ≡ true) rest
    (fault_stays memory ops (place.operation + 1) (k - (place.operation + 1)) (has_faulted ops memory place is))

not_later : (ops : List Op) (memory : List ℤ) (place place' : FaultPlace) → IsFaultPlace ops memory place
    → IsFaultPlace ops memory place' → place.operation < place'.operation → ⊥
not_later ops memory place place' is is' lt =
    let faulted = later_faulted ops memory place place'.operation is lt in
    let not = is'.none_before in cc

same_place : (ops : List Op) (memory : List ℤ) (place place' : FaultPlace) → IsFaultPlace ops memory place
    → IsFaultPlace ops memory place' → place ≡ place'
same_place ops memory place place' is is' =
    let least : place.operation ≤ place'.operation = elim (cases_lt place'.operation place.operation) [
      | inl lt ↦ absurd (not_later ops memory place' place is' is lt)
      | inr le ↦ le
    ] in
    let most : place'.operation ≤ place.operation = elim (cases_lt place.operation place'.operation) [
      | inl lt ↦ absurd (not_later ops memory place place' is is' lt)
      | inr le ↦ le
    ] in
    let operation : place.operation ≡ place'.operation = omega arith in
    let reach : ℕ → Option ℤ = λ i. reached (op_at ops i) (register_after (before memory ops i)) in
    let both : Some place.address ≡ Some place'.address = sym is.reaches ∙ ap reach operation ∙ is'.reaches in
    let address : place.address ≡ place'.address = cc in
    λ i. record { operation = operation i; address = address i }

-- a place is one of a fault
of_fault : (ops : List Op) (memory : List ℤ) (place : FaultPlace) → IsFaultPlace ops memory place → outcome ops memory ≡ Fault
of_fault ops memory place is = rw (later_faulted ops memory place (length ops) is is.within) refl

pub one_place : BlocksFaultAtOnePlace
one_place = record { one = same_place; fault = of_fault }

first_or : (a b : Bool) → (a || b) ≡ true → b ≡ false → a ≡ true
first_or true b h none = refl
first_or false b h none = cc

-- a run that stops at this operation has found its place
pub stops_here : (memory : List ℤ) (ops : List Op) (i : ℕ) (other : Op) (state : MachineState) (found : Option ℤ) (address : ℤ)
    → i < length ops → Follows memory (before memory ops i) state
    → found ≡ reached (get_or ops i other) (value_of state.registers) → address ≡ unwrap_or found (pos 0)
    → has_fault (then_executed memory (get_or ops i other) (before memory ops i)) ≡ true
    → IsFaultPlace ops memory (record { operation = i; address = address })
stops_here memory ops i other state found address within follows reaches is fault =
    let trace = before memory ops i in
    let op = get_or ops i other in
    let same : op_at ops i ≡ op = get_or_default ops i Nop other within in
    let registers : value_of state.registers ≡ register_after trace = λ k. λ r. follows.registers r k in
    let faults : is_fault (effect op (register_after trace) (word_after memory trace)) ≡ true =
    first_or _ _ fault follows.no_fault in
    let bad = faults_reach op (register_after trace) (word_after memory trace) faults in
    let there : address ≡ bad.address =
    is ∙ ap (λ o. unwrap_or o (pos 0)) (reaches ∙ ap (reached op) registers ∙ bad.reaches) in
    record {
      within = within;
      none_before = follows.no_fault;
      reaches = ap (λ o. reached o (register_after trace)) same ∙ bad.reaches ∙ ap (λ a. Some a) (sym there);
      bad = ap is_good there ∙ bad.bad;
    }
