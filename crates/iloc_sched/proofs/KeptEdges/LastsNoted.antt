-- What stands last before the next operation, once one more is noted; for `Lasts::note`.
use Rattle.iloc_sched.proofs.Common.{◌≡◌, ℕ, ◌+◌, ◌<◌, Bool, true, false, List, [], ◌∷◌, ◌++◌, Some, Option, sym, refl, ap, ◌∙◌, subst, arith, false≢true, defined, Op, Reg, by_bool, is_register, op_at, is_load, is_output, is_store, kind, Kind, from_append, in_left, in_right, In, IsLasts, NoStoreBetween, NotesDefiner, NotesKind, IsLast, number_at, Lasts}
use Rattle.iloc_timed.specs.declared.kind.Kind.TheVariants as K
use Rattle.iloc_sched.specs.declared.by_register.ByRegister.{ByRegister}
use Rattle.iloc_rules.proofs.Basics.Registers.{is_register_same, is_register_from}
use Rattle.iloc_sched.proofs.Basics.LastOnes.{last_here, last_before}

pub definers_noted : (ops : List Op) (j : ℕ) (old new : ByRegister)
    → ((r : Reg) → IsLast (λ i. defined (op_at ops i) ≡ Some r) j (number_at old r.0))
    → NotesDefiner (op_at ops j) old new j → (r : Reg)
    → IsLast (λ i. defined (op_at ops i) ≡ Some r) (j + 1) (number_at new r.0)
definers_noted ops j old new is notes r =
    by_bool (is_register r (defined (op_at ops j)))
    (λ test.
    let here : defined (op_at ops j) ≡ Some r = is_register_same r (defined (op_at ops j)) test in
    grind (arith, here, last_here))
    (λ test.
    let not : defined (op_at ops j) ≡ Some r → ⊥ =
    λ here. false≢true (sym test ∙ is_register_from r (defined (op_at ops j)) here) in
    subst (λ o. IsLast (λ i. defined (op_at ops i) ≡ Some r) (j + 1) o) (sym (notes.others r not))
    (last_before (λ i. defined (op_at ops i) ≡ Some r) j (number_at old r.0) not (is r)))

module _ (ops : List Op) (j : ℕ) (old new : Lasts) (is : IsLasts ops old j) (k : Kind) (kind_is : kind (op_at ops j)
    ≡ k) where
  here : (test : Kind → Bool) → test k ≡ true → test (kind (op_at ops j)) ≡ true
  here test holds = ap test kind_is ∙ holds

  abbrev Last : (Kind → Bool) → ℕ → Option ℕ → Type 0
  Last test n o = IsLast (λ i. test (kind (op_at ops i)) ≡ true) n o

  stays : (test : Kind → Bool) (o o' : Option ℕ) → Last test j o → test k ≡ false → o' ≡ o → Last test (j + 1) o'
  stays test o o' last fails same = grind (arith, last_before)

  comes : (test : Kind → Bool) (o' : Option ℕ) → test k ≡ true → o' ≡ Some j → Last test (j + 1) o'
  comes test o' holds same = grind (arith, here, last_here)

  abbrev Loads : List ℕ → Type 0
  Loads items = (i : ℕ) → In items i → (i < j + 1) × (is_load (kind (op_at ops i)) ≡ true) × NoStoreBetween ops i (j + 1)

  abbrev AllLoads : List ℕ → Type 0
  AllLoads items = (i : ℕ) → i < j + 1 → is_load (kind (op_at ops i)) ≡ true
      → NoStoreBetween ops i (j + 1) → In items i

  loads_stay : is_store k ≡ false → Loads old.loads.items
  loads_stay no_store i held = grind arith

  earlier_load : (i : ℕ) → i < j → is_load (kind (op_at ops i)) ≡ true → NoStoreBetween ops i (j + 1)
      → In old.loads.items i
  earlier_load i below load none = is.all_loads i below load (λ m after before. none m after (omega arith))

  all_loads_stay : is_load k ≡ false → AllLoads old.loads.items
  all_loads_stay fails i below load none = grind (arith, earlier_load)

  loads_more : is_load k ≡ true → is_store k ≡ false → Loads (old.loads.items ++ j ∷ [])
  loads_more holds no_store i held = grind (arith, from_append, here, loads_stay)

  all_loads_more : AllLoads (old.loads.items ++ j ∷ [])
  all_loads_more i below load none = grind (arith, earlier_load, in_left, in_right)

  noted_as : NotesDefiner (op_at ops j) old.definers new.definers j → Last is_store (j + 1) new.store
      → Last is_output (j + 1) new.output → (items : List ℕ) → new.loads.items ≡ items → Loads items → AllLoads items
      → IsLasts ops new (j + 1)
  noted_as definers store output items same loads all = grind (arith, definers_noted)

  -- neither a load nor a store
  noted_apart : NotesDefiner (op_at ops j) old.definers new.definers j → is_store k ≡ false → is_load k ≡ false
      → new.store ≡ old.store → Last is_output (j + 1) new.output → new.loads.items ≡ old.loads.items
      → IsLasts ops new (j + 1)
  noted_apart definers no_store no_load same output loads =
      noted_as definers (stays is_store old.store new.store is.store no_store same) output old.loads.items loads
      (loads_stay no_store)
      (all_loads_stay no_load)

noted_by : (k : Kind) (ops : List Op) (j : ℕ) (old new : Lasts) → IsLasts ops old j → kind (op_at ops j) ≡ k
    → NotesDefiner (op_at ops j) old.definers new.definers j → NotesKind k old new j → IsLasts ops new (j + 1)
noted_by K.Load ops j old new is kind_is definers notes =
    noted_as ops j old new is K.Load kind_is definers
    (stays ops j old new is K.Load kind_is is_store old.store new.store is.store refl notes.0)
    (stays ops j old new is K.Load kind_is is_output old.output new.output is.output refl notes.1)
    (old.loads.items ++ j ∷ []) notes.2 (loads_more ops j old new is K.Load kind_is refl refl)
    (all_loads_more ops j old new is K.Load kind_is)
noted_by K.Store ops j old new is kind_is definers notes = grind (arith, comes, noted_as, stays)
noted_by K.Output ops j old new is kind_is definers notes = grind (arith, comes, noted_apart)
noted_by _ ops j old new is kind_is definers notes =
    noted_apart ops j old new is _ kind_is definers refl refl notes.0
    (stays ops j old new is _ kind_is is_output old.output new.output is.output refl notes.1) notes.2

pub noted : (ops : List Op) (j : ℕ) (old new : Lasts) → IsLasts ops old j
    → NotesDefiner (op_at ops j) old.definers new.definers j → NotesKind (kind (op_at ops j)) old new j
    → IsLasts ops new (j + 1)
noted ops j old new is definers notes = noted_by (kind (op_at ops j)) ops j old new is refl definers notes

same_kind : (k : Kind) (old mid : Lasts) (d : ByRegister) (j : ℕ) → NotesKind k old mid j
    → NotesKind k old (record mid { definers = d }) j
same_kind k old mid d j notes = grind arith

-- first its kind is noted, then what it defines
pub noted_in_turn : (ops : List Op) (j : ℕ) (old mid new : Lasts) (op : Op) (k : Kind) → IsLasts ops old j
    → op ≡ op_at ops j → k ≡ kind op → NotesKind k old mid j → mid.definers ≡ old.definers
    → new ≡ record mid { definers = new.definers } → NotesDefiner op mid.definers new.definers j → IsLasts ops new (j + 1)
noted_in_turn ops j old mid new op k is op_is kind_is notes same rest definers = grind (arith, noted, same_kind)
