use Rattle.iloc_addresses.proofs.Common.{◌≡◌, ◌||◌, ◌==◌, not, true, false, length, ℤ, OnOk, FitsSigned, Some, None, int_cmp, int_eq, refl, subst, arith, w32, rules, to_z-of_z, slice_get, get}
use Rattle.std.proofs.Common.{of_z, to_z}
use Rattle.std.proofs.lemmas.Option.{slice_get_past, slice_get_read}
use Rattle.iloc_addresses.proofs.LastByConstants.{noted_beside, noted_in, noted_past, others_in}
use Rattle.iloc_addresses.proofs.Taken.{of_both}
use Rattle.iloc_addresses.specs.Steps.LastByConstant.{place_of}
use Rattle.iloc_addresses.specs.declared.dependences.last_by_constant.Slot.{Slot}
use Rattle.iloc_addresses.proofs.dependences.last_by_constant.LastByConstant.note.Goals as goal

pub returns-then-place-len : goal.returns-then-place-len
returns-then-place-len c =
    let old = c.args.self.now in
    let new = c.note_other.new.self in
    let fits : FitsSigned w32 c.args.constant = search rules in
    let same = to_z-of_z w32 c.args.constant fits in
    let place : c.place_of-place.result ≡ place_of c.args.constant = cc (c.place_of-place.ensures, same) in
    let read : slice_get old.slots.items c.place_of-place.result ≡ None =
    slice_get_past old.slots.items c.place_of-place.result (omega (arith, c.len.ensures, old.slots.ok.0)) in
    let noted = subst (λ q. OnOk c.note_other.result (get int_cmp new.others q ≡ Some c.args.j)) same
    c.note_other.ensures.noted in
    let rest = subst (λ q. OnOk c.note_other.result ((d : ℤ) → int_eq q d ≡ false
    → get int_cmp new.others d ≡ get int_cmp old.others d)) same c.note_other.ensures.rest in
    of_both c.note_other.result (λ noted rest. noted_past old new c.args.constant c.args.j c.note_other.ensures.slots
    c.note_other.ensures.turn noted rest (subst (λ n. slice_get old.slots.items n ≡ None) place read)) noted rest

pub returns-then-not-is_free : goal.returns-then-not-is_free
returns-then-not-is_free c =
    let old = c.args.self.now in
    let new = c.note_other-then-not-is_free.new.self in
    let slot = c.index.result.now in
    let fits : FitsSigned w32 c.args.constant = search rules in
    let same = to_z-of_z w32 c.args.constant fits in
    let place : c.place_of-place.result ≡ place_of c.args.constant = cc (c.place_of-place.ensures, same) in
    let read : slice_get old.slots.items c.place_of-place.result ≡ Some slot =
    slice_get_read old.slots.items (length old.slots.items) c.place_of-place.result slot refl
    (omega (arith, c.len.ensures, old.slots.ok.0)) c.index.ensures in
    let taken : (not (slot.turn == old.turn) || int_eq slot.constant c.args.constant) ≡ false =
    cc (c.is_free.ensures, c.if-not-is_free.true, same) in
    let noted = subst (λ q. OnOk c.note_other-then-not-is_free.result (get int_cmp new.others q ≡ Some c.args.j)) same
    c.note_other-then-not-is_free.ensures.noted in
    let rest = subst (λ q. OnOk c.note_other-then-not-is_free.result ((d : ℤ) → int_eq q d ≡ false
    → get int_cmp new.others d ≡ get int_cmp old.others d)) same c.note_other-then-not-is_free.ensures.rest in
    of_both c.note_other-then-not-is_free.result (λ noted rest. noted_beside old new c.args.constant c.args.j
    c.note_other-then-not-is_free.ensures.slots c.note_other-then-not-is_free.ensures.turn noted rest slot
    (subst (λ n. slice_get old.slots.items n ≡ Some slot) place read) taken) noted rest

pub returns : goal.returns
returns c =
    let old = c.args.self.now in
    let slot = c.index.result.now in
    let fits : FitsSigned w32 c.args.constant = search rules in
    let same = to_z-of_z w32 c.args.constant fits in
    let place : c.place_of-place.result ≡ place_of c.args.constant = cc (c.place_of-place.ensures, same) in
    let read : slice_get old.slots.items c.place_of-place.result ≡ Some slot =
    slice_get_read old.slots.items (length old.slots.items) c.place_of-place.result slot refl
    (omega (arith, c.len.ensures, old.slots.ok.0)) c.index.ensures in
    let may : (not (slot.turn == old.turn) || int_eq slot.constant c.args.constant) ≡ true =
    cc (c.is_free.ensures, c.if-not-is_free.false, same) in
    let noted : Slot = record { turn = old.turn; constant = to_z w32 (of_z w32 c.args.constant); op = c.args.j } in
    record {
      changed = noted_in old c.args.constant c.args.j c.place_of-place.result slot noted place refl same refl read may;
      others = others_in old c.args.constant c.args.j c.place_of-place.result slot noted place refl same refl read may;
    }
