use Rattle.std.proofs.Common.{◌≡◌, ◌<◌, ◌≤◌, [], length, FitsSigned, w32, rules}
use Rattle.std.proofs.lemmas.Int.{to_z-of_z}
use Rattle.std.proofs.lemmas.List.{nil_from_length}
use Rattle.iloc_meaning.proofs.RegisterValues.{set_in_longer, set_in_others}
use Rattle.iloc_meaning.proofs.registers.set_apart.Goals as goal

pub returns-then-place-ge-TABLED-clause-ok : goal.returns-then-place-ge-TABLED-clause-ok
returns-then-place-ge-TABLED-clause-ok c =
    let fits : FitsSigned w32 c.args.value = search rules in
    let beyond : length c.args.table.now.items ≤ c.args.register.0 = search rules in
    set_in_others c.args.table.now.items _ _ _ _ beyond
    (rw (to_z-of_z w32 c.args.value fits) at c.in_ok-insert.ensures.updates.1) c.in_ok-insert.ensures.updates.2

pub returns-clause-ok : goal.returns-clause-ok
returns-clause-ok c =
    let fits : FitsSigned w32 c.args.value = search rules in
    let count : length c.args.others.now.entries ≡ 0 = search rules in
    let none : c.args.others.now.entries ≡ [] = nil_from_length _ count in
    let below : c.args.register.0 < length c.resize.new.self.items = search rules in
    rw (to_z-of_z w32 c.args.value fits)
    (set_in_longer c.args.table.now.items c.resize.new.self.items c.args.others.now.entries _ _ c.args.register c.args.value
    none c.in_ok-resize.ensures.items (search rules) below)
