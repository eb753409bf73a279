use Rattle.iloc_addresses.proofs.Common.{◌≡◌, ◌+◌, true, ◌++◌, length, Some, None, count_by, option_to_list, sym, refl, ap, ◌∙◌, subst, arith, length-append, on_ok_weaker, op_at, is_output, is_store, kind, address_at, known_before, Finds, IsLast, IsStoreAt, waiting_by}
use Rattle.iloc_timed.specs.declared.kind.Kind.TheVariants as K
use Rattle.iloc_addresses.proofs.LastOnes.{last_here, last_before}
use Rattle.iloc_addresses.proofs.Sources.{sources_of_load, sources_of_output, sources_of_store, short_option, all_counted}
use Rattle.iloc_addresses.proofs.Taken.{of_both, no_address, other_before, read_before, store_before}
use Rattle.iloc_addresses.proofs.Waited.{reads, contradiction}
use Rattle.iloc_addresses.proofs.dependences.MemoryDependences.fill.Goals as goal

pub returns-in_default-clause-before : goal.returns-in_default-clause-before
returns-in_default-clause-before c ops next before =
    let none : address_at ops c.args.j ≡ None = sym next.address_is ∙ c.in_default.is in
    let neither = no_address (op_at ops c.args.j) (known_before ops c.args.j) none in
    other_before ops c.args.j c.args.self.now before neither.0 neither.1

pub returns-in_ok-push_some-in-Load-clause-sources : goal.returns-in_ok-push_some-in-Load-clause-sources
returns-in_ok-push_some-in-Load-clause-sources c = on_ok_weaker c.note.result (λ more ops next before.
    let address = c.in-Some.address in
    sources_of_load ops c.args.j K.Load address (sym next.kind_is ∙ c.in-Load.is) (sym next.address_is ∙ c.in-Some.is)
    c.last_for.result
    (subst (IsLast (IsStoreAt ops (Some address)) c.args.j) (sym c.last_for.ensures.last)
    (before.stores address c.last_for.ensures.short)) refl refl c.push_some.new.ops.items refl
    (c.in_ok-push_some-in-Load.ensures ∙ ap (λ xs. xs ++ option_to_list c.last_for.result) c.clear.ensures.items))
    c.note.ensures.more

pub returns-in_ok-push_some-in-Load-clause-before : goal.returns-in_ok-push_some-in-Load-clause-before
returns-in_ok-push_some-in-Load-clause-before c = of_both c.note.result (λ placed more ops next before.
    let is : kind (op_at ops c.args.j) ≡ K.Load = sym next.kind_is ∙ c.in-Load.is in
    read_before ops c.args.j c.args.self.now before _ (ap reads is) refl
    (last_before (λ i. is_output (kind (op_at ops i)) ≡ true) c.args.j c.args.self.now.output
    (λ holds. contradiction holds (ap is_output is)) before.output)
    (placed (address_at ops) (sym next.address_is ∙ c.in-Some.is) c.last_for.ensures.short before.placed) more)
    c.note.ensures.placed c.note.ensures.more

pub returns-in_ok-push_some-in-Load-clause-few : goal.returns-in_ok-push_some-in-Load-clause-few
returns-in_ok-push_some-in-Load-clause-few c = on_ok_weaker c.note.result (λ more.
    let list : c.push_some.new.ops.items ≡ option_to_list c.last_for.result =
    c.in_ok-push_some-in-Load.ensures ∙ ap (λ xs. xs ++ option_to_list c.last_for.result) c.clear.ensures.items in
    omega (arith, ap length list, short_option c.last_for.result, more (λ i. true))) c.note.ensures.more

pub returns-in_ok-push_some-in-Output-2-clause-sources : goal.returns-in_ok-push_some-in-Output-2-clause-sources
returns-in_ok-push_some-in-Output-2-clause-sources c = on_ok_weaker c.note-in-Output.result (λ more ops next before.
    let address = c.in-Some.address in
    sources_of_output ops c.args.j K.Output address (sym next.kind_is ∙ c.in-Output.is) (sym next.address_is ∙ c.in-Some.is)
    c.last_for-in-Output.result
    (subst (IsLast (IsStoreAt ops (Some address)) c.args.j) (sym c.last_for-in-Output.ensures.last)
    (before.stores address c.last_for-in-Output.ensures.short)) refl refl c.args.self.now.output before.output refl
    c.push_some-in-Output-2.new.ops.items
    (c.in_ok-push_some-in-Output-2.ensures ∙ ap (λ xs. xs ++ option_to_list c.args.self.now.output)
    (c.in_ok-push_some-in-Output.ensures ∙ ap (λ xs. xs ++ option_to_list c.last_for-in-Output.result) c.clear.ensures.items)))
    c.note-in-Output.ensures.more

pub returns-in_ok-push_some-in-Output-2-clause-before : goal.returns-in_ok-push_some-in-Output-2-clause-before
returns-in_ok-push_some-in-Output-2-clause-before c = of_both c.note-in-Output.result (λ placed more ops next before.
    let is : kind (op_at ops c.args.j) ≡ K.Output = sym next.kind_is ∙ c.in-Output.is in
    read_before ops c.args.j c.args.self.now before _ (ap reads is) refl
    (last_here (λ i. is_output (kind (op_at ops i)) ≡ true) c.args.j (ap is_output is))
    (placed (address_at ops) (sym next.address_is ∙ c.in-Some.is) c.last_for-in-Output.ensures.short before.placed) more)
    c.note-in-Output.ensures.placed c.note-in-Output.ensures.more

pub returns-in_ok-push_some-in-Output-2-clause-few : goal.returns-in_ok-push_some-in-Output-2-clause-few
returns-in_ok-push_some-in-Output-2-clause-few c = on_ok_weaker c.note-in-Output.result (λ more.
    let list : c.push_some-in-Output-2.new.ops.items
    ≡ option_to_list c.last_for-in-Output.result ++ option_to_list c.args.self.now.output =
    c.in_ok-push_some-in-Output-2.ensures ∙ ap (λ xs. xs ++ option_to_list c.args.self.now.output)
    (c.in_ok-push_some-in-Output.ensures ∙ ap (λ xs. xs ++ option_to_list c.last_for-in-Output.result) c.clear.ensures.items) in
    omega (
      arith,
      ap length list,
      length-append (option_to_list c.last_for-in-Output.result) (option_to_list c.args.self.now.output),
      short_option c.last_for-in-Output.result,
      short_option c.args.self.now.output,
      more (λ i. true),
    )) c.note-in-Output.ensures.more

pub returns-in_ok-find-in-Store-clause-sources : goal.returns-in_ok-find-in-Store-clause-sources
returns-in_ok-find-in-Store-clause-sources c = on_ok_weaker c.note-in-Store.result (λ last ops next before.
    let address = c.in-Some.address in
    let first : c.push_some-in-Store.new.ops.items ≡ option_to_list c.last.result =
    c.in_ok-push_some-in-Store.ensures ∙ ap (λ xs. xs ++ option_to_list c.last.result) c.clear.ensures.items in
    sources_of_store ops c.args.j K.Store address (sym next.kind_is ∙ c.in-Store.is) (sym next.address_is ∙ c.in-Some.is) refl
    c.last.result
    (subst (IsLast (λ i. is_store (kind (op_at ops i)) ≡ true) c.args.j) (sym c.last.ensures) before.last)
    c.args.self.now.accesses c.find.new.self c.find.new.found.items
    (subst (λ xs. Finds address c.args.self.now.accesses c.find.new.self xs c.find.new.found.items) first
    c.in_ok-find-in-Store.ensures.finds)
    c.in_ok-find-in-Store.ensures.far c.note-in-Store.ensures.short before.placed before.waiting before.all before.once)
    c.note-in-Store.ensures.last

pub returns-in_ok-find-in-Store-clause-before : goal.returns-in_ok-find-in-Store-clause-before
returns-in_ok-find-in-Store-clause-before c = of_both c.note-in-Store.result (λ last stores ops next before.
    let is : kind (op_at ops c.args.j) ≡ K.Store = sym next.kind_is ∙ c.in-Store.is in
    store_before ops c.args.j c.args.self.now before _ c.in-Some.address c.push_some-in-Store.new.ops.items
    c.find.new.found.items (ap is_store is) (sym next.address_is ∙ c.in-Some.is) c.note-in-Store.ensures.short last stores refl
    c.in_ok-find-in-Store.ensures.finds c.in_ok-find-in-Store.ensures.far) c.note-in-Store.ensures.last
    c.note-in-Store.ensures.stores

pub returns-in_ok-find-in-Store-clause-few : goal.returns-in_ok-find-in-Store-clause-few
returns-in_ok-find-in-Store-clause-few c = on_ok_weaker c.note-in-Store.result (λ last.
    let finds = c.in_ok-find-in-Store.ensures.finds in
    let first : c.push_some-in-Store.new.ops.items ≡ option_to_list c.last.result =
    c.in_ok-push_some-in-Store.ensures ∙ ap (λ xs. xs ++ option_to_list c.last.result) c.clear.ensures.items in
    let sum : count_by (λ i. true) finds.moved + waiting_by (λ i. true) c.find.new.self
    ≡ waiting_by (λ i. true) c.args.self.now.accesses = finds.count (λ i. true) in
    omega (
      arith,
      ap length finds.behind,
      ap length first,
      length-append c.push_some-in-Store.new.ops.items finds.moved,
      short_option c.last.result,
      all_counted finds.moved,
    )) c.note-in-Store.ensures.last
