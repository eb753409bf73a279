use Rattle.iloc_addresses.proofs.Common.{◌≡◌, [], ◌∷◌, ◌++◌, FitsSigned, ap, ◌∙◌, w32, rules, to_z-of_z, option_map_or}
use Rattle.iloc_addresses.proofs.ByConstants.{at, put_count, removed_count, inserted_count, taken_items}
use Rattle.iloc_addresses.proofs.dependences.by_constant.ByConstant.put.Goals as goal

pub returns-clause-count : goal.returns-clause-count
returns-clause-count c test =
    let fits : FitsSigned w32 c.args.constant = search rules in
    let same = to_z-of_z w32 c.args.constant fits in
    let more : c.push.new.self.items ≡ at c.args.self.now.ops c.args.constant ++ c.args.i ∷ [] =
    c.in_ok-push.ensures.items
    ∙ ap (λ xs. xs ++ c.args.i ∷ []) (ap (λ v. v.items) c.unwrap_or-ops.ensures
    ∙ taken_items c.remove.result c.new.result c.new.ensures.items
    ∙ ap (λ o. option_map_or (λ v. v.items) o []) (rw same at c.remove.ensures.value)) in
    put_count c.args.self.now.ops c.remove.new.self c.insert.new.self c.args.constant c.push.new.self c.args.i test more
    (removed_count c.args.self.now.ops c.remove.new.self c.args.constant test (rw same at c.remove.ensures.entries))
    (inserted_count c.remove.new.self c.insert.new.self c.args.constant c.push.new.self test c.remove.ensures.ordered
    (rw same at c.remove.ensures.updates.1) (rw same at c.in_ok-insert.ensures.entries))
