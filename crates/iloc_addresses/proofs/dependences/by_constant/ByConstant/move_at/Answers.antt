use Rattle.iloc_addresses.proofs.Common.{[], ◌++◌, FitsSigned, sym, ap, ◌∙◌, append-nil, w32, rules, to_z-of_z, option_map_or}
use Rattle.iloc_addresses.proofs.ByConstants.{removed_count}
use Rattle.iloc_addresses.proofs.dependences.by_constant.ByConstant.move_at.Goals as goal

pub returns-in_ok-append-clause-list : goal.returns-in_ok-append-clause-list
returns-in_ok-append-clause-list c =
    let fits : FitsSigned w32 c.args.constant = search rules in
    c.in_ok-append.ensures.items
    ∙ ap (λ o. c.args.list.now.items ++ option_map_or (λ v. v.items) o [])
    (rw (to_z-of_z w32 c.args.constant fits) at c.in-Some.ensures.value)

pub returns-in_ok-append-clause-count : goal.returns-in_ok-append-clause-count
returns-in_ok-append-clause-count c test =
    let fits : FitsSigned w32 c.args.constant = search rules in
    removed_count c.args.self.now.ops c.remove.new.self c.args.constant test
    (rw (to_z-of_z w32 c.args.constant fits) at c.remove.ensures.entries)

pub returns-in_default-clause-list : goal.returns-in_default-clause-list
returns-in_default-clause-list c =
    let fits : FitsSigned w32 c.args.constant = search rules in
    sym (ap (λ o. c.args.list.now.items ++ option_map_or (λ v. v.items) o [])
    (sym (rw (to_z-of_z w32 c.args.constant fits) at c.remove.ensures.value) ∙ c.in_default.is)
    ∙ append-nil c.args.list.now.items)

pub returns-in_default-clause-count : goal.returns-in_default-clause-count
returns-in_default-clause-count c test =
    let fits : FitsSigned w32 c.args.constant = search rules in
    removed_count c.args.self.now.ops c.remove.new.self c.args.constant test
    (rw (to_z-of_z w32 c.args.constant fits) at c.remove.ensures.entries)
