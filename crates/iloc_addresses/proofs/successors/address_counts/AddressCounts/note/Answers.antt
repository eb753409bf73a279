use Rattle.iloc_addresses.proofs.Common.{◌+◌, FitsSigned, refl, subst, w32, rules, to_z-of_z, IsShort}
use Rattle.iloc_addresses.specs.declared.successors.address_counts.AddressCounts.{AddressCounts}
use Rattle.iloc_addresses.proofs.AddressesCounted.{near_more, nested_more}
use Rattle.iloc_addresses.proofs.successors.address_counts.AddressCounts.note.Goals as goal

pub returns-clause-near : goal.returns-clause-near
returns-clause-near c =
    let constant = c.constant_of-constant.result in
    let new : AddressCounts = record {
      all = c.args.self.now.all + 1;
      by_base = c.insert.new.self;
      by_word = c.insert-2.new.self;
    } in
    let fits : FitsSigned w32 constant = search rules in
    let same = to_z-of_z w32 constant fits in
    near_more c.args.self.now new c.args.address c.base_of-base.result constant c.with_base-with_base.result
    c.with_both-with_both.result c.requires.nested c.base_of-base.ensures c.constant_of-constant.ensures.constant
    c.with_base-with_base.ensures (rw same at c.with_both-with_both.ensures) refl c.in_ok-insert.ensures.updates.0
    (λ q. rw same at (c.in_ok-insert-2.ensures.updates.0 q))
    (subst IsShort c.constant_of-constant.ensures.constant c.constant_of-constant.ensures.short)

pub returns-clause-nested : goal.returns-clause-nested
returns-clause-nested c =
    let constant = c.constant_of-constant.result in
    let new : AddressCounts = record {
      all = c.args.self.now.all + 1;
      by_base = c.insert.new.self;
      by_word = c.insert-2.new.self;
    } in
    let fits : FitsSigned w32 constant = search rules in
    let same = to_z-of_z w32 constant fits in
    nested_more c.args.self.now new c.args.address c.base_of-base.result constant c.with_base-with_base.result
    c.with_both-with_both.result c.requires.nested c.base_of-base.ensures c.constant_of-constant.ensures.constant
    c.with_base-with_base.ensures (rw same at c.with_both-with_both.ensures) refl c.in_ok-insert.ensures.updates.0
    (λ q. rw same at (c.in_ok-insert-2.ensures.updates.0 q))
