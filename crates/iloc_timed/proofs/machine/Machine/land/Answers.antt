use Rattle.std.proofs.Common.{◌≡◌, length, rules, sym, ◌∙◌}
use Rattle.std.proofs.lemmas.List.{nil_from_length}
use Rattle.iloc_timed.proofs.Following.{after_empty_list}
use Rattle.iloc_timed.proofs.machine.Machine.land.Goals as goal

pub returns-then-is_empty-clause-follows : goal.returns-then-is_empty-clause-follows
returns-then-is_empty-clause-follows c =
    let none : length c.due.result.now ≡ 0 = search rules in
    λ memory log follows. after_empty_list memory c.args.cycle log c.args.self.now
    (sym c.due.ensures.due ∙ nil_from_length _ none) follows
