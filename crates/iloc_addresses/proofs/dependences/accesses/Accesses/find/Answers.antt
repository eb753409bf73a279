use Rattle.iloc_addresses.proofs.Common.{◌≡◌, ◌+◌, [], FitsSigned, count_by, sym, refl, ap, ◌∙◌, subst, w32, rules, to_z-of_z, on_ok_weaker, Moves, count_in, ops_at, constant_of}
use Rattle.iloc_addresses.proofs.Accessed.{finds_own, finds_others, own_taken}
use Rattle.iloc_addresses.proofs.dependences.accesses.Accesses.find.Goals as goal
use Rattle.iloc_addresses.proofs.dependences.accesses.Accesses.find.Goals.{then-have_one_base+in_ok-move_at, else-have_one_base+in_ok-move_all}

pub returns-clause-finds : goal.returns-clause-finds
returns-clause-finds c =
    let old = c.args.self.now in
    let list = c.args.found.now.items in
    elim c.if-have_one_base.branch [
      | then-have_one_base+in_ok-move_at w ↦
          let fits : FitsSigned w32 w.constant_of.result = search rules in
          let same = to_z-of_z w32 w.constant_of.result fits in
          let constant = w.constant_of.ensures.constant in
          on_ok_weaker c.find_recent.result (λ finds.
          finds_own old _ c.find_recent.new.self c.args.address list c.if-have_one_base.found.items
          c.find_recent.new.found.items refl (ap (λ s. s.recent) w.self-is) finds
          (sym c.have_one_base.ensures ∙ w.if-have_one_base.true)
          (ap (λ v. v.items) w.found-is ∙ (rw (same, constant) at w.in_ok-move_at.ensures.list))
          (λ q. ap (λ s. ops_at s.kept q) w.self-is ∙ (rw (same, constant) at (w.in_ok-move_at.ensures.ops q)))
          (λ test.
          ap (λ s. count_by test (ops_at old.kept (constant_of c.args.address)) + count_in test s.kept) w.self-is
          ∙ (rw (same, constant) at (w.in_ok-move_at.ensures.count test)))) c.find_recent.ensures.finds
      | else-have_one_base+in_ok-move_all w ↦
          on_ok_weaker c.find_recent.result (λ finds.
          finds_others old _ c.find_recent.new.self c.args.address list c.if-have_one_base.found.items
          c.find_recent.new.found.items refl (ap (λ s. s.recent) w.self-is) finds
          (sym c.have_one_base.ensures ∙ w.if-have_one_base.false)
          (subst (λ k. Moves old.kept k list c.if-have_one_base.found.items) (sym (ap (λ s. s.kept) w.self-is))
          (subst (λ xs. Moves old.kept w.move_all.new.self list xs) (sym (ap (λ v. v.items) w.found-is))
          w.in_ok-move_all.ensures.moves))
          (λ q. ap (λ s. ops_at s.kept q) w.self-is ∙ w.in_ok-move_all.ensures.ops q)) c.find_recent.ensures.finds
    ]

pub returns-clause-far : goal.returns-clause-far
returns-clause-far c =
    let none : ops_at c.if-have_one_base.self.kept (constant_of c.args.address) ≡ [] = elim c.if-have_one_base.branch [
      | then-have_one_base+in_ok-move_at w ↦
          let fits : FitsSigned w32 w.constant_of.result = search rules in
          ap (λ s. ops_at s.kept (constant_of c.args.address)) w.self-is
          ∙ own_taken (constant_of c.args.address) _ _
          (rw (to_z-of_z w32 w.constant_of.result fits, w.constant_of.ensures.constant) at (w.in_ok-move_at.ensures.ops (constant_of c.args.address)))
      | else-have_one_base+in_ok-move_all w ↦
          ap (λ s. ops_at s.kept (constant_of c.args.address)) w.self-is
          ∙ w.in_ok-move_all.ensures.ops (constant_of c.args.address)
    ] in
    on_ok_weaker c.find_recent.result (λ far. far none) c.find_recent.ensures.far
