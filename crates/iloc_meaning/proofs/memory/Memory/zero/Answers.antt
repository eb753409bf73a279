use Rattle.iloc_meaning.specs.Memory.{zeros}
use Rattle.iloc_meaning.proofs.memory.Memory.zero.Goals as goal

pub returns-clause-zeros : goal.returns-clause-zeros
unfolding zeros
returns-clause-zeros c = c.in_ok-vec.ensures.items_if_clones_equal (λ _ is_clone. is_clone)
