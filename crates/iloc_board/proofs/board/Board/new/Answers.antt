use Rattle.std.proofs.Common.{ap, ◌∙◌, ◌≡◌, ◌+◌, suc, arith, replicate}
use Rattle.iloc_board.proofs.Keeps as keeps
use Rattle.iloc_board.proofs.board.Board.new.Goals as goal

pub of_words-requires : goal.of_words-requires
of_words-requires g c =
    let next : c.count-count.result + 1 ≡ suc c.count-count.result = omega arith in
    keeps.begins c.count-count.result _ (c.as_slice.ensures.value
    ∙ (c.in_ok-words.ensures.items_if_clones_equal (λ y e. e) ∙ ap (λ n. replicate n 0) next))
