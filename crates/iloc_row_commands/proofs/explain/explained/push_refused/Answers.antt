use Rattle.iloc_row_commands.proofs.Common.{◌++◌, codes, ap, ◌∙◌, append_assoc, on_ok_weaker}
use Rattle.iloc_verdict.specs.Obstacle.{obstacle_told}
use Rattle.iloc_judge.proofs.Counted.{among}
use Rattle.iloc_row_commands.proofs.explain.explained.push_refused.Goals as goal

pub push_obstacle-requires : goal.push_obstacle-requires
push_obstacle-requires c = rw c.rows.ensures.rows (among _ _ c.args.obstacle.now c.requires.hinders)

pub returns : goal.returns
returns c =
    let line = obstacle_told c.args.proposal.now.ops c.args.proposal.now.rows c.args.obstacle.now in
    on_ok_weaker c.push_obstacle.result (λ pushed. (rw (c.ops.ensures, c.rows.ensures.rows) at pushed)
    ∙ (ap (λ text. text ++ line) c.in_ok-extend_from_slice.ensures.items
    ∙ append_assoc c.args.text.now.items (codes "  not lawful\n") line)) c.push_obstacle.ensures
