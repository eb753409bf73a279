use Rattle.iloc_row_commands.proofs.Common.{refl, inr, not_lawful}
use Rattle.iloc_timed.proofs.Standing.{numbered_from}
use Rattle.iloc_verdict.specs.Obstacle.{obstacle_told}
use Rattle.iloc_judge.proofs.OwnRows.{own_rows_are_free}
use Rattle.iloc_judge.specs.Obstacle.{IsObstacle}
use Rattle.iloc_row_commands.proofs.explain.explained.push_rows_explanation.Goals as goal

pub cycles_of-cycles-requires-clause-numbered : goal.cycles_of-cycles-requires-clause-numbered
cycles_of-cycles-requires-clause-numbered c =
    rw (c.ops.ensures, c.rows.ensures.rows)
    (numbered_from c.args.proposal.ops c.args.proposal.rows c.rows.ensures.in_range c.rows.ensures.once)

pub returns-in-Some : goal.returns-in-Some
returns-in-Some c =
    let p = c.args.proposal in
    let known = c.args.known.now in
    let obstacle = c.in-Some.obstacle in
    let hinders : IsObstacle p obstacle = rw c.in-Some.is at c.in_ok-obstacle.ensures in
    let line = obstacle_told p.ops p.rows obstacle in (
      not_lawful line,
      record {
        said = inr (
          refl,
          record {
            line = line;
            is_told = record { obstacle = obstacle; hinders = hinders; listed = refl };
            listed = refl;
          },
        );
        own = λ read same. absurd (own_rows_are_free known.latencies.now known.block.now.ops known.ours.now.ops
            known.ours.now.rows p obstacle known.greedy.lawful c.rows.ensures.in_range c.rows.ensures.once hinders read same);
        counted = rw (c.ops.ensures, c.rows.ensures.rows) at c.cycles_of-cycles.ensures;
      },
      c.in_ok-push_refused.ensures,
    )
