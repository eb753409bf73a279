use Rattle.iloc_judge.proofs.Common.{sym, refl, ◌∙◌, entry_as, Checked}
use Rattle.iloc_judge.specs.Obstacle.{IsReadable}
use Rattle.iloc_judge.proofs.Counted.{verdict_listed}
use Rattle.iloc_judge.proofs.checked.push_check.Goals as goal

pub push_entry-requires : goal.push_entry-requires
push_entry-requires c =
    let task = c.args.task.now in
    rw c.rows.ensures.rows
    (verdict_listed c.args.judging.now.options.outputs_alone task.latencies.now c.args.judging.now.memory.now task.block.now.ops
    c.into_schedule-theirs.result.ops c.into_schedule-theirs.result.rows c.in_ok-judgement.judgement.verdict task.few c.rows.ensures.few
    c.in_ok-judgement.ensures.right)

pub returns-clause-entry : goal.returns-clause-entry
returns-clause-entry c =
    let p = c.args.proposal in
    let readable : IsReadable p = rw c.in_default.is at c.in_ok-obstacle.ensures in
    let options = c.args.judging.now.options in
    let ops = c.into_schedule-theirs.ensures.ops in
    let rows = c.into_schedule-theirs.ensures.rows in
    let judgement = c.in_ok-judgement.judgement in
    let checked : Checked = record c.found-found.result { kind = c.kind_of.result } in (
      entry_as options p.ops p.rows judgement.verdict judgement.origins.items checked,
      record {
        verdict = judgement.verdict;
        first = readable.read ∙ sym c.in_ok-judgement.ensures.read;
        right = rw (ops, rows) at c.in_ok-judgement.ensures.right;
        own = λ read. rw (ops, rows) at c.in_ok-judgement.ensures.own;
        origins = judgement.origins.items;
        are_origins = rw (ops, rows) at c.in_ok-judgement.ensures.origins;
        is_found = rw (c.kind_of.ensures, c.found-found.ensures, c.in_ok-keeps_operations.ensures) refl;
        listed = refl;
      },
      rw (c.ops.ensures.ops, c.rows.ensures.rows, ops, rows) at c.in_ok-push_entry.ensures,
    )
