use Rattle.iloc_judge.proofs.Common.{refl, entry_as}
use Rattle.iloc_verdict.specs.declared.verdict.Verdict.TheVariants.{Refused}
use Rattle.iloc_judge.proofs.Counted.{among}
use Rattle.iloc_judge.proofs.OwnRows.{own_rows_are_free}
use Rattle.iloc_judge.proofs.checked.push_refused.Goals as goal

pub push_entry-requires : goal.push_entry-requires
push_entry-requires c = rw c.rows-rows.ensures.rows (among _ _ c.args.obstacle c.requires.hinders.hinders)

pub returns-clause-entry : goal.returns-clause-entry
returns-clause-entry c =
    let p = c.args.proposal.now in
    let task = c.args.task.now in
    let options = c.args.judging.now.options in
    let verdict = Refused c.args.obstacle c.in_ok-changes.changes in (
      entry_as options p.ops p.rows verdict c.new-origins.result.items c.found-checked.result,
      record {
        verdict = verdict;
        first = c.requires.hinders.first;
        right = (c.requires.hinders.hinders, rw (c.ops-ops.ensures, c.rows-rows.ensures.rows) at c.in_ok-changes.ensures);
        own = λ read same. absurd (own_rows_are_free task.latencies.now task.block.now.ops task.ours.now.ops task.ours.now.rows
            p c.args.obstacle task.lawful c.rows-rows.ensures.in_range c.rows-rows.ensures.once c.requires.hinders read same);
        origins = c.new-origins.result.items;
        are_origins = λ json. rw c.new-origins.ensures.items refl;
        is_found = rw (c.found-checked.ensures, c.kind_of.ensures, c.in_ok-keeps_operations.ensures) refl;
        listed = refl;
      },
      rw (c.ops-ops.ensures, c.rows-rows.ensures.rows) at c.in_ok-push_entry.ensures,
    )
