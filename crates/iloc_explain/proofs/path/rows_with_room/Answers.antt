use Rattle.iloc_explain.proofs.Common.{◌≡◌, ◌-◌, ◌<◌, None, sym, ◌∙◌, subst, inl, inr, arith, cases_eq, one_known, zero_known, row_at}
use Rattle.iloc_explain.specs.Holding.{keeper}
use Rattle.iloc_explain.proofs.Stretches.{is_none_from}
use Rattle.iloc_explain.proofs.path.rows_with_room.Goals as goal

pub keeper-requires-clause-zero : goal.keeper-requires-clause-zero
keeper-requires-clause-zero c =
    rw (c.rows-rows.ensures.rows, c.ops-ops.ensures.ops) (zero_known _ _ (c.loop-first.first - 1) c.ops-ops.ensures.table)

pub keeper-requires-clause-one : goal.keeper-requires-clause-one
keeper-requires-clause-one c =
    rw (c.rows-rows.ensures.rows, c.ops-ops.ensures.ops) (one_known _ _ (c.loop-first.first - 1) c.ops-ops.ensures.table)

pub loop-first-preserved : goal.loop-first-preserved
loop-first-preserved c =
    let more : c.args.ready < c.loop-first.first = c.loop-first-test.true in
    let there : keeper c.args.schedule.now.ops (row_at c.args.schedule.now.rows (c.loop-first.first - 1)) c.args.j ≡ None =
    rw (c.rows-rows.ensures.rows, c.ops-ops.ensures.ops) at
    (sym c.keeper.ensures ∙ is_none_from c.keeper.result c.is_none.result c.is_none.ensures c.if-is_none.true) in
    record {
      after = omega arith;
      before = omega arith;
      room = λ b low high. elim (cases_eq b (c.loop-first.first - 1)) [
        | inl same ↦
            subst (λ n. keeper c.args.schedule.now.ops (row_at c.args.schedule.now.rows n) c.args.j ≡ None) (sym same) there
        | inr apart ↦ c.loop-first.invariant.room b (omega arith) high
      ];
    }
