use Rattle.iloc_verdict.proofs.Common.{◌≡◌, not, ◌&&◌, Some, None, Option, find, refl, is_some_kind, kind_in}
use Rattle.std.specs.Option.{is_some}
use Rattle.iloc_timed.specs.declared.kind.Kind.{Kind}
use Rattle.iloc_timed.specs.declared.kind.Kind.TheVariants as K
use Rattle.iloc_timed.specs.Units.{needs_zero, needs_one, stands_alone}
use Rattle.iloc_verdict.specs.UnitRule.{breaks, unit_rules}
use Rattle.iloc_verdict.proofs.laws.bad_rows_break_a_rule.Goals as goal

of_kinds : (zero one : Option Kind) → is_some (find (breaks zero one) unit_rules)
    ≡ not (not (is_some_kind needs_one zero) && not (is_some_kind needs_zero one)
    && not (is_some_kind stands_alone zero && is_some_kind stands_alone one))
of_kinds (Some K.Load) None = refl
of_kinds _ (Some K.Load) = refl
of_kinds _ _ = refl

pub returns : goal.returns
returns c = λ ops row. of_kinds (kind_in ops row.zero) (kind_in ops row.one)
