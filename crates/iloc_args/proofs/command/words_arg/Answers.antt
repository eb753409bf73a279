use Rattle.iloc_args.proofs.Common.{◌≡◌, pos, Some, codes, refl, rules, usize_max, new_rule, Signed, HasRule}
use Rattle.clap.specs.declared.builder.action.ArgAction.TheVariants.{Append}
use Rattle.iloc_args.proofs.Arguments.{words}
use Rattle.iloc_args.proofs.Commands.{set_rule}
use Rattle.iloc_args.proofs.command.words_arg.Goals as goal

pub returns : goal.returns
returns c =
    let many : c.num_args.result.num_vals ≡ Some (record { start_inclusive = 0; end_inclusive = usize_max })
    = search rules in
    let each : c.value_parser-2.result.value_parser ≡ Some (Signed (pos 0) (pos 4294967295)) = search rules in
    let fresh : HasRule (new_rule (codes "words")) c.new.result
    = record { rule = c.new.ensures.rule; global = c.new.ensures.optional.1 } in
    let named = set_rule (λ r. record r { value_names = 1 }) _ _ c.value_name.result _ fresh c.value_name.ensures refl
    refl in
    let told = set_rule (λ r. r) _ _ c.help.result _ named c.help.ensures refl refl in
    let counted = set_rule (λ r. record r { range = c.num_args.result.num_vals }) _ _ c.num_args.result _ told
    c.num_args.ensures.0 refl refl in
    let appended = set_rule (λ r. record r { action = Some Append }) _ _ c.action.result _ counted c.action.ensures refl
    refl in
    words _ _ _ many each (set_rule (λ r. record r { parser = c.value_parser-2.result.value_parser }) _ _
    c.value_parser-2.result _ appended c.value_parser-2.ensures.others refl refl)
