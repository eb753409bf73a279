use Rattle.std.proofs.Common.{refl, true}
use Rattle.iloc_args.proofs.Commands.{set_flag, set_shape}
use Rattle.iloc_args.proofs.command.top_command.Goals as goal

pub returns : goal.returns
returns c =
    let named = set_shape (λ s. s) _ _ c.in_ok-bin_name.field-0 _ c.bare_command.ensures c.in_ok-bin_name.ensures.0 refl
    refl in
    let without = set_flag (λ x. record x { no_binary_name = true }) (λ s. record s { no_binary_name = true }) _ _
    c.no_binary_name.result named c.no_binary_name.ensures (λ _. refl) (λ _. refl) in
    let asking = set_flag (λ x. record x { subcommand_required = true }) (λ s. record s { subcommand_required = true })
    _ _ c.subcommand_required.result without c.subcommand_required.ensures (λ _. refl) (λ _. refl) in
    let versioned = set_shape (λ s. record s { has_version = true }) _ _ c.version.result _ asking c.version.ensures refl
    refl in
    set_shape (λ s. s) _ _ c.after_help.result _ versioned c.after_help.ensures refl refl
