use Rattle.std.proofs.Common.{refl}
use Rattle.iloc_args.proofs.Commands.{set_shape}
use Rattle.iloc_args.proofs.command.bare_command.Goals as goal

pub returns : goal.returns
returns c =
    let told = set_shape (λ s. s) _ _ c.about.result _ (record { app = c.new.ensures.app; globals = c.new.ensures.local })
    c.about.ensures refl refl in
    set_shape (λ s. s) _ _ c.override_usage.result _ told c.override_usage.ensures refl refl
