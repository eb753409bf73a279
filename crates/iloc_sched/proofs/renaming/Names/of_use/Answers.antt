use Rattle.std.proofs.Common.{ℕ, ap, sym, ◌∙◌}
use Rattle.iloc_sched.proofs.Renamed.GivenNames.{use_named, use_new, name_had, name_next_given}
use Rattle.iloc_sched.proofs.renaming.Names.of_use.Goals as goal

pub returns-in-Some-clause-name : goal.returns-in-Some-clause-name
returns-in-Some-clause-name c = λ n sources now follows. (
  use_named n sources now _ _ c.args.register c.in-Some.name follows (sym c.get.ensures ∙ c.in-Some.is),
  ap (λ (number : ℕ). record { 0 = number }) (name_had n sources now _ _ c.args.register c.in-Some.name follows
      (sym c.get.ensures ∙ c.in-Some.is)),
)

pub returns-in_ok-give-in-None-clause-name : goal.returns-in_ok-give-in-None-clause-name
returns-in_ok-give-in-None-clause-name c = λ n sources now follows. (
  use_new n sources now _ _ _ _ c.args.register follows (sym c.get.ensures ∙ c.in-None.is)
      c.in_ok-give-in-None.ensures,
  ap (λ (number : ℕ). record { 0 = number })
      (name_next_given n sources now _ _ c.args.register follows (sym c.get.ensures ∙ c.in-None.is)),
)
