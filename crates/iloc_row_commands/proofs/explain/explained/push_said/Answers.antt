use Rattle.iloc_row_commands.proofs.Common.{refl, ◌∙◌, inl, append_assoc, reasons_told, not_lawful}
use Rattle.iloc_validation.proofs.Outcomes.{own_lawful}
use Rattle.iloc_row_commands.proofs.explain.explained.push_said.Goals as goal

pub own_rows-requires-clause-right : goal.own_rows-requires-clause-right
own_rows-requires-clause-right c = (c.args.known.now.latencies.now, rw c.in-Lawful.is at c.in_ok-pairing.ensures.right)

pub push_own-requires-clause-names : goal.push_own-requires-clause-names
push_own-requires-clause-names c =
    (c.in_ok-own-in-Lawful.ensures c.args.known.now.latencies.now
    (rw c.in-Lawful.is at c.in_ok-pairing.ensures.right)).names

pub push_own-requires-clause-waits : goal.push_own-requires-clause-waits
push_own-requires-clause-waits c =
    let are = c.in_ok-own-in-Lawful.ensures c.args.known.now.latencies.now (rw c.in-Lawful.is at c.in_ok-pairing.ensures.right) in
    rw (are.names, are.slots)
    (own_lawful c.args.known.now.latencies.now c.args.known.now.block.now.ops c.args.theirs.now.ops c.args.theirs.now.rows
    (are.origin, are.partner, are.under)).waits

pub push_own-requires-clause-issued : goal.push_own-requires-clause-issued
push_own-requires-clause-issued c =
    (c.in_ok-own-in-Lawful.ensures c.args.known.now.latencies.now
    (rw c.in-Lawful.is at c.in_ok-pairing.ensures.right)).many

pub returns-in_ok-push_own-in-Lawful-clause-said : goal.returns-in_ok-push_own-in-Lawful-clause-said
returns-in_ok-push_own-in-Lawful-clause-said c =
    let own = c.in_ok-own-in-Lawful.own in
    let told = c.in_ok-push_own-in-Lawful.ensures in (
      _,
      record {
        own = own.schedule;
        issued = own.issued.items;
        are_own = c.in_ok-own-in-Lawful.ensures c.args.known.now.latencies.now
            (rw c.in-Lawful.is at c.in_ok-pairing.ensures.right);
        explanation = told.0;
        explains = told.1;
        listed = refl;
      },
      told.2 ∙ append_assoc c.args.text.now.items told.0 _,
    )

pub returns-in_ok-push_why-in-Unlawful-clause-said : goal.returns-in_ok-push_why-in-Unlawful-clause-said
returns-in_ok-push_why-in-Unlawful-clause-said c = (
  not_lawful (reasons_told c.in_ok-reasons-in-Unlawful.reasons),
  inl (record {
    reasons = c.in_ok-reasons-in-Unlawful.reasons;
    table = c.requires.table;
    refuted = rw c.in-Unlawful.is at c.in_ok-pairing.ensures.right;
    hold = c.in_ok-reasons-in-Unlawful.ensures;
    listed = refl;
  }),
  c.in_ok-push_why-in-Unlawful.ensures,
)
