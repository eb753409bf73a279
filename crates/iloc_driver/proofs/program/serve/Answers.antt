use Rattle.std.proofs.Common.{inl, inr, refl}
use Rattle.iloc_driver.proofs.Words.{is_help, made_err, run_stopped}
use Rattle.iloc_driver.specs.declared.commands.Finding.TheVariants.{Passed}
use Rattle.iloc_driver.proofs.program.serve.Goals as goal

pub returns-in_err-finding-in-Ok-clause-err : goal.returns-in_err-finding-in-Ok-clause-err
returns-in_err-finding-in-Ok-clause-err g c =
    made_err c.from_residual.result _ _ c.from_residual.ensures.1
    (run_stopped _ _ _ c.in-Ok.request _ _ _ _ c.in_err-finding-in-Ok.field-0.0 c.in-Ok.ensures.ok
    c.in_err-finding-in-Ok.ensures.err)

pub returns-in_err-write_text-in-Err-Help-clause-err : goal.returns-in_err-write_text-in-Err-Help-clause-err
returns-in_err-write_text-in-Err-Help-clause-err g c =
    let help = is_help g.C.Commands.command_of (g.T.Texts.held c.args.texts.now) c.args.words (g.R.Read.remaining c.args.reader.now) c.in-Err-Help.field-0 c.in-Err-Help.text _ _
    c.in-Err-Help.ensures.err c.in-Err-Help.field-0-is c.in-Err-Help.text-is c.as_bytes.ensures.value in
    made_err c.from_residual-in_err-write_text-in-Err-Help.result _ _
    c.from_residual-in_err-write_text-in-Err-Help.ensures.1
    (record {
      finding = Passed;
      text = c.as_bytes.result.now;
      asked = inl (help, refl);
      written = c.in_err-write_text-in-Err-Help.ensures.err;
    })

pub returns-in_ok-finding-in-Ok-clause-ok : goal.returns-in_ok-finding-in-Ok-clause-ok
returns-in_ok-finding-in-Ok-clause-ok g c = let done = c.in_ok-finding-in-Ok.ensures.ok in record {
  text = done.0;
  asked = inr (record { request = c.in-Ok.request; asked = c.in-Ok.ensures.ok; listed = done.1 });
  written = done.3;
}

pub returns-in_ok-write_text-in-Err-Help-clause-ok : goal.returns-in_ok-write_text-in-Err-Help-clause-ok
returns-in_ok-write_text-in-Err-Help-clause-ok g c =
    let help = is_help g.C.Commands.command_of (g.T.Texts.held c.args.texts.now) c.args.words (g.R.Read.remaining c.args.reader.now) c.in-Err-Help.field-0 c.in-Err-Help.text _ _
    c.in-Err-Help.ensures.err c.in-Err-Help.field-0-is c.in-Err-Help.text-is c.as_bytes.ensures.value in
    record {
      text = c.as_bytes.result.now;
      asked = inl (help, refl);
      written = c.in_ok-write_text-in-Err-Help.ensures.ok;
    }
