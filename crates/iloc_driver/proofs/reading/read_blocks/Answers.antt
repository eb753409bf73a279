use Rattle.iloc_driver.proofs.Common.{IfErr, Err, sym, ap, ◌∙◌, subst, err_from_is_err_and, IsCaused, of_file}
use Rattle.iloc_driver.proofs.Streamed.{ends_file}
use Rattle.iloc_driver.proofs.reading.read_blocks.Goals as goal

pub returns-in_err-read_file_from-clause-err : goal.returns-in_err-read_file_from-clause-err
returns-in_err-read_file_from-clause-err g c =
    let old = g.R.Read.remaining c.args.reader.now in
    let new = g.R.Read.remaining c.read_file_from.new.stream in
    let exit = err_from_is_err_and c.from_residual.result c.from_residual.ensures.1 in
    subst (λ r. IfErr r (IsCaused (of_file old new))) (sym (exit.1 ∙ ap (λ e. Err e) exit.2))
    (ends_file old new c.in_err-read_file_from.field-0.0 c.in_err-read_file_from.ensures.err)

pub returns-in_err-read_by_threads-clause-err : goal.returns-in_err-read_by_threads-clause-err
returns-in_err-read_by_threads-clause-err g c =
    let old = g.R.Read.remaining c.args.reader.now in
    let new = g.R.Read.remaining c.read_by_threads.new.stream in
    let exit = err_from_is_err_and c.from_residual-in_err-read_by_threads.result c.from_residual-in_err-read_by_threads.ensures.1 in
    subst (λ r. IfErr r (IsCaused (of_file old new))) (sym (exit.1 ∙ ap (λ e. Err e) exit.2))
    (ends_file old new c.in_err-read_by_threads.field-0.0 c.in_err-read_by_threads.ensures.err)
