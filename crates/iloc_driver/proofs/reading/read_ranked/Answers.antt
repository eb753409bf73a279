use Rattle.iloc_driver.proofs.Common.{IfErr, Err, sym, ap, ◌∙◌, subst, ap₂, err_from_is_err_and, fault_of_numbers, priorities_in, Holds, IsCaused, of_ranked_file}
use Rattle.iloc_driver.proofs.Streamed.{none_caused}
use Rattle.iloc_driver.proofs.reading.read_ranked.Goals as goal

pub returns-in_err-priorities-clause-err : goal.returns-in_err-priorities-clause-err
returns-in_err-priorities-clause-err g c =
    let held = g.T.Texts.held c.args.texts.now in
    let old = g.R.Read.remaining c.args.reader.now in
    let new = g.R.Read.remaining c.read_blocks-2.new.reader in
    let read = c.in_ok-blocks-2.ensures.ok in
    let fault = c.in_err-priorities.field-0.0 in
    let holds = subst (λ name. Holds (held name) c.in-Ok.text.items) c.as_str.ensures.value c.in-Ok.ensures in
    let caused = none_caused c.in-Some.name held old new read.0 c.in_ok-blocks-2.blocks c.in-Ok.text.items fault holds read.1 read.2
    (λ some. ap₂ priorities_in (sym c.deref.ensures.value) (sym c.as_slice.ensures) ∙ c.in_err-priorities.ensures.err some) in
    let exit = err_from_is_err_and c.from_residual-in_err-priorities.result c.from_residual-in_err-priorities.ensures.1 in
    subst (λ r. IfErr r (IsCaused (of_ranked_file c.args.request.now.priorities_file held old new)))
    (sym (exit.1 ∙ ap (λ e. Err e) exit.2))
    (subst (λ file. IsCaused (of_ranked_file file held old new) (fault_of_numbers fault)) (sym c.in-Some.is) caused)
