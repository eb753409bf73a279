use Rattle.iloc_text.proofs.Common.{◌+◌, ◌≢◌, ◌++◌, take, drop, IfErr, OnOk, Err, sym, ap, ◌∙◌, subst, take-append-drop, err_from_is_err_and, GoesOn, HasFault, NoMemory as no_memory}
use Rattle.iloc_text.proofs.TextReads.{fault_longer, joined}
use Rattle.iloc_text.proofs.stream.text_reader.TextReader.read_piece.Goals as goal

pub returns-in_err-read_ended-clause-err : goal.returns-in_err-read_ended-clause-err
returns-in_err-read_ended-clause-err g c = λ start text goes.
    let piece = c.args.piece.now in
    let exit = err_from_is_err_and c.from_residual.result c.from_residual.ensures.1 in
    subst (λ r. IfErr r (λ fault. fault ≢ no_memory → HasFault (text ++ piece) fault)) (sym (exit.1 ∙ ap (λ e. Err e) exit.2))
    (λ memory. fault_longer text (take (c.in-Some.first + 1) piece) (drop (c.in-Some.first + 1) piece) piece
    c.in_err-read_ended.field-0.0 (take-append-drop (c.in-Some.first + 1) piece) (c.in_err-read_ended.ensures.err start text goes memory))

pub returns-clause-ok : goal.returns-clause-ok
returns-clause-ok g c = λ start text goes.
    let piece = c.args.piece.now in
    let n = c.in-Some.first + 1 in
    subst (λ all. OnOk c.read_ended-3.result (GoesOn g.T.TakeBlocks.took start c.read_ended-3.new.self all)) (joined text piece n)
    (c.read_ended-3.ensures.ok start (text ++ take n piece) (c.in_ok-read_ended.ensures.ok start text goes))

pub returns-clause-err : goal.returns-clause-err
returns-clause-err g c = λ start text goes.
    let piece = c.args.piece.now in
    let n = c.in-Some.first + 1 in
    subst (λ all. IfErr c.read_ended-3.result (λ fault. fault ≢ no_memory → HasFault all fault)) (joined text piece n)
    (c.read_ended-3.ensures.err start (text ++ take n piece) (c.in_ok-read_ended.ensures.ok start text goes))
