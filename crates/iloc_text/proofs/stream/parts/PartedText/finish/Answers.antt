use Rattle.iloc_text.proofs.Common.{◌≡◌, ◌++◌, Err, sym, ap, ◌∙◌, subst, err_from_is_err_and, Denotes, HasCome}
use Rattle.iloc_text.proofs.PartReads.{err_as, none_left}
use Rattle.iloc_text.proofs.stream.parts.PartedText.finish.Goals.{then-len-gt0+in_ok-cut, else-len-gt0}
use Rattle.iloc_text.proofs.stream.parts.PartedText.finish.Goals as goal

pub returns-in_err-finish-clause-err : goal.returns-in_err-finish-clause-err
returns-in_err-finish-clause-err g c = λ text come.
    let texts = g.P.ReadParts.texts in
    let now : HasCome texts c.if-len-gt0.self text = elim c.if-len-gt0.branch [
      | then-len-gt0+in_ok-cut w ↦ subst (λ s. HasCome texts s text) (sym w.self-is) (w.in_ok-cut.ensures text come)
      | else-len-gt0 w ↦ subst (λ s. HasCome texts s text) (sym w.self-is) come
    ] in
    let all = c.in_ok-take_all.ensures.begun now.front now.begun in
    let read = c.in_ok-read.ensures all.start all.done all.read in
    let whole : text ≡ all.done ++ c.deref.result.now = now.whole
    ∙ ap (λ front. front ++ c.if-len-gt0.self.rest.items) (none_left texts c.take_all.new.self now.front c.in_ok-take_all.ensures.none all)
    ∙ ap (λ rest. all.done ++ rest) (sym (c.deref.ensures.value ∙ ap (λ v. v.items) c.in_ok-take_all.ensures.rest)) in
    let exit = err_from_is_err_and c.from_residual-in_err-finish.result c.from_residual-in_err-finish.ensures.1 in
    err_as text (all.done ++ c.deref.result.now) c.in_err-finish.field-0.0 c.from_residual-in_err-finish.result whole
    (c.in_err-finish.ensures.err all.start (all.done ++ c.deref.result.now) read) (exit.1 ∙ ap (λ e. Err e) exit.2)

pub returns-clause-ok : goal.returns-clause-ok
returns-clause-ok g c = λ text come.
    let texts = g.P.ReadParts.texts in
    let now : HasCome texts c.if-len-gt0.self text = elim c.if-len-gt0.branch [
      | then-len-gt0+in_ok-cut w ↦ subst (λ s. HasCome texts s text) (sym w.self-is) (w.in_ok-cut.ensures text come)
      | else-len-gt0 w ↦ subst (λ s. HasCome texts s text) (sym w.self-is) come
    ] in
    let all = c.in_ok-take_all.ensures.begun now.front now.begun in
    let read = c.in_ok-read.ensures all.start all.done all.read in
    let whole : text ≡ all.done ++ c.deref.result.now = now.whole
    ∙ ap (λ front. front ++ c.if-len-gt0.self.rest.items) (none_left texts c.take_all.new.self now.front c.in_ok-take_all.ensures.none all)
    ∙ ap (λ rest. all.done ++ rest) (sym (c.deref.ensures.value ∙ ap (λ v. v.items) c.in_ok-take_all.ensures.rest)) in
    let ended = c.in_ok-finish.ensures.ok all.start (all.done ++ c.deref.result.now) read in
    let blocks : c.in_ok-into_file.field-0.blocks ≡ ended.0 =
    c.in_ok-into_file.ensures ∙ ended.2 ∙ ap (λ front. front ++ ended.0) all.none in
    subst (λ t. Denotes t c.in_ok-into_file.field-0.blocks) (sym whole) (subst (Denotes _) (sym blocks) ended.1)
