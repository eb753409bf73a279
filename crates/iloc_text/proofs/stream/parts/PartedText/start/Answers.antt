use Rattle.iloc_text.proofs.Common.{sym, refl, subst, HasBegun}
use Rattle.iloc_text.proofs.PartReads.{begun_as, one_started, one_taken}
use Rattle.iloc_text.proofs.stream.parts.PartedText.start.Goals.{then-len-self+in_ok-take_first, else-len-self}
use Rattle.iloc_text.proofs.stream.parts.PartedText.start.Goals as goal

pub returns-in_default-clause-begun : goal.returns-in_default-clause-begun
returns-in_default-clause-begun g c = λ front begun.
    let texts = g.P.ReadParts.texts in
    let now : HasBegun texts c.if-len-self.self front = elim c.if-len-self.branch [
      | then-len-self+in_ok-take_first w ↦ subst (λ s. HasBegun texts s front) (sym w.self-is) (w.in_ok-take_first.ensures.begun front begun)
      | else-len-self w ↦ subst (λ s. HasBegun texts s front) (sym w.self-is) begun
    ] in
    one_started texts c.if-len-self.self _ c.args.text.items front refl (rw c.in_default.is at c.in_ok-part.ensures) now

pub returns-clause-begun : goal.returns-clause-begun
returns-clause-begun g c = λ front begun.
    let texts = g.P.ReadParts.texts in
    let now : HasBegun texts c.if-len-self.self front = elim c.if-len-self.branch [
      | then-len-self+in_ok-take_first w ↦ subst (λ s. HasBegun texts s front) (sym w.self-is) (w.in_ok-take_first.ensures.begun front begun)
      | else-len-self w ↦ subst (λ s. HasBegun texts s front) (sym w.self-is) begun
    ] in
    let back = rw c.in-Some.is at c.in_ok-part.ensures in
    let all = c.in_ok-take_all.ensures.begun front (begun_as texts c.if-len-self.self _ front refl back.0 now) in
    one_taken texts c.take_all.new.self _ c.in-Some.part.text.items c.args.text.items front back.1
    c.in_ok-take_all.ensures.none c.in_ok-take_all.ensures.none c.in_ok-self.ensures all
