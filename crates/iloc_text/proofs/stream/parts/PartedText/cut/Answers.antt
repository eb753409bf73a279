use Rattle.iloc_text.proofs.Common.{◌≡◌, [], ◌∷◌, ◌++◌, length, take, sym, refl, ap, ◌∙◌, take-append_seam}
use Rattle.iloc_text.proofs.PartReads.{begun_as, cut_off}
use Rattle.iloc_text.proofs.stream.parts.PartedText.cut.Goals as goal

pub returns-in_default : goal.returns-in_default
returns-in_default g c = λ text come. record {
  front = come.front;
  begun = begun_as g.P.ReadParts.texts c.args.self.now _ come.front refl refl come.begun;
  whole = come.whole;
}

pub returns : goal.returns
returns g c = λ text come.
    let texts = g.P.ReadParts.texts in
    let old = c.args.self.now in
    let part = c.in-Some.front.now in
    let back = c.in-Some.back.now in
    let falls : old.rest.items ≡ part ++ 10 ∷ back = sym c.deref.ensures.value ∙ c.in-Some.ensures in
    let cut : c.truncate.new.self.items ≡ part = c.truncate.ensures.items
    ∙ ap (λ v. take (length part) v.items) c.replace-text.ensures.value
    ∙ ap (take (length part)) falls ∙ take-append_seam part (10 ∷ back) in
    let left : c.start.new.self.rest.items ≡ back = ap (λ v. v.items) c.in_ok-start.ensures.rest
    ∙ ap (λ v. v.items) c.replace-text.ensures.after
    ∙ c.in_ok-extend_from_slice.ensures.items
    ∙ ap (λ before. before ++ back) (c.in_ok-reserve.ensures.items ∙ c.clear.ensures.items) in
    record {
      front = come.front ++ c.truncate.new.self.items ++ 10 ∷ [];
      begun = c.in_ok-start.ensures.begun come.front (begun_as texts old _ come.front refl refl come.begun);
      whole = cut_off texts old text part back come falls
          ∙ ap (λ p. come.front ++ p ++ 10 ∷ [] ++ back) (sym cut)
          ∙ ap (λ b. come.front ++ c.truncate.new.self.items ++ 10 ∷ [] ++ b) (sym left);
    }
