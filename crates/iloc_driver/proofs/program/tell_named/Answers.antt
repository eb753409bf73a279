use Rattle.iloc_driver.proofs.Common.{◌≡◌, ℕ, List, [], ◌++◌, IfSome, OnOk, OnErr, Some, None, codes, Option, Result, ap, ◌∙◌, Says, named_line}
use Rattle.std.proofs.lemmas.Fmt.{contents_after_writes}
use Rattle.std.specs.Fmt.{WritesText, ◌++?◌}
use Rattle.std.specs.Io.KnownBytes.{Appends}
use Rattle.arrayvec.specs.declared.array_string.ArrayString.{ArrayString}
use Rattle.iloc_listing.specs.Device.{WritesFront}
use Rattle.iloc_listing.specs.declared.writing.WriteFailed.{WriteFailed}
use Rattle.iloc_driver.proofs.Told.{says_text}
use Rattle.iloc_driver.proofs.program.tell_named.Goals as goal

-- What is said on a line that begins with the program's name.

-- the line was made from the text, and what it holds then was written
named_said : {T : Type 0} (n : ℕ) (line made : ArrayString n) (text : Option (List ℕ)) (old new : Option (List ℕ))
    (result : Result T WriteFailed) (written : List ℕ)
    → WritesText (λ (s : ArrayString n) bs (t : ArrayString n). t.bytes ≡ s.bytes ++ bs) line
    (Some (codes "ilocfarm: ") ++? (text ++? Some (codes "\n"))) made
    → line.bytes ≡ [] → written ≡ made.bytes → OnOk result (Appends old new written)
    → OnErr result (WritesFront old new written)
    → IfSome text (λ t. Says old new result (named_line t))
named_said n line made None old new result written writes none same ok err = tt
named_said n line made (Some t) old new result written writes none same ok err =
    let whole = contents_after_writes (λ (s : ArrayString n) bs (t : ArrayString n). t.bytes ≡ s.bytes ++ bs)
    (λ (s : ArrayString n). s.bytes) (λ s bs t e. e) line (named_line t) made writes in
    says_text old new result written (named_line t) ok err (same ∙ (whole ∙ ap (λ bs. bs ++ named_line t) none))

pub returns-in-Ok : goal.returns-in-Ok
returns-in-Ok g c = named_said 96 _ _ _ _ _ c.write_text.result _ c.in-Ok.ensures.writes c.new-line.ensures
    (c.as_bytes.ensures.value ∙ c.deref.ensures.0)
    c.write_text.ensures.ok c.write_text.ensures.err
