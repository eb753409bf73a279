-- What a write of a line did.
use Rattle.iloc_driver.proofs.Common.{◌≡◌, ℕ, List, OnOk, OnErr, Ok, Err, Option, Result, subst, Says}
use Rattle.std.specs.Io.KnownBytes.{Appends}
use Rattle.iloc_listing.specs.Device.{WritesFront}
use Rattle.iloc_listing.specs.declared.writing.WriteFailed.{WriteFailed}

-- what a write did to the text is what it did to another name of it
pub says_text : {T : Type 0} (old new : Option (List ℕ)) (result : Result T WriteFailed) (given text : List ℕ)
    → OnOk result (Appends old new given) → OnErr result (WritesFront old new given) → given ≡ text
    → Says old new result text
says_text old new (Ok x) given text ok err same = subst (Appends old new) same ok
says_text old new (Err e) given text ok err same = subst (WritesFront old new) same err
