-- What is said of a text that isn't understood.
use Rattle.iloc_farm.proofs.Common.{◌≡◌, ℕ, List, [], Ok, Err, Option, Result, sym, subst, ◌∙◌, inl, inr, append-nil, Held, Holds}
use Rattle.std.specs.Io.KnownBytes.{Appends}
use Rattle.std.specs.Prelude.{◌⊎◌, IfOk, OnErr, OnOk}
use Rattle.std.specs.declared.alloc.Global.{Global}
use Rattle.std.specs.declared.vec.Vec.{Vec}
use Rattle.iloc_listing.specs.Device.{WritesFront}
use Rattle.iloc_farm.specs.Reason.{IsReason, MayBeSaid, row_text, task_row_text}

pub row_told : (of_row said : List ℕ) → (of_row ≡ row_text) ⊎ (of_row ≡ task_row_text) → said ≡ of_row
    → (said ≡ row_text) ⊎ (said ≡ task_row_text)
row_told of_row said (inl row) same = inl (same ∙ row)
row_told of_row said (inr row) same = inr (same ∙ row)

-- what is said of the input may be said
pub of_input : {E : Type 0} (held : Held) (kept : List ℕ) (result : Result (Vec ℕ Global) E)
    → IfOk result (λ said. IsReason kept said.items) → IfOk result (λ said. MayBeSaid held kept said.items)
of_input held kept (Ok said) is = inl is
of_input held kept (Err fault) is = tt

-- and so may what is said of the text of a name
pub of_task : {E : Type 0} (held : Held) (kept name text task : List ℕ) (result : Result (Vec ℕ Global) E)
    → Holds (held name) task → text ≡ task → IfOk result (λ said. IsReason text said.items)
    → IfOk result (λ said. MayBeSaid held kept said.items)
of_task held kept name text task (Ok said) holds same is = inr (name, text, subst (Holds (held name)) (sym same) holds, is)
of_task held kept name text task (Err fault) holds same is = tt

-- a text is written, whole or a prefix
pub wrote : {T E : Type 0} (old new : Option (List ℕ)) (result : Result T E) (text : List ℕ) → OnOk result (Appends old new text)
    → OnErr result (WritesFront old new text) → WritesFront old new text
wrote old new (Ok done) text whole front = record { front = text; rest = []; whole = sym (append-nil text); written = whole }
wrote old new (Err fault) text whole front = front
