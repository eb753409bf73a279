-- Texts that are appended one after another.
use Rattle.iloc_verdict.proofs.Common.{◌≡◌, ◌++◌, ℕ, List, refl, append_assoc}

pub four : (text a b c d : List ℕ) → text ++ a ++ b ++ c ++ d ≡ text ++ (a ++ b ++ c ++ d)
four text a b c d = simp append_assoc refl
