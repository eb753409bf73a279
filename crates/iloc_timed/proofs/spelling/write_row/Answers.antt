use Rattle.std.proofs.lemmas.Grind.{common_steps}
use Rattle.std.proofs.Common.{arith, ◌≡◌, ℕ, List, ◌++◌, codes, refl, append_assoc}
use Rattle.iloc_timed.proofs.spelling.write_row.Goals as goal

-- A row that is written to its end, part by part, the last of them first.

-- Each part stands before what was written until then.
parts : (zero one rest end second between first whole : List ℕ)
    → end ≡ codes " ]" ++ rest → second ≡ one ++ end → between ≡ codes " ; " ++ second
    → first ≡ zero ++ between → whole ≡ codes "[ " ++ first
    → whole ≡ (codes "[ " ++ zero ++ codes " ; " ++ one ++ codes " ]") ++ rest
parts zero one rest end second between first whole e1 e2 e3 e4 e5 = rw (e5, e4, e3, e2, e1)
    (simp append_assoc refl)

-- src/spelling.rt:28:1
pub returns-clause-written : goal.returns-clause-written
returns-clause-written c = grind (arith, parts, common_steps)
