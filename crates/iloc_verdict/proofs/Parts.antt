-- Parts of a remark, one after another.
use Rattle.iloc_verdict.proofs.Common.{◌≡◌, ◌++◌, ◌∙◌, ℕ, List, [], ◌∷◌, refl, sym, append-nil, append_assoc, flat_map, part_as, appended_as, parts_as}
use Rattle.iloc_comparison.specs.declared.task.Form.{Form}
use Rattle.iloc_verdict.specs.declared.remark.Part.{Part}

appended_are : (form : Form) (text : List ℕ) (ps : List Part) → text ++ flat_map (part_as form) ps ≡ appended_as form text ps
appended_are form text [] = append-nil text
appended_are form text (p ∷ rest) =
    sym (append_assoc text (part_as form p) (flat_map (part_as form) rest)) ∙ appended_are form (text ++ part_as form p) rest

pub parts_are : (form : Form) (ps : List Part) → flat_map (part_as form) ps ≡ parts_as form ps
parts_are form [] = refl
parts_are form (p ∷ rest) = appended_are form (part_as form p) rest
