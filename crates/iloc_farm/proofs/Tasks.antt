-- A task that is read from a text of its own.
use Rattle.iloc_farm.proofs.Common.{◌≡◌, ℕ, ◌≤◌, List, length, Some, subst, append-nil, arith, one_answer, Holds, HandInsDontChangeTheTask}
use Rattle.iloc_ops.specs.Limits.{MAX_INPUT}
use Rattle.iloc_text.specs.Files.{Denotes}

-- what was read is all that the text holds, where it is no longer than a text may be
whole_text : (known task : List ℕ) → Holds (Some known) task → length task ≤ MAX_INPUT → task ≡ known
whole_text known task held short = grind (arith, append-nil)

pub hand_ins_dont_change_the_task : HandInsDontChangeTheTask
hand_ins_dont_change_the_task known old new old' new' blocks blocks' proposals proposals' one other =
    let file : Denotes one.task blocks = one.denoted.task.file in
    let file' : Denotes other.task blocks' = other.denoted.task.file in
    let P : List ℕ → Type 0 = λ text. Denotes text blocks in
    let Q : List ℕ → Type 0 = λ text. Denotes text blocks' in
    one_answer.file known blocks blocks' (subst P (whole_text known one.task one.held file.short) file)
    (subst Q (whole_text known other.task other.held file'.short) file')
