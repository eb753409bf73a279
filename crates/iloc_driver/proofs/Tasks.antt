-- A task that is read from a text of its own.
use Rattle.iloc_driver.proofs.Common.{◌≡◌, ℕ, List, Option, subst, Block, ReadsApart, ReadsTask}
use Rattle.iloc_rows.specs.Laws.{AreWithinLimits, SubmissionsApartAreWithinLimits}
use Rattle.iloc_rows.specs.Submissions.{DenoteApart, ProposeApart}
use Rattle.iloc_rows.specs.declared.proposal.Proposed.{Proposed}
use Rattle.iloc_text.specs.Streams.{ReadsText}

-- rows that propose for the blocks of a task were read apart from it
pub apart_read : (known old new : Option (List ℕ)) (blocks lent : List Block) (rows bytes : List ℕ)
    (proposals : List Proposed) → SubmissionsApartAreWithinLimits → ReadsTask known blocks → ReadsText old new rows
    → lent ≡ blocks → bytes ≡ rows → ProposeApart lent bytes proposals
    → ReadsApart known old new blocks proposals × AreWithinLimits blocks proposals
apart_read known old new blocks lent rows bytes proposals limits task read same whole propose =
    let P : List Block → Type 0 = λ bs. ProposeApart bs bytes proposals in
    let Q : List ℕ → Type 0 = λ text. ProposeApart blocks text proposals in
    let denoted : DenoteApart task.input rows blocks proposals =
    record { task = task.task; rows = subst Q whole (subst P same propose) } in (
      record { task = task.input; held = task.held; rows = rows; read = read; denoted = denoted },
      limits task.input rows blocks proposals denoted,
    )
