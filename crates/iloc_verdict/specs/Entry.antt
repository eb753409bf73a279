-- What is listed of a block's rows after the block's head, in each form.
use Rattle.std.specs.Prelude.{ℕ, Bool, List, Option}
use Rattle.iloc_ops.specs.declared.op.Op.{Op}
use Rattle.iloc_timed.specs.declared.row.Row.{Row}
use Rattle.iloc_verdict.specs.declared.checked.Checked.{Checked}
use Rattle.iloc_comparison.specs.declared.task.CheckOptions.{CheckOptions}
use Rattle.iloc_comparison.specs.declared.task.Form.{Form}
use Rattle.iloc_comparison.specs.declared.task.Form.TheVariants as forms
use Rattle.iloc_verdict.specs.declared.verdict.Verdict.{Verdict}
use Rattle.iloc_verdict.specs.Checked.{passes}
use Rattle.iloc_verdict.specs.Entry.Json.{json_of}
use Rattle.iloc_verdict.specs.Entry.Listing.{lines_of, row_of}
pub mod Json
pub mod Listing
pub mod Reasons

-- What is listed of operations and rows as `options` ask for it: lines, a row of a table, or a line of JSON, which has the
-- operation of the block that is noted for each in `origins`.
abbrev pub entry_in : Form → (passing : Bool) → List Op → List Row → Verdict → List (Option ℕ) → Checked → List ℕ
entry_in forms.Lines passing ops rows verdict origins checked = lines_of ops rows verdict checked
entry_in forms.Table passing ops rows verdict origins checked = row_of checked
entry_in forms.Json passing ops rows verdict origins checked = json_of passing ops rows verdict origins checked

abbrev pub entry_as : CheckOptions → List Op → List Row → Verdict → List (Option ℕ) → Checked → List ℕ
entry_as options ops rows verdict origins checked =
    entry_in options.form (passes options.lawful checked) ops rows verdict origins checked
