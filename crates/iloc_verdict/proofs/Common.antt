-- The names that many proofs import, passed on from one place. Declares nothing.
pub use Rattle.std.proofs.Common.{◌≡◌, ℕ, zero, suc, ◌<◌, true, false, not, ◌&&◌, List, [], ◌∷◌, ◌++◌, length, take, Some, None, codes, Option, find, refl, sym, ap, ◌∙◌, append-nil, append_assoc, arith}
pub use Rattle.std.specs.Fmt.{decimal}
pub use Rattle.std.specs.List.{flat_map}
pub use Rattle.iloc_timed.specs.Rows.{holds, is_some_kind, issue_cycle, kind_in, row_at}
pub use Rattle.iloc_verdict.specs.Entry.Json.{row_value}
pub use Rattle.iloc_verdict.specs.Entry.Reasons.{fact_told}
pub use Rattle.iloc_verdict.specs.Obstacle.{in_one_line}
pub use Rattle.iloc_verdict.specs.Remarks.{fact_remark, part_as, appended_as, parts_as}
