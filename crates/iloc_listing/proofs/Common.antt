-- The names that many proofs import, passed on from one place. Declares nothing.
pub use Rattle.std.proofs.Common.{◌≡◌, ℕ, zero, suc, ◌+◌, ◌-◌, ◌*◌, ◌^◌, ◌<◌, ◌≤◌, Bool, true, false, ◌&&◌, List, [], ◌∷◌, ◌++◌, length, get_or, take, drop, if◌then◌else◌, OnErr, slice_get, Some, None, Ok, Err, codes, sum_by, Option, Result, sym, refl, ap, ◌∙◌, subst, ap₂, append_assoc, append-nil, add-one, arith, length-append, length-drop, take-append-drop, take_all, rules}
pub use Rattle.std.proofs.KnownBytes.{Appends-nil, Appends-trans}
pub use Rattle.std.proofs.lemmas.List.{drop-append-le, drop_all, drop_more, nil_from_length, take-append-le, take_more}
pub use Rattle.std.proofs.lemmas.List.Sums.{count_by-le-length, length-filter, sum-map, sum_by-append, sum_by-cons}
pub use Rattle.std.proofs.lemmas.Result.{IfOk-weaker, on_err_weaker, on_ok_weaker}
pub use Rattle.std.specs.Io.KnownBytes.{Appends}
pub use Rattle.std.specs.List.{AllByRecursion, flat_map, list_all}
pub use Rattle.iloc_timed.specs.Cycles.{cycles}
pub use Rattle.iloc_timed.specs.declared.row.Row.{Row}
pub use Rattle.iloc_listing.specs.Device.{WritesFront}
pub use Rattle.iloc_listing.specs.Listing.{count_entry, cycles_of, entries, held_rows, is_empty, outcome_entry, schedule_entry, total_cycles, total_of, word_line}
pub use Rattle.iloc_listing.specs.Steps.Joined.{Joins, JoinsTo}
pub use Rattle.iloc_listing.specs.Steps.Text.{bytes_before, empty_rows, unfolded}
pub use Rattle.iloc_listing.specs.declared.text.EmptyRows.{EmptyRows}
