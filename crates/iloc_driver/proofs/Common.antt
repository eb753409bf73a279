-- The names that many proofs import, passed on from one place. Declares nothing.
pub use Rattle.std.proofs.Common.{◌≡◌, ℕ, zero, suc, ◌+◌, ◌-◌, ◌*◌, ◌^◌, ◌<◌, ◌≤◌, Bool, true, false, ◌≢◌, List, [], ◌∷◌, ◌++◌, map, length, get_or, take, drop, IfSome, IsErrAnd, IfOk, IfErr, OnOk, OnErr, slice_get, slice_index_or, Some, None, Ok, Err, string_bytes, codes, All, Contains, Option, option_copied, Result, MatchOption, position, zip, flat_map, sym, refl, ap, ◌∙◌, subst, ap₂, inl, inr, append_assoc, append-nil, map-id, arith, length-append, length-drop, take_all, rules}
pub use Rattle.std.proofs.lemmas.List.{drop_all, length-map, map-append}
pub use Rattle.std.proofs.lemmas.List.Elements.{All-cons, All-head, All-map, All-nil, All-push, All-rest, All-same, All-tail, All-weaker}
pub use Rattle.std.proofs.lemmas.Result.{err_from_is_err_and, on_ok_weaker}
pub use Rattle.std.specs.List.{AllByRecursion, AllZip, after_first, before_first, filter, list_all, list_any, position_or_len, range_with_len, slice_split}
pub use Rattle.iloc_ops.specs.Limits.{MAX_BLOCKS, MAX_OPS}
pub use Rattle.iloc_ops.specs.declared.file.Block.{Block}
pub use Rattle.iloc_board.specs.Views.{state}
pub use Rattle.iloc_board.specs.Working.{IsDone}
pub use Rattle.iloc_driver.specs.Command.{Command, initial_memory}
pub use Rattle.iloc_driver.specs.Entries.{AppendsEntry, AreEntries, AreListed, IsListingAfter, IsListingOf, ListsRead, OfBlock}
pub use Rattle.iloc_driver.specs.Fault.{fault_of_numbers, fault_of_stream, file_status, finding_of, numbers_status, numbers_text, priorities_status, rows_status, task_status, text_status}
pub use Rattle.iloc_driver.specs.Priorities.{AreFor, AreIn, first_and, is_space, is_word, number_after, numbers_for, numbers_of, own_of, priorities_from, priorities_in, words_of}
pub use Rattle.iloc_driver.specs.Program.{IsHelp, IsStopped, MakeNone, Says, named_line, status_of}
pub use Rattle.iloc_driver.specs.Words.{Args, AskFor}
pub use Rattle.iloc_driver.specs.Run.Apart.{Held, Holds, ReadsApart, ReadsTask}
pub use Rattle.iloc_driver.specs.Run.Causes.{HasNoneFor, IsCaused, ReadsFile, Refuses, of_file, of_ranked_file, of_shared_file}
pub use Rattle.iloc_driver.specs.Steps.Listed.{AreListedTo, Grows, ToList}
pub use Rattle.iloc_driver.specs.Steps.Ranked.{before_and, is_no_blank, without}
pub use Rattle.iloc_driver.specs.Work.{AreFarmed, ListsFarmed, by_own}
pub use Rattle.iloc_driver.specs.declared.fault.NumbersFault.{NumbersFault}
pub use Rattle.iloc_driver.specs.declared.fault.RunFault.TheVariants.{Farm, Priorities, ReadFailed, Rows, Text}
