-- The names that many proofs import, passed on from one place. Declares nothing.
pub use Rattle.std.proofs.Common.{BTreeMap, ◌≡◌, ℕ, zero, suc, ◌+◌, ◌-◌, ◌<◌, ◌≤◌, max, Bool, true, false, cond, not, ◌&&◌, ◌||◌, ◌≢◌, ◌⊎◌, List, [], ◌∷◌, ◌++◌, map, length, get_or, take, drop, set, replicate, is_ok, OnOk, nat_lt, ◌==◌, slice_get, slice_index, slice_index_or, slice_set, Some, None, Ok, Err, All, Contains, filter, Option, Result, swap, IsPermutation, zip, sym, refl, ap, ap₂, ◌∙◌, subst, inl, inr, append_assoc, append-nil, map-id, arith, length-append, length-set, take_all, ext_get_or, ltb-false, ltb-true, le-ltb, lt-ltb, eq-eqb, ne_eqb, eqb-true}
pub use Rattle.std.proofs.lemmas.Bool.{and_from, and_parts, cases_eq, cases_lt, eqb-false, or_cases, or_from, or_left, or_parts, or_right}
pub use Rattle.std.proofs.lemmas.List.{get_or_default, length-map, length-replicate, map-append, take_more}
pub use Rattle.std.proofs.lemmas.List.Elements.{All-cons, All-head, All-nil, All-rest, All-tail, Contains-append_cases, Contains-append_left, Contains-append_right, Contains-push_cases, filter-append}
pub use Rattle.std.proofs.lemmas.List.Folds.{list_any-append}
pub use Rattle.std.proofs.lemmas.List.Sorted.{All-permutation, Contains-permutation, IsPermutation-refl, IsPermutation-swap, IsPermutation-sym, IsPermutation-trans, length_permutation}
pub use Rattle.std.proofs.lemmas.Slice.Zip.{firsts-zip, get_or-zip, length-zip, seconds-zip}
pub use Rattle.std.specs.List.{list_any, range_with_len}
pub use Rattle.iloc_board.specs.Collecting.{AllAnswered, AllMade, AreTheAnswers, FitsHandedBack, IsFirstMissing, IsLegalWith, IsNoMemory, IsOneList, IsWhole, MissingOf, NoneTwice, handed_back_in, jobs_of, workers_of}
pub use Rattle.iloc_board.specs.Core.{Core, IsWithin, after, costs_at, ends, entry, look_finds, hand_reply, is_holding, look_reply, missed, next_after, opening, played, reply_to, state_after, try_reply, worker_of}
pub use Rattle.iloc_board.specs.History.{IsExact, IsExactReply, StandsAt, accepted, calls_of, given, hand_backs, handed_by, history, holds_job, is_held, taken_by, takes}
pub use Rattle.iloc_board.specs.Journal.{all_handed, entries_of, handed, handed_from, is_none_left, noted, saw_none, seen, seen_from, seen_in, shown, state_from, state_of}
pub use Rattle.iloc_board.specs.Play.{final, replies}
pub use Rattle.iloc_board.specs.Sequential.{Call, Legal, SequentialBoard, board_after, has_out, is_out, is_pair, moved, opened, without}
pub use Rattle.iloc_board.specs.Steps.Answers.{AnswersView}
pub use Rattle.iloc_board.specs.Steps.Course.{Ended, Goes, HandsNothing, Pays, left, left_in, slack, slack_in}
pub use Rattle.iloc_board.specs.Steps.Row.{HoleOf, IsFirstHole, placed}
pub use Rattle.iloc_board.specs.Steps.Rule.{Apart, Fits, FitsPass, FitsRoot, IsKept, Sat, TableState, Tells, adds, gathers, hands, looks, made_pass, makes, pass_seat, root_seat, spent_seat, tells_all, tries}
pub use Rattle.iloc_board.specs.Views.{BoardView, PassView, RootView, is_looking, job_of, state, stepped, with_answer}
pub use Rattle.iloc_board.specs.Finished.{AllFit, priced}
pub use Rattle.iloc_board.specs.declared.board.state.State.{State}
pub use Rattle.iloc_board.specs.declared.board.state.State.TheVariants.{Free, Holding, Looked}
pub use Rattle.iloc_board.specs.declared.step.Entry.{Entry}
pub use Rattle.iloc_board.specs.declared.step.Journal.{Journal}
pub use Rattle.iloc_board.specs.declared.step.Reply.{Reply}
pub use Rattle.iloc_board.specs.declared.step.Reply.TheVariants.{Block, Handed, NoneLeft, NotNow, Stale, Took}
pub use Rattle.iloc_board.specs.declared.step.Step.{Step}
pub use Rattle.iloc_board.specs.declared.step.Step.TheVariants.{Hand, Look, Try}
