-- The names that many proofs import, passed on from one place. Declares nothing.
pub use Rattle.std.proofs.Common.{◌≡◌, ℕ, zero, suc, ◌+◌, ◌^◌, ◌<◌, ◌≤◌, Bool, true, false, cond, not, ◌&&◌, ◌||◌, List, [], ◌∷◌, ◌++◌, map, length, get_or, take, drop, ℤ, pos, is_some, IfSome, ◌==◌, slice_get, Some, None, Ok, Err, box_value, codes, fold, Option, Result, Box, MatchOption, option_map, chars, find, option_and_then, encode_utf8, bytes_eq, unwrap_or, sym, refl, ap, ◌∙◌, subst, inl, inr, append_assoc, append-nil, arith, lit<, lit≤, Bor, rules, ne_eqb, eqb-true}
pub use Rattle.std.proofs.lemmas.Slice.Eq.{bytes_eq-Decides}
pub use Rattle.std.specs.List.{AllByRecursion, list_all}
pub use Rattle.std.specs.Option.{option_map_or}
pub use Rattle.iloc_meaning.specs.Address.{LAST_ADDRESS}
pub use Rattle.iloc_timed.specs.Limits.{LONGEST_LATENCY}
pub use Rattle.clap.proofs.WalkLemmas.{first_value-rows, one_text-rows, typed_values-rows}
pub use Rattle.clap.specs.Faults.{bundle_fault, bundle_step_fault, default_fault, entered_fault, flag_word_fault, level_fault, long_fault, option_fault, other_fault, positional_fault, react_fault, settle_fault, short_fault, step_fault, stray_fault, turn_fault, use_fault, values_fault, word_fault}
unfoldable pub use Rattle.clap.specs.Faults.{flags_fault, walk_fault}
pub use Rattle.clap.specs.Kinds.{HasKind, IsAmong, Kinds, or_else, value_kinds, values_kinds}
pub use Rattle.clap.specs.Lexer.{short_of, usize_max, without_minus}
pub use Rattle.clap.specs.Matches.{ReadsOne, StepsValues, first_value, matched_of, one_text, typed_values, values_left}
pub use Rattle.clap.specs.Simple.{Shape, app_of_fields, built, built_leaf, entered, help_shape, inherited, label_of, names_of, new_shape, on_top, rows_at, subcommand_of, subcommand_rows}
pub use Rattle.clap.specs.Values.{IsSignedIn, NarrowsTo, read_as, signed_between}
pub use Rattle.clap.specs.Walk.{Held, Names, Outcome, Row, Rule, Step, Text, Waiting, Walk, action_of, after_flag, after_step, answers_to, arg_by_id, arg_by_index, arg_by_long, arg_by_short, at_row, attached_value, bundle_step, done, flag_met, idle, long_met, long_or_other, many_of, nothing_held, one_of, option, option_met, plain_word, positional, reacted, reading_by, row_text, rows_after, settled, settled_rows, short_met, short_or_plain, stop_after, subcommand, subcommand_or_other, takes_values, to_positional, used, used_by_id, value, walk_from, with_default, with_values, without, word_met}
unfoldable pub use Rattle.clap.specs.Walk.{bundle_met, walked}
pub use Rattle.clap.specs.Words.{AddsArg, AddsSubcommand, App, HasMatchesOf, app_of, fault_of, found_of, is_simple, is_simple_and_free, kind_of, new_rule, rows_of, rule_of, subcommand_rows_of, with_rule, with_subcommand}
pub use Rattle.clap.specs.declared.builder.value_parser.ValueParser.{ValueParser}
pub use Rattle.clap.specs.declared.builder.value_parser.ValueParser.TheVariants.{Signed}
pub use Rattle.clap.specs.declared.error.kind.ErrorKind.TheVariants.{DisplayHelp, InvalidSubcommand, OutOfMemory, TooManyValues, ValueValidation}
pub use Rattle.iloc_args.specs.Asked.{asked, asked_as, asked_by, flag_in, number_if, number_of, number_or, numbers_in, task_among, task_named, text_or}
pub use Rattle.iloc_args.specs.Command.{Subcommand, entries, farm_app, number_rule, shape, top_shape, words_rule}
pub use Rattle.iloc_args.specs.Steps.Building.{HasApp, HasRule, alone, app_for, app_with, default_rule, option_rule, rule_for, subcommand_for, with_arguments}
pub use Rattle.iloc_args.specs.Steps.Taken.{AreNumbersIn, HoldValues, HoldsIn, IsNumberIn}
