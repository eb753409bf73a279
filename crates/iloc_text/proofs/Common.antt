-- The names that many proofs import, passed on from one place. Declares nothing.
pub use Rattle.std.proofs.Common.{◌≡◌, ℕ, zero, suc, ◌+◌, ◌-◌, ◌*◌, ◌/◌, ◌%◌, ◌^◌, ◌<◌, ◌≤◌, min, Bool, true, false, cond, not, ◌&&◌, ◌||◌, ◌≢◌, ◌⊎◌, List, [], ◌∷◌, ◌++◌, map, length, get_or, take, drop, is_some, IfSome, IfErr, if◌then◌else◌, OnOk, nat_lt, ◌==◌, slice_index, Some, None, Ok, Err, vec_len, codes, IsUtf8, decimal, sum_by, Option, Result, option_map, option_to_list, find, flat_map, filter_map, bytes_eq, unwrap_or, sym, refl, ap, ◌∙◌, subst, ap₂, subst₂, inl, inr, append_assoc, append-nil, add-sub_cancel, arith, length-append, length-drop, take-append-drop, length-take, get_or-drop, take_all, drop-drop, w64, Bor, rules, ltb-false, ltb-true, lt-ltb, eqb-true}
pub use Rattle.std.proofs.Math.Seq.{drop-append_seam, drop-cons, take-append_seam}
pub use Rattle.std.proofs.lemmas.Bool.{agree_below_at, and_parts, false_from_ne_true}
pub use Rattle.std.proofs.lemmas.Bool.Decides.{nat_tests}
pub use Rattle.std.proofs.lemmas.List.{drop-append-le, length-map, map-append, nil_from_length, take-append-le}
pub use Rattle.std.proofs.lemmas.Nat.{and_block, and_comm, and_le_r, and_mask, and_mod, div-mul-add, mod-mul-add, mod-pow-add, or_block, or_mod, or_of_8, xor_block, xor_of_8}
pub use Rattle.std.proofs.lemmas.Result.{err_from_is_err_and}
pub use Rattle.std.specs.Char.{digit_value, is_ascii_alphabetic, is_ascii_digit}
pub use Rattle.std.specs.Int.Bits.{and_zero_r, bit_and, bit_or, bit_xor}
pub use Rattle.std.specs.List.{AllByRecursion, join_with_byte, list_all, onto_first, position_or_len}
pub use Rattle.std.specs.Simd.Lanes.{number_l, zip2}
pub use Rattle.iloc_ops.specs.Forms.{Lead, Operand, Value, number_in, number_of, numbers, op_of, opcode, opcode_text, opcodes, operands, ◌▹◌}
pub use Rattle.iloc_ops.specs.Forms.Lead.{arrow, comma, space}
pub use Rattle.iloc_ops.specs.Forms.Value.{Constant, Definition, Use}
pub use Rattle.iloc_ops.specs.Limits.{MAX_BLOCKS, MAX_INPUT, MAX_NUMBER, MAX_OPS}
pub use Rattle.iloc_ops.specs.declared.file.Block.{Block}
pub use Rattle.iloc_ops.specs.declared.forms.Opcode.{Opcode}
pub use Rattle.iloc_ops.specs.declared.forms.Opcode.TheVariants.{Load, LoadI, Nop, Output, Store}
pub use Rattle.iloc_ops.specs.declared.op.Op.{Op}
pub use Rattle.iloc_text.specs.Files.{AreLines, AreWithinLimits, Denotes, HasFirstFault, HasNoLineEnd, IsFaulty, IsRefused, IsWithin, NoneFaulty, ReadAs, Reading, block_count, block_names, blocks_from, file_of, fronts, labels, last_op, opens_unnamed, ops_of}
pub use Rattle.iloc_text.specs.Grammar.{Arrow, Blanks, Comma, HasReading, HasWideReading, IsName, IsWithinLimit, LeadText, Name, Number, OperandsText, Operation, OptionalComment, OptionalLabel, OptionalOperation, Reads, ReadsWidely, Register, SomeBlanks, Text, ValueText, is_blank, is_word_byte, ◌⋅◌}
pub use Rattle.iloc_text.specs.Laws.{FilesAreWithinLimits, TextsHaveAnAnswer, TextsHaveOneAnswer}
pub use Rattle.iloc_text.specs.Lines.{is_line_end, line_end, lines_left, lines_of}
pub use Rattle.iloc_text.specs.Parts.{BeginsLabelled}
pub use Rattle.iloc_text.specs.ScheduleLines.{BlockName, RowText, Said, SaidText, Says, SaysSomething, SaysSomethingWidely, SaysWidely, SlotText, alone, said_numbers, said_of}
pub use Rattle.iloc_text.specs.ScheduleLines.Said.{cycles, head, nothing, row, total}
pub use Rattle.iloc_text.specs.Steps.Copied.{all_of, has_copied, taken_apart}
pub use Rattle.iloc_text.specs.Steps.Digits.{IsMask, IsNumber, Keeps, digits_first, number_by}
pub use Rattle.iloc_text.specs.Steps.FastPath.{IsBehind, IsFound, IsMaskOf, IsRead, lead_of, lead_text, operand_of, operands_by, shape_of, text_of, tight, written}
pub use Rattle.iloc_text.specs.Steps.Growth.{Grows, last_ops, limited, opened, with_line, with_op, with_optional_label, with_optional_op}
pub use Rattle.iloc_text.specs.Steps.LineReads.{FirstBody, FirstIs, FirstLine, label_of}
pub use Rattle.iloc_text.specs.Steps.Opcodes.{opcode_of, operands_of}
pub use Rattle.iloc_text.specs.Steps.Open.{AreSoFar, HasTaken}
pub use Rattle.iloc_text.specs.Steps.PartReads.{HasBegun, HasCome, ended}
pub use Rattle.iloc_text.specs.Steps.Scan.{after_blanks, after_colon, after_word, arrow_at, arrow_from, body_at, called_at, capped, comma_at, comma_from, digits_after, is_end, is_within, is_within_limit, label_or_none, lead_at, line_at, number_at, operand_at, operands_at, operation_at, optional_label_at, optional_operation_at, register_at, some_blanks_at, value_at, word_of, ◌>>=◌}
pub use Rattle.iloc_text.specs.Steps.ScheduleScan.{behind_byte, block_name_at, is_said_within, row_from, schedule_line_at, worded_at}
pub use Rattle.iloc_text.specs.Steps.TextReads.{GoesOn, HasFault, HasRead, StandsAt}
pub use Rattle.iloc_text.specs.Steps.Verdicts.{Answered, Leaves, answer_from, on_verdict, verdict, verdict_on}
pub use Rattle.iloc_text.specs.declared.fault.ReadFault.{ReadFault}
pub use Rattle.iloc_text.specs.declared.fault.ReadFault.TheVariants.{BadLine, InputTooLong, NoMemory, NumberTooLarge, TooManyBlocks, TooManyOperations}
pub use Rattle.iloc_text.specs.declared.line.scan.TheConstants.{ABOVE_LIMIT}
