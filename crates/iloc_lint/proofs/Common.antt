-- The names that many proofs import, passed on from one place. Declares nothing.
pub use Rattle.std.proofs.Common.{◌≡◌, ℕ, zero, suc, ◌+◌, ◌-◌, ◌*◌, ◌<◌, ◌≤◌, max, Bool, true, false, cond, not, ◌&&◌, ◌≢◌, ◌⊎◌, List, [], ◌∷◌, ◌++◌, map, length, get_or, take, drop, is_some, IsTrue, nat_lt, ◌==◌, slice_get, Some, None, Ok, Err, codes, Option, Result, option_to_list, find, flat_map, bytes_eq, sym, refl, ap, ◌∙◌, subst, subst₂, inl, inr, true≢false, append_assoc, append-nil, arith, length-append, length-drop, eq-eqb, ne_eqb}
pub use Rattle.std.proofs.lemmas.Bool.{and_parts, eqb-false, eqb-true, ltb-false, ltb-true, not-true}
pub use Rattle.std.proofs.lemmas.Bool.Decides.{nat_tests}
pub use Rattle.std.proofs.lemmas.List.{drop_more, length-take-le, map-append, take-append-drop, take-append-le, take_all, take_more}
pub use Rattle.std.proofs.lemmas.List.Elements.{filter_map-append}
pub use Rattle.std.proofs.lemmas.Option.{none-some}
pub use Rattle.std.proofs.lemmas.Result.{IfErr-weaker, IfOk-weaker}
pub use Rattle.std.specs.Char.{digit_value, is_ascii_alphabetic, is_ascii_digit}
pub use Rattle.std.specs.List.{AllByRecursion, join_with_byte}
pub use Rattle.iloc_ops.specs.Forms.{Lead, Operand, Value, number_in, number_of, op_of, opcode, opcode_text, opcodes, operands}
pub use Rattle.iloc_ops.specs.Forms.Lead.{space}
pub use Rattle.iloc_ops.specs.Forms.Value.{Constant, Definition, Use}
pub use Rattle.iloc_ops.specs.Limits.{MAX_BLOCKS, MAX_INPUT, MAX_NUMBER, MAX_OPS}
pub use Rattle.iloc_ops.specs.declared.file.Block.{Block}
pub use Rattle.iloc_ops.specs.declared.forms.Opcode.{Opcode}
pub use Rattle.iloc_ops.specs.declared.op.Op.{Op}
pub use Rattle.iloc_ops.specs.declared.op.Op.TheVariants.{Nop}
pub use Rattle.iloc_text.proofs.Names.{opcode-op_of, opcode_found, operands-op_of}
pub use Rattle.iloc_text.proofs.Parts.{Before, Before-all, Before-join, Before-split, all-Before}
pub use Rattle.iloc_text.proofs.Splitting.{lines_are, lines_few}
pub use Rattle.iloc_text.proofs.Tokens.{blanks_again, blanks_over, blanks_read, digit_from_value, digit_value_is, digit_value_small}
pub use Rattle.iloc_text.specs.Files.{AreLines, Denotes, HasFirstFault, HasNoLineEnd, IsFaulty, IsRefused, NoneFaulty, ReadAs, Reading, block_count, file_of}
pub use Rattle.iloc_text.specs.Grammar.{Blanks, LeadText, OperandsText, OptionalComment, OptionalLabel, Reads, SomeBlanks, Text, ValueText, is_blank, ◌⋅◌}
pub use Rattle.iloc_text.specs.Lines.{lines_left, lines_of}
pub use Rattle.iloc_text.specs.Steps.Growth.{with_line}
pub use Rattle.iloc_text.specs.Steps.Scan.{after_blanks, after_colon, after_word, label_or_none, word_of}
pub use Rattle.iloc_text.specs.declared.fault.ReadFault.{ReadFault}
pub use Rattle.iloc_text.specs.declared.fault.ReadFault.TheVariants.{BadLine, InputTooLong, NoMemory, NumberTooLarge, TooManyBlocks, TooManyOperations}
pub use Rattle.iloc_lint.specs.Faults.{AreRefused, CountsAs, HasFaults, IsLinted, Refusal, empty, ops_in}
pub use Rattle.iloc_lint.specs.Steps.Longest.{Bodies, Called, Longest, NumberAt, PartAt, PartText, RegisterAt, Rest, SignAt, SmallNumber, alternate, blanks_in, comment_in, common_in, digits_in, label_in, lead_part, named_in, parts, parts_in, starts, starts_with_value, value_part, word_in}
