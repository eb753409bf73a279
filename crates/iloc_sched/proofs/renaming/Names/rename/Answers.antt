use Rattle.std.proofs.Common.{refl}
use Rattle.iloc_sched.proofs.Renamed.NewRegisters.{new_registers}
use Rattle.iloc_sched.proofs.Renamed.RenamingLoop.{form_renamed, nothing_named, defining_named}
use Rattle.iloc_sched.proofs.renaming.Names.rename.Goals as goal

pub returns-in-Nothing-clause-next : goal.returns-in-Nothing-clause-next
returns-in-Nothing-clause-next c =
    form_renamed _ _ _ _ _ _ _ _ _ _ _ _ c.form_of-opcode.ensures.opcode c.form_of-opcode.ensures.operands
    c.in-Nothing.is c.op_of.ensures (nothing_named (record { 0 = 0 }) _ _) (λ new names. cc)

pub returns-in-Constant-clause-next : goal.returns-in-Constant-clause-next
returns-in-Constant-clause-next c =
    form_renamed _ _ _ _ _ _ _ _ _ _ _ _ c.form_of-opcode.ensures.opcode c.form_of-opcode.ensures.operands
    c.in-Constant.is c.op_of-in-Constant.ensures (nothing_named (record { 0 = 0 }) _ _) (λ new names. cc)

pub returns-in_ok-dest-in-Immediate-clause-next : goal.returns-in_ok-dest-in-Immediate-clause-next
returns-in_ok-dest-in-Immediate-clause-next c =
    form_renamed _ _ _ _ _ _ _ _ _ _ _ _ c.form_of-opcode.ensures.opcode c.form_of-opcode.ensures.operands
    c.in-Immediate.is c.op_of-in-Immediate.ensures (defining_named _ _ _ _ _ _ c.in_ok-dest-in-Immediate.ensures) (λ new names. cc)

pub returns-in_ok-source-in-Copied-clause-next : goal.returns-in_ok-source-in-Copied-clause-next
returns-in_ok-source-in-Copied-clause-next c =
    form_renamed _ _ _ _ _ _ _ _ _ _ _ _ c.form_of-opcode.ensures.opcode c.form_of-opcode.ensures.operands
    c.in-Copied.is c.op_of-in-Copied.ensures c.in_ok-source-in-Copied.ensures.names (λ new names. cc)

pub returns-in_ok-left-in-WithConstant-clause-next : goal.returns-in_ok-left-in-WithConstant-clause-next
returns-in_ok-left-in-WithConstant-clause-next c =
    form_renamed _ _ _ _ _ _ _ _ _ _ _ _ c.form_of-opcode.ensures.opcode c.form_of-opcode.ensures.operands
    c.in-WithConstant.is c.op_of-in-WithConstant.ensures c.in_ok-left-in-WithConstant.ensures.names (λ new names. cc)

pub returns-in_ok-value-in-Stored-clause-next : goal.returns-in_ok-value-in-Stored-clause-next
returns-in_ok-value-in-Stored-clause-next c =
    form_renamed _ _ _ _ _ _ _ _ _ _ _ _ c.form_of-opcode.ensures.opcode c.form_of-opcode.ensures.operands
    c.in-Stored.is c.op_of-in-Stored.ensures (c.in_ok-value-in-Stored.ensures.names (record { 0 = 0 })) (λ new names. cc)

pub returns-in_ok-value-in-StoredAt-clause-next : goal.returns-in_ok-value-in-StoredAt-clause-next
returns-in_ok-value-in-StoredAt-clause-next c =
    form_renamed _ _ _ _ _ _ _ _ _ _ _ _ c.form_of-opcode.ensures.opcode c.form_of-opcode.ensures.operands
    c.in-StoredAt.is c.op_of-in-StoredAt.ensures (c.in_ok-value-in-StoredAt.ensures.names (record { 0 = 0 })) (λ new names. cc)

pub returns-in_ok-left-in-Sources-clause-next : goal.returns-in_ok-left-in-Sources-clause-next
returns-in_ok-left-in-Sources-clause-next c =
    form_renamed _ _ _ _ _ _ _ _ _ _ _ _ c.form_of-opcode.ensures.opcode c.form_of-opcode.ensures.operands
    c.in-Sources.is c.op_of-in-Sources.ensures c.in_ok-left-in-Sources.ensures.names (λ new names. cc)

pub returns-in-Nothing-clause-registers : goal.returns-in-Nothing-clause-registers
returns-in-Nothing-clause-registers c =
    new_registers _ _ _ _ _ _ _ c.form_of-opcode.ensures.opcode c.form_of-opcode.ensures.operands c.in-Nothing.is
    c.op_of.ensures refl refl

pub returns-in-Constant-clause-registers : goal.returns-in-Constant-clause-registers
returns-in-Constant-clause-registers c =
    new_registers _ _ _ _ _ _ _ c.form_of-opcode.ensures.opcode c.form_of-opcode.ensures.operands c.in-Constant.is
    c.op_of-in-Constant.ensures refl refl

pub returns-in_ok-dest-in-Immediate-clause-registers : goal.returns-in_ok-dest-in-Immediate-clause-registers
returns-in_ok-dest-in-Immediate-clause-registers c =
    new_registers _ _ _ _ _ _ _ c.form_of-opcode.ensures.opcode c.form_of-opcode.ensures.operands c.in-Immediate.is
    c.op_of-in-Immediate.ensures refl refl

pub returns-in_ok-source-in-Copied-clause-registers : goal.returns-in_ok-source-in-Copied-clause-registers
returns-in_ok-source-in-Copied-clause-registers c =
    new_registers _ _ _ _ _ _ _ c.form_of-opcode.ensures.opcode c.form_of-opcode.ensures.operands c.in-Copied.is
    c.op_of-in-Copied.ensures refl refl

pub returns-in_ok-left-in-WithConstant-clause-registers : goal.returns-in_ok-left-in-WithConstant-clause-registers
returns-in_ok-left-in-WithConstant-clause-registers c =
    new_registers _ _ _ _ _ _ _ c.form_of-opcode.ensures.opcode c.form_of-opcode.ensures.operands c.in-WithConstant.is
    c.op_of-in-WithConstant.ensures refl refl

pub returns-in_ok-value-in-Stored-clause-registers : goal.returns-in_ok-value-in-Stored-clause-registers
returns-in_ok-value-in-Stored-clause-registers c =
    new_registers _ _ _ _ _ _ _ c.form_of-opcode.ensures.opcode c.form_of-opcode.ensures.operands c.in-Stored.is
    c.op_of-in-Stored.ensures refl refl

pub returns-in_ok-value-in-StoredAt-clause-registers : goal.returns-in_ok-value-in-StoredAt-clause-registers
returns-in_ok-value-in-StoredAt-clause-registers c =
    new_registers _ _ _ _ _ _ _ c.form_of-opcode.ensures.opcode c.form_of-opcode.ensures.operands c.in-StoredAt.is
    c.op_of-in-StoredAt.ensures refl refl

pub returns-in_ok-left-in-Sources-clause-registers : goal.returns-in_ok-left-in-Sources-clause-registers
returns-in_ok-left-in-Sources-clause-registers c =
    new_registers _ _ _ _ _ _ _ c.form_of-opcode.ensures.opcode c.form_of-opcode.ensures.operands c.in-Sources.is
    c.op_of-in-Sources.ensures refl refl
