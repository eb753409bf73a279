-- Operations of one label share opcode, constant and key, and those of one key share the label.
use Rattle.iloc_facts.proofs.Common.{◌≡◌, sym, refl, ap, ◌∙◌, Op, Nop, constant, label, label_key}
use Rattle.iloc_ops.specs.Forms.{opcode}

opcode-label : (op : Op) → opcode (label op) ≡ opcode op
opcode-label Nop = refl
opcode-label _ = refl

constant-label : (op : Op) → constant (label op) ≡ constant op
constant-label Nop = refl
constant-label _ = refl

key-label : (op : Op) → label_key (label op) ≡ label_key op
key-label Nop = refl
key-label _ = refl

label-key : (op : Op) → label (label_key op) ≡ label op
label-key Nop = refl
label-key _ = refl

pub same_opcode : (a b : Op) → label a ≡ label b → opcode a ≡ opcode b
same_opcode a b same = sym (opcode-label a) ∙ ap opcode same ∙ opcode-label b

pub same_constant : (a b : Op) → label a ≡ label b → constant a ≡ constant b
same_constant a b same = sym (constant-label a) ∙ ap constant same ∙ constant-label b

pub same_key : (a b : Op) → label a ≡ label b → label_key a ≡ label_key b
same_key a b same = sym (key-label a) ∙ ap label_key same ∙ key-label b

pub one_label : (a b : Op) → label_key a ≡ label_key b → label a ≡ label b
one_label a b same = sym (label-key a) ∙ ap label same ∙ label-key b
