-- How many operations are alike, and which have a counterpart.
use Rattle.std.specs.Prelude.{ℕ, ◌≡◌, ◌<◌, ◌==◌, ◌&&◌, nat_le, Bool, List, length, take, count_by}
use Rattle.std.specs.List.{range_with_len}
use Rattle.iloc_ops.specs.declared.op.Op.{Op}
use Rattle.iloc_ops.specs.contracts.op.OpPartialEq.TheImpl as of_ops
use Rattle.iloc_meaning.specs.Trace.{op_at}
use Rattle.iloc_facts.specs.declared.counterparts.lacking.Lacking.{Lacking}
use Rattle.iloc_facts.specs.Labels.{label}

-- whether two operations differ in registers alone
abbrev pub are_alike : Op → Op → Bool
are_alike a b = (of_ops.ghosts).eq (label a) (label b)

-- how many operations are like this one
abbrev pub count_like : Op → List Op → ℕ
count_like op ops = count_by (are_alike op) ops

-- operation i has no counterpart: as many like it come before it as the others have
abbrev pub lacks_counterpart : List Op → List Op → ℕ → Bool
lacks_counterpart ops others i = nat_le (count_like (op_at ops i) others) (count_like (op_at ops i) (take i ops))

-- how many operations have none: of each label as many as there are more than among the others
abbrev pub lacking : List Op → List Op → ℕ
lacking ops others = count_by (lacks_counterpart ops others) (range_with_len 0 (length ops))

-- of its label there are more than among the others
abbrev pub IsShort : Op → List Op → List Op → Type 0
IsShort op ops others = count_like op others < count_like op ops

-- how many operations have no counterpart among the others, and one that is short
pub record AreLacking (ops others : List Op) (it : Lacking) : Type 0 where
  pub count : it.count ≡ lacking ops others
  pub some : 0 < it.count
  pub within : it.number < length ops
  pub short : IsShort (op_at ops it.number) ops others

-- whether nothing is left out and nothing added: each of `block` has a counterpart among `ops`, and each of `ops` one in `block`
abbrev pub has_operations : List Op → List Op → Bool
has_operations block ops = (lacking block ops == 0) && (lacking ops block == 0)

-- of each opcode and constant `ops` has as many as `block`, whatever registers they name
abbrev pub AreItsOperations : List Op → List Op → Type 0
AreItsOperations block ops = (op : Op) → count_like op ops ≡ count_like op block
