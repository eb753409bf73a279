-- An effect depends on the used registers, and on words only where memory is read; for `TimedOutcomes`.
use Rattle.iloc_rules.proofs.Common.{◌≡◌, ℕ, Bool, true, false, ◌||◌, [], ℤ, ◌+ℤ◌, Some, None, Option, sym, refl, ap, ◌∙◌, true≢false, arith, eqb-true, false≢true, used, Op, Load, LoadAI, Output, Store, StoreAI, Reg, at_address_cases, effect_same, constant, wrapped, at_address, effect, emitted_by, is_write_to, is_load, is_output, is_store, kind, latency, latency_of, Kind, Latencies, touched, In}
use Rattle.iloc_meaning.specs.declared.effect.Effect.{Effect}
use Rattle.iloc_meaning.specs.declared.effect.Effect.TheVariants.{Gives, Writes, Emits}
use Rattle.iloc_meaning.specs.Address.{good_address}
use Rattle.iloc_rules.proofs.Basics.Members.{in_from}

-- whether an operation of this kind reads memory
abbrev pub reads_memory : Kind → Bool
reads_memory k = is_load k || is_output k

-- what is done at an address depends on what would be done at that one alone
at_one_address : (o : Option ℕ) (act other : ℕ → Effect) → ((a : ℕ) → o ≡ Some a → act a ≡ other a)
    → at_address o act ≡ at_address o other
at_one_address None act other same = refl
at_one_address (Some a) act other same = same a refl

-- words are looked at only where memory is read, and only the one that is touched
words_unread : (op : Op) (reg : Reg → ℤ) (word word' : ℕ → ℤ)
    → (reads_memory (kind op) ≡ true → (a : ℕ) → touched op reg ≡ Some a → word a ≡ word' a)
    → effect op reg word ≡ effect op reg word'
words_unread (Load addr dest) reg word word' words =
    at_one_address (good_address (reg addr)) _ _ (λ a is. ap Gives (words refl a is))
words_unread (LoadAI addr offset dest) reg word word' words =
    at_one_address (good_address (wrapped (reg addr +ℤ constant offset))) _ _ (λ a is. ap Gives (words refl a is))
words_unread (Output addr) reg word word' words =
    at_one_address (good_address (constant addr)) _ _ (λ a is. ap Emits (words refl a is))
words_unread _ reg word word' words = refl

pub effect_used : (op : Op) (reg reg' : Reg → ℤ) (word word' : ℕ → ℤ) → ((r : Reg) → In (used op) r → reg r ≡ reg' r)
    → (reads_memory (kind op) ≡ true → (a : ℕ) → touched op reg' ≡ Some a → word a ≡ word' a)
    → effect op reg word ≡ effect op reg' word'
effect_used op reg reg' word word' regs words =
    effect_same op reg reg' word word (λ r there. regs r (in_from (used op) r there)) (λ a good. refl)
    ∙ words_unread op reg' word word' words

load_writes_not : (z : ℤ) (word : ℕ → ℤ) (a : ℕ) → is_write_to a (at_address (good_address z) (λ b. Gives (word b)))
    ≡ false
load_writes_not z word a = at_address_cases (λ e. is_write_to a e ≡ false) z (λ b. Gives (word b)) refl (λ b good. refl)

output_writes_not : (z : ℤ) (word : ℕ → ℤ) (a : ℕ) → is_write_to a (at_address (good_address z) (λ b. Emits (word b)))
    ≡ false
output_writes_not z word a = grind (arith, at_address_cases)

-- what is written is written where it is touched
written_there : (o : Option ℕ) (value : ℤ) (a : ℕ) → is_write_to a (at_address o (λ b. Writes b value)) ≡ true
    → o ≡ Some a
written_there o value a writes = grind (arith, eqb-true)

pub writes_touch : (op : Op) (reg : Reg → ℤ) (word : ℕ → ℤ) (a : ℕ) → is_write_to a (effect op reg word) ≡ true
    → touched op reg ≡ Some a
writes_touch (Store value addr) reg word a writes = written_there (good_address (reg addr)) (reg value) a writes
writes_touch (StoreAI value addr offset) reg word a writes =
    written_there (good_address (wrapped (reg addr +ℤ constant offset))) (reg value) a writes
writes_touch (Load addr dest) reg word a writes =
    absurd (false≢true (sym (load_writes_not (reg addr) word a) ∙ writes))
writes_touch (LoadAI addr offset dest) reg word a writes =
    absurd (false≢true (sym (load_writes_not (wrapped (reg addr +ℤ constant offset)) word a) ∙ writes))
writes_touch (Output addr) reg word a writes =
    absurd (false≢true (sym (output_writes_not (constant addr) word a) ∙ writes))
writes_touch _ reg word a writes = absurd (false≢true writes)

-- what writes is a store
pub only_stores_write : (op : Op) (reg : Reg → ℤ) (word : ℕ → ℤ) (a : ℕ) → is_write_to a (effect op reg word) ≡ true
    → is_store (kind op) ≡ true
only_stores_write op reg word a writes = grind (arith, load_writes_not, output_writes_not)

load_emits_not : (z : ℤ) (word : ℕ → ℤ) → emitted_by (at_address (good_address z) (λ b. Gives (word b))) ≡ []
load_emits_not z word = at_address_cases (λ e. emitted_by e ≡ []) z (λ b. Gives (word b)) refl (λ b good. refl)

store_emits_not : (z value : ℤ) → emitted_by (at_address (good_address z) (λ b. Writes b value)) ≡ []
store_emits_not z value = at_address_cases (λ e. emitted_by e ≡ []) z (λ b. Writes b value) refl (λ b good. refl)

-- what emits is an output
pub only_outputs_emit : (op : Op) (reg : Reg → ℤ) (word : ℕ → ℤ) → is_output (kind op) ≡ false
    → emitted_by (effect op reg word) ≡ []
only_outputs_emit op reg word is = grind (arith, load_emits_not, store_emits_not, true≢false)

pub store_kind_latency : (lat : Latencies) (k : Kind) → is_store k ≡ true → latency_of lat k ≡ lat.store
store_kind_latency lat k is = grind (arith, false≢true)

-- all stores have one latency
pub latency_of_store : (lat : Latencies) (op : Op) → is_store (kind op) ≡ true → latency lat op ≡ lat.store
latency_of_store lat op is = store_kind_latency lat (kind op) is
