-- Terms that name earlier ones alone have a meaning on every memory.
use Rattle.iloc_terms.proofs.Common.{◌≡◌, ℕ, zero, suc, ◌+◌, ◌*◌, ◌/◌, ◌%◌, ◌^◌, ◌<◌, ◌≤◌, true, false, ◌&&◌, List, length, ℤ, pos, negsuc, ◌+ℤ◌, ◌*ℤ◌, IfSome, if◌then◌else◌, nat_lt, ◌==◌, FitsSigned, Some, None, All, Option, unwrap_or, refl, ◌∙◌, inl, inr, arith, w32, rules, eq-eqb, ne_eqb, and_parts, cases_eq, cases_lt, lt-ltb, nat_tests, SFits-int_wrap, get_or_past, cast_unsigned, int_shl, int_shr, by_bool, high_bits, wrapped, word_at, IsMeaning, Meaning, Means, base_word, computed, key_of, node_at, word_or_zero, Node}
use Rattle.std.proofs.Math.Facts.{sfits_to_z}
use Rattle.std.specs.Int.Signed.{mag_shr}
use Rattle.iloc_terms.specs.declared.table.node.Binary.{Binary}
use Rattle.iloc_terms.specs.declared.table.node.Binary.TheVariants.{Product, ShiftLeft, ShiftRight}
use Rattle.iloc_terms.specs.declared.table.node.Node.TheVariants.{Known, Offset, Sum, Combined, Word, Start, Epoch, Leaf, Fork}
use Rattle.iloc_terms.specs.Agreement.{IsMemory}
use Rattle.iloc_terms.specs.Steps.Order.{names_below, base_below, IsOrdered}

-- what one term means, as it goes by those before it
abbrev word_of : Meaning → Node → ℤ
word_of d (Known word) = wrapped word
word_of d (Offset base c) = wrapped (d.word base +ℤ c)
word_of d (Sum rest atom by) = wrapped (base_word d rest +ℤ d.word atom *ℤ by)
word_of d (Combined by left right) = computed by (d.word left) (d.word right)
word_of d (Word address m) = d.words m (d.word address)
word_of d _ = pos 0

abbrev words_of : List ℤ → Meaning → Node → ℤ → ℤ
words_of memory d Start z = word_or_zero memory z
words_of memory d (Epoch m base trie) z = unwrap_or (d.entry trie (key_of (base_word d base) z)) (d.words m z)
words_of memory d _ z = pos 0

abbrev entry_of : Meaning → Node → ℕ → Option ℤ
entry_of d (Leaf at value) key = if key == at then Some (d.word value) else None
entry_of d (Fork even odd) key = if key % 2 == 0 then d.entry even (key / 2) else d.entry odd (key / 2)
entry_of d _ key = None

-- a meaning with one number more
abbrev with_node : List ℤ → Meaning → ℕ → Node → Meaning
with_node memory d n node = record {
  word = λ k. if k == n then word_of d node else d.word k;
  words = λ k z. if k == n then words_of memory d node z else d.words k z;
  entry = λ k key. if k == n then entry_of d node key else d.entry k key;
}

-- the meaning of the first n terms
pub meaning_of : List ℤ → List Node → ℕ → Meaning
meaning_of memory nodes zero = record { word = λ k. pos 0; words = λ k z. pos 0; entry = λ k key. None }
meaning_of memory nodes (suc n) = with_node memory (meaning_of memory nodes n) n (node_at nodes n)

-- two meanings agree below n
record SameBelow (n : ℕ) (d e : Meaning) : Type 0 where
  word : (k : ℕ) → nat_lt k n ≡ true → d.word k ≡ e.word k
  words : (k : ℕ) → nat_lt k n ≡ true → (z : ℤ) → d.words k z ≡ e.words k z
  entry : (k : ℕ) → nat_lt k n ≡ true → (key : ℕ) → d.entry k key ≡ e.entry k key

-- the number is what the term says by another meaning
record IsOf (memory : List ℤ) (d : Meaning) (k : ℕ) (e : Meaning) (node : Node) : Type 0 where
  word : d.word k ≡ word_of e node
  words : (z : ℤ) → d.words k z ≡ words_of memory e node z
  entry : (key : ℕ) → d.entry k key ≡ entry_of e node key

both_below : (n a b : ℕ) → (nat_lt a n && nat_lt b n) ≡ true → (nat_lt a n ≡ true) × (nat_lt b n ≡ true)
both_below n a b both = and_parts (nat_lt a n) (nat_lt b n) both

same_base_word : (n : ℕ) (d e : Meaning) (base : Option ℕ) → SameBelow n d e → base_below n base ≡ true
    → base_word d base ≡ base_word e base
same_base_word n d e None same below = refl
same_base_word n d e (Some base) same below = same.word base below

-- a term whose names are below n means the same by two meanings that agree there
means_by : (memory : List ℤ) (n k : ℕ) (d e : Meaning) (node : Node) → SameBelow n d e → names_below n node ≡ true
    → IsOf memory d k e node → Means memory d k node
means_by memory n k d e node same below is = grind (arith, and_parts, both_below, same_base_word, unwrap_or)

-- one number more changes no earlier one
same_more : (memory : List ℤ) (d : Meaning) (n m : ℕ) (node : Node) → nat_lt n (m + 1) ≡ true
    → SameBelow n (with_node memory d m node) d
same_more memory d n m node upto = grind (arith, nat_tests, ne_eqb)

-- in a meaning of more terms each number is what its term says by the meaning of those before it
same_upto : (memory : List ℤ) (nodes : List Node) (k n : ℕ) → k ≤ n
    → SameBelow k (meaning_of memory nodes n) (meaning_of memory nodes k)
unfolding meaning_of
same_upto memory nodes k zero upto = grind arith
same_upto memory nodes k (suc n) upto = elim (cases_eq k (suc n)) [
  | inl here ↦ rw here record { word = λ j below. refl; words = λ j below z. refl; entry = λ j below key. refl }
  | inr before ↦
      let earlier : SameBelow k (meaning_of memory nodes n) (meaning_of memory nodes k) =
      same_upto memory nodes k n (omega arith) in
      let one : SameBelow k (meaning_of memory nodes (suc n)) (meaning_of memory nodes n) =
      same_more memory (meaning_of memory nodes n) k n (node_at nodes n) (lt-ltb k (n + 1) (omega arith)) in
      record {
        word = λ j below. one.word j below ∙ earlier.word j below;
        words = λ j below z. one.words j below z ∙ earlier.words j below z;
        entry = λ j below key. one.entry j below key ∙ earlier.entry j below key;
      }
]

of_upto : (memory : List ℤ) (nodes : List Node) (k n : ℕ) → k < n
    → IsOf memory (meaning_of memory nodes n) k (meaning_of memory nodes k) (node_at nodes k)
unfolding meaning_of
of_upto memory nodes k zero before = absurd (omega arith)
of_upto memory nodes k (suc n) before = elim (cases_eq k n) [
  | inl here ↦
      let same : (n == n) ≡ true = eq-eqb n n refl in
      rw here record {
        word = rw same refl;
        words = λ z. rw same refl;
        entry = λ key. rw same refl;
      }
  | inr earlier ↦
      let other : (k == n) ≡ false = ne_eqb k n earlier in
      let is : IsOf memory (meaning_of memory nodes n) k (meaning_of memory nodes k) (node_at nodes k) =
      of_upto memory nodes k n (omega arith) in
      record {
        word = rw other is.word;
        words = λ z. rw other (is.words z);
        entry = λ key. rw other (is.entry key);
      }
]

-- whatever a meaning says has 32 bits
record AllFit (d : Meaning) : Type 0 where
  word : (k : ℕ) → FitsSigned w32 (d.word k)
  words : (k : ℕ) (z : ℤ) → FitsSigned w32 (d.words k z)
  entry : (k key : ℕ) → IfSome (d.entry k key) (λ word. FitsSigned w32 word)

zero_fits : FitsSigned w32 (pos 0)
zero_fits = search rules

shr_fits : (z : ℤ) (k : ℕ) → FitsSigned w32 z → FitsSigned w32 (int_shr z k)
shr_fits z k fits = search (rules, mag_shr)

shl_fits : (z : ℤ) (k : ℕ) → FitsSigned w32 (int_shl w32 z k)
shl_fits z k = sfits_to_z {w = w32} {n = (cast_unsigned w32 z * 2 ^ k) % 2 ^ 32} (omega arith)

computed_fits : (by : Binary) (x y : ℤ) → FitsSigned w32 x → FitsSigned w32 (computed by x y)
computed_fits Product x y fits = SFits-int_wrap w32 (x *ℤ y)
computed_fits ShiftLeft x y fits = shl_fits x (high_bits y)
computed_fits ShiftRight x y fits = shr_fits x (high_bits y) fits

word_of_fits : (d : Meaning) (node : Node) → AllFit d → FitsSigned w32 (word_of d node)
word_of_fits d (Known word) fit = SFits-int_wrap w32 word
word_of_fits d (Offset base c) fit = SFits-int_wrap w32 (d.word base +ℤ c)
word_of_fits d (Sum rest atom by) fit = SFits-int_wrap w32 (base_word d rest +ℤ d.word atom *ℤ by)
word_of_fits d (Combined by left right) fit = computed_fits by (d.word left) (d.word right) (fit.word left)
word_of_fits d (Word address m) fit = fit.words m (d.word address)
word_of_fits d _ fit = zero_fits

word_at_fits : (memory : List ℤ) (a : ℕ) → All (FitsSigned w32) memory → FitsSigned w32 (word_at memory a)
word_at_fits memory a fits = grind (arith, cases_lt, get_or_past, pos, w32, zero_fits)

word_or_zero_fits : (memory : List ℤ) (z : ℤ) → All (FitsSigned w32) memory → FitsSigned w32 (word_or_zero memory z)
word_or_zero_fits memory z fits = grind (arith, negsuc, pos, word_at_fits, zero_fits)

unwrap_fits : (o : Option ℤ) (word : ℤ) → IfSome o (λ w. FitsSigned w32 w) → FitsSigned w32 word
    → FitsSigned w32 (unwrap_or o word)
unwrap_fits None word some fits = fits
unwrap_fits (Some w) word some fits = some

words_of_fits : (memory : List ℤ) (d : Meaning) (node : Node) (z : ℤ) → All (FitsSigned w32) memory → AllFit d
    → FitsSigned w32 (words_of memory d node z)
words_of_fits memory d Start z fits fit = word_or_zero_fits memory z fits
words_of_fits memory d (Epoch m base trie) z fits fit =
    unwrap_fits (d.entry trie (key_of (base_word d base) z)) (d.words m z)
    (fit.entry trie (key_of (base_word d base) z)) (fit.words m z)
words_of_fits memory d _ z fits fit = zero_fits

entry_of_fits : (d : Meaning) (node : Node) (key : ℕ) → AllFit d → IfSome (entry_of d node key) (λ w. FitsSigned w32 w)
entry_of_fits d (Leaf at value) key fit =
    by_bool (key == at) (λ same. rw same (fit.word value)) (λ other. rw other tt)
entry_of_fits d (Fork even odd) key fit =
    by_bool (key % 2 == 0) (λ same. rw same (fit.entry even (key / 2))) (λ other. rw other (fit.entry odd (key / 2)))
entry_of_fits d _ key fit = tt

all_fit : (memory : List ℤ) (nodes : List Node) (n : ℕ) → All (FitsSigned w32) memory
    → AllFit (meaning_of memory nodes n)
unfolding meaning_of
all_fit memory nodes zero fits = grind (arith, zero_fits)
all_fit memory nodes (suc n) fits = grind (arith, entry_of_fits, meaning_of, word_of_fits, words_of_fits, all_fit memory nodes n fits)

-- on every memory the terms mean something
pub is_meaning : (memory : List ℤ) (nodes : List Node) → IsMemory memory → IsOrdered nodes
    → IsMeaning memory nodes (meaning_of memory nodes (length nodes))
is_meaning memory nodes is ordered = record {
  each = λ k within. means_by memory k k (meaning_of memory nodes (length nodes)) (meaning_of memory nodes k)
      (node_at nodes k) (same_upto memory nodes k (length nodes) (omega arith)) (ordered k within)
      (of_upto memory nodes k (length nodes) within);
  fits = (all_fit memory nodes (length nodes) is.fits).word;
}
