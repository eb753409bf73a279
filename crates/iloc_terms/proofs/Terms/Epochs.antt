-- Words read from an epoch, and where addresses are.
use Rattle.iloc_terms.proofs.Common.{◌≡◌, ℕ, true, false, not, List, ℤ, nat_eq, ◌==◌, FitsSigned, Some, None, Option, unwrap_or, sym, refl, ◌∙◌, arith, w32, eq-eqb, ne_eqb, eqb-true, Decides-int_eq, cast_unsigned, int_eq, by_bool, ArePartsOf, IsLocationOf, IsMeaning, IsNode, Meaning, base_word, key_of, Node}
use Rattle.std.specs.Option.{option_eq}
use Rattle.iloc_terms.specs.declared.table.node.Node.TheVariants.{Epoch}
use Rattle.iloc_terms.proofs.Terms.Arithmetic.{key_of_sum, key_of_other}
use Rattle.iloc_terms.proofs.Terms.Nodes.{node_means}

-- what is a base and a constant together is there
pub location_of_parts : (d : Meaning) (address key : ℕ) (base : Option ℕ) (c : ℤ) → FitsSigned w32 c
    → key ≡ cast_unsigned w32 c → ArePartsOf d address base c → IsLocationOf d address base key
location_of_parts d address key base c fits is parts = λ z small. by_bool (int_eq z (d.word address))
    (λ same.
    let at : z ≡ d.word address = (Decides-int_eq z (d.word address)).0 same in
    let there : (key_of (base_word d base) z == key) ≡ true =
    eq-eqb _ _ (key_of_sum (base_word d base) c z fits (at ∙ parts) ∙ sym is) in
    there ∙ sym same)
    (λ differs.
    let elsewhere : (key_of (base_word d base) z == key) ≡ false =
    ne_eqb _ _ (λ there.
    let at : z ≡ d.word address =
    key_of_other (base_word d base) c (d.word address) z fits small parts (there ∙ is) in
    let same : int_eq z (d.word address) ≡ true = (Decides-int_eq z (d.word address)).1 at in
    absurd cc) in
    elsewhere ∙ sym differs)

-- what the last epoch has at the address, or else what the memory before it has
pub read_at_location : (words : List ℤ) (nodes : List Node) (d : Meaning) (memory before trie address key : ℕ)
    (base : Option ℕ) (found : Option ℤ) → IsMeaning words nodes d → IsNode nodes memory (Epoch before base trie)
    → IsLocationOf d address base key → d.entry trie key ≡ found
    → d.words memory (d.word address) ≡ unwrap_or found (d.words before (d.word address))
read_at_location words nodes d memory before trie address key base found meaning there located has = grind (arith, eqb-true, node_means, unwrap_or)

-- two bases that the code finds equal
pub same_base : (one other : Option ℕ) → not (option_eq nat_eq one other) ≡ false → one ≡ other
same_base one other is = grind (arith, eqb-true)

-- what two may write, if only one word, may change places
pub alike_exchanged : (one other : Option ℤ) (word before : ℤ) → unwrap_or one word ≡ word → unwrap_or other word ≡ word
    → unwrap_or one (unwrap_or other before) ≡ unwrap_or other (unwrap_or one before)
alike_exchanged None other word before one_is other_is = refl
alike_exchanged (Some a) None word before one_is other_is = refl
alike_exchanged (Some a) (Some b) word before one_is other_is = one_is ∙ sym other_is
