-- Products of sums, and of products.
use Rattle.iloc_terms.proofs.Common.{◌≡◌, ℤ, pos, ◌+ℤ◌, ◌*ℤ◌, FitsSigned, sym, ap, ◌∙◌, arith, w32, int_wrap-add_left, int_wrap-add_right, int_wrap-mul_left, int_wrap-mul_right, int_wrap_fits, ints, wrapped}
use Rattle.std.proofs.Math.IntN.{*ℤ_comm}
use Rattle.iloc_terms.proofs.Terms.Products.{add-mul, mul-add, mul-assoc, times_one}

-- the sum of what two words are
pub sum_of : (x a b e f : ℤ) → a ≡ wrapped e → b ≡ wrapped f → x ≡ wrapped (a +ℤ b) → x ≡ wrapped (e +ℤ f)
sum_of x a b e f is there whole = whole ∙ ap (λ y. wrapped (y +ℤ b)) is ∙ int_wrap-add_left w32 e b
    ∙ ap (λ y. wrapped (e +ℤ y)) there ∙ int_wrap-add_right w32 e f

-- the product of what two words are
pub product_of : (a b e f : ℤ) → a ≡ wrapped e → b ≡ wrapped f → wrapped (a *ℤ b) ≡ wrapped (e *ℤ f)
product_of a b e f is there = ap (λ y. wrapped (y *ℤ b)) is ∙ int_wrap-mul_left w32 e b
    ∙ ap (λ y. wrapped (e *ℤ y)) there ∙ int_wrap-mul_right w32 e f

one_times : (k : ℤ) → pos 1 *ℤ k ≡ k
one_times k = *ℤ_comm (pos 1) k ∙ times_one k

-- an atom is a product by itself
pub one_factor : (word : ℤ) → FitsSigned w32 word → word ≡ wrapped (pos 1 *ℤ word)
one_factor word fits = sym (int_wrap_fits w32 word fits) ∙ ap (λ x. wrapped x) (sym (one_times word))

-- the product of two, where nothing is left of one
pub last_factor : (other atom : ℤ) → wrapped (other *ℤ atom) ≡ wrapped ((pos 1 *ℤ other) *ℤ atom)
last_factor other atom = ap (λ x. wrapped (x *ℤ atom)) (sym (one_times other))

-- an atom of the left product
pub left_factor : (left right rest atom : ℤ) → left ≡ wrapped (rest *ℤ atom)
    → wrapped (left *ℤ right) ≡ wrapped ((rest *ℤ right) *ℤ atom)
left_factor left right rest atom is = ap (λ x. wrapped (x *ℤ right)) is ∙ int_wrap-mul_left w32 (rest *ℤ atom) right
    ∙ ap (λ x. wrapped x) (mul-assoc rest atom right ∙ ap (λ x. rest *ℤ x) (*ℤ_comm atom right)
    ∙ sym (mul-assoc rest right atom))

-- an atom of the right one
pub right_factor : (left right rest atom : ℤ) → right ≡ wrapped (rest *ℤ atom)
    → wrapped (left *ℤ right) ≡ wrapped ((rest *ℤ left) *ℤ atom)
right_factor left right rest atom is = ap (λ x. wrapped x) (*ℤ_comm left right) ∙ left_factor right left rest atom is

-- an atom after a product
pub factor_after : (left right product atom whole : ℤ) → product ≡ wrapped (left *ℤ right)
    → whole ≡ wrapped (product *ℤ atom) → whole ≡ wrapped ((left *ℤ right) *ℤ atom)
factor_after left right product atom whole is there =
    there ∙ ap (λ x. wrapped (x *ℤ atom)) is ∙ int_wrap-mul_left w32 (left *ℤ right) atom

-- the product of two terms
terms : (x by y more : ℤ) → (x *ℤ y) *ℤ (by *ℤ more) ≡ (x *ℤ by) *ℤ (y *ℤ more)
terms x by y more = mul-assoc x y (by *ℤ more)
    ∙ ap (λ z. x *ℤ z) (sym (mul-assoc y by more) ∙ ap (λ z. z *ℤ more) (*ℤ_comm y by) ∙ mul-assoc by y more)
    ∙ sym (mul-assoc x by (y *ℤ more))

-- a base times a term, where its first term has been
pub times_more : (base rest x by y more product atoms term whole : ℤ) → base ≡ wrapped (rest +ℤ x *ℤ by)
    → product ≡ wrapped (rest *ℤ (y *ℤ more)) → atoms ≡ wrapped (x *ℤ y)
    → term ≡ wrapped (pos 0 +ℤ atoms *ℤ wrapped (by *ℤ more)) → whole ≡ wrapped (product +ℤ term)
    → whole ≡ wrapped (base *ℤ (y *ℤ more))
times_more base rest x by y more product atoms term whole is earlier pair here sum =
    let plain : pos 0 +ℤ atoms *ℤ wrapped (by *ℤ more) ≡ atoms *ℤ wrapped (by *ℤ more) = zero_plus _ in
    let one : term ≡ wrapped ((x *ℤ by) *ℤ (y *ℤ more)) =
    here ∙ ap (λ z. wrapped z) plain ∙ int_wrap-mul_right w32 atoms (by *ℤ more)
    ∙ ap (λ z. wrapped (z *ℤ (by *ℤ more))) pair ∙ int_wrap-mul_left w32 (x *ℤ y) (by *ℤ more)
    ∙ ap (λ z. wrapped z) (terms x by y more) in
    sum_of whole product term (rest *ℤ (y *ℤ more)) ((x *ℤ by) *ℤ (y *ℤ more)) earlier one sum
    ∙ ap (λ z. wrapped z) (sym (add-mul rest (x *ℤ by) (y *ℤ more)))
    ∙ sym (int_wrap-mul_left w32 (rest +ℤ x *ℤ by) (y *ℤ more)) ∙ ap (λ z. wrapped (z *ℤ (y *ℤ more))) (sym is)
  where
    zero_plus : (z : ℤ) → pos 0 +ℤ z ≡ z
    zero_plus z = omega (arith, ints)

-- a product of bases, where the first term of one has been
pub out_more : (left right rest term product row whole : ℤ) → left ≡ wrapped (rest +ℤ term)
    → product ≡ wrapped (rest *ℤ right) → row ≡ wrapped (right *ℤ term) → whole ≡ wrapped (product +ℤ row)
    → whole ≡ wrapped (left *ℤ right)
out_more left right rest term product row whole is earlier here sum =
    sum_of whole product row (rest *ℤ right) (term *ℤ right) earlier
    (here ∙ ap (λ z. wrapped z) (*ℤ_comm right term)) sum
    ∙ ap (λ z. wrapped z) (sym (add-mul rest term right)) ∙ sym (int_wrap-mul_left w32 (rest +ℤ term) right)
    ∙ ap (λ z. wrapped (z *ℤ right)) (sym is)

-- the product of two words, part by part
pub product_parts : (left right b c e f bases scaled other both base whole : ℤ) → left ≡ wrapped (b +ℤ c)
    → right ≡ wrapped (e +ℤ f) → bases ≡ wrapped (b *ℤ e) → scaled ≡ wrapped (b *ℤ f) → other ≡ wrapped (e *ℤ c)
    → both ≡ wrapped (scaled +ℤ other) → base ≡ wrapped (bases +ℤ both)
    → whole ≡ wrapped (base +ℤ wrapped (c *ℤ f)) → whole ≡ wrapped (left *ℤ right)
product_parts left right b c e f bases scaled other both base whole is there first second third two three four =
    let mixed : both ≡ wrapped (b *ℤ f +ℤ e *ℤ c) = sum_of both scaled other (b *ℤ f) (e *ℤ c) second third two in
    let some : base ≡ wrapped (b *ℤ e +ℤ (b *ℤ f +ℤ e *ℤ c)) =
    sum_of base bases both (b *ℤ e) (b *ℤ f +ℤ e *ℤ c) first mixed three in
    four ∙ int_wrap-add_right w32 base (c *ℤ f) ∙ ap (λ z. wrapped (z +ℤ c *ℤ f)) some
    ∙ int_wrap-add_left w32 (b *ℤ e +ℤ (b *ℤ f +ℤ e *ℤ c)) (c *ℤ f)
    ∙ ap (λ z. wrapped z) (order (b *ℤ e) (b *ℤ f) (e *ℤ c) (c *ℤ f)
    ∙ ap (λ z. (b *ℤ e +ℤ b *ℤ f) +ℤ (z +ℤ c *ℤ f)) (*ℤ_comm e c)
    ∙ ap (λ z. z +ℤ (c *ℤ e +ℤ c *ℤ f)) (sym (mul-add b e f)) ∙ ap (λ z. b *ℤ (e +ℤ f) +ℤ z) (sym (mul-add c e f))
    ∙ sym (add-mul b c (e +ℤ f)))
    ∙ sym (product_of left right (b +ℤ c) (e +ℤ f) is there)
  where
    order : (p q r s : ℤ) → (p +ℤ (q +ℤ r)) +ℤ s ≡ (p +ℤ q) +ℤ (r +ℤ s)
    order p q r s = omega (arith, ints)
