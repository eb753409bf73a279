-- Products of integers, and of words.
use Rattle.iloc_terms.proofs.Common.{◌≡◌, ℤ, pos, negsuc, ◌+ℤ◌, ◌-ℤ◌, ◌*ℤ◌, sym, ap, ◌∙◌, arith, w32, int_wrap-add_left, int_wrap-add_right, int_wrap-mul_left, ints, wrapped}
use Rattle.std.proofs.Math.IntN.{neg_ℤ, suc_ℤ, pred_ℤ, ℤ_ind, +ℤ_one, -ℤ_one, suc_ℤ-+ℤ, pred_ℤ-+ℤ, suc_ℤ-*ℤ, pred_ℤ-*ℤ, zero-*ℤ, *ℤ_comm, *ℤ-negsuc}

-- an integer is reached from 0 by steps up and down
by_steps : (P : ℤ → Type 0) → P (pos 0) → ((x : ℤ) → P x → P (suc_ℤ x)) → ((x : ℤ) → P x → P (pred_ℤ x))
    → (z : ℤ) → P z
by_steps P start up down z =
    ℤ_ind P start (λ n holds. rw (+ℤ_one (pos n)) (up _ holds)) (λ n holds. rw (-ℤ_one _) (down _ holds)) z

pub add-mul : (a b k : ℤ) → (a +ℤ b) *ℤ k ≡ a *ℤ k +ℤ b *ℤ k
add-mul a b k = by_steps (λ x. (x +ℤ b) *ℤ k ≡ x *ℤ k +ℤ b *ℤ k)
    (let one : pos 0 +ℤ b ≡ b = omega (arith, ints) in
    let other : pos 0 *ℤ k +ℤ b *ℤ k ≡ b *ℤ k = rw (zero-*ℤ k) (omega (arith, ints)) in
    ap (λ y. y *ℤ k) one ∙ sym other)
    (λ x same. rw (suc_ℤ-+ℤ x b, suc_ℤ-*ℤ (x +ℤ b) k, suc_ℤ-*ℤ x k, same) (omega (arith, ints)))
    (λ x same. rw (pred_ℤ-+ℤ x b, pred_ℤ-*ℤ (x +ℤ b) k, pred_ℤ-*ℤ x k, same) (omega (arith, ints)))
    a

pub mul-assoc : (a b c : ℤ) → (a *ℤ b) *ℤ c ≡ a *ℤ (b *ℤ c)
mul-assoc a b c = by_steps (λ x. (x *ℤ b) *ℤ c ≡ x *ℤ (b *ℤ c))
    (ap (λ y. y *ℤ c) (zero-*ℤ b) ∙ zero-*ℤ c ∙ sym (zero-*ℤ (b *ℤ c)))
    (λ x same. ap (λ y. y *ℤ c) (suc_ℤ-*ℤ x b) ∙ add-mul (x *ℤ b) b c ∙ ap (λ y. y +ℤ b *ℤ c) same
    ∙ sym (suc_ℤ-*ℤ x (b *ℤ c)))
    (λ x same. ap (λ y. y *ℤ c) (pred_ℤ-*ℤ x b) ∙ sub-mul (x *ℤ b) b c ∙ ap (λ y. y -ℤ b *ℤ c) same
    ∙ sym (pred_ℤ-*ℤ x (b *ℤ c)))
    a
  where
    sub-mul : (x y k : ℤ) → (x -ℤ y) *ℤ k ≡ x *ℤ k -ℤ y *ℤ k
    sub-mul x y k =
        let back : (x -ℤ y) +ℤ y ≡ x = omega (arith, ints) in
        let whole : x *ℤ k ≡ (x -ℤ y) *ℤ k +ℤ y *ℤ k = ap (λ z. z *ℤ k) (sym back) ∙ add-mul (x -ℤ y) y k in
        rw whole (omega (arith, ints))

pub mul-add : (k a b : ℤ) → k *ℤ (a +ℤ b) ≡ k *ℤ a +ℤ k *ℤ b
mul-add k a b = *ℤ_comm k (a +ℤ b) ∙ add-mul a b k ∙ ap (λ y. y +ℤ b *ℤ k) (*ℤ_comm a k)
    ∙ ap (λ y. k *ℤ a +ℤ y) (*ℤ_comm b k)

-- a multiple of a sum
pub times_parts : (word base c by : ℤ) → word ≡ wrapped (base +ℤ c)
    → wrapped (wrapped (base *ℤ by) +ℤ wrapped (c *ℤ by)) ≡ wrapped (word *ℤ by)
times_parts word base c by is = grind (arith, add-mul, int_wrap-add_left, int_wrap-add_right, int_wrap-mul_left, w32)

pub times_one : (k : ℤ) → k *ℤ pos 1 ≡ k
times_one k = let plain : pos 0 +ℤ k ≡ k = omega (arith, ints) in
    *ℤ_comm k (pos 1) ∙ suc_ℤ-*ℤ (pos 0) k ∙ ap (λ x. x +ℤ k) (zero-*ℤ k) ∙ plain

-- a word less another is its sum with -1 times the other
pub less_times : (left right less : ℤ) → less ≡ wrapped (right *ℤ negsuc 0)
    → wrapped (left +ℤ less) ≡ wrapped (left -ℤ right)
less_times left right less is = grind (arith, *ℤ-negsuc, int_wrap-add_right, ints, neg_ℤ, negsuc, pos, times_one, w32)
