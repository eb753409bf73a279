use Rattle.iloc_optimum.proofs.Common.{◌≡◌, ℕ, zero, suc, ◌+◌, ◌-◌, ◌*◌, ◌<◌, ◌≤◌, Bool, true, cond, ◌&&◌, ◌⊎◌, List, length, count_by, refl, ap, ◌∙◌, arith, and_from, cases_lt, range_with_len, Kind, count_by-cons, in_between, width, Share, count_inside, is_inside, FitsShares, Within, belongs, between}
use Rattle.iloc_bound.specs.declared.share.Share.TheVariants.{All}
use Rattle.iloc_optimum.proofs.FullCycles.{is_less, issued_inside}
use Rattle.iloc_optimum.proofs.nests.is_overfull.Goals as goal

-- Nests that more windows are in than they hold.
abbrev one : Bool → ℕ
one b = cond {A = ℕ} b 1 0

-- what is counted twice at most is counted by four tests
by_four : (p q u v w x : ℕ → Bool) (a n : ℕ)
    → ((i : ℕ) → a ≤ i → i < a + n → one (p i) + one (q i) ≤ one (u i) + one (v i) + one (w i) + one (x i))
    → count_by p (range_with_len a n) + count_by q (range_with_len a n)
    ≤ count_by u (range_with_len a n) + count_by v (range_with_len a n) + count_by w (range_with_len a n) + count_by x (range_with_len a n)
by_four p q u v w x a zero each = omega arith
by_four p q u v w x a (suc n) each = grind (arith, count_by-cons, by_four p q u v w x (a + 1) n)

at_one : (b : Bool) → b ≡ true → one b ≡ 1
at_one b is = ap (λ c. cond {A = ℕ} c 1 0) is

-- a window in both counts for two, one in either for one
of_one : (p q u v w x : Bool) → (q ≡ true → u ≡ true) → (q ≡ true → p ≡ true → x ≡ true)
    → (p ≡ true → (u ≡ true) ⊎ (v ≡ true) ⊎ (w ≡ true)) → one p + one q ≤ one u + one v + one w + one x
of_one p q u v w x all both some = grind (arith, at_one)

module _ (kinds : List Kind) (firsts lasts : List ℕ) (s : Share) (a e b f : ℕ) (t : ℕ → ℕ) where
  -- where an operation with its window from a to e is issued: from b to f, before that or after it
  placed : (i : ℕ) → belongs kinds s i ≡ true → a ≤ t i → t i ≤ e
      → ((belongs kinds All i && between b (f + 1) (t i)) ≡ true)
      ⊎ ((belongs kinds s i && between a b (t i)) ≡ true) ⊎ ((belongs kinds s i && between (f + 1) (e + 1) (t i)) ≡ true)
  placed i member low high = grind (arith, cases_lt, and_from, in_between)

  each_placed : length firsts ≡ length kinds → length lasts ≡ length kinds → Within firsts lasts t → (i : ℕ) → i < length kinds
      → one (is_inside kinds firsts lasts s a e i) + one (is_inside kinds firsts lasts All b f i)
      ≤ one (belongs kinds All i && between b (f + 1) (t i)) + one (belongs kinds s i && between a b (t i))
      + one (belongs kinds s i && between (f + 1) (e + 1) (t i)) + one (is_inside kinds firsts lasts s b f i)
  each_placed same_firsts same_lasts w i below =
      of_one (is_inside kinds firsts lasts s a e i) (is_inside kinds firsts lasts All b f i)
      (belongs kinds All i && between b (f + 1) (t i)) (belongs kinds s i && between a b (t i))
      (belongs kinds s i && between (f + 1) (e + 1) (t i)) (is_inside kinds firsts lasts s b f i)
      (λ inner. let at = issued_inside kinds firsts lasts All b f t same_firsts same_lasts w i below inner in
      and_from true (between b (f + 1) (t i)) refl (in_between b (f + 1) (t i) at.1 (omega arith)))
      (λ inner outer. let at = issued_inside kinds firsts lasts s a e t same_firsts same_lasts w i below outer in
      and_from (belongs kinds s i) (is_inside kinds firsts lasts All b f i) at.0 inner)
      (λ outer. let at = issued_inside kinds firsts lasts s a e t same_firsts same_lasts w i below outer in
      placed i at.0 at.1 at.2)

  -- the share's windows from a to e, and all from b to f, with the share's counted once more
  most_nested : length firsts ≡ length kinds → length lasts ≡ length kinds → FitsShares kinds t → Within firsts lasts t
      → count_inside kinds firsts lasts s a e (length kinds) + count_inside kinds firsts lasts All b f (length kinds)
      ≤ width s * (b - a) + width s * (e - f) + 2 * (f + 1 - b) + count_inside kinds firsts lasts s b f (length kinds)
  most_nested same_firsts same_lasts fits w =
      let counted = by_four (is_inside kinds firsts lasts s a e) (is_inside kinds firsts lasts All b f)
      (λ i. belongs kinds All i && between b (f + 1) (t i)) (λ i. belongs kinds s i && between a b (t i))
      (λ i. belongs kinds s i && between (f + 1) (e + 1) (t i)) (is_inside kinds firsts lasts s b f) 0 (length kinds)
      (λ i low high. each_placed same_firsts same_lasts w i (omega arith)) in
      let inner : count_by (λ i. belongs kinds All i && between b (f + 1) (t i)) (range_with_len 0 (length kinds))
      ≤ 2 * (f + 1 - b) = fits All b (f + 1) in
      let before : count_by (λ i. belongs kinds s i && between a b (t i)) (range_with_len 0 (length kinds))
      ≤ width s * (b - a) = fits s a b in
      let behind : count_by (λ i. belongs kinds s i && between (f + 1) (e + 1) (t i)) (range_with_len 0 (length kinds))
      ≤ width s * ((e + 1) - (f + 1)) = fits s (f + 1) (e + 1) in
      let rows : (e + 1) - (f + 1) ≡ e - f = omega arith in
      let after : width s * ((e + 1) - (f + 1)) ≡ width s * (e - f) = ap (λ n. width s * n) rows in
      omega arith

pub returns : goal.returns
returns c = λ is t fits w.
    let kinds = c.args.kinds.now in
    let F = c.args.firsts.now in
    let L = c.args.lasts.now in
    let s = c.args.nest.share in
    let a = c.args.nest.outer.from in
    let e = c.args.nest.outer.to in
    let b = c.args.nest.inner.from in
    let f = c.args.nest.inner.to in
    let most : count_inside kinds F L s a e (length kinds) + count_inside kinds F L All b f (length kinds)
    ≤ width s * (b - a) + width s * (e - f) + 2 * (f + 1 - b) + count_inside kinds F L s b f (length kinds) =
    most_nested kinds F L s a e b f t c.requires.firsts c.requires.lasts fits w in
    let more : c.room_of.result + c.room_of-2.result + c.room_of-3.result + c.from-7.result < c.from-8.result + c.from-9.result =
    is_less (c.room_of.result + c.room_of-2.result + c.room_of-3.result + c.from-7.result) (c.from-8.result + c.from-9.result) is in
    let one = c.from.ensures in
    let two = c.from-2.ensures in
    let three = c.from-3.ensures in
    let four = c.from-4.ensures in
    let five = c.from-5.ensures in
    let six = c.from-6.ensures in
    let less_before = c.saturating_sub-before.ensures in
    let less_after = c.saturating_sub-after.ensures in
    let less_within = c.saturating_sub-within.ensures in
    let before : c.saturating_sub-before.result ≡ b - a = omega arith in
    let after : c.saturating_sub-after.result ≡ e - f = omega arith in
    let within : c.saturating_sub-within.result ≡ f + 1 - b = omega arith in
    let room_before : c.room_of.result ≡ width s * (b - a) = c.room_of.ensures.value ∙ ap (λ n. width s * n) before in
    let room_after : c.room_of-2.result ≡ width s * (e - f) = c.room_of-2.ensures.value ∙ ap (λ n. width s * n) after in
    let room_within : c.room_of-3.result ≡ 2 * (f + 1 - b) = c.room_of-3.ensures.value ∙ ap (λ n. 2 * n) within in
    let twice = c.from-7.ensures in
    let members = c.from-8.ensures in
    let all = c.from-9.ensures in
    let counted_members = c.count_inside-members.ensures in
    let counted_all = c.count_inside-all.ensures in
    let counted_twice = c.count_inside-twice.ensures in
    omega arith
