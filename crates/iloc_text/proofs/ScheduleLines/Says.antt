-- What the scanner's answer of a schedule line says, with the limit on its numbers.
use Rattle.iloc_text.proofs.Common.{◌≡◌, ℕ, ◌≤◌, true, false, List, [], ◌∷◌, ◌++◌, IfSome, nat_lt, Some, None, sym, refl, ap, ◌∙◌, subst, arith, and_parts, nat_tests, AllByRecursion, MAX_NUMBER, Op, IsWithinLimit, Said, Says, SaysSomething, SaysSomethingWidely, SaysWidely, said_numbers, nothing, capped, is_within, is_said_within, schedule_line_at, ABOVE_LIMIT}
use Rattle.std.proofs.lemmas.Option.{same_Some}
use Rattle.iloc_text.proofs.Names.{capped_op, numbers-capped}
use Rattle.iloc_text.proofs.Caps.{all_numbers, capped_within, capped-within, small_all, within_limit}
use Rattle.iloc_text.proofs.ScheduleLines.Read.{capped_said, FindsSaidLine, line_read}
use Rattle.iloc_text.proofs.ScheduleLines.Again.{nothing_line, line_again}

-- The limit

abbrev AreAllSmall : List ℕ → Type 0
AreAllSmall ns = AllByRecursion (λ n. n ≤ MAX_NUMBER) ns

all-append : (xs ys : List ℕ) → AreAllSmall xs → AreAllSmall ys → AreAllSmall (xs ++ ys)
all-append [] ys h k = k
all-append (x ∷ xs) ys h k = (h.0, all-append xs ys h.1 k)

all-split : (xs ys : List ℕ) → AreAllSmall (xs ++ ys) → AreAllSmall xs × AreAllSmall ys
all-split [] ys h = (tt, h)
all-split (x ∷ xs) ys h = let rest = all-split xs ys h.1 in ((h.0, rest.0), rest.1)

op_small : (op : Op) → IsWithinLimit op → is_within (Some (capped_op op)) ≡ true
op_small op h = grind (arith, all_numbers, capped_op, numbers-capped, small_all)

number_small : (n : ℕ) → n ≤ MAX_NUMBER → nat_lt (capped n) ABOVE_LIMIT ≡ true
number_small n h = grind (arith, nat_tests)

number_within : (n : ℕ) → nat_lt (capped n) ABOVE_LIMIT ≡ true → n ≤ MAX_NUMBER
number_within n h = grind (arith, nat_tests)

abbrev AreSmall : Said → Type 0
AreSmall said = AreAllSmall (said_numbers said)

said_within : (said : Said) → is_said_within (capped_said said) ≡ true → AreSmall said
said_within said h = grind (arith, all-append, and_parts, capped_op, number_within, within_limit)

-- where each number is within the limit none is capped
within_said : (said : Said) → AreSmall said → (capped_said said ≡ said) × (is_said_within (capped_said said) ≡ true)
within_said said h = grind (arith, all-split, capped-within, capped_within, number_small, op_small)

-- What the scanner's answer says

-- a line that says this is found, within the limit
pub found_says : (bytes : List ℕ) (said : Said) → Says bytes said
    → (schedule_line_at bytes ≡ Some said) × (is_said_within said ≡ true)
found_says bytes said r =
    let within = within_said said r.1 in
    (line_again bytes said r.0 ∙ ap (λ s. Some s) within.0, ap is_said_within (sym within.0) ∙ within.1)

found_at : (bytes : List ℕ) (said : Said) → schedule_line_at bytes ≡ Some said → FindsSaidLine bytes said
found_at bytes said e = subst (λ o. IfSome o (FindsSaidLine bytes)) e (line_read bytes)

pub said_bad : (bytes : List ℕ) → schedule_line_at bytes ≡ None → SaysSomethingWidely bytes → ⊥
said_bad bytes e r = let found = sym e ∙ line_again bytes r.0 r.1 in cc

pub said_good : (bytes : List ℕ) (said : Said) → schedule_line_at bytes ≡ Some said → is_said_within said ≡ true
    → Says bytes said
said_good bytes said e h =
    let f = found_at bytes said e in
    let small = said_within f.0 (ap is_said_within (sym f.2) ∙ h) in
    let same : said ≡ f.0 = f.2 ∙ (within_said f.0 small).0 in
    subst (Says bytes) (sym same) (f.1, small)

pub said_large : (bytes : List ℕ) (said : Said) → schedule_line_at bytes ≡ Some said → is_said_within said ≡ false
    → SaysSomethingWidely bytes × (SaysSomething bytes → ⊥)
said_large bytes said e h =
    let f = found_at bytes said e in (
      (f.0, f.1),
      λ r.
          let found = found_says bytes r.0 r.1 in
          let same : said ≡ r.0 = same_Some said r.0 (sym e ∙ found.0) in
          let within = found.1 in cc,
    )

-- a line says one thing at most
pub one_said : (bytes : List ℕ) (said said' : Said) → Says bytes said → Says bytes said' → said ≡ said'
one_said bytes said said' r s = same_Some said said' (sym (found_says bytes said r).0 ∙ (found_says bytes said' s).0)

-- a line that says nothing says nothing else
pub nothing_alone : (bytes : List ℕ) (said : Said) → SaysWidely bytes nothing → SaysWidely bytes said → said ≡ nothing
nothing_alone bytes said r s = by said (sym (nothing_line bytes r) ∙ line_again bytes said s)
  where
    by : (said : Said) → Some nothing ≡ Some (capped_said said) → said ≡ nothing
    by nothing e = refl
    by said e = cc
