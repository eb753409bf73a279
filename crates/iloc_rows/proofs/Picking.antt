-- What one more line does to what is picked of the lines of a block.
use Rattle.iloc_rows.proofs.Common.{◌≡◌, ℕ, suc, ◌<◌, ◌≤◌, max, true, false, cond, ◌||◌, ◌≢◌, List, [], ◌∷◌, ◌++◌, map, length, is_some, ◌==◌, Some, None, Option, option_to_list, filter_map, unwrap_or, refl, ap, ◌∙◌, append-nil, arith, eq-eqb, ne_eqb, length-map, map-append, list_any, block_of, fronts, head_number, last_of, of_last, proposes, Told}
use Rattle.std.proofs.lemmas.List.Elements.{filter_map-append}
use Rattle.std.proofs.lemmas.List.Folds.{list_any-append}
use Rattle.iloc_text.proofs.BlockOps.{filter_map-one, one_or_none}
use Rattle.iloc_rows.specs.Proposing.{last_head, last_block, picked}

fronts-snoc : (ss : List Told) (s : Told) → fronts (ss ++ s ∷ []) ≡ fronts ss ++ (ss ++ s ∷ []) ∷ []
fronts-snoc [] s = refl
fronts-snoc (x ∷ xs) s = ap (λ f. (x ∷ []) ∷ map (λ front. x ∷ front) f) (fronts-snoc xs s)
    ∙ ap (λ f. (x ∷ []) ∷ f) (map-append (λ front. x ∷ front) (fronts xs) ((xs ++ s ∷ []) ∷ []))

of_last-snoc : {A : Type 0} (pick : Told → Option A) (ss : List Told) (s : Told) → of_last pick (ss ++ s ∷ []) ≡ pick s
of_last-snoc pick (x ∷ y ∷ xs) s = of_last-snoc pick (y ∷ xs) s
of_last-snoc pick ss s = refl

pub last_of-snoc : {A : Type 0} (xs : List A) (x : A) → last_of (xs ++ x ∷ []) ≡ Some x
last_of-snoc (y ∷ z ∷ xs) x = last_of-snoc (z ∷ xs) x
last_of-snoc xs x = refl

picked-snoc : {A : Type 0} (pick : Told → Option A) (k : ℕ) (ss : List Told) (s : Told)
    → picked pick k (ss ++ s ∷ [])
    ≡ picked pick k ss ++ cond (block_of (ss ++ s ∷ []) == k) (option_to_list (pick s)) []
unfolding picked
picked-snoc pick k ss s = grind (arith, filter_map, filter_map-append, filter_map-one, fronts-snoc, of_last-snoc, one_or_none)

-- nothing is picked of the line
pub picked-nothing : {A : Type 0} (pick : Told → Option A) (k : ℕ) (ss : List Told) (s : Told) → pick s ≡ None
    → picked pick k (ss ++ s ∷ []) ≡ picked pick k ss
picked-nothing pick k ss s h = grind (arith, append-nil, option_to_list, picked-snoc)

-- the line is of this block
pub picked-here : {A : Type 0} (pick : Told → Option A) (k : ℕ) (ss : List Told) (s : Told) (x : A) → pick s ≡ Some x
    → block_of (ss ++ s ∷ []) ≡ k → picked pick k (ss ++ s ∷ []) ≡ picked pick k ss ++ x ∷ []
picked-here pick k ss s x h e = grind (arith, eq-eqb, option_to_list, picked-snoc)

-- the line is of another one
pub picked-else : {A : Type 0} (pick : Told → Option A) (k : ℕ) (ss : List Told) (s : Told)
    → block_of (ss ++ s ∷ []) ≢ k → picked pick k (ss ++ s ∷ []) ≡ picked pick k ss
picked-else pick k ss s h = grind (arith, append-nil, ne_eqb, option_to_list, picked-snoc)

-- The last head

pub last_head-none : (ss : List Told) (s : Told) → head_number s ≡ None → last_head (ss ++ s ∷ []) ≡ last_head ss
unfolding last_head
last_head-none ss s h = grind (arith, append-nil, filter_map, filter_map-append, filter_map-one, option_to_list, unwrap_or)

pub last_head-head : (ss : List Told) (s : Told) (k : ℕ) → head_number s ≡ Some k → last_head (ss ++ s ∷ []) ≡ k
unfolding last_head
last_head-head ss s k h =
    grind (arith, filter_map, filter_map-append, filter_map-one, last_of-snoc, option_to_list, unwrap_or)

-- The last block

any_more : (ss : List Told) (s : Told) → list_any proposes (ss ++ s ∷ []) ≡ (list_any proposes ss || (proposes s || false))
any_more ss s = list_any-append proposes ss (s ∷ [])

pub last_block-nothing : last_block [] ≡ 0
unfolding last_head last_block
last_block-nothing = refl

-- after a line that says nothing of a block
pub last_block-none : (ss : List Told) (s : Told) → head_number s ≡ None → proposes s ≡ false
    → last_block (ss ++ s ∷ []) ≡ last_block ss
unfolding last_block
last_block-none ss s h p = grind (arith, any_more, last_head-none)

-- after a row or a claim
pub last_block-more : (ss : List Told) (s : Told) → head_number s ≡ None → proposes s ≡ true
    → last_block (ss ++ s ∷ []) ≡ max 1 (last_block ss)
unfolding last_block
last_block-more ss s h p = grind (arith, any_more, last_head-none)

-- after the head of a later one
pub last_block-head : (ss : List Told) (s : Told) (k : ℕ) → head_number s ≡ Some k → last_block ss < k
    → last_block (ss ++ s ∷ []) ≡ k
unfolding last_block
last_block-head ss s k h less = grind (arith, any_more, last_head-head)

-- How much is picked

filter_map-short : {A B : Type 0} (f : A → Option B) (xs : List A) → length (filter_map f xs) ≤ length xs
filter_map-short f [] = omega arith
filter_map-short {A} {B} f (x ∷ xs) = grind (arith, filter_map, filter_map-short f xs)

length-fronts : (ss : List Told) → length (fronts ss) ≡ length ss
length-fronts [] = refl
length-fronts (s ∷ ss) = ap suc (length-map (fronts ss) (λ front. s ∷ front) ∙ length-fronts ss)

pub picked-short : {A : Type 0} (pick : Told → Option A) (k : ℕ) (ss : List Told) → length (picked pick k ss) ≤ length ss
unfolding picked
picked-short pick k ss = grind (arith, filter_map-short, length-fronts)

pub picked-none : {A : Type 0} (pick : Told → Option A) (k : ℕ) → picked pick k [] ≡ []
unfolding picked
picked-none pick k = refl

-- What is picked together

alike_short : {X A B : Type 0} (f : X → Option A) (g : X → Option B) → ((x : X) → is_some (f x) ≡ is_some (g x))
    → (xs : List X) → length (filter_map f xs) ≡ length (filter_map g xs)
alike_short f g same [] = refl
alike_short {X} {A} {B} f g same (x ∷ xs) = grind (arith, filter_map, alike_short f g same xs)

last_alike : {A B : Type 0} (f : Told → Option A) (g : Told → Option B) → ((t : Told) → is_some (f t) ≡ is_some (g t))
    → (ss : List Told) → is_some (of_last f ss) ≡ is_some (of_last g ss)
last_alike f g same [] = refl
last_alike f g same (s ∷ []) = same s
last_alike f g same (s ∷ t ∷ ss) = last_alike f g same (t ∷ ss)

-- where one is picked of the same lines as another, as many are
pub picked-alike : {A B : Type 0} (f : Told → Option A) (g : Told → Option B) (k : ℕ) (ss : List Told)
    → ((t : Told) → is_some (f t) ≡ is_some (g t)) → length (picked f k ss) ≡ length (picked g k ss)
unfolding picked
picked-alike f g k ss same = grind (arith, alike_short, last_alike)
