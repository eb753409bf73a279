-- One step more at the end of a list of steps.
use Rattle.iloc_board.proofs.Common.{BTreeMap, ◌≡◌, ℕ, ◌+◌, ◌<◌, List, [], ◌∷◌, ◌++◌, length, get_or, take, refl, ap, ◌∙◌, arith, length-set, length-replicate, map-append, take_more, Core, after, ends, entry, opening, played, reply_to, final, replies, State, Reply, Step}
use Rattle.iloc_board.specs.Steps.RunningCore.{Shows}
use Rattle.iloc_board.proofs.Effects.{finds, misses, none, wins, returns, waits, effect}

pub ends-snoc : (count : ℕ) (c : Core) (xs : List Step) (x : Step)
    → ends count c (xs ++ x ∷ []) ≡ after count (ends count c xs) x
ends-snoc count c [] x = refl
ends-snoc count c (y ∷ xs) x = ends-snoc count (after count c y) xs x

pub played-snoc : (count : ℕ) (c : Core) (xs : List Step) (x : Step) → played count c (xs ++ x ∷ []) ≡ played count c xs
    ++ entry x (reply_to count (ends count c xs) x) ∷ []
played-snoc count c [] x = refl
played-snoc count c (y ∷ xs) x = ap (λ t. entry y (reply_to count c y) ∷ t) (played-snoc count (after count c y) xs x)

pub length-costs : (count : ℕ) (c : Core) (x : Step) → length (after count c x).costs ≡ length c.costs
length-costs count c x = grind (arith, effect, finds, length-set, misses, none, returns, waits, wins)

pub length-costs_all : (count : ℕ) (xs : List Step) (c : Core) → length (ends count c xs).costs ≡ length c.costs
length-costs_all count [] c = refl
length-costs_all count (x ∷ xs) c = length-costs_all count xs (after count c x) ∙ length-costs count c x

-- there is a cost for each job
pub length-costs_final : (count : ℕ) (xs : List Step) → length (final count xs).costs ≡ count
length-costs_final count xs = length-costs_all count xs (opening count) ∙ length-replicate count 0

pub final-snoc : (count : ℕ) (xs : List Step) (x : Step) → final count (xs ++ x ∷ []) ≡ after count (final count xs) x
final-snoc count xs x = ends-snoc count (opening count) xs x

pub replies-snoc : (count : ℕ) (xs : List Step) (x : Step) → replies count (xs ++ x ∷ []) ≡ replies count xs
    ++ reply_to count (final count xs) x ∷ []
replies-snoc count xs x = grind (arith, map-append, played-snoc)

-- a loop's step, over the item at i
pub final_more : (count : ℕ) (xs : List Step) (i : ℕ) (d : Step) → i < length xs → final count (take (i + 1) xs)
    ≡ after count (final count (take i xs)) (get_or xs i d)
final_more count xs i d lt = ap (λ t. final count t) (take_more xs i d lt)
    ∙ final-snoc count (take i xs) (get_or xs i d)

pub replies_more : (count : ℕ) (xs : List Step) (i : ℕ) (d : Step) → i < length xs → replies count (take (i + 1) xs)
    ≡ replies count (take i xs) ++ reply_to count (final count (take i xs)) (get_or xs i d) ∷ []
replies_more count xs i d lt = ap (λ t. replies count t) (take_more xs i d lt)
    ∙ replies-snoc count (take i xs) (get_or xs i d)

pub shows_more : (count n : ℕ) (xs : List Step) (i : ℕ) (d : Step) → i < length xs → n ≡ count
    → (next : ℕ) (costs : List ℕ) (states : BTreeMap ℕ State)
    → Shows next costs states (after n (final count (take i xs)) (get_or xs i d))
    → Shows next costs states (final count (take (i + 1) xs))
shows_more count n xs i d lt same next costs states h = rw (final_more count xs i d lt) (rw same at h)

pub told_more : (count n : ℕ) (xs : List Step) (i : ℕ) (d : Step) → i < length xs → n ≡ count
    → (told : List Reply) (r : Reply)
    → told ≡ replies count (take i xs) → r ≡ reply_to n (final count (take i xs)) (get_or xs i d)
    → told ++ r ∷ [] ≡ replies count (take (i + 1) xs)
told_more count n xs i d lt same told r e f = grind (arith, replies_more)
