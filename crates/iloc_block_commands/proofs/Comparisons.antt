-- What is found of a block by each heuristic.
use Rattle.iloc_block_commands.proofs.Common.{◌≡◌, ℕ, ◌+◌, ◌<◌, ◌≤◌, Bool, true, false, List, [], ◌∷◌, ◌++◌, length, get_or, take, ◌==◌, slice_index, Some, None, codes, Option, sym, refl, ap, ◌∙◌, subst, ap₂, inl, inr, append_assoc, append-nil, arith, ext_get_or, eqb-true, flat_map-append, get_or_default, take_more, list_all, range_with_len, Block, Op, Table, Latencies, heuristics, counts_by, priorities_under, Heuristic, Chain, MemoryRule, least_under, AreOrders, IsCountOf, cycles_few_where, most_cycles, cycles_of, IsCountUnder, AreCounts, IsComparedCycles, IsOwnCount, column, columns, compare_ending, cycles_by, fewest, optimal, place, sums_line, tally_line, ComparedCycles}
use Rattle.std.proofs.lemmas.Bool.{and_parts}
use Rattle.iloc_rules.specs.Steps.Members.{In}
use Rattle.iloc_rules.proofs.Basics.Members.{in_range_from}
use Rattle.iloc_ops.specs.Limits.{MAX_OPS}
use Rattle.iloc_bound.proofs.LeastBound.{ruled_least_bound}
use Rattle.iloc_optimum.specs.declared.optimizer.Orders.{Orders}
use Rattle.iloc_block_commands.proofs.Listers.{is_count_under}

-- the bound is small, since some schedule takes as many cycles
pub bound_small : (rule : MemoryRule) (heuristic : Heuristic) (lat : Latencies) (b : Block) (n : ℕ)
    → IsCountUnder rule (priorities_under rule heuristic lat) lat b n → length b.ops ≤ MAX_OPS
    → least_under rule lat b.ops ≤ most_cycles
bound_small rule heuristic lat b n count short =
    let s : Table = count.schedule in
    let bound : least_under rule lat b.ops ≤ cycles_of lat s =
    ruled_least_bound rule lat b.ops s.ops s.rows count.greedy.greedy.lawful in
    let few : cycles_of lat s ≤ most_cycles =
    cycles_few_where (counts_by rule s.ops) (priorities_under rule heuristic lat s.ops) lat b.ops s count.greedy.greedy short in
    omega arith

-- the cycles by priorities are one number
one_count : (rule : MemoryRule) (prios : List Op → List ℕ) (lat : Latencies) (b : Block) (n m : ℕ)
    → IsCountUnder rule prios lat b n → IsCountUnder rule prios lat b m → n ≡ m
one_count rule prios lat b n m is is' =
    is.counted ∙ (ap (cycles_of lat) (is'.greedy.only is.schedule is.greedy.greedy) ∙ sym is'.counted)

-- Places

-- the heuristic at its place
pub at_place : (heuristic : Heuristic) → get_or heuristics (place heuristic) Chain ≡ heuristic
at_place Chain = refl
at_place _ = refl

pub place_within : (heuristic : Heuristic) → place heuristic < length heuristics
place_within Chain = omega arith
place_within _ = omega arith

-- and the place of a heuristic that is there
pub place_of : (i : ℕ) → i < length heuristics → place (get_or heuristics i Chain) ≡ i
place_of i within = eqb-true (place (get_or heuristics i Chain)) i
    (at_each (λ k. place (get_or heuristics k Chain) == k) (range_with_len 0 (length heuristics)) i refl
    (in_range_from 0 (length heuristics) i (omega arith) (omega arith)))
  where
    at_each : (p : ℕ → Bool) (xs : List ℕ) (x : ℕ) → list_all p xs ≡ true → In xs x → p x ≡ true
    at_each p [] x all there = absurd there
    at_each p (y ∷ xs) x all there =
        let parts = and_parts (p y) (list_all p xs) all in
        elim there [ inl same ↦ subst (λ z. p z ≡ true) same parts.0 | inr later ↦ at_each p xs x parts.1 later ]

pub place_there : (i : ℕ) (d : Heuristic) → i < length heuristics → place (get_or heuristics i d) ≡ i
place_there i d within = ap place (get_or_default heuristics i d Chain within) ∙ place_of i within

-- Columns

-- what is at its place
pub cycles_at : (c : ComparedCycles) (i : ℕ) (d : Heuristic) → i < length heuristics
    → slice_index c.cycles i ≡ cycles_by (get_or heuristics i d) c
cycles_at c i d within = ap (slice_index c.cycles) (sym (place_there i d within))

-- a number more
pub columns_more : (csv : Bool) (number : Heuristic → ℕ) (before text next : List ℕ) (i n : ℕ) (d : Heuristic)
    → i < length heuristics → text ≡ before ++ columns csv number (take i heuristics)
    → n ≡ number (get_or heuristics i d) → next ≡ text ++ column csv (get_or heuristics i d) n
    → next ≡ before ++ columns csv number (take (i + 1) heuristics)
columns_more csv number before text next i n d within so_far is more =
    let f : Heuristic → List ℕ = λ h. column csv h (number h) in
    let h : Heuristic = get_or heuristics i d in
    more ∙ ap₂ (λ t k. t ++ column csv h k) so_far is
    ∙ append_assoc before (columns csv number (take i heuristics)) (f h)
    ∙ ap (λ xs. before ++ xs) (ap (λ xs. columns csv number (take i heuristics) ++ xs) (sym (append-nil (f h)))
    ∙ sym (flat_map-append f (take i heuristics) (h ∷ []))
    ∙ ap (columns csv number) (sym (take_more heuristics i d within)))

-- six parts of a line, one after another
pub line_pushed : (text a b c d e f head bounded searched cycled owned whole : List ℕ) → head ≡ text ++ a → bounded ≡ head ++ b
    → searched ≡ bounded ++ c → cycled ≡ searched ++ d → owned ≡ cycled ++ e → whole ≡ owned ++ f
    → whole ≡ text ++ (a ++ b ++ c ++ d ++ e ++ f)
line_pushed text a b c d e f head bounded searched cycled owned whole p q r s t u = rw (u, t, s, r, q, p) (simp append_assoc)

-- the totals, one line after another
pub totals_pushed : (csv : Bool) (nodes : Option ℕ) (own named : Bool) (found : List ComparedCycles)
    (text summed tallied whole : List ℕ) → csv ≡ false → own ≡ named → summed ≡ text ++ sums_line nodes own found
    → tallied ≡ summed ++ tally_line (codes "fewest") own fewest found
    → whole ≡ tallied ++ tally_line (codes "optimal") own optimal found → whole ≡ text ++ compare_ending csv nodes named found
totals_pushed csv nodes own named found text summed tallied whole plain same p q r =
    let sums : List ℕ = sums_line nodes own found in
    let few : List ℕ = tally_line (codes "fewest") own fewest found in
    let best : List ℕ = tally_line (codes "optimal") own optimal found in
    let all : whole ≡ text ++ (sums ++ few ++ best) =
    r ∙ (ap (λ t. t ++ best) (q ∙ ap (λ t. t ++ few) p)
    ∙ (ap (λ t. t ++ best) (append_assoc text sums few) ∙ append_assoc text (sums ++ few) best)) in
    rw (plain, sym same) all

-- the counts by all of them
pub all_counted : (rule : MemoryRule) (lat : Latencies) (b : Block) (o : Orders) → AreOrders rule lat b.ops o
    → AreCounts rule lat b o.cycles
all_counted rule lat b o are = record {
  all = are.all;
  each = λ heuristic.
      let count : IsCountOf rule heuristic lat b.ops (slice_index o.cycles (place heuristic)) =
      subst (λ h. IsCountOf rule h lat b.ops (slice_index o.cycles (place heuristic))) (at_place heuristic)
      (are.each (place heuristic) (place_within heuristic)) in
      is_count_under rule (priorities_under rule heuristic lat) lat b count.schedule count.greedy _ count.counted;
}

-- there is one list of them
one_list : (rule : MemoryRule) (lat : Latencies) (b : Block) (xs ys : List ℕ) → AreCounts rule lat b xs → AreCounts rule lat b ys → xs ≡ ys
one_list rule lat b xs ys is is' =
    ext_get_or 0 xs ys (is.all ∙ sym is'.all) (λ i below.
    let h : Heuristic = get_or heuristics i Chain in
    let at : place h ≡ i = place_of i (omega (arith, is.all)) in
    ap (slice_index xs) (sym at)
    ∙ one_count rule (priorities_under rule h lat) lat b (slice_index xs (place h)) (slice_index ys (place h)) (is.each h) (is'.each h)
    ∙ ap (slice_index ys) at)

-- and one number by priorities of its own
one_own : (rule : MemoryRule) (lat : Latencies) (numbers : Option (List ℕ)) (b : Block) (c c' : Option ℕ) → IsOwnCount rule lat numbers b c
    → IsOwnCount rule lat numbers b c' → c ≡ c'
one_own rule lat None b c c' is is' = is ∙ sym is'
one_own rule lat (Some numbers) b None c' is is' = absurd is
one_own rule lat (Some numbers) b (Some n) None is is' = absurd is'
one_own rule lat (Some numbers) b (Some n) (Some m) is is' = ap (λ x. Some x) (one_count rule (λ _. numbers) lat b n m is is')

-- there is one comparison of a block without a search
pub one_comparison : (rule : MemoryRule) (lat : Latencies) (numbers : Option (List ℕ)) (b : Block) (c c' : ComparedCycles)
    → IsComparedCycles rule lat None numbers b c → IsComparedCycles rule lat None numbers b c' → c ≡ c'
one_comparison rule lat numbers b c c' is is' =
    let bounds : c.least ≡ c'.least = is.bound ∙ sym is'.bound in
    let none : c.sought ≡ c'.sought = is.sought ∙ sym is'.sought in
    let all : c.cycles ≡ c'.cycles = one_list rule lat b c.cycles c'.cycles is.counts is'.counts in
    let mine : c.own ≡ c'.own = one_own rule lat numbers b c.own c'.own is.own is'.own in
    λ i. record { least = bounds i; sought = none i; cycles = all i; own = mine i }
