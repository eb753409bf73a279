-- Where all passes came back done, nothing is missing.
use Rattle.iloc_driver.proofs.Common.{◌≡◌, ℕ, ◌<◌, true, false, List, [], ◌∷◌, map, length, All, Contains, sym, refl, ap, ◌∙◌, subst, arith, length-map, All-head, All-map, All-same, All-weaker, list_any, range_with_len, IsDone}
use Rattle.std.proofs.lemmas.List.FromFn.{get_or-range_with_len, length-range_with_len}
use Rattle.std.proofs.lemmas.Simd.{map-map}
use Rattle.iloc_board.specs.Core.{is_holding}
use Rattle.iloc_board.specs.Journal.{JournalView, state_of, saw_none}
use Rattle.iloc_board.specs.Collecting.{workers_of, IsWhole}

in_range : (n w : ℕ) → w < n → Contains (range_with_len 0 n) w
in_range n w below = let here = get_or-range_with_len 0 n w w below in
    (w, omega (arith, length-range_with_len 0 n), omega arith)

first_told : (js : List JournalView) → All IsDone js → 0 < length js
    → list_any (λ (j : JournalView). saw_none j.entries) js ≡ true
first_told [] h some = absurd (omega arith)
first_told (j ∷ js) h some = rw (All-head IsDone j js h).told refl

pub whole : (js : List JournalView) (made : ℕ) → workers_of js ≡ range_with_len 0 made → All IsDone js → 0 < made
    → IsWhole made js
whole js made e h some_made = record {
  all = λ w below. let P : List ℕ → Type 0 = λ ws. Contains ws w in subst P (sym e) (in_range made w below);
  idle = All-weaker IsDone (λ j. is_holding (state_of j.entries) ≡ false) (λ j done. ap is_holding done.free) js h;
  told = first_told js h (let n = ap length e in
      omega (arith, length-map js (λ (j : JournalView). j.worker), length-range_with_len 0 made));
}

-- the workers of journals that were gathered, by what they were gathered from
pub workers : {W : Type 0} (f : W → JournalView) (ws : List W) (js : List JournalView) (made : ℕ) → js ≡ map f ws
    → map (λ w. (f w).worker) ws ≡ range_with_len 0 made → workers_of js ≡ range_with_len 0 made
workers f ws js made e n = ap (λ t. map (λ (j : JournalView). j.worker) t) e
    ∙ (map-map (λ (j : JournalView). j.worker) f ws ∙ n)

pub done : {W : Type 0} (f : W → JournalView) (ws : List W) (js : List JournalView) → js ≡ map f ws
    → All (λ w. IsDone (f w)) ws → All IsDone js
done f ws js e h = All-same IsDone js (map f ws) e (All-map IsDone f ws h)
