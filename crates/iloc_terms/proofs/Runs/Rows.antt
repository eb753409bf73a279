-- Rows in terms, and the run of a schedule from its start to its end.
use Rattle.iloc_terms.proofs.Common.{◌≡◌, ℕ, ◌+◌, ◌<◌, ◌≤◌, List, length, get_or, ℤ, IfSome, Some, Option, option_to_list, sym, subst, inl, inr, arith, get_or_default, Op, no_fault, row_more, slot_issued, IsLatency, latency, row_at, slots, AllLand, then_issued, Issued, issue_all, issued_before, Latencies, Row, Meaning}
use Rattle.iloc_timed.proofs.Landing.{landed_all}
use Rattle.iloc_terms.specs.declared.symbols.Symbols.{Symbols}
use Rattle.iloc_terms.specs.Steps.Tracking.{Tracks, Keeps, Stands, Ends}

-- the operation of a slot
pub keeps_slot : (memory : List ℤ) (d : Meaning) (lat : Latencies) (ops : List Op) (c i lasts : ℕ) (slot : Option ℕ)
    (other : Op) (old new : Symbols) → slot ≡ Some i → IfSome slot (λ j. j < length ops)
    → lasts ≡ latency lat (get_or ops i other) → IsLatency lasts
    → ((n : ℕ) (log : List Issued) → n ≤ c + lasts → c + lasts < n + 16 → Keeps memory d n log old
    → Keeps memory d n (then_issued memory n (c + lasts) (get_or ops i other) log) new)
    → (log : List Issued) → Keeps memory d (c + 1) log old
    → Keeps memory d (c + 1) (issue_all lat memory ops c (option_to_list slot) log) new
keeps_slot memory d lat ops c i lasts slot other old new is known takes short says log keeps =
    grind (arith, get_or_default, option_to_list, slot_issued)

-- one row more
pub keeps_more : (lat : Latencies) (memory : List ℤ) (d : Meaning) (ops : List Op) (rows : List Row) (c : ℕ)
    (new : Symbols) → Keeps memory d (c + 1)
    (issue_all lat memory ops c (slots (row_at rows c)) (issued_before lat memory ops rows c)) new
    → Keeps memory d (c + 1) (issued_before lat memory ops rows (c + 1)) new
keeps_more lat memory d ops rows c new keeps =
    subst (λ l. Keeps memory d (c + 1) l new) (row_more lat memory ops rows c) keeps

-- all has landed
stands : (memory : List ℤ) (d : Meaning) (n : ℕ) (log : List Issued) (it : Symbols) → AllLand n log
    → Tracks memory d n log it → Stands memory d log it
stands memory d n log it all tracks = grind (arith, landed_all, no_fault)

last_land : (memory : List ℤ) (d : Meaning) (n m : ℕ) (log : List Issued) (before after : Symbols)
    → Keeps memory d n log before → Tracks memory d m log after → AllLand (n + 16) log
last_land memory d n m log before after keeps tracks = grind (arith, no_fault)

-- all rows have run, and the rest lands
pub ends : (lat : Latencies) (memory : List ℤ) (d : Meaning) (ops : List Op) (rows : List Row) (c from : ℕ)
    (before after : Symbols) → c ≡ length rows → from ≡ length rows
    → Keeps memory d c (issued_before lat memory ops rows c) before
    → ((log : List Issued) → Keeps memory d from log before → Keeps memory d (from + 16) log after)
    → Ends memory d (issued_before lat memory ops rows (length rows)) after
ends lat memory d ops rows c from before after last count keeps lands =
    let log : List Issued = issued_before lat memory ops rows (length rows) in
    let begun : Keeps memory d (length rows) log before =
    subst (λ n. Keeps memory d n (issued_before lat memory ops rows n) before) last keeps in
    let started : Keeps memory d from log before = subst (λ n. Keeps memory d n log before) (sym count) begun in
    let ended : Keeps memory d (from + 16) log after = lands log started in
    elim ended [
      | inl faulted ↦ inl faulted
      | inr tracks ↦ inr (stands memory d (from + 16) log after
          (last_land memory d from (from + 16) log before after started tracks) tracks)
    ]
