-- What a folded text says as it grows, and as it is written.
use Rattle.iloc_listing.proofs.Common.{◌≡◌, ℕ, zero, suc, ◌+◌, ◌-◌, ◌<◌, ◌≤◌, List, [], ◌∷◌, ◌++◌, length, get_or, take, drop, codes, sym, refl, ap, ◌∙◌, append_assoc, append-nil, arith, length-drop, take_all, drop-append-le, drop_all, drop_more, take-append-le, sum_by-append, sum_by-cons, bytes_before, empty_rows, unfolded, EmptyRows}

-- one more row at the start is one more at the end
pub empty_rows_more : (n : ℕ) → empty_rows n ++ codes "[ nop ; nop ]\n" ≡ empty_rows (suc n)
empty_rows_more zero = refl
empty_rows_more (suc n) = grind (arith, append_assoc, empty_rows_more n)

-- of so many rows one is written
pub one_row_less : (rows n : ℕ) → n < rows → empty_rows (rows - n) ≡ codes "[ nop ; nop ]\n" ++ empty_rows (rows - (n + 1))
one_row_less rows n lt = ap empty_rows (let one : rows - n ≡ suc (rows - (n + 1)) = omega arith in one)

-- what is left before a run and after it
pub next_run : (runs : List EmptyRows) (i : ℕ) (d : EmptyRows) (bytes : List ℕ) → i < length runs → unfolded (drop i runs) bytes
    ≡ take (get_or runs i d).bytes bytes
    ++ (empty_rows (get_or runs i d).rows ++ unfolded (drop (i + 1) runs) (drop (get_or runs i d).bytes bytes))
next_run runs i d bytes lt = ap (λ rs. unfolded rs bytes) (drop_more runs i d lt)

-- more bytes follow the last run
pub bytes_more : (runs : List EmptyRows) (bytes more : List ℕ) → bytes_before runs ≤ length bytes
    → unfolded runs (bytes ++ more) ≡ unfolded runs bytes ++ more
bytes_more [] bytes more within = refl
bytes_more (run ∷ runs) bytes more within =
    let parts : bytes_before (run ∷ runs) ≡ run.bytes + bytes_before runs = sum_by-cons (λ (r : EmptyRows). r.bytes) run runs in
    let fits : run.bytes ≤ length bytes = omega arith in
    let rest = bytes_more runs (drop run.bytes bytes) more (omega (arith, length-drop run.bytes bytes)) in
    rw (take-append-le run.bytes bytes more fits, drop-append-le run.bytes bytes more fits, rest)
    (ap (λ t. take run.bytes bytes ++ t) (sym (append_assoc (empty_rows run.rows) (unfolded runs (drop run.bytes bytes)) more))
    ∙ sym (append_assoc (take run.bytes bytes) (empty_rows run.rows ++ unfolded runs (drop run.bytes bytes)) more))

-- a run follows all bytes
pub run_more : (runs : List EmptyRows) (bytes : List ℕ) (run : EmptyRows) → bytes_before runs + run.bytes ≡ length bytes
    → unfolded (runs ++ run ∷ []) bytes ≡ unfolded runs bytes ++ empty_rows run.rows
run_more [] bytes run all = grind (arith, append-nil, drop_all, take_all)
run_more (first ∷ runs) bytes run all =
    let parts : bytes_before (first ∷ runs) ≡ first.bytes + bytes_before runs = sum_by-cons (λ (r : EmptyRows). r.bytes) first runs in
    let rest = run_more runs (drop first.bytes bytes) run (omega (arith, length-drop first.bytes bytes)) in
    rw rest
    (ap (λ t. take first.bytes bytes ++ t) (sym (append_assoc (empty_rows first.rows) (unfolded runs (drop first.bytes bytes)) (empty_rows run.rows)))
    ∙ sym (append_assoc (take first.bytes bytes) (empty_rows first.rows ++ unfolded runs (drop first.bytes bytes)) (empty_rows run.rows)))

pub before_more : (runs : List EmptyRows) (run : EmptyRows) → bytes_before (runs ++ run ∷ []) ≡ bytes_before runs + run.bytes
before_more runs run =
    omega (arith, sum_by-append (λ (r : EmptyRows). r.bytes) runs (run ∷ []), sum_by-cons (λ (r : EmptyRows). r.bytes) run [])

-- a text that is folded up to here, and the rows and the line that come next
module _ (runs : List EmptyRows) (bytes rest behind line after : List ℕ) (text : List ℕ) (rows : ℕ)
    (so_far : text ≡ unfolded runs bytes ++ rest) (parts : rest ≡ empty_rows rows ++ behind)
    (parted : behind ≡ line ++ after) (within : bytes_before runs ≤ length bytes) where
  pub grown_line : rows ≡ 0 → text ≡ unfolded runs (bytes ++ line) ++ after
  grown_line none = grind (arith, append_assoc, bytes_more)

  pub grown_run : (run : EmptyRows) → run.rows ≡ rows → bytes_before runs + run.bytes ≡ length bytes
      → text ≡ unfolded (runs ++ run ∷ []) (bytes ++ line) ++ after
  grown_run run same all = grind (arith, append_assoc, before_more, bytes_more, run_more)
