use Rattle.iloc_listing.proofs.Common.{◌≡◌, ℕ, ◌+◌, ◌<◌, ◌≤◌, List, [], ◌++◌, length, get_or, take, drop, sym, refl, ap, ◌∙◌, ap₂, append-nil, arith, length-drop, drop_all, drop_more, sum_by-cons, on_err_weaker, on_ok_weaker, bytes_before, empty_rows, unfolded, EmptyRows}
use Rattle.iloc_listing.proofs.Joining.{all_joined, none_joined, part_failed, part_joined}
use Rattle.iloc_listing.proofs.Written.{on_err}
use Rattle.iloc_listing.proofs.Unfolded.{next_run}
use Rattle.iloc_listing.proofs.text.FoldedText.write_to.Goals as goal

abbrev zero_rows : EmptyRows
zero_rows = record { bytes = 0; rows = 0 }

pub loop-run-init : goal.loop-run-init
loop-run-init g c = record {
  so_far = none_joined _ _ _ _ _ refl
      (ap₂ unfolded c.deref-run-items.ensures.value c.as_slice-rest.ensures ∙ c.self.view_is);
  fits = omega (
    arith,
    ap bytes_before c.deref-run-items.ensures.value,
    ap length c.as_slice-rest.ensures,
    c.self.invariant,
  );
}

-- what is left before a run is what is split off, the rows, and what is left behind them
module _ (runs : List EmptyRows) (i : ℕ) (rest before behind : List ℕ) (lt : i < length runs)
    (front : before ≡ take (get_or runs i zero_rows).bytes rest) (back : behind ≡ drop (get_or runs i zero_rows).bytes rest) where
  abbrev left : List ℕ
  left = unfolded (drop (i + 1) runs) behind

  split : unfolded (drop i runs) rest ≡ before ++ (empty_rows (get_or runs i zero_rows).rows ++ left)
  split = next_run runs i zero_rows rest lt
      ∙ ap₂ (λ t b. t ++ (empty_rows (get_or runs i zero_rows).rows ++ unfolded (drop (i + 1) runs) b)) (sym front) (sym back)

  -- the bytes before the later runs are behind
  fits_after : bytes_before (drop i runs) ≤ length rest → bytes_before (drop (i + 1) runs) ≤ length behind
  fits_after fits =
      let one : bytes_before (drop i runs)
      ≡ (get_or runs i zero_rows).bytes + bytes_before (drop (i + 1) runs) =
      ap bytes_before (drop_more runs i zero_rows lt)
      ∙ sum_by-cons (λ (r : EmptyRows). r.bytes) (get_or runs i zero_rows) (drop (i + 1) runs) in
      omega (arith, one, fits, ap length back, length-drop (get_or runs i zero_rows).bytes rest)

pub loop-run-preserved : goal.loop-run-preserved
loop-run-preserved g c =
    let runs = c.deref-run-items.result.now in
    let i = c.loop-run.run-index in
    let run : EmptyRows = get_or runs i zero_rows in
    let before = c.split_at.result.0.now in
    let behind = c.split_at.result.1.now in
    let lt : i < length runs = omega arith in
    let parts = split runs i c.loop-run.rest.now before behind lt c.split_at.ensures.front c.split_at.ensures.back in
    let first = part_joined _ _ _ _ _ _ c.loop-run.invariant.so_far before (empty_rows run.rows ++ left runs i c.loop-run.rest.now before behind lt c.split_at.ensures.front c.split_at.ensures.back) parts _ _ c.in_ok-write_joined.ensures.ok in
    record {
      so_far = part_joined _ _ _ _ _ _ first (empty_rows run.rows) _ refl _ _ c.in_ok-write_empty_rows.ensures.ok;
      fits = fits_after runs i c.loop-run.rest.now before behind lt c.split_at.ensures.front c.split_at.ensures.back
          c.loop-run.invariant.fits;
    }

pub returns-in_err-write_joined-clause-err : goal.returns-in_err-write_joined-clause-err
returns-in_err-write_joined-clause-err g c =
    let runs = c.deref-run-items.result.now in
    let i = c.loop-run.run-index in
    let lt : i < length runs = omega arith in
    let parts = split runs i c.loop-run.rest.now c.split_at.result.0.now c.split_at.result.1.now lt c.split_at.ensures.front c.split_at.ensures.back in
    on_err c.from_residual.result
    (part_failed _ _ _ _ _ _ c.loop-run.invariant.so_far c.split_at.result.0.now _ parts _ c.in_err-write_joined.ensures.err)

pub returns-in_err-write_empty_rows-clause-err : goal.returns-in_err-write_empty_rows-clause-err
returns-in_err-write_empty_rows-clause-err g c =
    let runs = c.deref-run-items.result.now in
    let i = c.loop-run.run-index in
    let run : EmptyRows = get_or runs i zero_rows in
    let lt : i < length runs = omega arith in
    let parts = split runs i c.loop-run.rest.now c.split_at.result.0.now c.split_at.result.1.now lt c.split_at.ensures.front c.split_at.ensures.back in
    let first = part_joined _ _ _ _ _ _ c.loop-run.invariant.so_far c.split_at.result.0.now _ parts _ _ c.in_ok-write_joined.ensures.ok in
    on_err c.from_residual-in_err-write_empty_rows.result
    (part_failed _ _ _ _ _ _ first (empty_rows run.rows) _ refl _ c.in_err-write_empty_rows.ensures.err)

pub returns-clause-ok : goal.returns-clause-ok
returns-clause-ok g c =
    let rest = c.loop-run.rest.now in
    let last : unfolded (drop c.loop-run.run-index c.deref-run-items.result.now) rest ≡ rest ++ [] =
    ap (λ rs. unfolded rs rest) (drop_all c.loop-run.run-index c.deref-run-items.result.now (omega arith))
    ∙ sym (append-nil rest) in
    on_ok_weaker c.write_joined-2.result
    (λ joined. all_joined _ _ _ _ _ _ (part_joined _ _ _ _ _ _ c.loop-run.invariant.so_far rest [] last _ _ joined) refl)
    c.write_joined-2.ensures.ok

pub returns-clause-err : goal.returns-clause-err
returns-clause-err g c =
    let rest = c.loop-run.rest.now in
    let last : unfolded (drop c.loop-run.run-index c.deref-run-items.result.now) rest ≡ rest ++ [] =
    ap (λ rs. unfolded rs rest) (drop_all c.loop-run.run-index c.deref-run-items.result.now (omega arith))
    ∙ sym (append-nil rest) in
    on_err_weaker c.write_joined-2.result
    (λ failed. part_failed _ _ _ _ _ _ c.loop-run.invariant.so_far rest [] last _ failed) c.write_joined-2.ensures.err
