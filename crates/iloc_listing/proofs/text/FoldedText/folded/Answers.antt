use Rattle.iloc_listing.proofs.Common.{◌≡◌, ◌+◌, ◌-◌, ◌≤◌, [], ◌++◌, length, sym, refl, ap, ◌∙◌, append-nil, arith, length-append, rules, nil_from_length, bytes_before, unfolded, EmptyRows}
use Rattle.iloc_listing.proofs.Unfolded.{before_more, grown_line, grown_run}
use Rattle.iloc_listing.proofs.text.FoldedText.folded.Goals as goal
use Rattle.iloc_listing.proofs.text.FoldedText.folded.Goals.{then-rows-gt0+in_ok-push, else-rows-gt0}

pub loop-rest-preserved : goal.loop-rest-preserved
loop-rest-preserved c =
    let inv = c.loop-rest.invariant in
    let bytes = c.loop-rest.bytes.items in
    let rows = c.split_rows-rows.result.0 in
    let behind = c.split_rows-rows.result.1.now in
    let line = c.split_at.result.0.now in
    let after = c.split_at.result.1.now in
    let parted : behind ≡ line ++ after = c.split_at.ensures.by_index.0 in
    let grown = c.in_ok-extend_from_slice.ensures.items in
    let within : bytes_before c.loop-rest.runs.items ≤ length bytes = omega (arith, inv.before, inv.within) in
    elim c.if-rows-gt0.branch [
      | then-rows-gt0+in_ok-push w ↦
          let run : EmptyRows = record { bytes = w.len.result - c.loop-rest.before; rows = rows } in
          let size : w.len.result ≡ length bytes = w.len.ensures ∙ c.loop-rest.bytes.ok.0 in
          let size_too : w.len-before.result ≡ length bytes = w.len-before.ensures ∙ c.loop-rest.bytes.ok.0 in
          let whole : bytes_before c.loop-rest.runs.items + run.bytes ≡ length bytes =
          omega (arith, inv.before, inv.within) in
          rw (w.runs-is, w.before-is, w.in_ok-push.ensures.items, grown) (record {
            so_far = grown_run c.loop-rest.runs.items bytes c.loop-rest.rest.now c.split_rows-rows.result.1.now line
                after c.args.text.now rows inv.so_far c.split_rows-rows.ensures.parts parted within
                run refl whole;
            before = omega (arith, before_more c.loop-rest.runs.items run);
            within = omega (arith, length-append bytes line);
          })
      | else-rows-gt0 w ↦
          rw (w.runs-is, w.before-is, grown) (record {
            so_far = grown_line c.loop-rest.runs.items bytes c.loop-rest.rest.now c.split_rows-rows.result.1.now line
                after c.args.text.now rows inv.so_far c.split_rows-rows.ensures.parts parted within
                (omega arith);
            before = inv.before;
            within = omega (arith, length-append bytes line);
          })
    ]

pub returns : goal.returns
returns c =
    let none : c.loop-rest.rest.now ≡ [] = nil_from_length _ (search rules) in
    let whole : c.args.text.now ≡ unfolded c.loop-rest.runs.items c.loop-rest.bytes.items =
    c.loop-rest.invariant.so_far ∙ (ap (λ t. unfolded c.loop-rest.runs.items c.loop-rest.bytes.items ++ t) none
    ∙ append-nil (unfolded c.loop-rest.runs.items c.loop-rest.bytes.items)) in
    rw (c.shrink_to_fit-2.ensures.items, c.in_ok-from_vec.ensures.ok, c.shrink_to_fit.ensures.items) (sym whole)
