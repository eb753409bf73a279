use Rattle.iloc_listing.proofs.Common.{◌≡◌, ◌+◌, ◌-◌, ◌≤◌, ◌++◌, length, take, drop, codes, sym, ap, ◌∙◌, append_assoc, add-one, arith, length-drop, take_all, empty_rows}
use Rattle.std.proofs.lemmas.Bool.Decides.{Decides-eqb}
use Rattle.std.proofs.lemmas.Slice.Eq.{starts_is}
use Rattle.iloc_listing.proofs.Unfolded.{empty_rows_more}
use Rattle.iloc_listing.proofs.text.split_rows.Goals as goal

pub loop-rows-preserved : goal.loop-rows-preserved
loop-rows-preserved c =
    let before = c.loop-rows.invariant in
    let found : c.loop-rows.rest.now ≡ codes "[ nop ; nop ]\n" ++ drop 14 c.loop-rows.rest.now =
    (starts_is Decides-eqb c.loop-rows.rest.now (codes "[ nop ; nop ]\n") c.starts_with.result
    c.starts_with.ensures.value).0 c.loop-rows-test.true in
    let long : 14 ≤ length c.loop-rows.rest.now = c.starts_with.ensures.bound c.loop-rows-test.true in
    let whole : take (length c.loop-rows.rest.now - 14) (drop 14 c.loop-rows.rest.now) ≡ drop 14 c.loop-rows.rest.now =
    take_all _ _ (omega (arith, length-drop 14 c.loop-rows.rest.now)) in
    record {
      parts = before.parts ∙ (ap (λ t. empty_rows c.loop-rows.rows ++ t) found
          ∙ (sym (append_assoc (empty_rows c.loop-rows.rows) (codes "[ nop ; nop ]\n") (drop 14 c.loop-rows.rest.now))
          ∙ ap (λ t. t ++ drop 14 c.loop-rows.rest.now) (rw add-one (empty_rows_more c.loop-rows.rows))
          ∙ ap (λ t. empty_rows (c.loop-rows.rows + 1) ++ t) (sym whole)));
      fits = omega (arith, ap length whole, length-drop 14 c.loop-rows.rest.now);
    }
