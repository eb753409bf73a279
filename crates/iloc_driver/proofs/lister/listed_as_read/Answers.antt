use Rattle.iloc_driver.proofs.Common.{◌≡◌, ◌≤◌, ◌++◌, length, IfErr, None, Err, sym, refl, ap, ◌∙◌, subst, arith, err_from_is_err_and, MAX_BLOCKS, IsCaused, of_file}
use Rattle.iloc_driver.proofs.Entries.{entries_long, whole_listing}
use Rattle.iloc_driver.proofs.Streamed.{ends_file}
use Rattle.iloc_driver.proofs.lister.listed_as_read.Goals as goal

pub push_ending-requires : goal.push_ending-requires
push_ending-requires g c =
    let read = c.in_ok-read.ensures.ok in
    let grows = read.4.1 in
    let long = entries_long (g.L.Lister.lists c.args.request.now None) 1 read.2 grows.next grows.entries grows.right in
    let few : length read.2 ≤ MAX_BLOCKS = (c.files_are_within_limits.ensures read.0 read.2 read.3).0 in
    let same : length c.deref.result.now ≡ length grows.next =
    ap length (c.deref.ensures.value ∙ (grows.kept ∙ ap (λ fs. fs ++ grows.next) c.new-3.ensures.items)) in
    omega (arith, same, long, few)

pub returns-clause-ok : goal.returns-clause-ok
returns-clause-ok g c =
    let read = c.in_ok-read.ensures.ok in
    let text = c.in_ok-read.read.text.items in
    record {
      input = read.0;
      read = read.1;
      blocks = read.2;
      denoted = read.3;
      own = None;
      ranked = refl;
      listed = whole_listing (g.L.Lister.lists c.args.request.now None) g.L.Lister.ending read.2 c.new-2.result.items text _
          c.new-3.result.items c.in_ok-read.read.found.items c.new-2.ensures.items c.new-3.ensures.items read.4.1
          (c.of_text.ensures ∙ (c.in_ok-push_ending.ensures
          ∙ ap (λ fs. text ++ g.L.Lister.ending fs) c.deref.ensures.value));
    }

pub returns-in_err-read-clause-err : goal.returns-in_err-read-clause-err
returns-in_err-read-clause-err g c =
    let old = g.R.Read.remaining c.args.reader.now in
    let new = g.R.Read.remaining c.read_blocks_from.new.stream in
    let exit = err_from_is_err_and c.from_residual-in_err-read.result c.from_residual-in_err-read.ensures.1 in
    subst (λ r. IfErr r (IsCaused (of_file old new))) (sym (exit.1 ∙ ap (λ e. Err e) exit.2))
    (ends_file old new c.in_err-read.field-0.0 c.in_err-read.ensures.err)
