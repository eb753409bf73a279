use Rattle.iloc_listing.proofs.Common.{[], ◌++◌, refl, ap, append-nil, on_err_weaker, on_ok_weaker}
use Rattle.iloc_listing.proofs.Joining.{goes}
use Rattle.iloc_listing.proofs.Written.{front_behind, front_before, on_err}
use Rattle.iloc_listing.proofs.writing.write_joined.Goals as goal

pub returns-in_err-write_buffer-clause-err : goal.returns-in_err-write_buffer-clause-err
returns-in_err-write_buffer-clause-err g c =
    on_err c.from_residual.result (front_before _ _ _ _ _ c.in_err-write_buffer.ensures.err refl)

pub returns-clause-ok : goal.returns-clause-ok
returns-clause-ok g c =
    on_ok_weaker c.write_bytes.result
    (λ wrote. goes _ _ _ _ _ _ c.in_ok-write_buffer.ensures.ok c.in_ok-write_buffer.ensures.empty wrote)
    c.write_bytes.ensures.ok

pub returns-clause-err : goal.returns-clause-err
returns-clause-err g c =
    on_err_weaker c.write_bytes.result
    (λ wrote. front_behind _ _ _ _ _ [] _ c.in_ok-write_buffer.ensures.ok wrote
    (ap (λ t. c.args.buffer.now.items ++ t) (append-nil c.args.text.now)))
    c.write_bytes.ensures.err
