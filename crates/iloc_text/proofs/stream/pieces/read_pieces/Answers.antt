use Rattle.iloc_text.proofs.Common.{◌≤◌, [], ◌++◌, length, take, drop, sym, refl, subst, arith, length-append, length-take, take-append-le}
use Rattle.std.specs.Io.KnownBytes.{Consumes}
use Rattle.std.proofs.KnownBytes.{Consumes-nil, Consumes-trans}
use Rattle.iloc_text.proofs.stream.pieces.read_pieces.Goals as goal

pub loop-left-init : goal.loop-left-init
loop-left-init g c = record {
  came = [];
  consumed = Consumes-nil (g.R.Read.remaining c.args.stream.now);
  count = refl;
  took = g.met.P.TakePieces.took_none c.args.taker.now;
}

pub loop-left-preserved : goal.loop-left-preserved
loop-left-preserved g c =
    let now = c.loop-left.invariant in
    let room = c.min-room.result in
    let within : c.in-Ok.count ≤ length c.read.new.buf = omega (arith, c.in-Ok.ensures.bound, c.read.auto.buf) in
    let seam = take-append-le c.in-Ok.count c.read.new.buf (drop room c.loop-left.piece) within in
    record {
      came = now.came ++ take c.in-Ok.count (c.read.new.buf ++ drop room c.loop-left.piece);
      consumed = Consumes-trans _ _ _ now.came _ now.consumed
          (subst (Consumes (g.R.Read.remaining c.loop-left.stream) (g.R.Read.remaining c.read.new.self)) (sym seam)
          c.in-Ok.ensures.bytes.0);
      count = omega (
        arith,
        now.count,
        c.min-room.ensures,
        within,
        c.read.auto.buf,
        length-take room c.loop-left.piece,
        length-append now.came (take c.in-Ok.count (c.read.new.buf ++ drop room c.loop-left.piece)),
        length-take c.in-Ok.count (c.read.new.buf ++ drop room c.loop-left.piece),
        length-append c.read.new.buf (drop room c.loop-left.piece),
      );
      took = c.in_ok-take.ensures c.args.taker.now now.came now.took;
    }
