use Rattle.iloc_sched.proofs.Common.{◌≡◌, ◌+◌, List, [], ◌∷◌, ◌++◌, length, sym, ap, ◌∙◌, subst, arith, Vec, defined, used, Op, op_at, kind, latency_of, IsRenamed, Book, IsLasts, IsPartialGraph, graph_of, Edge}
use Rattle.iloc_sched.proofs.KeptEdges.OneMoreInTables.{lasts_grown, partial_grown, kinds_more, latencies_more, op_at_next, size_more}
use Rattle.iloc_sched.proofs.tables.Tables.push.Goals as goal

pub add_all-requires-clause-next : goal.add_all-requires-clause-next
add_all-requires-clause-next c =
    let lat = c.args.self.now.latencies in
    let at : c.len-j.result ≡ length c.args.self.now.ops.items = c.len-j.ensures ∙ c.args.self.now.ops.ok.0 in
    let read : c.deref.result.now ≡ c.args.self.now.ops.items ++ c.args.op ∷ [] =
    c.deref.ensures.value ∙ c.push_reserved.ensures.items in
    let more : length c.deref.result.now ≡ length c.args.self.now.ops.items + 1 =
    ap (length {A = Op}) read ∙ size_more c.args.self.now.ops.items c.args.op in
    let last : op_at c.deref.result.now c.len-j.result ≡ c.args.op =
    op_at_next c.args.self.now.ops.items c.args.op c.len-j.result c.deref.result.now read at in
    record {
      renamed = subst IsRenamed (sym read) c.requires.renamed;
      few = omega (arith, c.requires.few);
      there = omega arith;
      own = latencies_more c.args.self.now.ops.items c.args.op lat c.args.self.now.own.items c.deref-2.result.now
          c.deref.result.now read
          (c.deref-2.ensures.value ∙ c.push_reserved-3.ensures.items ∙ ap (λ n. c.args.self.now.own.items ++ n ∷ [])
          (c.of.ensures.latency ∙ ap (latency_of lat) c.of-kind.ensures))
          c.requires.filling.own;
      known = lasts_grown c.args.self.now.ops.items c.args.op c.args.lasts.now c.len-j.result c.deref.result.now read at
          c.requires.filling.known;
      kind_is = c.of-kind.ensures ∙ ap kind (sym last);
      uses_are = c.requires.registers.uses ∙ ap used (sym last);
    }

pub add_all-requires-clause-partial : goal.add_all-requires-clause-partial
add_all-requires-clause-partial c =
    partial_grown c.args.self.now.ops.items c.args.op c.args.self.now.latencies c.args.self.now.edges c.grow.new.self
    c.len-j.result c.deref.result.now (c.deref.ensures.value ∙ c.push_reserved.ensures.items)
    (c.len-j.ensures ∙ c.args.self.now.ops.ok.0) c.grow.ensures.edges c.grow.ensures.starts c.grow.ensures.heads
    c.requires.filling.partial

pub returns-clause-filling : goal.returns-clause-filling
returns-clause-filling c =
    let lat = c.args.self.now.latencies in
    let ops : List Op = c.push_reserved.new.self.items in
    let at : c.len-j.result ≡ length c.args.self.now.ops.items = c.len-j.ensures ∙ c.args.self.now.ops.ok.0 in
    let read : c.deref.result.now ≡ ops = c.deref.ensures.value in
    let more : length ops ≡ length c.args.self.now.ops.items + 1 =
    ap (length {A = Op}) c.push_reserved.ensures.items ∙ size_more c.args.self.now.ops.items c.args.op in
    let last : op_at ops c.len-j.result ≡ c.args.op =
    op_at_next c.args.self.now.ops.items c.args.op c.len-j.result ops c.push_reserved.ensures.items at in
    let known = lasts_grown c.args.self.now.ops.items c.args.op c.args.lasts.now c.len-j.result ops
    c.push_reserved.ensures.items at c.requires.filling.known in
    let size : c.len-j.result + 1 ≡ length ops = omega arith in
    let edges : length c.grow.new.self.edges.items ≡ length c.args.self.now.edges.edges.items =
    ap (λ (v : Vec Edge). length v.items) c.grow.ensures.edges in
    record {
      kinds = kinds_more c.args.self.now.ops.items c.args.op c.args.self.now.kinds.items c.push_reserved-2.new.self.items ops
          c.push_reserved.ensures.items
          (c.push_reserved-2.ensures.items ∙ ap (λ k. c.args.self.now.kinds.items ++ k ∷ []) c.of-kind.ensures)
          c.requires.filling.kinds;
      own = latencies_more c.args.self.now.ops.items c.args.op lat c.args.self.now.own.items c.push_reserved-3.new.self.items ops
          c.push_reserved.ensures.items
          (c.push_reserved-3.ensures.items ∙ ap (λ n. c.args.self.now.own.items ++ n ∷ [])
          (c.of.ensures.latency ∙ ap (latency_of lat) c.of-kind.ensures))
          c.requires.filling.own;
      partial = subst (λ n. IsPartialGraph Book lat ops (graph_of c.add_all.new.self) n) size
          (subst (λ xs. IsPartialGraph Book lat xs (graph_of c.add_all.new.self) (c.len-j.result + 1)) read
          c.add_all.ensures.partial);
      known = subst (λ n. IsLasts ops c.note.new.self n) size
          (c.in_ok-note.ensures.lasts ops (c.of-kind.ensures ∙ ap kind (sym last))
          (c.requires.registers.defines ∙ ap defined (sym last)) known);
      starts = omega (arith, c.add_all.ensures.starts);
      count = omega (arith, c.add_all.ensures.count, c.in_ok-note.ensures.loads, c.requires.filling.count);
    }
