use Rattle.iloc_explain.proofs.Common.{◌≡◌, length, map, get_or, ap, ◌∙◌, arith, get_or_default, get_or-map-range_with_len, length-map-range_with_len, range_with_len, Nop}
use Rattle.iloc_rules.specs.Apart.{address_at}
use Rattle.iloc_explain.proofs.CountedPairs.{apart_counts}
use Rattle.iloc_explain.proofs.delays.Delays.counts.Goals as goal

pub index-requires : goal.index-requires
index-requires c =
    let are : c.args.self.now.addresses.items ≡ map (address_at c.args.self.now.ops.now) (range_with_len 0 (length c.args.self.now.ops.now)) =
    c.args.self.now.known c.in-Address.is in
    omega (arith, c.requires.first, ap length are, length-map-range_with_len (address_at c.args.self.now.ops.now) 0 (length c.args.self.now.ops.now))

pub index-requires-else-are_stores : goal.index-requires-else-are_stores
index-requires-else-are_stores c =
    let are : c.args.self.now.addresses.items ≡ map (address_at c.args.self.now.ops.now) (range_with_len 0 (length c.args.self.now.ops.now)) =
    c.args.self.now.known c.in-Address.is in
    omega (arith, c.requires.second, ap length are, length-map-range_with_len (address_at c.args.self.now.ops.now) 0 (length c.args.self.now.ops.now))

pub returns-else-are_stores : goal.returns-else-are_stores
returns-else-are_stores c =
    let ops = c.args.self.now.ops.now in
    let are : c.args.self.now.addresses.items ≡ map (address_at ops) (range_with_len 0 (length ops)) =
    c.args.self.now.known c.in-Address.is in
    rw c.in-Address.is
    (apart_counts ops c.args.i c.args.j _ _ _ _ c.are_stores.result c.apart_if_both.result
    (get_or_default ops c.args.i _ Nop c.requires.first) (get_or_default ops c.args.j _ Nop c.requires.second)
    c.are_stores.ensures c.if-are_stores.false
    (c.index.ensures ∙ (ap (λ xs. get_or xs c.args.i c.index.result.now) are
    ∙ get_or-map-range_with_len (address_at ops) 0 (length ops) c.args.i c.args.i c.index.result.now c.requires.first (omega arith)))
    (c.index-else-are_stores.ensures ∙ (ap (λ xs. get_or xs c.args.j c.index-else-are_stores.result.now) are
    ∙ get_or-map-range_with_len (address_at ops) 0 (length ops) c.args.j c.args.j c.index-else-are_stores.result.now
    c.requires.second (omega arith)))
    c.apart_if_both.ensures)
