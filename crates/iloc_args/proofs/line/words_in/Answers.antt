use Rattle.iloc_args.proofs.Common.{◌≡◌, ℕ, ◌++◌, Ok, codes, Result, sym, refl, ap, ◌∙◌, append-nil, values_left, found_of, rows_of}
use Rattle.iloc_args.proofs.Getters.{many_in_range, many_none, many_numbers, many_some, no_value, one_more, value_read}
use Rattle.iloc_args.proofs.line.words_in.Goals as goal
use Rattle.iloc_args.proofs.line.words_in.Goals.{in-Some+in-None, in_default}

pub loop-value-init : goal.loop-value-init
loop-value-init c =
    let f = found_of c.args.given.now in
    let left = values_left c.in-Some.values in
    let some = many_some f (codes "words") left c.in-Some.ensures in
    let same = c.into_iter-value-iterator.ensures.into_iter_gives in
    record {
      numbers = rw (c.new-words.ensures.items, same) (many_numbers (codes "words") (rows_of f) left some);
      in_range = rw same (many_in_range 0 4294967295 (codes "words") (rows_of f) left some c.requires.words);
    }

pub unwrap-requires : goal.unwrap-requires
unwrap-requires c =
    let got = value_read _ _ c.in-Some-value.value c.in-Some-value.ensures.steps c.loop-value.invariant.in_range in
    rw got.1 refl

ok_same : {E : Type 0} (a b : ℕ) (x : Result ℕ E) → x ≡ Ok a → x ≡ Ok b → a ≡ b
ok_same a b x p q = cc

pub loop-value-preserved : goal.loop-value-preserved
loop-value-preserved c =
    let got = value_read _ _ c.in-Some-value.value c.in-Some-value.ensures.steps c.loop-value.invariant.in_range in
    let same = ok_same got.0 c.unwrap.result c.in-Some-value.value got.1 c.unwrap.ensures in
    record {
      numbers = one_more c.loop-value.words.items c.push.new.self.items _ _ _ c.unwrap.result got.0
          c.in_ok-push.ensures.items got.2 same c.loop-value.invariant.numbers;
      in_range = got.3;
    }

pub returns : goal.returns
returns c = elim c.match-get_many.branch [
  | in-Some+in-None w ↦
      let none = no_value _ _ w.in-None.ensures.steps in
      ap (λ v. v.items) w.words-is ∙ (sym (append-nil w.loop-value.words.items)
      ∙ (ap (λ l. w.loop-value.words.items ++ l) (sym none) ∙ w.loop-value.invariant.numbers))
  | in_default w ↦
      ap (λ v. v.items) w.words-is ∙ (c.new-words.ensures.items
      ∙ sym (many_none (found_of c.args.given.now) (codes "words") w.in_default.ensures))
]
