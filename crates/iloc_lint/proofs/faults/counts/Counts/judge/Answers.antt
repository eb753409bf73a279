use Rattle.iloc_lint.proofs.Common.{◌≡◌, ℕ, ◌+◌, List, [], ◌∷◌, ◌++◌, length, Some, Ok, Err, Result, sym, refl, subst, IsFaulty, Reading, Reads, ReadFault, BadLine, NumberTooLarge, TooManyBlocks, TooManyOperations, empty}
use Rattle.iloc_lint.specs.Steps.Counted.{Judged, AddsReading, Count, Exceeds}
use Rattle.std.specs.Result.{result_err}
use Rattle.iloc_lint.specs.declared.faults.counts.Counts.{Counts}
use Rattle.iloc_lint.proofs.Counted.{empty_counted}
use Rattle.iloc_lint.proofs.faults.counts.Counts.judge.Goals as goal

-- What becomes of the counts with one more line.

-- a line that goes beyond a limit is refused for that
exceeds : (before : List Reading) (line : List ℕ) (r : Reading) (n : ℕ) (fault : ReadFault) → Reads line r.label r.op
    → Exceeds (before ++ r ∷ []) n fault → IsFaulty before line n fault
exceeds before line r n (TooManyBlocks k) reads many =
    (many.0, record { reading = r; read = reads; blocks = many.1 })
exceeds before line r n (TooManyOperations k) reads many =
    (many.0, record { reading = r; read = reads; blocks = many.1; operations = many.2 })
exceeds before line r n _ reads many = absurd many

added_judged : (before : List Reading) (line : List ℕ) (r : Reading) (n : ℕ) (old new : Counts)
    (result : Result (Unit {0}) ReadFault) → Count before old → length before + 1 ≡ n → Reads line r.label r.op
    → AddsReading before r n old new result → Judged before line new (result_err result)
added_judged before line r n old new (Ok done) count number reads adds = (r, (reads, adds.1), adds.0)
added_judged before line r n old new (Err fault) count number reads adds = (
  empty,
  (subst (λ k. IsFaulty before line k fault) (sym number) (exceeds before line r n fault reads adds.1), refl),
  subst (Count (before ++ empty ∷ [])) (sym adds.0) (empty_counted before old count),
)

refused_judged : (before : List Reading) (line : List ℕ) (n : ℕ) (counts : Counts) (fault : ReadFault)
    → Count before counts → length before + 1 ≡ n → IsFaulty before line n fault → Judged before line counts (Some fault)
refused_judged before line n counts fault count number bad = (
  empty,
  (subst (λ k. IsFaulty before line k fault) (sym number) bad, refl),
  empty_counted before counts count,
)

pub returns-in-Ok : goal.returns-in-Ok
returns-in-Ok c = λ before count number.
    subst (Judged before c.args.line.now c.add.new.self) (sym c.err.ensures.value)
    (added_judged before c.args.line.now (record { label = c.in-Ok.ensures.0; op = c.in-Ok.said.op }) c.args.number
    c.args.self.now c.add.new.self c.add.result count number c.in-Ok.ensures.1
    (c.add.ensures before c.in-Ok.ensures.0 count c.in-Ok.ensures.2))

pub returns-in-Err-Bad : goal.returns-in-Err-Bad
returns-in-Err-Bad c = λ before count number.
    let bad : IsFaulty before c.args.line.now c.args.number (BadLine c.args.number) =
    (refl, rw (c.in-Err-Bad.is, c.in-Err-Bad.field-0-is) at c.read_alone.ensures) in
    refused_judged before c.args.line.now c.args.number c.args.self.now (BadLine c.args.number) count number bad

pub returns-in-Err-TooLarge : goal.returns-in-Err-TooLarge
returns-in-Err-TooLarge c = λ before count number.
    let said = rw (c.in-Err-TooLarge.is, c.in-Err-TooLarge.field-0-is) at c.read_alone.ensures in
    let large : IsFaulty before c.args.line.now c.args.number (NumberTooLarge c.args.number) = (refl, said.0, said.1) in
    refused_judged before c.args.line.now c.args.number c.args.self.now (NumberTooLarge c.args.number) count number large
