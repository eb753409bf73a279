-- Two schedules whose runs are seen to end with the same terms do the same on every memory.
use Rattle.iloc_terms.proofs.Common.{◌≡◌, ℕ, ◌*◌, ◌<◌, Bool, true, false, List, map, length, ℤ, pos, IsTrue, sym, refl, ap, ◌∙◌, arith, fill_by_all, get_or-map-range_with_len, length-map-range_with_len, is_good, WORDS, with_words, emitted, has_fault, Table, Issued, executed_in, issued_before, timed_outcome_of, Latencies, IsMeaning, Meaning, Node}
use Rattle.iloc_terms.specs.declared.symbols.Symbols.{Symbols}
use Rattle.iloc_terms.specs.Agreement.{AreAlike, AlikeOnAll}
use Rattle.iloc_terms.specs.Steps.Agreement.{SeenSame, AreSame}
use Rattle.iloc_terms.specs.Steps.Tracking.{Ends, Stands}
use Rattle.iloc_terms.proofs.Terms.Meanings.{is_meaning}
use Rattle.iloc_meaning.proofs.MemoryWords.{good_word}
use Rattle.iloc_terms.specs.Steps.Symbols.{some_bad}

-- memories with the same words at good addresses
same_words : (memory : List ℤ) (word other : ℕ → ℤ) → length memory ≡ WORDS
    → ((a : ℕ) → IsTrue (is_good (pos a)) → word a ≡ other a) → with_words memory word ≡ with_words memory other
same_words memory word other size same =
    fill_by_all (λ k. other (4 * k)) (with_words memory word) (length memory) (pos 0)
    (length-map-range_with_len (λ k. word (4 * k)) 0 (length memory)) (λ k below.
    let small : k < WORDS = rw size at below in
    get_or-map-range_with_len (λ j. word (4 * j)) 0 (length memory) k k (pos 0) below (omega arith)
    ∙ same (4 * k) (good_word k small))

-- an end with a bad address is a fault, and one without is none
faults : (memory : List ℤ) (d : Meaning) (log : List Issued) (it : Symbols) → Ends memory d log it
    → some_bad d it.addresses.items ≡ true → has_fault (executed_in log) ≡ true
faults memory d log it ended bad = grind arith

both_fault : (alone : Bool) (memory : List ℤ) (log other : List Issued) → has_fault (executed_in log) ≡ true
    → has_fault (executed_in other) ≡ true → AreAlike alone (timed_outcome_of memory log) (timed_outcome_of memory other)
both_fault true memory log other first second = rw (first, second) refl
both_fault false memory log other first second = rw (first, second) refl

same_emitted : (memory : List ℤ) (d : Meaning) (log log' : List Issued) (one other : Symbols)
    → Stands memory d log one → Stands memory d log' other → one.outputs.items ≡ other.outputs.items
    → emitted (executed_in log) ≡ emitted (executed_in log')
same_emitted memory d log log' one other first second same =
    sym first.outputs ∙ ap (map d.word) same ∙ second.outputs

both_stand : (alone : Bool) (memory : List ℤ) (d : Meaning) (log log' : List Issued) (one other : Symbols)
    → length memory ≡ WORDS → Stands memory d log one → Stands memory d log' other → AreSame alone d one other
    → AreAlike alone (timed_outcome_of memory log) (timed_outcome_of memory log')
both_stand alone memory d log log' one other size first second same = grind (arith, pos, same_emitted, same_words)

alike : (alone : Bool) (memory : List ℤ) (d : Meaning) (log log' : List Issued) (one other : Symbols)
    → length memory ≡ WORDS → Ends memory d log one → Ends memory d log' other → AreSame alone d one other
    → AreAlike alone (timed_outcome_of memory log) (timed_outcome_of memory log')
alike alone memory d log log' one other size ended ended' same = grind (arith, both_fault, both_stand, faults)

pub alike_on_all : (alone : Bool) (lat : Latencies) (one other : Table) (table : List Node) (first second : Symbols)
    → ((memory : List ℤ) (d : Meaning) → IsMeaning memory table d
    → Ends memory d (issued_before lat memory one.ops one.rows (length one.rows)) first
    × Ends memory d (issued_before lat memory other.ops other.rows (length other.rows)) second)
    → SeenSame alone table first second → AlikeOnAll alone lat one other
alike_on_all alone lat one other table first second ends seen = λ memory fits.
    let meaning = is_meaning memory _ fits seen.ordered in
    let both = ends memory _ meaning in
    alike alone memory _ _ _ first second fits.size both.0 both.1 (seen.agreed memory _ meaning)
