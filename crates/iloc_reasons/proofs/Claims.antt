-- What is claimed of operations of rows is a fact, where it was seen to hold.
use Rattle.iloc_reasons.proofs.Common.{◌≡◌, ℕ, zero, suc, ◌<◌, ◌≤◌, ◌≢◌, List, [], ◌∷◌, map, length, slice_get, Some, Contains, Option, sym, ap, ◌∙◌, arith, defined, used, Op, Reg, op_at, issue_cycle, Latencies, Row, AreAllSources, HasBeenThere, IsCounterpart, IsFact, IsIssued, due, given, read, reading_of, sources_of, Reading, AreAllRead, source_at}
use Rattle.std.proofs.lemmas.Option.{get_or_from_slice_get, slice_get_within}
use Rattle.iloc_facts.specs.declared.lawfulness.Issue.{Issue}
use Rattle.iloc_facts.proofs.SourceLists.{few_used}
use Rattle.iloc_facts.specs.declared.fact.Fact.TheVariants.{Brings, Replaced, See}

-- what stands at a place of a list is in it
pub contained : {X : Type 0} (xs : List X) (place : ℕ) (x : X) → slice_get xs place ≡ Some x → Contains xs x
contained xs place x is = (place, slice_get_within xs place x is, get_or_from_slice_get xs place x x is)

-- what is read at a place is what is read in the register there
source_there : (f : Reg → Option ℕ) (rs : List Reg) (place : ℕ) (r : Reg) → length rs ≤ 2 → slice_get rs place ≡ Some r
    → source_at (sources_of f rs) place ≡ f r
source_there f [] place r few is = absurd cc
source_there f (a ∷ []) zero r few is = let same : a ≡ r = cc in ap f same
source_there f (a ∷ []) (suc place) r few is = absurd cc
source_there f (a ∷ b ∷ []) zero r few is = let same : a ≡ r = cc in ap f same
source_there f (a ∷ b ∷ []) (suc zero) r few is = let same : b ≡ r = cc in ap f same
source_there f (a ∷ b ∷ []) (suc (suc place)) r few is = absurd cc
source_there f (a ∷ b ∷ c ∷ rest) place r few is = absurd (omega arith)

-- what holds of all that is read in registers holds of it as noted
all_read : (Alike : ℕ → ℕ → Type 0) (f g : Reg → Option ℕ) (rs ss : List Reg) → AreAllSources Alike (map f rs) (map g ss)
    → AreAllRead Alike (sources_of f rs) (sources_of g ss)
all_read Alike f g [] [] all = tt
all_read Alike f g [] (s ∷ ss) all = absurd all
all_read Alike f g (r ∷ rs) [] all = absurd all
all_read Alike f g (r ∷ []) (s ∷ []) all = all.0
all_read Alike f g (r ∷ []) (s ∷ t ∷ ss) all = tt
all_read Alike f g (r ∷ q ∷ rs) (s ∷ []) all = tt
all_read Alike f g (r ∷ q ∷ rs) (s ∷ t ∷ ss) all = (all.0, all.1.0)

module _ (lat : Latencies) (block ops : List Op) (rows : List Row) where
  pub brings_fact : (k l : ℕ) (issue late : Issue) (register : Reg) (place arrives : ℕ) → IsIssued ops rows k issue
      → IsIssued ops rows l late → arrives ≡ due lat ops rows l → l ≢ k → slice_get (used issue.op) place ≡ Some register
      → defined late.op ≡ Some register → late.cycle ≤ issue.cycle → issue.cycle < arrives
      → IsFact lat block ops rows (Brings issue register late arrives)
  brings_fact k l issue late register place arrives here there when another uses defines begun not_there = record {
    k = k;
    l = l;
    here = here;
    there = there;
    another = another;
    uses = contained (used issue.op) place register uses;
    defines = defines;
    begun = begun;
    not_there = not_there;
    when = when;
  }

  pub replaced_fact : (k j : ℕ) (issue from : Issue) (register : Reg) (place : ℕ) (reading : Reading) (lost : Option Issue)
      → IsIssued ops rows k issue → IsIssued ops rows j from → slice_get (used issue.op) place ≡ Some register
      → reading ≡ reading_of lat ops rows k
      → source_at reading.sources place ≡ Some j
      → HasBeenThere lat ops rows issue.cycle register j lost
      → IsFact lat block ops rows (Replaced issue register from lost)
  replaced_fact k j issue from register place reading lost here there uses is_reading source before =
      let own : op_at ops k ≡ issue.op = ap (λ (i : Issue). i.op) (sym here.is) in
      let own_cycle : issue.cycle ≡ issue_cycle rows k = ap (λ (i : Issue). i.cycle) here.is in
      let f = read lat ops rows (issue_cycle rows k) in
      let uses_there : slice_get (used (op_at ops k)) place ≡ Some register = ap (λ o. slice_get (used o) place) own ∙ uses in
      let is : source_at (sources_of f (used (op_at ops k))) place ≡ f register =
      source_there f (used (op_at ops k)) place register (few_used (op_at ops k)) uses_there in
      record {
        k = k;
        j = j;
        here = here;
        uses = contained (used issue.op) place register uses;
        reads = ap (λ c. read lat ops rows c register) own_cycle ∙ sym is
            ∙ ap (λ (r : Reading). source_at r.sources place) (sym is_reading) ∙ source;
        there = there;
        before = before;
      }

  pub see_fact : (k i : ℕ) (issue : Issue) → IsIssued ops rows k issue → IsCounterpart block ops i k
      → (AreAllRead (IsCounterpart block ops) (sources_of (given block i) (used (op_at block i)))
      (sources_of (read lat ops rows (issue_cycle rows k)) (used (op_at ops k))) → ⊥) → IsFact lat block ops rows (See issue)
  see_fact k i issue here there otherwise = record {
    k = k;
    i = i;
    here = here;
    there = there;
    otherwise = λ all. otherwise (all_read (IsCounterpart block ops) (given block i) (read lat ops rows (issue_cycle rows k))
        (used (op_at block i)) (used (op_at ops k)) all);
  }
