-- A fact that is none of those listed leaves each listed once.
use Rattle.iloc_reasons.proofs.Common.{◌≡◌, ℕ, ◌<◌, ◌≢◌, List, [], ◌∷◌, length, sym, ap, ◌∙◌, subst, true≢false, arith}
use Rattle.std.specs.Prelude.{Bool, true, false, ◌++◌, AllPairs}
use Rattle.std.specs.List.{AllWithin, IsAnyAnswer}
use Rattle.std.proofs.lemmas.List.Quantifiers.{all_pairs_push}
use Rattle.iloc_facts.specs.declared.fact.Fact.{Fact}
use Rattle.iloc_facts.specs.contracts.fact.FactPartialEq.TheImpl as of_facts
use Rattle.iloc_facts.specs.contracts.fact.FactEq.TheImpl.Laws.{laws-law}

-- two facts are compared as `b`
abbrev AreCompared : Fact → Fact → Bool → Type 0
AreCompared fact other b = (of_facts.ghosts).eq other fact ≡ b

pub once_more : (facts listed : List Fact) (fact : Fact) (found : Bool) → listed ≡ facts
    → IsAnyAnswer (λ y b. (of_facts.ghosts).eq y fact ≡ b) listed found → found ≡ false
    → AllPairs (λ one other. one ≢ other) facts → AllPairs (λ one other. one ≢ other) (facts ++ fact ∷ [])
once_more facts listed fact found same any none once =
    let others : AllWithin (λ y. AreCompared fact y false) listed 0 (length listed) =
    subst (λ (b : Bool). IsAnyAnswer (AreCompared fact) listed b) none any in
    let all : AllWithin (λ y. AreCompared fact y false) facts 0 (length facts) =
    subst (λ (ys : List Fact). AllWithin (λ y. AreCompared fact y false) ys 0 (length ys)) same others in
    all_pairs_push (λ one other. one ≢ other) facts fact once
    (λ k d within same. true≢false (sym (laws-law.refl fact) ∙ ap (λ y. (of_facts.ghosts).eq y fact) (sym same)
    ∙ all k d (omega arith) within))
