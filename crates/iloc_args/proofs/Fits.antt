-- What the arguments of a command have to be, and a test of it that computes.
use Rattle.iloc_args.proofs.Common.{◌≡◌, ℕ, Bool, true, false, cond, not, ◌&&◌, List, [], ◌∷◌, ◌++◌, pos, IfSome, ◌==◌, Some, codes, Option, bytes_eq, sym, refl, ap, ◌∙◌, subst, append_assoc, arith, eqb-true, bytes_eq-Decides, AllByRecursion, list_all, option_map_or, LAST_ADDRESS, LONGEST_LATENCY, Rule, Text, action_of, arg_by_id, ValueParser}
use Rattle.std.proofs.lemmas.Bool.{and_parts, not-true}
use Rattle.clap.specs.declared.builder.value_parser.ValueParser.TheVariants as vp
use Rattle.iloc_args.proofs.Uses.{AllOurs, IsOurs, is_our_action}

-- an argument of this id takes numbers within these bounds
abbrev pub TakesIn : ℕ → ℕ → Text → List Rule → Type 0
TakesIn low high id rules = IfSome (arg_by_id rules id) (λ a. a.parser ≡ Some (vp.Signed (pos low) (pos high)))

-- the arguments are such as the walk keeps, and take what each request has
pub record IsFit (rules : List Rule) : Type 0 where
  pub ours : AllOurs rules
  pub workers : TakesIn 1 8 (codes "workers") rules
  pub at : TakesIn 0 LAST_ADDRESS (codes "at") rules
  pub words : TakesIn 0 4294967295 (codes "words") rules
  pub load : TakesIn 1 LONGEST_LATENCY (codes "load") rules
  pub store : TakesIn 1 LONGEST_LATENCY (codes "store") rules
  pub mult : TakesIn 1 LONGEST_LATENCY (codes "mult") rules
  pub nodes : TakesIn 0 100000 (codes "nodes") rules

-- ---- the test

abbrev lacks : Text → List Rule → Bool
lacks id rules = list_all (λ (a : Rule). not (bytes_eq id a.id)) rules

abbrev have_own_ids : List Rule → Bool
have_own_ids [] = true
have_own_ids (a ∷ rest) = lacks a.id rest && have_own_ids rest

abbrev are_ours : List Rule → Bool
are_ours rules = list_all (λ (a : Rule). is_our_action (action_of a)) rules

abbrev is_number_parser : ℕ → ℕ → Option ValueParser → Bool
is_number_parser low high (Some (vp.Signed (pos a) (pos b))) = (a == low) && (b == high)
is_number_parser low high _ = false

abbrev takes_in : ℕ → ℕ → Text → List Rule → Bool
takes_in low high id rules = option_map_or (λ (a : Rule). is_number_parser low high a.parser) (arg_by_id rules id) true

abbrev takes_memory : List Rule → Bool
takes_memory rules = takes_in 0 LAST_ADDRESS (codes "at") rules && takes_in 0 4294967295 (codes "words") rules

abbrev takes_latencies : List Rule → Bool
takes_latencies rules =
    takes_in 1 LONGEST_LATENCY (codes "load") rules
    && (takes_in 1 LONGEST_LATENCY (codes "store") rules && takes_in 1 LONGEST_LATENCY (codes "mult") rules)

abbrev takes_shares : List Rule → Bool
takes_shares rules = takes_in 1 8 (codes "workers") rules && takes_in 0 100000 (codes "nodes") rules

abbrev takes_all : List Rule → Bool
takes_all rules = takes_shares rules && (takes_memory rules && takes_latencies rules)

abbrev pub is_fit : List Rule → Bool
is_fit rules = have_own_ids rules && (are_ours rules && takes_all rules)

-- ---- what it tests

lacks_one : (id : Text) (before : List Rule) (a : Rule) (after : List Rule) → lacks id (before ++ a ∷ after) ≡ true
    → bytes_eq id a.id ≡ false
lacks_one id [] a after e = not-true (bytes_eq id a.id) (and_parts (not (bytes_eq id a.id)) (lacks id after) e).0
lacks_one id (b ∷ before) a after e =
    lacks_one id before a after (and_parts (not (bytes_eq id b.id)) (lacks id (before ++ a ∷ after)) e).1

is_first : (before : List Rule) (a : Rule) (after : List Rule) → have_own_ids (before ++ a ∷ after) ≡ true
    → arg_by_id (before ++ a ∷ after) a.id ≡ Some a
is_first [] a after own =
    ap (λ b. cond b (Some a) (arg_by_id after a.id)) ((bytes_eq-Decides a.id a.id).1 refl)
is_first (b ∷ before) a after own =
    let parts = and_parts (lacks b.id (before ++ a ∷ after)) (have_own_ids (before ++ a ∷ after)) own in
    ap (λ x. cond x (Some b) (arg_by_id (before ++ a ∷ after) a.id)) (lacks_one b.id before a after parts.0)
    ∙ is_first before a after parts.1

all_ours : (before xs : List Rule) → have_own_ids (before ++ xs) ≡ true → are_ours xs ≡ true
    → AllByRecursion (IsOurs (before ++ xs)) xs
all_ours before [] own ours = tt
all_ours before (a ∷ xs) own ours =
    let parts = and_parts (is_our_action (action_of a)) (are_ours xs) ours in
    let same : (before ++ a ∷ []) ++ xs ≡ before ++ a ∷ xs = append_assoc before (a ∷ []) xs in
    let own_here : have_own_ids ((before ++ a ∷ []) ++ xs) ≡ true =
    subst (λ (l : List Rule). have_own_ids l ≡ true) (sym same) own in (
      record { first = is_first before a xs own; action = parts.0 },
      subst (λ (l : List Rule). AllByRecursion (IsOurs l) xs) same (all_ours (before ++ a ∷ []) xs own_here parts.1),
    )

number_parser : (low high : ℕ) (o : Option ValueParser) → is_number_parser low high o ≡ true
    → o ≡ Some (vp.Signed (pos low) (pos high))
number_parser low high o e = grind (arith, and_parts, eqb-true, pos)

number : (low high : ℕ) (id : Text) (rules : List Rule) → takes_in low high id rules ≡ true → TakesIn low high id rules
number low high id rules e = grind (arith, number_parser)

pub fits : (rules : List Rule) → is_fit rules ≡ true → IsFit rules
fits rules e =
    let ids = and_parts (have_own_ids rules) (are_ours rules && takes_all rules) e in
    let ours = and_parts (are_ours rules) (takes_all rules) ids.1 in
    let all = and_parts (takes_shares rules) (takes_memory rules && takes_latencies rules) ours.1 in
    let shares = and_parts (takes_in 1 8 (codes "workers") rules) (takes_in 0 100000 (codes "nodes") rules) all.0 in
    let memory = and_parts (takes_memory rules) (takes_latencies rules) all.1 in
    let words = and_parts (takes_in 0 LAST_ADDRESS (codes "at") rules) (takes_in 0 4294967295 (codes "words") rules)
    memory.0 in
    let load = and_parts (takes_in 1 LONGEST_LATENCY (codes "load") rules)
    (takes_in 1 LONGEST_LATENCY (codes "store") rules && takes_in 1 LONGEST_LATENCY (codes "mult") rules) memory.1 in
    let store = and_parts (takes_in 1 LONGEST_LATENCY (codes "store") rules)
    (takes_in 1 LONGEST_LATENCY (codes "mult") rules) load.1 in
    record {
      ours = all_ours [] rules ids.0 ours.0;
      workers = number 1 8 (codes "workers") rules shares.0;
      nodes = number 0 100000 (codes "nodes") rules shares.1;
      at = number 0 LAST_ADDRESS (codes "at") rules words.0;
      words = number 0 4294967295 (codes "words") rules words.1;
      load = number 1 LONGEST_LATENCY (codes "load") rules load.0;
      store = number 1 LONGEST_LATENCY (codes "store") rules store.0;
      mult = number 1 LONGEST_LATENCY (codes "mult") rules store.1;
    }
