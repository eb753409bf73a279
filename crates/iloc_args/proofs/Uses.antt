-- One use of an argument: where the parser finds no fault in it, the rows are kept.
use Rattle.iloc_args.proofs.Common.{◌≡◌, Bool, true, false, List, [], ◌∷◌, Some, None, Option, find, refl, arith, AllByRecursion, option_map_or, settle_fault, use_fault, Held, Row, Rule, Text, action_of, arg_by_id, settled, settled_rows, used, used_by_id}
use Rattle.clap.specs.declared.builder.action.ArgAction.{ArgAction}
use Rattle.clap.specs.declared.builder.action.ArgAction.TheVariants.{Set, Append, SetTrue, Help}
use Rattle.iloc_args.proofs.Rows.{AllKept, both_empty, with_values_kept, without_kept}

-- an action of this program's arguments
abbrev pub is_our_action : ArgAction → Bool
is_our_action Set = true
is_our_action Append = true
is_our_action SetTrue = true
is_our_action Help = true
is_our_action _ = false

-- the argument is the first of its id among the rules, and sets a value or a flag, adds some, or asks for help
pub record IsOurs (rules : List Rule) (a : Rule) : Type 0 where
  pub first : arg_by_id rules a.id ≡ Some a
  pub action : is_our_action (action_of a) ≡ true

abbrev pub AllOurs : List Rule → Type 0
AllOurs rules = AllByRecursion (IsOurs rules) rules

pub found_ours : (rules : List Rule) (p : Rule → Bool) (xs : List Rule) (a : Rule) → AllByRecursion (IsOurs rules) xs
    → find p xs ≡ Some a → IsOurs rules a
found_ours rules p [] a ours found = cc
found_ours rules p (x ∷ xs) a ours found = grind (arith, found_ours rules p xs a ours.1)

pub use_kept : (rules : List Rule) (again : Bool) (a : Rule) (values : List Text) (rows : List Row) → IsOurs rules a
    → AllKept rules rows
    → use_fault again a values rows ≡ [] → AllKept rules (used a values rows)
use_kept rules again a values rows ours kept e = grind (arith, both_empty, with_values_kept, without_kept)

-- the argument whose values were being read is used with them
pub settled_kept : (rules : List Rule) (again : Bool) (h : Held) → AllOurs rules → AllKept rules h.rows
    → settle_fault rules again h ≡ []
    → AllKept rules (settled rules h).rows
settled_kept rules again h ours kept e = go h.pending e
  where
    used_one : (p : Text × List Text) (o : Option Rule) → arg_by_id rules p.0 ≡ o
        → option_map_or (λ a. use_fault again a p.1 h.rows) o [] ≡ [] → AllKept rules (used_by_id o p.1 h.rows)
    used_one p None is e = kept
    used_one p (Some a) is e = use_kept rules again a p.1 h.rows (found_ours rules _ rules a ours is) kept e

    go : (p : Option (Text × List Text))
        → option_map_or (λ q. option_map_or (λ a. use_fault again a q.1 h.rows) (arg_by_id rules q.0) []) p [] ≡ []
        → AllKept rules (settled_rows rules p h.rows)
    go None e = kept
    go (Some p) e = used_one p (arg_by_id rules p.0) refl e
