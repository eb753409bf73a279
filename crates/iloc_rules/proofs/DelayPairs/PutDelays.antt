-- Whether an operation puts a delay on another; for `puts_delay`.
use Rattle.iloc_rules.proofs.Common.{◌≡◌, ℕ, Bool, ◌&&◌, ◌||◌, ◌++◌, ◌==◌, arith, list_any, when}
use Rattle.std.proofs.Math.Bool.{or-false, or_comm}

gathered : (uses reads own rest : Bool)
    → ((uses && own) || ((reads && own) || rest)) ≡ ((own && (reads || uses)) || rest)
gathered uses reads own rest = grind arith

-- one of the delays is this one where that of what keeps order is, or a latency that is waited for
pub put_delay : (uses reads keeps : Bool) (own delay : ℕ)
    → list_any (λ d. d == delay) (when uses own ++ (when reads own ++ when keeps 1))
    ≡ ((keeps && (1 == delay)) || ((own == delay) && (reads || uses)))
put_delay uses reads keeps own delay = grind (arith, gathered, or-false, or_comm)
