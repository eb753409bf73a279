-- What workers handed back, of which less is said.
use Rattle.iloc_board.proofs.Common.{ℕ, List, [], ◌∷◌, FitsHandedBack, handed_back_in, AllFit}
use Rattle.iloc_board.specs.Finished.{IsDoneBy, ReceiptView}
use Rattle.iloc_board.proofs.Closes.{said_fits}
use Rattle.iloc_board.proofs.Laws as laws

-- `fits'` says less of an answer than `fits`
module _ {A : Type 0} (count : ℕ) (fits fits' : ℕ → A → Type 0) (price : A → ℕ)
    (weaker : (i : ℕ) (a : A) → fits i a → fits' i a) where
  all_weaker : (xs : List (ℕ × A)) → AllFit fits xs → AllFit fits' xs
  all_weaker [] f = tt
  all_weaker (x ∷ xs) f = (weaker x.0 x.1 f.0, all_weaker xs f.1)

  pub less_said : (receipt : ReceiptView A) → IsDoneBy count fits price receipt → IsDoneBy count fits' price receipt
  less_said receipt (handed, done) =
      let fit : AllFit fits' handed = all_weaker handed done.filed.fit in (
        handed,
        record {
          steps = done.steps;
          one_list = done.one_list;
          every_worker = done.every_worker;
          filed = record { fit = fit; each = done.filed.each };
          legal = (laws.whole (FitsHandedBack fits') (handed_back_in handed) (said_fits fits' handed fit) count done.steps).0;
          over = done.over;
          taken_once = done.taken_once;
          handed_once = done.handed_once;
          last_costs = done.last_costs;
          in_order = record {
            long = done.in_order.long;
            priced = done.in_order.priced;
            each = λ i a at. let q = done.in_order.each i a at in (q.0, weaker i a q.1, q.2);
          };
        },
      )
