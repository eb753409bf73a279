-- Lists of routines, of what they gave, and of journals.
use Rattle.iloc_driver.proofs.Common.{◌≡◌, ℕ, zero, suc, ◌+◌, ◌<◌, List, [], ◌∷◌, ◌++◌, map, length, slice_index_or, All, sym, refl, ap, ◌∙◌, subst, append_assoc, arith, map-append, All-cons, All-head, All-nil, All-push, All-same, All-tail, AllZip, range_with_len}

range-snoc : (a n : ℕ) → range_with_len a (suc n) ≡ range_with_len a n ++ (a + n) ∷ []
range-snoc a zero = let same : a ≡ a + 0 = omega arith in ap (λ k. k ∷ []) same
range-snoc a (suc n) = grind (arith, range-snoc (a + 1) n)

module _ {S W : Type 0} (R : S → W → Type 0) where
  -- what holds of each routine tells of what it gave
  pub All-zip : (P : S → Type 0) (Q : W → Type 0) → ((s : S) (w : W) → R s w → P s → Q w) → (ss : List S) (ws : List W)
      → AllZip R ss ws → All P ss → All Q ws
  All-zip P Q f [] [] z h = All-nil Q
  All-zip P Q f [] (w ∷ ws) z h = absurd z
  All-zip P Q f (s ∷ ss) [] z h = absurd z
  All-zip P Q f (s ∷ ss) (w ∷ ws) z h = All-cons Q w ws (f s w z.0 (All-head P s ss h))
      (All-zip P Q f ss ws z.1 (All-tail P s ss h))

  pub map-zip : {V : Type 0} (f : S → V) (g : W → V) → ((s : S) (w : W) → R s w → g w ≡ f s)
      → (ss : List S) (ws : List W) → AllZip R ss ws → map g ws ≡ map f ss
  map-zip f g e [] [] z = refl
  map-zip f g e [] (w ∷ ws) z = absurd z
  map-zip f g e (s ∷ ss) [] z = absurd z
  map-zip f g e (s ∷ ss) (w ∷ ws) z = λ i. e s w z.0 i ∷ map-zip f g e ss ws z.1 i

module _ {H S : Type 0} (f : H → S) where
  -- one thread more is started
  pub started_more : (hs more : List H) (h : H) (s : S) (ss rest whole : List S) → map f hs ++ ss ≡ whole
      → more ≡ hs ++ h ∷ [] → ss ≡ s ∷ rest → f h ≡ s → map f more ++ rest ≡ whole
  started_more hs more h s ss rest whole e m n p = grind (arith, append_assoc, map-append)

  -- what each thread gave, in order
  pub kept_zip : {W : Type 0} (R : S → W → Type 0) (hs : List H) (ws : List W) → length ws ≡ length hs
      → ((i : ℕ) (d : W) → i < length hs → (h : H) × (h ≡ slice_index_or hs i h) × R (f h) (slice_index_or ws i d))
      → AllZip R (map f hs) ws
  kept_zip R [] [] e k = tt
  kept_zip R [] (w ∷ ws) e k = absurd (omega arith)
  kept_zip R (h ∷ hs) [] e k = absurd (omega arith)
  kept_zip {W} R (h ∷ hs) (w ∷ ws) e k =
      let first = k 0 w (omega arith) in
      let P : H → Type 0 = λ x. R (f x) w in
      (subst P first.1 first.2, kept_zip R hs ws (omega arith) (λ i d lt. k (suc i) d (omega arith)))

module _ {S : Type 0} where
  -- one shift more
  pub all_more : (P : S → Type 0) (xs ys : List S) (x : S) → ys ≡ xs ++ x ∷ [] → All P xs → P x → All P ys
  all_more P xs ys x e h p = All-same P ys (xs ++ x ∷ []) e (All-push P xs x h p)

  pub numbered_more : (f : S → ℕ) (xs ys : List S) (x : S) (n m : ℕ) → ys ≡ xs ++ x ∷ [] → map f xs ≡ range_with_len 0 n
      → f x ≡ n → m ≡ suc n → map f ys ≡ range_with_len 0 m
  numbered_more f xs ys x n m e h here next =
      ap (λ t. map f t) e
      ∙ (map-append f xs (x ∷ [])
      ∙ (ap (λ t. t ++ f x ∷ []) h
      ∙ (ap (λ k. range_with_len 0 n ++ k ∷ []) (let k : f x ≡ 0 + n = omega arith in k)
      ∙ (sym (range-snoc 0 n) ∙ ap (λ k. range_with_len 0 k) (sym next)))))

  -- one pass more is gathered
  pub gathered_more : {V : Type 0} (f : S → V) (g more whole : List V) (xs rest : List S) (x : S)
      → g ++ map f xs ≡ whole → more ≡ g ++ f x ∷ [] → xs ≡ x ∷ rest → more ++ map f rest ≡ whole
  gathered_more f g more whole xs rest x e m n = ap (λ t. t ++ map f rest) m
      ∙ (append_assoc g (f x ∷ []) (map f rest) ∙ (ap (λ t. g ++ map f t) (sym n) ∙ e))

  pub done_more : (P : S → Type 0) (xs rest whole : List S) (x : S) → (All P xs → All P whole) → P x → xs ≡ x ∷ rest
      → All P rest → All P whole
  done_more P xs rest whole x h p e r = h (All-same P xs (x ∷ rest) e (All-cons P x rest p r))

  pub done_all : (P : S → Type 0) (rest whole : List S) → length rest ≡ 0 → (All P rest → All P whole) → All P whole
  done_all P [] whole e h = h (All-nil P)
  done_all P (x ∷ rest) whole e h = absurd (omega arith)
