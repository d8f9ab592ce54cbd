-- One octet, as often as it comes.
use Rattle.std.proofs.Common.{◌≡◌, ℕ, zero, suc, ◌+◌, ◌-◌, ◌<◌, true, false, [], ◌∷◌, refl, sym, ap, ◌∙◌, subst, arith}
use Rattle.ion_tokens.proofs.runs.Splits.{given_one, left_one}
use Rattle.std.specs.Prelude.{if◌then◌else◌}
use Rattle.ion_text.specs.Names.{Catalog, Effect, Given, IsBehind, Known, Left, Limits, Met, Next, Outcome, Place, Reading, Reason, Refused, State, Turn, comes_again, feed, follow, is_left, lesser, on_octet, on_scan, on_settled, place, scan as run, settle, takes, unsettled}
use Rattle.ion_tokens.proofs.runs.Runs.{feed_used}

-- memory that runs out answers for every other reason
pub least : (e : Reason) → lesser e Reason.Memory ≡ Reason.Memory
least Reason.Memory = refl
least _ = refl

-- one octet at the scanner
pub one_octet : (p : Place) (s : Known) (o : ℕ) → run p (o ∷ []) s ≡ feed p s o
one_octet p s o = by (feed p s o) where
  by : (x : Outcome) → follow x (λ t. Next t) ≡ x
  by (Next t) = refl
  by _ = refl

used_by : (p : Place) (s : Known) (o : ℕ) (x : Outcome) (now : Known) → feed p s o ≡ x → IsBehind x now → is_left x ≡ false → now.used ≡ s.used + 1
used_by p s o (Next t) now f b l = ap (λ (k : Known). k.used) b ∙ feed_used p s t o f
used_by p s o (Given y t) now f b l = ap (λ (k : Known). k.used) b ∙ given_one p o s t y f
used_by p s o (Left y t) now f b l = absurd cc
used_by p s o (Refused n e) now f b l = absurd b

-- how many octets are used behind one
pub one_used : (p : Place) (s : Known) (o : ℕ) (m : Met) (now : Known) → IsBehind (run p (o ∷ []) s) now → is_left (run p (o ∷ []) s) ≡ comes_again m
    → comes_again m ≡ false → now.used ≡ s.used + 1
one_used p s o m now b l f =
    let same = one_octet p s o in
    used_by p s o (feed p s o) now refl (subst (λ x. IsBehind x now) same b) (sym (ap is_left same) ∙ (l ∙ f))

left_by : (p : Place) (s : Known) (o : ℕ) (x : Outcome) (now : Known) → feed p s o ≡ x → IsBehind x now → is_left x ≡ true → now.used ≡ s.used
left_by p s o (Left y t) now f b l = ap (λ (k : Known). k.used) b ∙ left_one p o s t y f
left_by p s o (Refused n e) now f b l = absurd b
left_by p s o _ now f b l = absurd cc

-- an octet that comes again wasn't used
pub one_left : (p : Place) (s : Known) (o : ℕ) (m : Met) (now : Known) → IsBehind (run p (o ∷ []) s) now → is_left (run p (o ∷ []) s) ≡ comes_again m
    → comes_again m ≡ true → now.used ≡ s.used
one_left p s o m now b l f =
    let same = one_octet p s o in
    left_by p s o (feed p s o) now refl (subst (λ x. IsBehind x now) same b) (sym (ap is_left same) ∙ (l ∙ f))

module _ (g : Catalog) (l : Limits) (o : ℕ) where
  -- one token more may be left
  pub takes_more : (n : ℕ) (m : State) → 0 < n → takes g l n m o ≡ on_octet g l (λ k. takes g l (n - 1) k o) m (feed (place m.reading) m.scan o)
  takes_more zero m h = absurd (omega arith)
  takes_more (suc n) m h = let e : n ≡ suc n - 1 = omega arith in ap (λ j. on_octet g l (λ k. takes g l j k o) m (feed (place m.reading) m.scan o)) e

  -- what waits goes on
  pub octet_goes_on : (again : State → Effect) (m : State) (x : Outcome) → unsettled m.scan m.reading x ≡ true
      → on_octet g l again m x ≡ on_scan g l again m.reading x
  octet_goes_on again m x w = ap (λ b. if b then on_scan g l again m.reading x else on_settled g l again m.scan x (settle g l m.reading)) w

  -- what waited is settled
  pub octet_settles : (again : State → Effect) (m : State) (x : Outcome) (t : Turn) → unsettled m.scan m.reading x ≡ false → settle g l m.reading ≡ t
      → on_octet g l again m x ≡ on_settled g l again m.scan x t
  octet_settles again m x t w e =
      ap (λ b. if b then on_scan g l again m.reading x else on_settled g l again m.scan x (settle g l m.reading)) w
      ∙ ap (on_settled g l again m.scan x) e

-- what is done by a reader of the same setting
pub same_scan : (g h : Catalog) (l k : Limits) (n : ℕ) (o : ℕ) (p : Place) (s t : Known) (r : Reading) → h ≡ g → k ≡ l → t ≡ s →
    on_scan g l (λ m. takes g l n m o) r (feed p s o) ≡ on_scan h k (λ m. takes h k n m o) r (feed p t o)
same_scan g h l k n o p s t r e f i =
    ap (λ x. on_scan x l (λ m. takes x l n m o) r (feed p s o)) (sym e)
    ∙ (ap (λ x. on_scan h x (λ m. takes h x n m o) r (feed p s o)) (sym f)
    ∙ ap (λ x. on_scan h k (λ m. takes h k n m o) r (feed p x o)) (sym i))

pub same_takes : (g h : Catalog) (l k : Limits) (n : ℕ) (o : ℕ) (m : State) → h ≡ g → k ≡ l → takes g l n m o ≡ takes h k n m o
same_takes g h l k n o m e f = ap (λ x. takes x l n m o) (sym e) ∙ ap (λ x. takes h x n m o) (sym f)

module _ (g : Catalog) (l : Limits) (n o : ℕ) where
  module _ (m : State) (p : Place) (here : p ≡ place m.reading) (some : 0 < n) where
    -- what waits goes on
    pub goes_on_takes : unsettled m.scan m.reading (feed p m.scan o) ≡ true
        → takes g l n m o ≡ on_scan g l (λ k. takes g l (n - 1) k o) m.reading (feed p m.scan o)
    goes_on_takes w =
        takes_more g l o n m some
        ∙ (ap (λ q. on_octet g l (λ k. takes g l (n - 1) k o) m (feed q m.scan o)) (sym here)
        ∙ octet_goes_on g l o (λ k. takes g l (n - 1) k o) m (feed p m.scan o) w)

    -- it is settled
    pub settles : (t : Turn) → unsettled m.scan m.reading (feed p m.scan o) ≡ false → settle g l m.reading ≡ t
        → takes g l n m o ≡ on_settled g l (λ k. takes g l (n - 1) k o) m.scan (feed p m.scan o) t
    settles t w e =
        takes_more g l o n m some
        ∙ (ap (λ q. on_octet g l (λ k. takes g l (n - 1) k o) m (feed q m.scan o)) (sym here)
        ∙ octet_settles g l o (λ k. takes g l (n - 1) k o) m (feed p m.scan o) t w e)
