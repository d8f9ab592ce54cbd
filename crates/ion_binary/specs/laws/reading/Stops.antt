-- Where a run goes on, and where it is refused.
use Rattle.std.proofs.Common.{◌≡◌, ℕ, ◌+◌, ◌≤◌, List, [], ◌∷◌, ◌++◌, length, take, Ok, Err, refl, ap, ◌∙◌, arith, length-append}
use Rattle.std.proofs.Math.Seq.{take-append-add}
use Rattle.ion_binary.specs.Names.{BeginsNone, Catalog, Document, Limits, Machine, Outcome, Ready, Refusal, Run, Value, Whole, anew, at, document, feed, gives, goes, initial, no_piece, on_now, refuses, run, run-append, run_on, under}
use Rattle.ion_binary.specs.laws.reading.Documents.{pieces_run}
use Rattle.ion_binary.specs.laws.reading.Steady.{Steady, feed_steady}

-- the start of the open piece never moves back
pub run_onward : (g : Catalog) (l : Limits) (to : ℕ) (m : Machine) (w : List ℕ) (n : Machine) → m.spot.start ≤ m.spot.used → (run g l to m w).now ≡ Ok n
    → m.spot.start ≤ n.spot.start
run_onward g l to m [] n h e = let k : n ≡ m = cc in rw k (omega arith)
run_onward g l to m (b ∷ bs) n h e = go (feed (under g l) m b) (feed_steady (under g l) m b h) (λ k i. run_onward g l (to + 1) k bs n i) e
  where
    go : (o : Outcome) → Steady m.spot.start o → ((k : Machine) → k.spot.start ≤ k.spot.used → (run g l (to + 1) k bs).now ≡ Ok n → k.spot.start ≤ n.spot.start)
        → (run_on (to + 1) (λ k. run g l (to + 1) k bs) o).now ≡ Ok n → m.spot.start ≤ n.spot.start
    go (goes k) s f e = let a = s.from in let b = f k s.to e in omega arith
    go (gives v k) s f e = let a = s.from in let b = f k s.to e in omega arith
    go (refuses x) s f e = absurd cc

-- a refused run: the octets before the last lead to a machine that refuses it
pub record Stop (g : Catalog) (l : Limits) (to : ℕ) (m : Machine) (u : List ℕ) (r : Refusal) : Type 0 where
  pub before : List ℕ
  pub b : ℕ
  pub rest : List ℕ
  pub n : Machine
  pub parts : u ≡ before ++ b ∷ rest
  pub ran : run g l to m before ≡ record { given = (run g l to m u).given; now = Ok n }
  pub offset : r.offset ≡ to + length before + 1
  pub refused : feed (under g l) n b ≡ refuses r.reason

-- a run that is refused is refused at one of its octets
pub stop_of : (g : Catalog) (l : Limits) (to : ℕ) (m : Machine) (u : List ℕ) (r : Refusal) → (run g l to m u).now ≡ Err r → Stop g l to m u r
stop_of g l to m [] r h = absurd cc
stop_of g l to m (b ∷ bs) r h = go (feed (under g l) m b) refl (λ n. stop_of g l (to + 1) n bs r) h
  where
    on : List ℕ → Outcome → Run
    on ys o = run_on (to + 1) (λ n. run g l (to + 1) n ys) o

    later : (o : Outcome) (front : List (Value × ℕ)) (n : Machine) → feed (under g l) m b ≡ o
        → ((ys : List ℕ) → on ys o ≡ on_now front (Ok n) (λ n. run g l (to + 1) n ys)) → Stop g l (to + 1) n bs r → Stop g l to m (b ∷ bs) r
    later o front n e same p = record {
      before = b ∷ p.before;
      b = p.b;
      rest = p.rest;
      n = p.n;
      parts = ap (λ xs. b ∷ xs) p.parts;
      ran = rw (e, same p.before, same bs, p.ran) refl;
      offset = omega (arith, p.offset);
      refused = p.refused;
    }

    go : (o : Outcome) → feed (under g l) m b ≡ o → ((n : Machine) → (run g l (to + 1) n bs).now ≡ Err r → Stop g l (to + 1) n bs r)
        → (run_on (to + 1) (λ n. run g l (to + 1) n bs) o).now ≡ Err r → Stop g l to m (b ∷ bs) r
    go (goes n) e rest h = later (goes n) [] n e (λ ys. refl) (rest n h)
    go (gives v n) e rest h = later (gives v n) ((v, to + 1) ∷ []) n e (λ ys. refl) (rest n h)
    go (refuses x) e rest h =
        let is : record { offset = to + 1; reason = x } ≡ r = cc in
        let o = ap (λ (q : Refusal). q.offset) is in
        record {
          before = [];
          b = b;
          rest = bs;
          n = m;
          parts = refl;
          ran = rw e refl;
          offset = omega arith;
          refused = e ∙ ap (λ (q : Refusal). refuses q.reason) is;
        }

-- that is the last of the octets that it counts
pub stop_taken : (g : Catalog) (l : Limits) (u : List ℕ) (r : Refusal) (p : Stop g l 0 initial u r) → (r.offset ≤ length u)
    × (take r.offset u ≡ p.before ++ p.b ∷ [])
stop_taken g l u r p =
    let o = p.offset in
    let at : r.offset ≡ length p.before + 1 = omega arith in (
      omega (arith, at, ap length p.parts, length-append p.before (p.b ∷ p.rest)),
      rw (at, p.parts, take-append-add p.before (p.b ∷ p.rest) 1) refl,
    )

-- the octets up to the refused one are refused
pub stopped : (g : Catalog) (l : Limits) (u : List ℕ) (r : Refusal) (p : Stop g l 0 initial u r) → (run g l 0 initial (p.before ++ p.b ∷ [])).now
    ≡ Err (record { offset = length p.before + 1; reason = r.reason })
stopped g l u r p =
    rw (run-append g l 0 (length p.before) p.before (p.b ∷ []) (omega arith) initial, p.ran, p.refused) refl

-- no document begins with octets that are refused
pub begins_none : (g : Catalog) (l : Limits) (u : List ℕ) (r : Refusal) → (run g l 0 initial u).now ≡ Err r → BeginsNone (Document g l) u
begins_none g l u r h rest s d =
    let i = ap (λ x. x.now) (run-append g l 0 (length u) u rest (omega arith) initial) in
    let j = ap (λ x. x.now) (pieces_run g l (u ++ rest) s d.0 d.1).ran in
    let k = ap (λ x. (on_now (run g l 0 initial u).given x (λ n. run g l (length u) n rest)).now) h in
    absurd cc

-- whole pieces at the front of octets end where the open piece starts, or before it
pub whole_within : (g : Catalog) (l : Limits) (v rest : List ℕ) (t : List Value) (n : Machine) → Whole g l v t → (run g l 0 initial (v ++ rest)).now ≡ Ok n
    → length v ≤ n.spot.start
whole_within g l _ rest t n no_piece h = omega arith
whole_within g l _ rest t n (document v s c d) h =
    let e = rw (run-append g l 0 (length v) v rest (omega arith) initial, (pieces_run g l v s c d).ran) at h in
    run_onward g l (length v) (at (anew (length v) c) [] Ready) rest n (omega arith) e
