-- What a run of the machine leaves stands for the octets, and for the values that it gave.
use Rattle.std.proofs.Common.{◌≡◌, ℕ, ◌+◌, List, [], ◌∷◌, ◌++◌, length, Result, Ok, Err, refl, sym, subst, subst₂, inl, arith, append_assoc, append-nil}
use Rattle.ion_binary.specs.Names.{Catalog, InBody, InMarker, InNumber, InPad, Limits, Machine, Outcome, Phase, Ready, Refusal, Value, counted, feed, gives, goes, initial, length-one, on_phase, opening_of, plain, refuses, run, run_on, under}
use Rattle.ion_binary.specs.laws.reading.Stands.{Leaves, MachineStands, Standing}
use Rattle.ion_binary.specs.laws.reading.sound.Bodies.{body_stands, pad_stands}
use Rattle.ion_binary.specs.laws.reading.sound.Headers.{descriptor_stands}
use Rattle.ion_binary.specs.laws.reading.sound.Markers.{marker_stands}
use Rattle.ion_binary.specs.laws.reading.sound.Numbers.{number_stands}

module _ (g : Catalog) (l : Limits) where
  -- on any octet
  step_stands : (m : Machine) (s : List Value) (phase : Phase) (u : List ℕ) (b : ℕ) → m.spot.used ≡ length u
      → Standing g l m.spot.start m.spot.context s m.frames m.body phase u
      → Leaves g l (u ++ b ∷ []) s (on_phase (under g l) (counted m) phase b)
  step_stands m s (InMarker k good) u b e o = let i = length-one u b in marker_stands g l (counted m).spot s m.frames u b k good o (omega arith)
  step_stands m s Ready u b e o = let i = length-one u b in descriptor_stands g l (counted m).spot s m.frames u b (opening_of b) refl o (omega arith)
  step_stands m s (InNumber p a) u b e o = let i = length-one u b in number_stands g l (counted m).spot s u b (omega arith) m.frames p a o
  step_stands m s (InBody t n) u b e o = let i = length-one u b in body_stands g l (counted m).spot s m.frames u b (omega arith) t n m.body o
  step_stands m s (InPad n) u b e o = let i = length-one u b in pad_stands g l (counted m).spot s m.frames u b (omega arith) n o.0 o.1

  -- what comes of an octet stands for the octets up to it, if the machine stood for those before
  pub feed_stands : (m : Machine) (u : List ℕ) (s : List Value) (b : ℕ) → MachineStands g l u s m → Leaves g l (u ++ b ∷ []) s (feed (under g l) m b)
  feed_stands m u s b o = step_stands m s m.phase u b o.used o.standing

  -- what a run ends in stands for the octets and the values
  abbrev pub Ended : List ℕ → List Value → List (Value × ℕ) → Result Machine Refusal → Type 0
  Ended u s given (Ok m) = MachineStands g l u (s ++ plain given) m
  Ended u s given (Err e) = Unit {0}

  ended_more : (u : List ℕ) (s : List Value) (v : Value) (to : ℕ) (given : List (Value × ℕ)) (now : Result Machine Refusal) → Ended u (s ++ v ∷ []) given now
      → Ended u s ((v, to) ∷ given) now
  ended_more u s v to given (Ok m) h = subst (λ x. MachineStands g l u x m) (append_assoc s (v ∷ []) (plain given)) h
  ended_more u s v to given (Err e) h = tt

  -- on any octets
  pub run_stands : (to : ℕ) (m : Machine) (u w : List ℕ) (s : List Value) → MachineStands g l u s m
      → Ended (u ++ w) s (run g l to m w).given (run g l to m w).now
  run_stands to m u [] s o = subst₂ (λ x y. MachineStands g l x y m) (sym (append-nil u)) (sym (append-nil s)) o
  run_stands to m u (b ∷ bs) s o = go (feed (under g l) m b) (feed_stands m u s b o) (λ n t p. run_stands (to + 1) n (u ++ b ∷ []) bs t p)
    where
      go : (r : Outcome) → Leaves g l (u ++ b ∷ []) s r → ((n : Machine) (t : List Value) → MachineStands g l (u ++ b ∷ []) t n
          → Ended ((u ++ b ∷ []) ++ bs) t (run g l (to + 1) n bs).given (run g l (to + 1) n bs).now)
          → Ended (u ++ b ∷ bs) s (run_on (to + 1) (λ n. run g l (to + 1) n bs) r).given (run_on (to + 1) (λ n. run g l (to + 1) n bs) r).now
      go (goes n) p f = subst (λ x. Ended x s (run g l (to + 1) n bs).given (run g l (to + 1) n bs).now) (append_assoc u (b ∷ []) bs) (f n s p)
      go (gives v n) p f = ended_more (u ++ b ∷ bs) s v (to + 1) (run g l (to + 1) n bs).given (run g l (to + 1) n bs).now
          (subst (λ x. Ended x (s ++ v ∷ []) (run g l (to + 1) n bs).given (run g l (to + 1) n bs).now) (append_assoc u (b ∷ []) bs) (f n (s ++ v ∷ []) p))
      go (refuses e) p f = tt

  -- before the first octet
  pub initial_stands : MachineStands g l [] [] initial
  initial_stands = record {
    used = refl;
    standing = record {
      before = [];
      came = [];
      whole = refl;
      front = inl (refl, refl, refl);
      top = refl;
      octets = (refl, refl);
      first = refl;
    };
  }
