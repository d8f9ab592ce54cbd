-- Octets that are taken up one step after another.
use Rattle.std.proofs.Common.{◌≡◌, ◌≢◌, ℕ, ◌+◌, ◌-◌, ◌≤◌, List, [], ◌++◌, length, take, drop, refl, ap, sym, subst, ◌∙◌, arith, Option, Some, None, Err, option_to_list, append-nil, length-take, length-drop}
use Rattle.std.proofs.lemmas.List.{take-append-drop, drop-drop}
use Rattle.std.proofs.Math.Seq.{take-length, take-add}
use Rattle.ion_streams.specs.Names.{Answers, Begins, Catalog, Finishes, Grows, HasReasons, IsRefused, Items, Limits, Reason, Refusal, Refuses, Shows, Streams, Value, format_of, given_at, plain}
use Rattle.ion_streams.proofs.Endings.{refused_early, refused_late}
use Rattle.ion_streams.proofs.Steps.{plain_next}

-- Under this catalog and these limits so many octets from the front were used, and gave these values.
pub record IsTaken {X : Type 0} (I : Items X) (g : Catalog) (l : Limits) (octets : List ℕ) (items : X) (used : ℕ) (s : List Value) : Type 0 where
  pub given : List (Value × ℕ)
  pub stood : I.stands items (take used octets) given
  pub values : plain given ≡ s
  pub under : I.catalog items ≡ g
  pub within : I.limits items ≡ l
  pub begins : Begins (I.awaits items) (drop used octets)
  pub inside : used ≤ length octets

pub plain_at : (given : List (Value × ℕ)) (value : Option Value) (total : ℕ) (s : List Value) → plain given ≡ s
    → plain (given ++ given_at value total) ≡ s
    ++ option_to_list value
plain_at given None total s e = ap plain (append-nil given) ∙ (e ∙ sym (append-nil s))
plain_at given (Some v) total s e = plain_next given (Some (v, total)) (Some v) s e refl

-- what is left is all behind the octets used
pub all_left : (octets : List ℕ) (used : ℕ) → take (length octets - used) (drop used octets) ≡ drop used octets
all_left octets used =
    let rest : length octets - used ≡ length (drop used octets) = omega (arith, length-drop {A = ℕ}) in
    ap (λ (n : ℕ). take n (drop used octets)) rest ∙ take-length (drop used octets)

begins_at : (awaits : Option ℕ) (octets : List ℕ) (used more : ℕ) → Begins awaits (drop more (drop used octets)) → Begins awaits (drop (used + more) octets)
begins_at awaits octets used more h = subst (λ (x : List ℕ). Begins awaits x) (drop-drop more used octets) h

module _ {X : Type 0} (I : Items X) (counted : (r : X) (u : List ℕ) (s : List (Value × ℕ)) → I.stands r u s → I.taken r ≡ length u) (g : Catalog) (l : Limits)
    (octets : List ℕ) where
  -- so many octets were used as the reader counts
  pub taken_count : (items : X) (used : ℕ) (s : List Value) → IsTaken I g l octets items used s → I.taken items ≡ used
  taken_count items used s h =
      let total = counted items (take used octets) h.given h.stood in
      let inside = h.inside in
      omega (arith, total, inside, length-take {A = ℕ})

  -- more octets from the front of the rest were used, and gave one more value or none
  pub taken_more : (items after : X) (used more : ℕ) (value : Option Value) (s : List Value) → IsTaken I g l octets items used s
      → more ≤ length (drop used octets) →
      ((u : List ℕ) (t : List (Value × ℕ)) → I.stands items u t → I.stands after (u ++ take more (drop used octets)) (t ++ given_at value (length u + more))) →
      I.catalog after ≡ I.catalog items → I.limits after ≡ I.limits items → Begins (I.awaits after) (drop more (drop used octets))
      → IsTaken I g l octets after (used + more) (s ++ option_to_list value)
  taken_more items after used more value s h fits go under within begins =
      let inside = h.inside in
      let total = length (take used octets) + more in
      record {
        given = h.given ++ given_at value total;
        stood = subst (λ (x : List ℕ). I.stands after x (h.given ++ given_at value total)) (sym (take-add used more octets))
            (go (take used octets) h.given h.stood);
        values = plain_at h.given value total s h.values;
        under = under ∙ h.under;
        within = within ∙ h.within;
        begins = begins_at (I.awaits after) octets used more begins;
        inside = omega (arith, inside, fits, length-drop {A = ℕ});
      }

  -- all octets were used
  all_stood : (items : X) (used : ℕ) (s : List Value) (h : IsTaken I g l octets items used s) → length octets ≤ used → I.stands items octets h.given
  all_stood items used s h all =
      let inside = h.inside in
      let same : used ≡ length octets = omega (arith, inside, all) in
      subst (λ (x : List ℕ). I.stands items x h.given) (ap (λ (n : ℕ). take n octets) same ∙ take-length octets) h.stood

  -- a step refused
  pub taken_refused : (items : X) (used : ℕ) (s : List Value) (r : Refusal) → IsTaken I g l octets items used s → r.reason ≢ Reason.Memory →
      ((u : List ℕ) (t : List (Value × ℕ)) → I.stands items u t → Answers (I.trace (I.catalog items) (I.limits items)) u t (drop used octets) (Err r)) →
      ((u : List ℕ) → HasReasons (I.trace g l u)) →
      ((u : List ℕ) (q : Refusal) → (I.trace g l u).refused ≡ Some q → Refuses (I.denotes g l) (I.pieces g l) u (I.trace g l u) q) →
      ((u w : List ℕ) → Grows (I.trace g l u) (I.trace g l (u ++ w))) →
      (t : List Value) × IsRefused (format_of I g l) octets t r
  taken_refused items used s r h other answers reasons refused settled =
      let a = rw (h.under, h.within, take-append-drop used octets) at (answers (take used octets) h.given h.stood other) in
      let early = refused_early (format_of I g l) reasons octets [] h.given r a.0 a.1 (refused octets r a.1) (settled octets []) in
      (plain h.given, subst (λ (x : List ℕ). IsRefused (format_of I g l) x (plain h.given) r) (append-nil octets) early.refused)

  -- the end was none of a document
  pub taken_stopped : (items : X) (used : ℕ) (s : List Value) (r : Refusal) → IsTaken I g l octets items used s → length octets ≤ used
      → r.reason ≢ Reason.Memory →
      ((u : List ℕ) (t : List (Value × ℕ)) → I.stands items u t → Finishes (I.trace (I.catalog items) (I.limits items)) u (Err r)) →
      ((u : List ℕ) (t : List (Value × ℕ)) → I.stands items u t → (I.trace (I.catalog items) (I.limits items) u).given ≡ t) →
      ((u : List ℕ) → HasReasons (I.trace g l u)) →
      ((q : Refusal) → (I.trace g l octets).refused ≡ Some q → Refuses (I.denotes g l) (I.pieces g l) octets (I.trace g l octets) q) →
      ((I.trace g l octets).refused ≡ None → Shows (I.pieces g l) (I.open_after l) octets (plain (I.trace g l octets).given)) →
      ((I.trace g l octets).refused ≡ None → (I.trace g l octets).ends ≡ Err r → r.offset ≡ length octets) →
      ((t : List Value) → I.denotes g l octets t → Streams (I.trace g l octets) t) →
      (t : List Value) × IsRefused (format_of I g l) octets t r
  taken_stopped items used s r h all other ends given reasons refused shown unfinished exact =
      let stood = all_stood items used s h all in
      let so_far = rw (h.under, h.within) at (given octets h.given stood) in
      let end = rw (h.under, h.within) at (ends octets h.given stood other) in
      (plain h.given, (refused_late (format_of I g l) reasons octets h.given r (I.open_after l) so_far end refused shown unfinished exact).refused)
