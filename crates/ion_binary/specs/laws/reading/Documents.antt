-- What the octets of a document lead to.
use Rattle.std.proofs.Common.{◌≡◌, ℕ, List, [], ◌∷◌, ◌++◌, length, Ok, refl, arith, length-append, append-nil}
use Rattle.std.proofs.lemmas.List.{map-append}
use Rattle.ion_binary.specs.Names.{Catalog, Form, Limits, Pieces, Ready, Slot, Spaced, Value, anew, at, begins, holds, initial, marked, plain, run, run-append, skips, system_slots, the_marker, turns}
use Rattle.ion_binary.specs.laws.reading.Complete.{Admits, binary_run, marker_run, skip_run}
use Rattle.ion_binary.specs.laws.reading.Small.{binary_nodes, spaced_more, spaced_on}

module _ (g : Catalog) (l : Limits) where
  -- what the octets of pieces lead to
  pub record Reads (w : List ℕ) (s : List Value) (c : List Slot) : Type 0 where
    pub given : List (Value × ℕ)
    pub ran : run g l 0 initial w ≡ record { given = given; now = Ok (at (anew (length w) c) [] Ready) }
    pub gave : plain given ≡ s
    pub spaced : Spaced l.item 0 given (length w)

  longer_spaced : (u w : List ℕ) (given : List (Value × ℕ)) → Spaced l.item 0 given (length u) → Spaced l.item 0 given (length (u ++ w))
  longer_spaced u w given h = let k = length-append u w in spaced_on l.item 0 given (length u) (length (u ++ w)) h (omega arith)

  -- more behind pieces
  behind : (u w : List ℕ) (s t : List Value) (c e : List Slot) (later : List (Value × ℕ)) → (d : Reads u s c)
      → run g l (length u) (at (anew (length u) c) [] Ready) w ≡ record { given = later; now = Ok (at (anew (length (u ++ w)) e) [] Ready) }
      → plain later ≡ t → Spaced l.item 0 (d.given ++ later) (length (u ++ w)) → Reads (u ++ w) (s ++ t) e
  behind u w s t c e later d r p small = record {
    given = d.given ++ later;
    ran = rw (run-append g l 0 (length u) u w (omega arith) initial, d.ran, r) refl;
    gave = rw (map-append (λ (x : Value × ℕ). x.0) d.given later, d.gave, p) refl;
    spaced = small;
  }

  top : Admits [] Form.Wrapper
  top = record { fitting = refl; named = refl }

  -- a document, from its first octet to its last
  pub pieces_run : (w : List ℕ) (s : List Value) (c : List Slot) → Pieces g l w s c → Reads w s c
  pieces_run _ _ _ begins = record { given = []; ran = refl; gave = refl; spaced = omega arith }
  pieces_run _ _ _ (marked u s c d) =
      let r = pieces_run u s c d in
      rw append-nil at (behind u the_marker s [] c system_slots [] r (rw (length-append u the_marker) (marker_run g l (anew (length u) c))) refl
      (rw append-nil (longer_spaced u the_marker r.given r.spaced)))
  pieces_run _ _ _ (skips u w s c d p) =
      let r = pieces_run u s c d in
      rw append-nil at (behind u w s [] c c [] r (skip_run g l (anew (length u) c) [] w (length (u ++ w)) p (record { fitting = refl; named = refl })
      (length-append u w) (λ e. absurd cc)) refl (rw append-nil (longer_spaced u w r.given r.spaced)))
  pieces_run _ _ _ (turns u w s c e v d b t n p q) =
      let r = pieces_run u s c d in
      let k = length-append u w in
      let to = length (u ++ w) in
      let ran = rw (t, n) at (binary_run g l (anew (length u) c) [] to w v b top k (λ i. omega arith) (omega arith)) in
      rw append-nil at (behind u w s [] c e [] r ran refl (rw append-nil (longer_spaced u w r.given r.spaced)))
  pieces_run _ _ _ (holds u w s c v d b t p q) =
      let r = pieces_run u s c d in
      let k = length-append u w in
      let n = binary_nodes c w v b in
      let to = length (u ++ w) in
      behind u w s (v ∷ []) c c ((v, to) ∷ []) r
      (rw t at (binary_run g l (anew (length u) c) [] to w v b top k (λ i. omega arith) (omega arith)))
      refl (spaced_more l.item 0 r.given (length u) v to r.spaced
      (record { start = length u; end = to; behind = omega arith; within = omega arith; fits = omega arith; holds = omega arith }))
