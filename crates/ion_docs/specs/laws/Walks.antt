-- What is known of a reader of either encoding that told what octets are, from what is known of both.
use Rattle.std.proofs.Common.{◌≡◌, ℕ, ◌≤◌, List, [], ◌∷◌, ◌++◌, length, Option, Some, None, refl, ap, sym, ◌∙◌, subst, arith, true, false, append-nil}
use Rattle.std.specs.Prelude.{IsNone, IfSome}
use Rattle.ion_docs.specs.Names.{Binary, Catalog, DocTold, DocWalk, EncodingTold, Event, HasTold, IsFront, Limits, Text, Trace, Unbegun, Value, awaits_in, awaits_of, chosen, failed_in, failed_of, kept_in, kept_of, taken_in, taken_of}
use Rattle.ion_binary.specs.declared.walking.BinaryWalk.{BinaryWalk}
use Rattle.ion_binary.specs.machine.Run as binary
use Rattle.ion_binary.specs.laws.reading.Walking as binary_told
use Rattle.ion_text.specs.declared.walk.TextWalk.{TextWalk}
use Rattle.ion_text.specs.machine.Run as text
use Rattle.ion_text.specs.laws.reading.Tells as text_told
use Rattle.ion_docs.specs.declared.doc_walk.Encoding.{Encoding}
use Rattle.ion_docs.specs.declared.doc_walk.Encoding.TheVariants.{Refused}
use Rattle.ion_docs.specs.laws.Begun.{begins_on, chosen_in, each_some, same_trace}
use Rattle.ion_symtab.specs.laws.Builds.{told_by_holder}

module _ (d : DocWalk) where
  abbrev doc_trace : List ℕ → Trace
  doc_trace = chosen d.catalog.now d.limits

  -- what the reader that was chosen says is what is chosen
  binary_says : (r : BinaryWalk) (u w : List ℕ) (s : List (Value × ℕ)) (es : List Event) → EncodingTold d (Binary r) u s es
      → doc_trace (u ++ w) ≡ binary.trace r.catalog.now r.limits (u ++ w)
  binary_says r u w s es h = chosen_in true d.catalog.now d.limits (u ++ w) (begins_on true u w h.1)
      ∙ ap (λ (t : List ℕ → Trace). t (u ++ w)) (same_trace true d.catalog.now r.catalog.now d.limits r.limits (sym h.3) (sym h.2))

  text_says : (r : TextWalk) (u w : List ℕ) (s : List (Value × ℕ)) (es : List Event) → EncodingTold d (Text r) u s es
      → doc_trace (u ++ w) ≡ text.trace r.catalog.now r.limits (u ++ w)
  text_says r u w s es h = chosen_in false d.catalog.now d.limits (u ++ w) (begins_on false u w h.1)
      ∙ ap (λ (t : List ℕ → Trace). t (u ++ w)) (same_trace false d.catalog.now r.catalog.now d.limits r.limits (sym h.3) (sym h.2))

  -- what a reader of an encoding told is so
  abbrev Told : Encoding → List ℕ → List (Value × ℕ) → Type 0
  Told f u s = HasTold taken_in kept_in failed_in awaits_in doc_trace d.limits.item f u s

  encoding_told : (f : Encoding) (u : List ℕ) (s : List (Value × ℕ)) (es : List Event) → EncodingTold d f u s es → Told f u s
  encoding_told Unbegun u s es h = record {
    counted = sym (ap length h.0);
    not_failed = refl;
    not_refused = ap (λ u. (doc_trace u).refused) h.0;
    given_so_far = λ none. ap (λ u. (doc_trace u).given) h.0 ∙ sym h.1;
    given_with_next = tt;
    bounded = omega arith;
  }
  encoding_told (Refused refusal) u s es h = absurd h
  encoding_told (Binary r) u s es h =
      let k = binary_told.has_told r u s es h.0 in
      let says : doc_trace u ≡ binary.trace r.catalog.now r.limits u = rw append-nil at (binary_says r u [] s es h) in
      record {
        counted = k.counted;
        not_failed = k.not_failed;
        not_refused = ap (λ (t : Trace). t.refused) says ∙ k.not_refused;
        given_so_far = λ none. ap (λ (t : Trace). t.given) says ∙ k.given_so_far refl;
        given_with_next = tt;
        bounded = subst (λ (l : Limits). kept_in (Binary r) ≤ l.item) h.2 k.bounded;
      }
  encoding_told (Text r) u s es h =
      let k = text_told.walk_told r u s es h.0 in
      let says : doc_trace u ≡ text.trace r.catalog.now r.limits u = rw append-nil at (text_says r u [] s es h) in
      record {
        counted = k.counted;
        not_failed = k.not_failed;
        not_refused = ap (λ (t : Trace). t.refused) says ∙ k.not_refused;
        given_so_far = λ none. ap (λ (t : Trace). t.given) says ∙ k.given_so_far none;
        given_with_next =
            each_some (λ octet. IsFront s (text.trace r.catalog.now r.limits (u ++ octet ∷ [])).given) (λ octet. IsFront s (doc_trace (u ++ octet ∷ [])).given)
            r.awaited
            (λ octet. subst (λ (t : Trace). IsFront s t.given) (sym (text_says r u (octet ∷ []) s es h))) k.given_with_next;
        bounded = subst (λ (l : Limits). kept_in (Text r) ≤ l.item) h.2 k.bounded;
      }

-- what a reader of either encoding told is so
pub has_told : (d : DocWalk) (u : List ℕ) (s : List (Value × ℕ)) (es : List Event) → DocTold d u s es
    → HasTold taken_of kept_of failed_of awaits_of (chosen d.catalog.now d.limits) d.limits.item d u s
has_told d u s es h =
    told_by_holder (λ (w : DocWalk). w.encoding) taken_in kept_in failed_in awaits_in (chosen d.catalog.now d.limits) d.limits.item d u s
    (encoding_told d d.encoding u s es h)
