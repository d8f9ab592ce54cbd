-- What a device took of a document, one value after another, and where a conversion stands.
use Rattle.std.proofs.Common.{◌≡◌, ℕ, ◌+◌, List, [], ◌∷◌, ◌++◌, length, Option, None, Some, Bool, refl, ap, sym, subst, ◌∙◌, length-append}
use Rattle.ion_docs.specs.Names.{AreKept, Catalog, Encoding, Event, Fault, IfOpen, Inlet, IsConvertCause, IsConverted, IsFrontOf, IsKept, IsPuttingFault, Items, Led, Limits, Memory, Open, Outlet, Read, ReadSoFar, Stood, StoodEach, ToldNext, TooLarge, TooManyReads, Took, TookBehind, TookFront, TookSomeBehind, Value, Write, WritesKept, answered, at_end, at_refusal, events_of, format_of, in_reading, left_of, plain, telling}
use Rattle.ion_model.specs.laws.Kept.{kept_last}
use Rattle.ion_symtab.specs.laws.Took.{Front-all, Front-behind, Front-more, Took-nil, Took-trans}
use Rattle.ion_streams.specs.declared.piece_reader.ReadState.{ReadState}
use Rattle.ion_streams.proofs.Fronts.{OneStands, gave_told}
use Rattle.ion_streams.proofs.Steps.{plain_next, stood_plain}
use Rattle.ion_docs.specs.declared.writers.Encoder.{Ghosts as Encoder}

module _ {T : Type 0} (W : Outlet T) where
  -- all of the octets were taken: a front of them before, and then what stands behind it
  pub took_whole : (old mid new : T) (front octets : List ℕ) → Took W.took W.written old mid front → TookBehind W mid new front octets
      → Took W.took W.written old new octets
  took_whole old mid new front octets h (rest, whole, k) =
      subst (λ (x : List ℕ). Took W.took W.written old new x) whole (Took-trans W.took W.written old mid new front rest h k)

  -- a front of them was
  pub took_some : (old mid new : T) (front octets : List ℕ) → Took W.took W.written old mid front → TookSomeBehind W mid new front octets
      → TookFront W.took W.written old new octets
  took_some old mid new front octets h (rest, whole, k) = subst (λ (x : List ℕ). TookFront W.took W.written old new x) whole
      (Front-behind W.took W.written old mid new front rest h k)

  -- a front of a front is one of the whole
  pub front_of_front : (old new : T) (front octets : List ℕ) → TookFront W.took W.written old new front → IsFrontOf front octets
      → TookFront W.took W.written old new octets
  front_of_front old new front octets h (rest, whole) = subst (λ (x : List ℕ). TookFront W.took W.written old new x) whole
      (Front-more W.took W.written old new front rest h)

  -- what was taken is a front of the document
  pub took_front : (old new : T) (front octets : List ℕ) → Took W.took W.written old new front → IsFrontOf front octets
      → TookFront W.took W.written old new octets
  took_front old new front octets h of = front_of_front old new front octets (Front-all W.took W.written old new new front h (Took-nil W.took W.written new)) of

-- a fault of putting the values that were read is one of converting them
pub put_cause : (E : Encoding) (WasRead : List Value → Type 0) (failed : Bool) (s : List Value) (fault : Fault) → WasRead s → IsPuttingFault E s failed fault
    → IsConvertCause E WasRead failed fault
put_cause E WasRead failed s Memory r h = tt
put_cause E WasRead failed s Write r h = h
put_cause E WasRead failed s TooLarge r h = (s, r, h)
put_cause E WasRead failed s _ r h = absurd h

module _ {S X Y : Type 0} (takes : Y → Event → Y → Type 0) (R : Inlet S) (I : Items X) (g : Catalog) (l : Limits) (first now : S) where
  -- the values without their totals
  pub stood_more : (place : ReadState X) (given : List (Value × ℕ)) (v : Value) (used : ℕ)
      → StoodEach R (telling I []) g l first now place (given ++ (v, used) ∷ [])
      → Stood R (telling I []) g l first now place (plain given ++ v ∷ [])
  stood_more place given v used h =
      subst (λ (s : List Value). Stood R (telling I []) g l first now place s) (plain_next given (Some (v, used)) (Some v) (plain given) refl refl)
      (stood_plain R (telling I []) g l first now place (given ++ (v, used) ∷ []) h)

  -- wherever the document stands, its values were read
  pub was_read : OneStands I → (place : ReadState X) (s : List Value) → Stood R (telling I []) g l first now place s → ReadSoFar R I g l first now s
  was_read one (ReadState.Open source) s h =
      in_reading (gave_told R I g l first now s [] one (record { items = source.items; left = left_of source; ended = source.ended; gave = h }))
  was_read one (ReadState.Refused refusal) s h = at_refusal refusal h
  was_read one ReadState.Ended s h = at_end h

-- where a conversion stands
module _ {S X Y T : Type 0} (R : Inlet S) (I : Items X) (E : Encoder Y) (W : Outlet T) (g : Catalog) (l : Limits) (first : S) (device : T) where
  -- the values that were told so far, all of which the types keep, were handed over one after another
  abbrev pub Done : S → ℕ → ReadState X → Y → T → Type 0
  Done now values place encoder writer =
      (given : List (Value × ℕ)) × StoodEach R (telling I []) g l first now place given × (length given ≡ values) × E.has_put encoder (plain given)
      × Took W.took W.written device writer (E.puts (plain given)) × AreKept (plain given)

  -- one value more was handed over
  pub done_next : (now : S) (place : ReadState X) (given : List (Value × ℕ)) (values : ℕ) (v : Value) (used : ℕ) (encoder : Y) (mid new : T)
      → length given ≡ values → Took W.took W.written device mid (E.puts (plain given)) → AreKept (plain given)
      → StoodEach R (telling I []) g l first now place (given ++ (v, used) ∷ [])
      → TookBehind W mid new (E.puts (plain given)) (E.puts (plain given ++ v ∷ [])) → E.has_put encoder (plain given ++ v ∷ []) → IsKept v
      → Done now (values + 1) place encoder new
  done_next now place given values v used encoder mid new count took kept stood wrote put keeps =
      let all = given ++ (v, used) ∷ [] in
      let more : plain given ++ v ∷ [] ≡ plain all = sym (plain_next given (Some (v, used)) (Some v) (plain given) refl refl) in (
        all,
        stood,
        length-append given ((v, used) ∷ []) ∙ ap (λ (n : ℕ). n + 1) count,
        subst (E.has_put encoder) more put,
        subst (λ (s : List Value). Took W.took W.written device new (E.puts s)) more (took_whole W device mid new _ _ took wrote),
        subst AreKept more (kept_last (plain given) v kept keeps),
      )

-- the end, wherever it leaves the document
module _ {S X T : Type 0} (R : Inlet S) (I : Items X) (W : Outlet T) (E : Encoding) (g : Catalog) (l : Limits) where
  -- where a document is read to its end or refused, the values that were put are its conversion
  pub converted_at : (first now : S) (old new : T) (place : ReadState X) (s : List Value) (values : ℕ) → IfOpen place (λ source. ⊥) → length s ≡ values
      → Stood R (telling I []) g l first now place s → Took W.took W.written old new (E.document s) →
      IsConverted R W E (format_of I g l) first now old new (answered place values)
  converted_at first now old new (ReadState.Open source) s values closed count h took = absurd closed
  converted_at first now old new ReadState.Ended s values closed count h took = (s, h, count, took)
  converted_at first now old new (ReadState.Refused refusal) s values closed count h took = (s, h, took)

  -- where a document is read to its end or refused, its values are kept, and their document was written
  pub kept_at : (first now : S) (old new : T) (place : ReadState X) (s : List Value) (values : ℕ) → IfOpen place (λ source. ⊥) → AreKept s
      → Stood R (telling I []) g l first now place s → Took W.took W.written old new (E.document s) →
      WritesKept R W E (format_of I g l) first now old new (answered place values)
  kept_at first now old new (ReadState.Open source) s values closed kept h took = absurd closed
  kept_at first now old new _ s values closed kept h took = (s, h, kept, took)
