-- Reads of a device that were all answered.
use Rattle.std.proofs.Common.{◌≡◌, ◌⊎◌, inl, inr, ap, sym, ◌∙◌, false, Option, Some, None, IsNone, IsSome, refl}
use Rattle.ion_streams.specs.Names.{HasToAsk, IfOpen, Inlet, Items, NoReadFailed, NoneFailed, Open, PieceReader, ReadState, StandsUnread}

-- what can't be there is none
pub none_there : {A : Type 0} (found : Option A) → (IsSome found → ⊥) → found ≡ None
none_there None h = refl
none_there (Some v) h = absurd (h refl)

-- a failure that is none is none
pub none_failed : {A : Type 0} (failed : Option A) → failed ≡ None → IsNone failed
none_failed None h = refl
none_failed (Some r) h = absurd cc

module _ {X : Type 0} (I : Items X) where
  -- a document of which nothing was read has to ask its device first
  pub asks_begun : (source : PieceReader X) (items : X) → I.failed items ≡ None → I.pending items ≡ 0 → source.items ≡ items → (source.at ≡ 0) × (source.end ≡ 0)
      × (source.used ≡ 0) → source.ended ≡ false → HasToAsk I source
  asks_begun source items fine owes same empty going =
      record { going = going; used_up = empty.0 ∙ sym empty.1; owes = ap (λ x. I.pending x) same ∙ owes; not_failed = ap (λ x. I.failed x) same ∙ fine }

  -- where it stands, its device has to be asked first, or no read has failed
  pub record StandsHeard {S : Type 0} (R : Inlet S) (place : ReadState X) (now : S) : Type 0 where
    pub either : (StandsUnread I place) ⊎ (R.has_failed now ≡ false)

  -- the same of a device that isn't asked before the first value is sought
  pub record StandsHeardSince {S : Type 0} (R : Inlet S) (place : ReadState X) (first now : S) : Type 0 where
    pub either : (StandsUnread I place × (now ≡ first)) ⊎ (R.has_failed now ≡ false)

  -- where a document is read on, and its device hasn't failed or has to be asked first
  pub stands_heard : {S : Type 0} (R : Inlet S) (old now : S) (place : ReadState X) → StandsHeard R place old → NoReadFailed R old now →
      IfOpen place (λ source. NoneFailed R I old source → R.has_failed now ≡ false) → R.has_failed now ≡ false
  stands_heard R old now place h unasked answered = go place h.either unasked.either answered
    where
      go : (place : ReadState X) → (StandsUnread I place) ⊎ (R.has_failed old ≡ false) → (now ≡ old) ⊎ (R.has_failed now ≡ false)
          → IfOpen place (λ source. NoneFailed R I old source → R.has_failed now ≡ false) → R.has_failed now ≡ false
      go place h (inr fine) answered = fine
      go place (inr fine) (inl same) answered = ap (λ x. R.has_failed x) same ∙ fine
      go (Open source) (inl asks) (inl same) answered = answered (record { either = inr asks })
      go _ (inl asks) (inl same) answered = absurd asks

  -- the same of a device that wasn't asked at all
  pub heard_alone : {S : Type 0} (R : Inlet S) (place : ReadState X) (first now : S) → StandsHeardSince R place first now → StandsHeard R place now
  heard_alone R place first now h = record { either = go h.either }
    where
      go : (StandsUnread I place × (now ≡ first)) ⊎ (R.has_failed now ≡ false) → (StandsUnread I place) ⊎ (R.has_failed now ≡ false)
      go (inl both) = inl both.0
      go (inr fine) = inr fine

  -- the device wasn't asked since, or no read of it has failed
  pub heard_since : {S : Type 0} (R : Inlet S) (place : ReadState X) (first now : S) → StandsHeardSince R place first now → (now ≡ first)
      ⊎ (R.has_failed now ≡ false)
  heard_since R place first now h = go h.either
    where
      go : (StandsUnread I place × (now ≡ first)) ⊎ (R.has_failed now ≡ false) → (now ≡ first) ⊎ (R.has_failed now ≡ false)
      go (inl both) = inl both.1
      go (inr fine) = inr fine
