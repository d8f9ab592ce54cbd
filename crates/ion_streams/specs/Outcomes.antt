-- How a document on a device can turn out.
use Rattle.std.specs.Prelude.{◌≡◌, ℕ, ◌≤◌, ◌⊎◌, List, [], ◌∷◌, ◌++◌, length, take, Bool, true, Option, Some, None, Result, Ok, Err}
use Rattle.ion_streams.specs.Names.Below.{BeginsNone, Heard, Incomplete, Inlet, IsReadersReason, MayFollow, Refusal, Shown, Trace, Value, given_at, plain}
use Rattle.ion_streams.specs.Formats.{Format}

-- between old and now the device answered its end at most once, and then behind all octets that it had handed over
abbrev pub AtOneEnd : {S : Type 0} → Inlet S → S → S → Type 0
AtOneEnd R old now = (R.ends now ≡ R.ends old) ⊎ (R.ends now ≡ R.ends old ++ length (R.handed now) ∷ [])

-- what a reader says of octets is this refusal: that of a step, or else that of the end
abbrev pub SaysRefusal : Trace → Refusal → Type 0
SaysRefusal t refusal = (t.refused ≡ Some refusal) ⊎ ((t.refused ≡ None) × (t.ends ≡ Err refusal))

-- The octets are no document. The refusal is the one that they give, neither for want of memory nor for a shared table; it counts octets with which no document
-- begins, or all of them, and s is what those show.
pub record IsRefused (F : Format) (octets : List ℕ) (s : List Value) (refusal : Refusal) : Type 0 where
  pub within : refusal.offset ≤ length octets
  pub decided : BeginsNone F.denotes (take refusal.offset octets) ⊎ (refusal.offset ≡ length octets)
  pub none : (t : List Value) → F.denotes octets t → ⊥
  pub shown : Shown F.pieces (take refusal.offset octets) s
  pub reason : IsReadersReason refusal.reason
  pub incomplete : refusal.reason ≡ Incomplete → refusal.offset ≡ length octets
  pub by_octets : SaysRefusal (F.trace octets) refusal

-- the value that the end of so many octets gives, if it gives one
abbrev pub given_last : Result (Option Value) Refusal → ℕ → List (Value × ℕ)
given_last (Ok value) total = given_at value total
given_last (Err refusal) total = []

-- all values that octets give, each with the total of octets used when it came: those of the steps and that of the end
abbrev pub given_all : Format → List ℕ → List (Value × ℕ)
given_all F octets = (F.trace octets).given ++ given_last (F.trace octets).ends (length octets)

-- the octets are a document and give these values, each with the total when it came
pub record EndsWell (F : Format) (octets : List ℕ) (given : List (Value × ℕ)) : Type 0 where
  pub denoted : F.denotes octets (plain given)
  pub all : given_all F octets ≡ given

-- the octets are no document, and give these values before the refusal
pub record EndsRefused (F : Format) (octets : List ℕ) (given : List (Value × ℕ)) (refusal : Refusal) : Type 0 where
  pub refused : IsRefused F octets (plain given) refusal
  pub all : given_all F octets ≡ given

module _ {S : Type 0} (R : Inlet S) (F : Format) where
  -- From first to now the device handed over octets that denote s, and answered the end behind them.
  pub record ToldDocument (first now : S) (s : List Value) : Type 0 where
    pub octets : List ℕ
    pub told : R.tells first octets
    pub heard : Heard R first now octets true
    pub denoted : F.denotes octets s

  -- From first to now the device handed over octets. Whatever may follow them, they are no document then, and s are the values before the refusal.
  pub record ToldRefused (first now : S) (s : List Value) (refusal : Refusal) : Type 0 where
    pub octets : List ℕ
    pub ended : Bool
    pub heard : Heard R first now octets ended
    pub refused : (more : List ℕ) → MayFollow ended more → IsRefused F (octets ++ more) s refusal

  -- From first to now the device handed over octets of a document that gives these values, and answered the end behind them.
  pub record ToldEach (first now : S) (given : List (Value × ℕ)) : Type 0 where
    pub octets : List ℕ
    pub told : R.tells first octets
    pub heard : Heard R first now octets true
    pub ends : EndsWell F octets given

  -- From first to now the device handed over octets that give these values. Whatever may follow them, they are no document then.
  pub record ToldRefusedEach (first now : S) (given : List (Value × ℕ)) (refusal : Refusal) : Type 0 where
    pub octets : List ℕ
    pub ended : Bool
    pub heard : Heard R first now octets ended
    pub ends : (more : List ℕ) → MayFollow ended more → EndsRefused F (octets ++ more) given refusal
