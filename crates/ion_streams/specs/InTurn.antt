-- When devices may be asked.
use Rattle.std.specs.Prelude.{◌≡◌, ◌⊎◌, ℕ, ◌+◌, ◌<◌, ◌≤◌, List, ◌++◌, length, None, ⊤}
use Rattle.ion_streams.specs.Names.Below.{Inlet, Refusal, Value}
use Rattle.ion_streams.specs.Formats.{Format}
use Rattle.ion_streams.specs.Outcomes.{AtOneEnd, ToldDocument, ToldRefused}

-- from before to now the device handed over one piece at most, of at most 4,096 octets
pub record HandedPiece {S : Type 0} (R : Inlet S) (before now : S) : Type 0 where
  pub more : List ℕ
  pub handed : R.handed now ≡ R.handed before ++ more
  pub few : length more ≤ 4096

-- The device was asked last while the octets that it had handed over weren't refused, and this is so of the values that they give. They are all that it has
-- handed over but the piece that this last call gave.
pub record LastAsked {S : Type 0} (R : Inlet S) (F : Format) (first now : S) (P : List (Value × ℕ) → Type 0) : Type 0 where
  pub before : S
  pub octets : List ℕ
  pub handed : R.handed before ≡ R.handed first ++ octets
  pub last : R.calls_made now ≤ R.calls_made before + 1
  pub reached : HandedPiece R before now
  pub going : (F.trace octets).refused ≡ None
  pub gave : P (F.trace octets).given

-- The device was asked last for the value with this number, from 1, or for one before it: the octets that it had handed over before give fewer values.
abbrev pub LastAskedFor : {S : Type 0} → Inlet S → Format → S → S → ℕ → Type 0
LastAskedFor R F first now number = LastAsked R F first now (λ given. length given < number)

-- between old and now the device wasn't asked, or it was asked last while this was so of the values given
abbrev pub AskedWhile : {S : Type 0} → Inlet S → Format → S → S → S → (List (Value × ℕ) → Type 0) → Type 0
AskedWhile R F first old now P = (now ≡ old) ⊎ LastAsked R F first now P

-- The document is refused at once: its device wasn't asked, or it was asked last while the octets that it had handed over weren't refused.
abbrev pub AtOnce : {S : Type 0} → Inlet S → Format → S → S → Type 0
AtOnce R F first now = AskedWhile R F first first now (λ given. ⊤)

-- The right device is asked for a value only once that of the left, or its end, is known: it wasn't asked; or the left was a document and has ended; or it was
-- asked last for a value whose number the left had reached by the octets that it handed over.
pub data IsInTurn {S T : Type 0} (L : Inlet S) (R : Inlet T) (F G : Format) (left left_now : S) (right right_now : T) : Type 0 where
  unasked : right_now ≡ right → IsInTurn L R F G left left_now right right_now
  behind_end : (s : List Value) → ToldDocument L F left left_now s → IsInTurn L R F G left left_now right right_now
  behind_values : (octets : List ℕ) → L.handed left_now ≡ L.handed left ++ octets → LastAskedFor R G right right_now (length (F.trace octets).given)
      → IsInTurn L R F G left left_now right right_now

-- The left device is asked for a value only once the right has given the one before it, has ended or is refused: it wasn't asked; or the right was a document
-- and has ended, or is none; or it was asked last for the value behind as many as the right gave by the octets that it handed over, or for one before that.
pub data LeftInTurn {S T : Type 0} (L : Inlet S) (R : Inlet T) (F G : Format) (left left_now : S) (right right_now : T) : Type 0 where
  left_unasked : left_now ≡ left → LeftInTurn L R F G left left_now right right_now
  behind_right_end : (t : List Value) → ToldDocument R G right right_now t → LeftInTurn L R F G left left_now right right_now
  behind_right_refusal : (t : List Value) (refusal : Refusal) → ToldRefused R G right right_now t refusal → LeftInTurn L R F G left left_now right right_now
  behind_right_values : (octets : List ℕ) → R.handed right_now ≡ R.handed right ++ octets
      → LastAskedFor L F left left_now (length (G.trace octets).given + 1) → LeftInTurn L R F G left left_now right right_now

-- each device waits for the other, is asked no more behind a refusal, and answered its end at most once
pub record AreAsked {S T : Type 0} (L : Inlet S) (R : Inlet T) (F G : Format) (left left_now : S) (right right_now : T) : Type 0 where
  pub in_turn : IsInTurn L R F G left left_now right right_now
  pub left_in_turn : LeftInTurn L R F G left left_now right right_now
  pub at_once : AtOnce L F left left_now × AtOnce R G right right_now
  pub one_end : AtOneEnd L left left_now × AtOneEnd R right right_now
