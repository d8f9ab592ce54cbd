-- What was told of open containers, as more is told of them.
use Rattle.std.proofs.Common.{◌≡◌, ℕ, List, [], ◌∷◌, ◌++◌, Result, Ok, Err, Bool, true, false, refl}
use Rattle.std.specs.List.{flat_map}
use Rattle.std.proofs.lemmas.List.{append-nil, append_assoc, map-append}
use Rattle.std.proofs.lemmas.Grind.{flat_map-append}
use Rattle.ion_binary.specs.Names.{BinaryWalk, Bracket, Closes, Does, DoesAlone, Effect, Event, Field, Frame, GaveOut, Gives, Goes, Hears, ListOrSexp, Outcome, Payload, Reason, Value, WentOn, annotated, annotation, bare, bracket_of, closes, events_of, field_events, field_of, heard, layer_events, listed, name, out-Payload, outs-Fields, outs-List, outs-Sexp, part, told}
use Rattle.ion_model.specs.declared.value.Payload.TheVariants as payloads
use Rattle.ion_visiting.specs.Events.{opens}
use Rattle.ion_visiting.specs.laws.Filters.{hears_both, hears_none}
use Rattle.ion_visiting.specs.laws.Led.{events_out}
use Rattle.ion_binary.specs.machine.Frames as frames
use Rattle.ion_binary.specs.walking.Holds.{told_in}

-- 1. Events.

flat_one : {X : Type 0} (f : X → List Event) (xs : List X) (x : X) → flat_map f (xs ++ x ∷ []) ≡ flat_map f xs ++ f x
flat_one f xs x = rw (flat_map-append f xs, append-nil (f x)) refl

-- a value ends among items
pub item_told : (end : ℕ) (x : ListOrSexp) (fs : List Frame) (vs : List Value) (v : Value)
    → told_in (frames.Items end x vs ∷ fs) ++ events_of v ≡ told_in (frames.Items end x (vs ++ v ∷ []) ∷ fs)
item_told end x fs vs v = rw (append_assoc (told_in fs), flat_one events_of vs v) refl

-- a value ends as that of a field
pub field_told : (end : ℕ) (fs : List Frame) (ms : List Field) (s : _) (v : Value)
    → told_in (frames.Named end ms (Ok s) ∷ fs) ++ events_of v ≡ told_in (frames.Fields end (ms ++ field_of s v ∷ []) ∷ fs)
field_told end fs ms s v = rw (append_assoc (told_in fs), append_assoc (flat_map field_events ms), flat_one field_events ms (field_of s v)) refl

bare_events : (p : Payload) → events_of (bare p) ≡ layer_events (out-Payload p)
bare_events p = events_out (bare p)

unnoted : (v : Value) → v.annotations ≡ [] → events_of v ≡ layer_events (out-Payload v.payload)
unnoted v h = rw (events_out v, h) refl

-- a value ends in a wrapper, which is a value then
pub wrapped_told : (end : ℕ) (ss : List _) (fs : List Frame) (v : Value) → v.annotations ≡ []
    → told_in (frames.Annotated end ss ∷ fs) ++ events_of v ≡ told_in fs ++ events_of (annotated ss v.payload)
wrapped_told end ss fs v h = rw (append_assoc (told_in fs), unnoted v h, events_out (annotated ss v.payload)) refl

-- a container closes, and is a value
pub items_told : (end : ℕ) (x : ListOrSexp) (fs : List Frame) (vs : List Value)
    → told_in (frames.Items end x vs ∷ fs) ++ closes (bracket_of x) ∷ [] ≡ told_in fs ++ events_of (bare (listed x vs))
items_told end ListOrSexp.List fs vs = rw (append_assoc (told_in fs), bare_events (payloads.List vs), outs-List vs) refl
items_told end ListOrSexp.Sexp fs vs = rw (append_assoc (told_in fs), bare_events (payloads.Sexp vs), outs-Sexp vs) refl

pub fields_told : (end : ℕ) (fs : List Frame) (ms : List Field)
    → told_in (frames.Fields end ms ∷ fs) ++ closes Bracket.Fields ∷ [] ≡ told_in fs ++ events_of (bare (payloads.Fields ms))
fields_told end fs ms = rw (append_assoc (told_in fs), bare_events (payloads.Fields ms), outs-Fields ms) refl

-- the name of a field whose value begins
pub name_told : (end : ℕ) (fs : List Frame) (ms : List Field) (s : _)
    → told (frames.Named end ms (Ok s) ∷ fs) ++ name s ∷ [] ≡ told_in (frames.Named end ms (Ok s) ∷ fs)
name_told end fs ms s = append_assoc (told_in fs) (opens Bracket.Fields ∷ flat_map field_events ms) (name s ∷ [])

-- one annotation more
pub note_told : (end : ℕ) (fs : List Frame) (ss : List _) (s : _)
    → told_in (frames.Annotated end ss ∷ fs) ++ annotation s ∷ [] ≡ told_in (frames.Annotated end (ss ++ s ∷ []) ∷ fs)
note_told end fs ss s = rw (append_assoc (told_in fs), map-append annotation ss) refl

-- a value with no value in it
pub part_told : (fs : List Frame) (p : Payload) → layer_events (out-Payload p) ≡ part p ∷ []
    → told_in fs ++ part p ∷ [] ≡ told_in fs ++ events_of (bare p)
part_told fs p e = rw (bare_events p, e) refl

-- 2. What was heard before.

module _ {V : Type 0} (takes : V → Event → V → Type 0) where
  pub went_behind : (es fs : List Event) (r : BinaryWalk) (gs : List Frame) (a m b : V) → Hears takes (heard es) (heard fs) a m
      → WentOn takes fs r gs m b → WentOn takes es r gs a b
  went_behind es fs r gs a m b h w =
      record { holds = w.holds; hears = hears_both takes (heard es) (heard fs) (heard (told gs)) a m b h w.hears }

  pub gave_behind : (es fs : List Event) (r : BinaryWalk) (v : Value) (a m b : V) → Hears takes (heard es) (heard fs) a m
      → GaveOut takes fs r v m b → GaveOut takes es r v a b
  gave_behind es fs r v a m b h w =
      record { holds = w.holds; hears = hears_both takes (heard es) (heard fs) (events_of v) a m b h w.hears }

  -- a method did more behind what was heard
  pub does_more : (es fs : List Event) (o : Outcome) (result : Result Effect Reason) (r : BinaryWalk) (a m b : V) → Hears takes (heard es) (heard fs) a m
      → Does takes fs o result r m b → Does takes es o result r a b
  does_more es fs o (Ok Goes) r a m b h d = (d.0, d.1, went_behind es fs r d.0 a m b h d.2)
  does_more es fs o (Ok Gives) r a m b h d = (d.0, d.1, gave_behind es fs r d.0 a m b h d.2)
  does_more es fs o (Err e) r a m b h d = d

  pub closes_more : (es fs : List Event) (o : Outcome) (result : Result Bool Reason) (r : BinaryWalk) (a m b : V) → Hears takes (heard es) (heard fs) a m
      → Closes takes fs o result r m b → Closes takes es o result r a b
  closes_more es fs o (Ok true) r a m b h d =
      (d.0, d.1, d.2, record { behind = d.3.behind; hears = hears_both takes (heard es) (heard fs) _ a m b h d.3.hears })
  closes_more es fs o (Ok false) r a m b h d = (d.0, d.1, went_behind es fs r d.0 a m b h d.2)
  closes_more es fs o (Err e) r a m b h d = d

  -- a method that tells nothing
  pub does_behind : (es fs : List Event) (o : Outcome) (result : Result Effect Reason) (r : BinaryWalk) (a b : V) → Hears takes (heard es) (heard fs) a b
      → DoesAlone fs o result r → Does takes es o result r a b
  does_behind es fs o (Ok Goes) r a b h d = (d.0, d.1, record { holds = d.2; hears = rw d.3 h })
  does_behind es fs o (Ok Gives) r a b h d = (d.0, d.1, record { holds = d.2; hears = rw d.3 h })
  does_behind es fs o (Err e) r a b h d = d

  pub does_alone : (es : List Event) (o : Outcome) (result : Result Effect Reason) (r : BinaryWalk) (a : V) → DoesAlone es o result r
      → Does takes es o result r a a
  does_alone es o result r a d = does_behind es es o result r a a (hears_none takes (heard es) (heard es) a refl) d
