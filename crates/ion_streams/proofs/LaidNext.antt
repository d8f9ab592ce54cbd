-- Where the layout of a document stands.
use Rattle.std.proofs.Common.{◌≡◌, ℕ, ◌^◌, ◌<◌, List, [], ◌∷◌, ◌++◌, length, Some, refl, sym, subst, ◌∙◌}
use Rattle.std.proofs.lemmas.List.{length-map}
use Rattle.ion_streams.specs.LaidOut.{IsLaidOut}
use Rattle.ion_streams.specs.Names.{Catalog, IfOpen, Inlet, Items, Led, Limits, Open, Ended, ReadState, Refused, StoodEach, Value, answered, events_of, format_of, plain, telling}
use Rattle.ion_events.specs.Drafts.{joined}
use Rattle.ion_events.specs.Laying.{HandsOver, LaidDown, lays_down}
use Rattle.ion_events.specs.declared.laid.Laid.{Laid}
use Rattle.ion_events.specs.declared.laying.Laying.{Laying}
use Rattle.ion_events.specs.laws.LaidDown.{one_laid, stream_laid}
use Rattle.ion_streams.proofs.Steps.{plain_next, stood_plain}

-- one value more is laid down
pub laid_next : {H T : Type 0} (given : List (Value × ℕ)) (v : Value) (used : ℕ) (laid more : Laid) (a b c : Laying H T) → LaidDown (plain given) laid a
    → Led lays_down (events_of v) a b → HandsOver b laid c more → LaidDown (plain (given ++ (v, used) ∷ [])) more c
laid_next given v used laid more a b c h told over =
    subst (λ (s : List Value). LaidDown s more c) (sym (plain_next given (Some (v, used)) (Some v) (plain given) refl refl))
    (one_laid (plain given) v laid more a b c h told over)

-- where a document is read to its end or refused, its values are laid out
module _ {S X H T : Type 0} (R : Inlet S) (I : Items X) (g : Catalog) (l : Limits) (first now : S) where
  pub laid_at : (place : ReadState X) (given : List (Value × ℕ)) (values : ℕ) (laid : Laid) (a : Laying H T) (layout : List ℕ)
      → IfOpen place (λ source. ⊥) → length given ≡ values → StoodEach R (telling I []) g l first now place given → LaidDown (plain given) laid a
      → length laid.entries.items < 2 ^ 64 → layout ≡ joined laid → IsLaidOut R (format_of I g l) first now (answered place values) layout
  laid_at (Open source) given values laid a layout closed count stood h few is = absurd closed
  laid_at Ended given values laid a layout closed count stood h few is = (
    plain given,
    stood_plain R (telling I []) g l first now Ended given stood,
    length-map given (λ (x : Value × ℕ). x.0) ∙ count,
    rw is (stream_laid (plain given) laid a few h),
  )
  laid_at (Refused refusal) given values laid a layout closed count stood h few is =
      (plain given, stood_plain R (telling I []) g l first now (Refused refusal) given stood, rw is (stream_laid (plain given) laid a few h))
