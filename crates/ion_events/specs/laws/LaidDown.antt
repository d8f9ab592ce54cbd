-- What a visitor that was told values one by one, and handed them over, has laid down.
use Rattle.std.proofs.Common.{◌≡◌, ℕ, ◌^◌, ◌<◌, List, [], ◌∷◌, ◌++◌, length, replicate, slice_get, Option, None, Some, ap, sym, ◌∙◌, arith, append-nil, length-append}
use Rattle.std.proofs.lemmas.List.{get_or-replicate, length-replicate}
use Rattle.std.proofs.lemmas.Option.{get_or_from_slice_get, slice_get_within}
use Rattle.ion_events.specs.Drafts.{IsEmpty, joined}
use Rattle.ion_events.specs.Drawing.{draws, none, one_more}
use Rattle.ion_events.specs.Laying.{HandsOver, IsBehind, IsNew, LaidDown, lays_down}
use Rattle.ion_events.specs.Layouts.{LaysStream}
use Rattle.ion_events.specs.Names.Below.{Event, Led, Value, events_of}
use Rattle.ion_events.specs.declared.entry.Place.{Place}
use Rattle.ion_events.specs.declared.laid.Laid.{Laid}
use Rattle.ion_events.specs.declared.laying.Laying.{Laying}
use Rattle.ion_events.specs.laws.HandedOver as over

abbrev no_place : Option Place
no_place = None

-- no place is said at first
none_said : (n id : ℕ) (p : Place) → slice_get (replicate n no_place) id ≡ Some (Some p) → ⊥
none_said n id p h =
    let within : id < n = omega (arith, slice_get_within (replicate n no_place) id (Some p) h, length-replicate n no_place) in
    let is : no_place ≡ Some p = sym (get_or-replicate n id no_place no_place within) ∙ get_or_from_slice_get (replicate n no_place) id (Some p) no_place h in
    absurd cc

module _ {S T : Type 0} where
  -- its draft did what is for each event
  led_down : (before : List ℕ) (es : List Event) (a b : Laying S T) → Led lays_down es a b → IsBehind before a
      → Led (draws before) es a.draft b.draft × IsBehind before b
  led_down before [] a b h k = (ap (λ (x : Laying S T). x.draft) h, rw (← h) k)
  led_down before (e ∷ es) a b (m, told, rest) k =
      let (drawn, there) = told before k in
      let (led, behind) = led_down before es m b rest there in
      ((m.draft, drawn, led), behind)

  -- nothing is laid down where nothing was told
  pub none_laid : (laid : Laid) (a : Laying S T) → IsEmpty laid → IsNew a → LaidDown [] laid a
  none_laid laid a h k = record {
    over = none laid a.draft h k.draft;
    behind = record {
      size = ap length h.texts ∙ sym k.draft.texts_before;
      places = rw k.places (record {
        few = omega (arith, length-replicate (length a.names) no_place);
        each = λ id text p n g. absurd (none_said (length a.names) id p g);
      });
    };
  }

  -- one value more
  pub one_laid : (s : List Value) (v : Value) (laid more : Laid) (a b c : Laying S T) → LaidDown s laid a → Led lays_down (events_of v) a b
      → HandsOver b laid c more → LaidDown (s ++ v ∷ []) more c
  one_laid s v laid more a b c h told k =
      let (led, there) = led_down laid.texts.items (events_of v) a b told h.behind in
      let texts : laid.texts.items ++ b.draft.texts.items ≡ more.texts.items ++ c.draft.texts.items =
      sym (ap (λ w. more.texts.items ++ w) k.draft.no_texts ∙ append-nil more.texts.items ∙ k.draft.texts) in
      record {
        over = one_more s v laid more a.draft b.draft c.draft h.over led k.draft;
        behind = record {
          size = ap length k.draft.texts ∙ length-append laid.texts.items b.draft.texts.items ∙ omega (arith, there.size, k.draft.texts_before);
          places = rw (k.names, k.places, ← texts) there.places;
        };
      }

  -- joined they are the layout of their stream
  pub stream_laid : (s : List Value) (laid : Laid) (a : Laying S T) → length laid.entries.items < 2 ^ 64 → LaidDown s laid a → LaysStream s (joined laid)
  stream_laid s laid a few h = over.handed_over s laid a.draft few h.over
