-- The worked document of docs/EVENTS.md.
use Rattle.std.proofs.Common.{◌≡◌, ℕ, inl, inr, pos, negsuc, false, List, [], ◌∷◌, ◌++◌, map, Option, Some, refl, ap, sym, subst, ◌∙◌, arith}
use Rattle.std.specs.Prelude.{codes}
use Rattle.std.specs.List.{flat_map}
use Rattle.std.specs.Str.{IsUtf8}
use Rattle.std.proofs.Math.Dec.{lit≤}
use Rattle.ion_atoms.specs.Calendar.{InYears, IsMinute}
use Rattle.ion_atoms.specs.Timestamps.{local_minute}
use Rattle.ion_atoms.specs.laws.Calendar.{minute-in_years}
use Rattle.ion_model.specs.Kept as kept
use Rattle.ion_model.specs.Measures.{annotated, bare, field_of}
use Rattle.ion_model.specs.declared.value.Field.{Field}
use Rattle.ion_model.specs.declared.value.Payload.TheVariants as payloads
use Rattle.ion_model.specs.declared.value.Payload.TheViews.{outs-Decimal, outs-Fields, outs-Int, outs-List, outs-Str, outs-Symbol, outs-Timestamp}
use Rattle.ion_visiting.specs.laws.Led.{events_out}
use Rattle.ion_events.specs.Layouts.{Around, Lays, LaysStream, LiesAt, Walk, begin, finish, lays_one, lays_part}
use Rattle.ion_events.specs.Names.Below.{Bracket, DecimalParts, Event, KeptPayload, Layer, Led, Payload, Precision, TimestampParts, Value, annotation, closes, events_of, layer_events, name, opens, out-Payload, part}

-- 1. log::{at: 2026-03-01T09:05:07.250Z, tags: ["café", a], sum: 1.50} log -3
abbrev moment : TimestampParts
moment = record {
  local = record { year = 2026; month = 3; day = 1; hour = 9; minute = 5; second = 7; fraction = 250 };
  precision = Precision.Fraction 3;
  offset = Some (pos 0);
}

abbrev one_and_a_half : DecimalParts
one_and_a_half = record { negative = false; magnitude = 150; exponent = negsuc 1 }

-- café
abbrev cafe : List ℕ
cafe = 0x63 ∷ 0x61 ∷ 0x66 ∷ 0xC3 ∷ 0xA9 ∷ []

abbrev symbol : List ℕ → Payload
symbol text = payloads.Symbol (Some text)

abbrev tags : Value
tags = bare (payloads.List (bare (payloads.Str cafe) ∷ bare (symbol (codes "a")) ∷ []))

abbrev fields : List Field
fields =
    field_of (Some (codes "at")) (bare (payloads.Timestamp moment)) ∷ field_of (Some (codes "tags")) tags
    ∷ field_of (Some (codes "sum")) (bare (payloads.Decimal one_and_a_half)) ∷ []

abbrev logged : Value
logged = annotated (Some (codes "log") ∷ []) (payloads.Fields fields)

abbrev pub worked_stream : List Value
worked_stream = logged ∷ bare (symbol (codes "log")) ∷ bare (payloads.Int (negsuc 2)) ∷ []

-- its entries, a line each, and its texts
abbrev pub worked_layout : List ℕ
worked_layout =
    0x70 ∷ 0x6A ∷ 0x65 ∷ 0x76 ∷ 0x65 ∷ 0x6E ∷ 0x74 ∷ 0x31 ∷ 0x10 ∷ 0x00 ∷ 0x00 ∷ 0x00 ∷ 0x00 ∷ 0x00 ∷ 0x00 ∷ 0x00
    ∷ 0x0E ∷ 0x00 ∷ 0x00 ∷ 0x00 ∷ 0x03 ∷ 0x00 ∷ 0x00 ∷ 0x00 ∷ 0x00 ∷ 0x00 ∷ 0x00 ∷ 0x00 ∷ 0x00 ∷ 0x00 ∷ 0x00 ∷ 0x00
    ∷ 0x0D ∷ 0x00 ∷ 0x00 ∷ 0x00 ∷ 0x03 ∷ 0x00 ∷ 0x00 ∷ 0x00 ∷ 0x0E ∷ 0x00 ∷ 0x00 ∷ 0x00 ∷ 0x00 ∷ 0x00 ∷ 0x00 ∷ 0x00
    ∷ 0x0F ∷ 0x00 ∷ 0x00 ∷ 0x00 ∷ 0x02 ∷ 0x00 ∷ 0x00 ∷ 0x00 ∷ 0x03 ∷ 0x00 ∷ 0x00 ∷ 0x00 ∷ 0x00 ∷ 0x00 ∷ 0x00 ∷ 0x00
    ∷ 0x06 ∷ 0x08 ∷ 0x01 ∷ 0x00 ∷ 0x00 ∷ 0x00 ∷ 0x00 ∷ 0x00 ∷ 0xEA ∷ 0x07 ∷ 0x03 ∷ 0x01 ∷ 0x09 ∷ 0x05 ∷ 0x07 ∷ 0x00
    ∷ 0x11 ∷ 0x00 ∷ 0x00 ∷ 0x00 ∷ 0x00 ∷ 0x00 ∷ 0x00 ∷ 0x00 ∷ 0xFA ∷ 0x00 ∷ 0x00 ∷ 0x00 ∷ 0x00 ∷ 0x00 ∷ 0x00 ∷ 0x00
    ∷ 0x0F ∷ 0x00 ∷ 0x00 ∷ 0x00 ∷ 0x04 ∷ 0x00 ∷ 0x00 ∷ 0x00 ∷ 0x05 ∷ 0x00 ∷ 0x00 ∷ 0x00 ∷ 0x00 ∷ 0x00 ∷ 0x00 ∷ 0x00
    ∷ 0x0B ∷ 0x00 ∷ 0x00 ∷ 0x00 ∷ 0x02 ∷ 0x00 ∷ 0x00 ∷ 0x00 ∷ 0x0B ∷ 0x00 ∷ 0x00 ∷ 0x00 ∷ 0x00 ∷ 0x00 ∷ 0x00 ∷ 0x00
    ∷ 0x08 ∷ 0x00 ∷ 0x00 ∷ 0x00 ∷ 0x05 ∷ 0x00 ∷ 0x00 ∷ 0x00 ∷ 0x09 ∷ 0x00 ∷ 0x00 ∷ 0x00 ∷ 0x00 ∷ 0x00 ∷ 0x00 ∷ 0x00
    ∷ 0x07 ∷ 0x00 ∷ 0x00 ∷ 0x00 ∷ 0x01 ∷ 0x00 ∷ 0x00 ∷ 0x00 ∷ 0x0E ∷ 0x00 ∷ 0x00 ∷ 0x00 ∷ 0x00 ∷ 0x00 ∷ 0x00 ∷ 0x00
    ∷ 0x10 ∷ 0x0B ∷ 0x00 ∷ 0x00 ∷ 0x00 ∷ 0x00 ∷ 0x00 ∷ 0x00 ∷ 0x07 ∷ 0x00 ∷ 0x00 ∷ 0x00 ∷ 0x00 ∷ 0x00 ∷ 0x00 ∷ 0x00
    ∷ 0x0F ∷ 0x00 ∷ 0x00 ∷ 0x00 ∷ 0x03 ∷ 0x00 ∷ 0x00 ∷ 0x00 ∷ 0x0F ∷ 0x00 ∷ 0x00 ∷ 0x00 ∷ 0x00 ∷ 0x00 ∷ 0x00 ∷ 0x00
    ∷ 0x05 ∷ 0x00 ∷ 0x00 ∷ 0x00 ∷ 0xFE ∷ 0xFF ∷ 0xFF ∷ 0xFF ∷ 0x96 ∷ 0x00 ∷ 0x00 ∷ 0x00 ∷ 0x00 ∷ 0x00 ∷ 0x00 ∷ 0x00
    ∷ 0x10 ∷ 0x0D ∷ 0x00 ∷ 0x00 ∷ 0x00 ∷ 0x00 ∷ 0x00 ∷ 0x00 ∷ 0x02 ∷ 0x00 ∷ 0x00 ∷ 0x00 ∷ 0x00 ∷ 0x00 ∷ 0x00 ∷ 0x00
    ∷ 0x07 ∷ 0x00 ∷ 0x00 ∷ 0x00 ∷ 0x03 ∷ 0x00 ∷ 0x00 ∷ 0x00 ∷ 0x00 ∷ 0x00 ∷ 0x00 ∷ 0x00 ∷ 0x00 ∷ 0x00 ∷ 0x00 ∷ 0x00
    ∷ 0x02 ∷ 0x00 ∷ 0x00 ∷ 0x00 ∷ 0x00 ∷ 0x00 ∷ 0x00 ∷ 0x00 ∷ 0xFD ∷ 0xFF ∷ 0xFF ∷ 0xFF ∷ 0xFF ∷ 0xFF ∷ 0xFF ∷ 0xFF
    ∷ 0x6C ∷ 0x6F ∷ 0x67 ∷ 0x61 ∷ 0x74 ∷ 0x74 ∷ 0x61 ∷ 0x67 ∷ 0x73 ∷ 0x63 ∷ 0x61 ∷ 0x66 ∷ 0xC3 ∷ 0xA9 ∷ 0x61 ∷ 0x73 ∷ 0x75 ∷ 0x6D
    ∷ []

-- 2. Its events.
abbrev text : List ℕ → Event
text w = name (Some w)

abbrev worked_events : List Event
worked_events =
    annotation (Some (codes "log")) ∷ opens Bracket.Fields
    ∷ text (codes "at") ∷ part (payloads.Timestamp moment)
    ∷ text (codes "tags") ∷ opens Bracket.List ∷ part (payloads.Str cafe) ∷ part (symbol (codes "a")) ∷ closes Bracket.List
    ∷ text (codes "sum") ∷ part (payloads.Decimal one_and_a_half)
    ∷ closes Bracket.Fields
    ∷ part (symbol (codes "log")) ∷ part (payloads.Int (negsuc 2)) ∷ []

row : (ss : List (Option (List ℕ))) (p : Payload) (d : Layer) → out-Payload p ≡ d → events_of (annotated ss p) ≡ map annotation ss ++ layer_events d
row ss p d e = events_out (annotated ss p) ∙ ap (λ (x : Layer). map annotation ss ++ layer_events x) e

symbol_row : (w : List ℕ) → events_of (bare (symbol w)) ≡ part (symbol w) ∷ []
symbol_row w = row [] _ _ (outs-Symbol (Some w))

told : flat_map events_of worked_stream ≡ worked_events
told = rw (
  row (Some (codes "log") ∷ []) _ _ (outs-Fields fields),
  row [] _ _ (outs-Timestamp moment),
  row [] _ _ (outs-List (bare (payloads.Str cafe) ∷ bare (symbol (codes "a")) ∷ [])),
  row [] _ _ (outs-Str cafe),
  symbol_row (codes "a"),
  row [] _ _ (outs-Decimal one_and_a_half),
  symbol_row (codes "log"),
  row [] _ _ (outs-Int (negsuc 2)),
) refl

-- 3. They are such as the types keep.
log_text : IsUtf8 (codes "log")
unfolding lib.Utf8.encode
log_text = (codes "log", (refl, refl))

at_text : IsUtf8 (codes "at")
unfolding lib.Utf8.encode
at_text = (codes "at", (refl, refl))

tags_text : IsUtf8 (codes "tags")
unfolding lib.Utf8.encode
tags_text = (codes "tags", (refl, refl))

cafe_text : IsUtf8 cafe
unfolding lib.Utf8.encode
cafe_text = (0x63 ∷ 0x61 ∷ 0x66 ∷ 0xE9 ∷ [], (refl, refl))

a_text : IsUtf8 (codes "a")
unfolding lib.Utf8.encode
a_text = (codes "a", (refl, refl))

sum_text : IsUtf8 (codes "sum")
unfolding lib.Utf8.encode
sum_text = (codes "sum", (refl, refl))

moment_minute : IsMinute (local_minute moment.local)
moment_minute = record { date = record { year = (lit≤ tt, lit≤ tt); month = (lit≤ tt, lit≤ tt); day = (lit≤ tt, lit≤ tt) }; hour = lit≤ tt; minute = lit≤ tt }

moment_kept : KeptPayload (payloads.Timestamp moment)
moment_kept = kept.kept_timestamp moment (record {
  date = moment_minute.date;
  time = (lit≤ tt, lit≤ tt, lit≤ tt);
  cut = (lit≤ tt, lit≤ tt, lit≤ tt);
  offset = (record { le = tt }, record { le = tt });
  years = subst (λ n. InYears (pos n)) (omega arith) (minute-in_years (local_minute moment.local) moment_minute);
})

decimal_kept : KeptPayload (payloads.Decimal one_and_a_half)
decimal_kept = kept.kept_decimal one_and_a_half (lit≤ tt, record { le = tt }, record { lt = tt })

-- 4. Each where it lies.
abbrev in_struct : ℕ → Around
in_struct came = record { bracket = Bracket.Fields; place = 2; behind = 14; says = 3; came = came }

abbrev in_list : ℕ → Around
in_list came = record { bracket = Bracket.List; place = 7; behind = 11; says = 2; came = came }

abbrev walk : ℕ → List Around → ℕ → Walk
walk at around used = record { at = at; around = around; used = used }

log_lies : LiesAt worked_layout 0 (codes "log")
log_lies = record { within = lit≤ tt; is = refl }

at_level : (a b : Walk) (p : Payload) (d : Layer) → out-Payload p ≡ d → lays_part worked_layout a d b → lays_part worked_layout a (out-Payload p) b
at_level a b p d e h = subst (λ d. lays_part worked_layout a d b) (sym e) h

worked_led : Led (lays_one worked_layout) worked_events begin (finish worked_layout)
worked_led = (
  walk 2 [] 3,
  (log_text, (3, record { place = 0; entry = refl; there = record { within = lit≤ tt; is = refl }; known = inl refl; is = refl }, refl)),
  (
    walk 3 (in_struct 0 ∷ []) 3,
    (tt, record { behind = 14; says = 3; entry = refl; is = refl }),
    (
      walk 4 (in_struct 0 ∷ []) 5,
      (at_text, (5, record { place = 3; entry = refl; there = record { within = lit≤ tt; is = refl }; known = inl refl; is = refl }, refl)),
      (
        walk 6 (in_struct 1 ∷ []) 5,
        (moment_kept, at_level (walk 4 (in_struct 0 ∷ []) 5) (walk 6 (in_struct 1 ∷ []) 5) _ _ (outs-Timestamp moment) ((refl, (refl, tt)), refl)),
        (
          walk 7 (in_struct 1 ∷ []) 9,
          (tags_text, (9, record { place = 5; entry = refl; there = record { within = lit≤ tt; is = refl }; known = inl refl; is = refl }, refl)),
          (
            walk 8 (in_list 0 ∷ in_struct 2 ∷ []) 9,
            (tt, record { behind = 11; says = 2; entry = refl; is = refl }),
            (
              walk 9 (in_list 1 ∷ in_struct 2 ∷ []) 14,
              (
                kept.kept_string cafe cafe_text,
                at_level (walk 8 (in_list 0 ∷ in_struct 2 ∷ []) 9) (walk 9 (in_list 1 ∷ in_struct 2 ∷ []) 14) _ _ (outs-Str cafe)
                    (record { entry = refl; there = record { within = lit≤ tt; is = refl }; is = refl }),
              ),
              (
                walk 10 (in_list 2 ∷ in_struct 2 ∷ []) 15,
                (
                  kept.kept_symbol (Some (codes "a")) a_text,
                  at_level (walk 9 (in_list 1 ∷ in_struct 2 ∷ []) 14) (walk 10 (in_list 2 ∷ in_struct 2 ∷ []) 15) _ _ (outs-Symbol (Some (codes "a")))
                      (15, record { place = 14; entry = refl; there = record { within = lit≤ tt; is = refl }; known = inl refl; is = refl }, refl),
                ),
                (
                  walk 11 (in_struct 2 ∷ []) 15,
                  (tt, record { place = 7; says = 2; entry = refl; around = refl; at = refl; used = refl }),
                  (
                    walk 12 (in_struct 2 ∷ []) 18,
                    (sum_text, (18, record { place = 15; entry = refl; there = record { within = lit≤ tt; is = refl }; known = inl refl; is = refl }, refl)),
                    (
                      walk 13 (in_struct 3 ∷ []) 18,
                      (
                        decimal_kept,
                        at_level (walk 12 (in_struct 2 ∷ []) 18) (walk 13 (in_struct 3 ∷ []) 18) _ _ (outs-Decimal one_and_a_half) ((refl, tt), refl),
                      ),
                      (
                        walk 14 [] 18,
                        (tt, record { place = 2; says = 3; entry = refl; around = refl; at = refl; used = refl }),
                        (
                          walk 15 [] 18,
                          (
                            kept.kept_symbol (Some (codes "log")) log_text,
                            at_level (walk 14 [] 18) (walk 15 [] 18) _ _ (outs-Symbol (Some (codes "log")))
                                (18, record { place = 0; entry = refl; there = log_lies; known = inr (lit≤ tt); is = refl }, refl),
                          ),
                          (
                            walk 16 [] 18,
                            (
                              kept.kept_int (negsuc 2) (lit≤ tt),
                              at_level (walk 15 [] 18) (walk 16 [] 18) _ _ (outs-Int (negsuc 2)) ((refl, tt), refl),
                            ),
                            refl,
                          ),
                        ),
                      ),
                    ),
                  ),
                ),
              ),
            ),
          ),
        ),
      ),
    ),
  ),
)

pub worked : LaysStream worked_stream worked_layout
worked = subst (λ es. Lays es worked_layout) (sym told) (record { magic = refl; room = lit≤ tt; led = worked_led })
