-- What was told of what is open, as more is told of it.
use Rattle.std.proofs.Common.{◌≡◌, ℕ, List, [], ◌∷◌, ◌++◌, map, Option, Some, refl, ap, sym, ◌∙◌}
use Rattle.std.specs.List.{flat_map}
use Rattle.std.proofs.lemmas.List.{append-nil, append_assoc, map-append}
use Rattle.std.proofs.lemmas.Grind.{flat_map-append}
use Rattle.ion_text.specs.Names.{Bracket, Event, Frame, ListOrSexp, Number, Part, Payload, Symbols, Value, annotated, annotation, bracket_for, events_of, field_events, field_of, layer_events, name, number_payload, opened, opens, out-Payload, part, payload_of, told}
use Rattle.ion_model.specs.declared.value.Payload.TheVariants as payloads
use Rattle.ion_model.specs.declared.value.Payload.TheViews as views
use Rattle.ion_visiting.specs.Events.{closes, within}
use Rattle.ion_visiting.specs.laws.Led.{events_out}
use Rattle.ion_text.specs.walk.Holds.{told_in}

-- a part is told as one event
pub part_layer : (said : Part) → layer_events (out-Payload (payload_of said)) ≡ part (payload_of said) ∷ []
part_layer (Part.Null k) = ap layer_events (views.outs-Null k)
part_layer (Part.Truth b) = ap layer_events (views.outs-Truth b)
part_layer (Part.Symbol w) = ap layer_events (views.outs-Symbol (Some w.now))
part_layer (Part.Str w) = ap layer_events (views.outs-Str w.now)
part_layer (Part.Clob w) = ap layer_events (views.outs-Clob w.now)
part_layer (Part.Blob w) = ap layer_events (views.outs-Blob w.now)

pub number_layer : (n : Number) → layer_events (out-Payload (number_payload n)) ≡ part (number_payload n) ∷ []
number_layer (Number.Int z) = ap layer_events (views.outs-Int z)
number_layer (Number.Decimal d) = ap layer_events (views.outs-Decimal d)
number_layer (Number.Timestamp t) = ap layer_events (views.outs-Timestamp t)

pub symbol_layer : (s : Option (List ℕ)) → layer_events (out-Payload (payloads.Symbol s)) ≡ part (payloads.Symbol s) ∷ []
symbol_layer s = ap layer_events (views.outs-Symbol s)

-- the annotations and a part are a value
pub part_told : (fs : List Frame) (ss : Symbols) (p : Payload) → layer_events (out-Payload p) ≡ part p ∷ []
    → told fs ss ++ part p ∷ [] ≡ told_in fs ++ events_of (annotated ss p)
part_told fs ss p e =
    append_assoc (told_in fs) (map annotation ss) (part p ∷ [])
    ∙ ap (λ es. told_in fs ++ es) (sym (events_out (annotated ss p) ∙ ap (λ es. map annotation ss ++ es) e))

-- one annotation more
pub note_told : (fs : List Frame) (ss : Symbols) (s : _) → told fs ss ++ annotation s ∷ [] ≡ told fs (ss ++ s ∷ [])
note_told fs ss s =
    append_assoc (told_in fs) (map annotation ss) (annotation s ∷ [])
    ∙ ap (λ es. told_in fs ++ es) (sym (map-append annotation ss (s ∷ [])))

-- a container opens
pub open_told : (b : Bracket) (fs : List Frame) (ss : Symbols) → told fs ss ++ opens b ∷ [] ≡ told (opened b ss ∷ fs) []
open_told Bracket.List fs ss = append_assoc (told_in fs) (map annotation ss) (opens Bracket.List ∷ []) ∙ sym (append-nil _)
open_told Bracket.Sexp fs ss = append_assoc (told_in fs) (map annotation ss) (opens Bracket.Sexp ∷ []) ∙ sym (append-nil _)
open_told Bracket.Fields fs ss = append_assoc (told_in fs) (map annotation ss) (opens Bracket.Fields ∷ []) ∙ sym (append-nil _)

within_told : (x : Bracket) (before notes inside : List Event) → ((before ++ (notes ++ opens x ∷ inside)) ++ []) ++ closes x ∷ []
    ≡ before ++ (notes ++ within x inside)
within_told x before notes inside =
    ap (λ es. es ++ closes x ∷ []) (append-nil (before ++ (notes ++ opens x ∷ inside)))
    ∙ (append_assoc before (notes ++ opens x ∷ inside) (closes x ∷ []) ∙ ap (λ es. before ++ es) (append_assoc notes (opens x ∷ inside) (closes x ∷ [])))

-- a container closes, and is a value
pub list_told : (fs : List Frame) (ss : Symbols) (vs : List Value) → told (Frame.Items ListOrSexp.List ss vs ∷ fs) [] ++ closes Bracket.List ∷ []
    ≡ told_in fs ++ events_of (annotated ss (payloads.List vs))
list_told fs ss vs =
    within_told Bracket.List (told_in fs) (map annotation ss) (flat_map events_of vs)
    ∙ ap (λ es. told_in fs ++ es) (sym (events_out (annotated ss (payloads.List vs)) ∙ ap (λ d. map annotation ss ++ layer_events d) (views.outs-List vs)))

pub sexp_told : (fs : List Frame) (ss : Symbols) (vs : List Value) → told (Frame.Items ListOrSexp.Sexp ss vs ∷ fs) [] ++ closes Bracket.Sexp ∷ []
    ≡ told_in fs ++ events_of (annotated ss (payloads.Sexp vs))
sexp_told fs ss vs =
    within_told Bracket.Sexp (told_in fs) (map annotation ss) (flat_map events_of vs)
    ∙ ap (λ es. told_in fs ++ es) (sym (events_out (annotated ss (payloads.Sexp vs)) ∙ ap (λ d. map annotation ss ++ layer_events d) (views.outs-Sexp vs)))

pub fields_told : (fs : List Frame) (ss : Symbols) (ms : List _) → told (Frame.Fields ss ms ∷ fs) [] ++ closes Bracket.Fields ∷ []
    ≡ told_in fs ++ events_of (annotated ss (payloads.Fields ms))
fields_told fs ss ms =
    within_told Bracket.Fields (told_in fs) (map annotation ss) (flat_map field_events ms)
    ∙ ap (λ es. told_in fs ++ es) (sym (events_out (annotated ss (payloads.Fields ms)) ∙ ap (λ d. map annotation ss ++ layer_events d) (views.outs-Fields ms)))

behind : (before notes : List Event) (e : Event) (inside more : List Event) → ((before ++ (notes ++ e ∷ inside)) ++ []) ++ more
    ≡ (before ++ (notes ++ e ∷ (inside ++ more))) ++ []
behind before notes e inside more =
    ap (λ es. es ++ more) (append-nil (before ++ (notes ++ e ∷ inside)))
    ∙ (append_assoc before (notes ++ e ∷ inside) more
    ∙ (ap (λ es. before ++ es) (append_assoc notes (e ∷ inside) more) ∙ sym (append-nil (before ++ (notes ++ e ∷ (inside ++ more))))))

-- the name of a field
pub name_told : (fs : List Frame) (ss : Symbols) (ms : List _) (s : _) → told (Frame.Fields ss ms ∷ fs) [] ++ name s ∷ []
    ≡ told (Frame.Named ss ms s ∷ fs) []
name_told fs ss ms s = behind (told_in fs) (map annotation ss) (opens Bracket.Fields) (flat_map field_events ms) (name s ∷ [])

flat_one : {X : Type 0} (f : X → List Event) (xs : List X) (x : X) → flat_map f (xs ++ x ∷ []) ≡ flat_map f xs ++ f x
flat_one f xs x = flat_map-append f xs (x ∷ []) ∙ ap (λ es. flat_map f xs ++ es) (append-nil (f x))

joined : (before notes : List Event) (e : Event) (inside more all : List Event) → all ≡ inside ++ more → (before ++ (notes ++ e ∷ all)) ++ []
    ≡ (before ++ (notes ++ e ∷ inside)) ++ more
joined before notes e inside more all is =
    ap (λ es. (before ++ (notes ++ e ∷ es)) ++ []) is
    ∙ (sym (behind before notes e inside more) ∙ ap (λ es. es ++ more) (append-nil (before ++ (notes ++ e ∷ inside))))

-- a value ends among items
pub item_told : (listing : ListOrSexp) (fs : List Frame) (ss : Symbols) (vs : List Value) (v : Value)
    → told (Frame.Items listing ss (vs ++ v ∷ []) ∷ fs) [] ≡ told_in (Frame.Items listing ss vs ∷ fs) ++ events_of v
item_told listing fs ss vs v =
    joined (told_in fs) (map annotation ss) (opens (bracket_for listing)) (flat_map events_of vs) (events_of v) (flat_map events_of (vs ++ v ∷ []))
    (flat_one events_of vs v)

-- a value ends as that of a field
pub field_told : (fs : List Frame) (ss : Symbols) (ms : List _) (s : _) (v : Value)
    → told (Frame.Fields ss (ms ++ field_of s v ∷ []) ∷ fs) [] ≡ told_in (Frame.Named ss ms s ∷ fs) ++ events_of v
field_told fs ss ms s v =
    joined (told_in fs) (map annotation ss) (opens Bracket.Fields) (flat_map field_events ms) (name s ∷ events_of v) _
    (flat_one field_events ms (field_of s v))
    ∙ (ap (λ es. (told_in fs ++ (map annotation ss ++ opens Bracket.Fields ∷ flat_map field_events ms)) ++ es) refl
    ∙ more (told_in fs) (map annotation ss) (opens Bracket.Fields) (flat_map field_events ms) (name s) (events_of v))
  where
    more : (before notes : List Event) (e : Event) (inside : List Event) (f : Event) (last : List Event)
        → (before ++ (notes ++ e ∷ inside)) ++ f ∷ last ≡ (before ++ (notes ++ e ∷ (inside ++ f ∷ []))) ++ last
    more before notes e inside f last =
        sym (append_assoc (before ++ (notes ++ e ∷ inside)) (f ∷ []) last)
        ∙ ap (λ es. es ++ last) (append_assoc before (notes ++ e ∷ inside) (f ∷ [])
        ∙ ap (λ es. before ++ es) (append_assoc notes (e ∷ inside) (f ∷ [])))
