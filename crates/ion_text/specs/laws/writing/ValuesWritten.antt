-- What is written of a value is tokens that mean it.
use Rattle.std.proofs.Common.{◌≡◌, ℕ, ◌+◌, Bool, true, false, List, [], ◌∷◌, ◌++◌, length, map, Option, Some, None, Ok, refl, sym, ap, ◌∙◌, subst, arith, append_assoc, append-nil}
use Rattle.std.specs.Prelude.{◌==◌, ◌||◌, ◌&&◌, codes, not}
use Rattle.std.specs.List.{AllByRecursion, flat_map}
use Rattle.std.proofs.lemmas.Bool.{and_parts, and_right, false≢true, or_parts}
use Rattle.std.proofs.lemmas.Bool.Decides.{nat_tests}
use Rattle.ion_text.specs.Names.{Annotations, AreTexts, Blob, Clob, Content, Elements, Field, IsKept, IsName, IsScalar, IsSymbol, IsText, KeptFields, KeptItems, KeptPayload, Kind, LexesTo, Mark, Mark', MarkEnds, MarkStands, Means, Members, Number, Number', Payload, Place, Placed, Plain, ReadsNumber, Row, Says, Short, Slot, Value, Word, a_field, an_item, annotated, begins_long, begins_number, blob_text, by_symbol, clob_text, close_place, comma, element, ends_long, escaped_text, field, field_comma, field_of, field_text, is_blob, is_clob, is_decimal, is_digit, is_false, is_identifier, is_int, is_letter, is_list, is_long, is_name, is_null, is_short, is_struct, is_symbol, is_timestamp, is_true, is_stop, is_typed_null, is_unquoted, is_white, is_word_octet, item, kept, kept_blob, kept_clob, kept_decimal, kept_fields, kept_int, kept_list, kept_null, kept_sexp, kept_string, kept_symbol, kept_timestamp, kept_truth, known_text, layer_text, mark_spelling, means, named_text, no_annotation, no_element, no_field, no_fields, no_item, no_items, notes_text, null_text, number_text, of_string, of_symbol, one_annotation, one_token, quoted, separated, symbol_text, truth_text, value_text}
use Rattle.ion_model.specs.declared.value.Payload.TheVariants as payloads
use Rattle.ion_model.specs.declared.value.Payload.TheViews as views
use Rattle.ion_scalar.specs.text.laws.Texts.{decimal_reads, int_reads}
use Rattle.ion_scalar.specs.text.laws.TimestampTexts.{timestamp_reads}
use Rattle.ion_tokens.specs.Lexemes.{begins}
use Rattle.ion_tokens.specs.laws.Numerals.{numeric_run}
use Rattle.ion_text.specs.Grammar.{is_sexp}
use Rattle.ion_spelling.specs.laws.Output.{text-out}
use Rattle.ion_text.specs.laws.writing.Spelled.{EndsNumbers, EndsWords, Spelling, blob_spelled, clob_spelled, null_said, null_spelled, number_spelled, string_spelled, symbol_spelled, truth_spelled}
use Rattle.ion_text.specs.laws.writing.Written.{One, Written, both, both_lex, free_mark, mark_then, mark_written, one, one_written, placed, token_lexes, tokens, white_written, written_as}

-- 1. First octets: neither `:` nor `{`.

abbrev begins_symbol : ℕ → Bool
begins_symbol o = is_letter o || ((o == 95) || ((o == 36) || (o == 39)))

from_word : (o : ℕ) → (is_letter o || (o == 95)) ≡ true → begins_symbol o ≡ true
from_word o h = grind (arith, nat_tests)

identifier_begins : (w r : List ℕ) → is_identifier w ≡ true → begins begins_symbol (w ++ r) ≡ true
identifier_begins [] r h = absurd (false≢true h)
identifier_begins (o ∷ os) r h = from_word o (and_parts _ _ h).0

symbol_begins : (s : Option (List ℕ)) (r : List ℕ) → begins begins_symbol (symbol_text s ++ r) ≡ true
unfolding symbol_text
symbol_begins None r = refl
symbol_begins (Some w) r = by (is_unquoted w) refl where
  by : (b : Bool) → is_unquoted w ≡ b → begins begins_symbol (known_text w ++ r) ≡ true
  by true h = rw h (identifier_begins w r (and_parts _ _ h).0)
  by false h = rw h refl

no_brace_octet : (o : ℕ) → begins_symbol o ≡ true → (o == 123) ≡ false
no_brace_octet o h = grind (arith, nat_tests)

-- what begins a blank, or a colon
abbrev pub bad_octet : ℕ → Bool
bad_octet o = (o == 58) || (is_white o || (o == 47))

-- such an octet, or `$i`
abbrev pub starts_badly : List ℕ → Bool
starts_badly [] = false
starts_badly (o ∷ []) = bad_octet o
starts_badly (o ∷ p ∷ os) = bad_octet o || ((36 == o) && (105 == p))

pub no_colon_start : (w : List ℕ) → starts_badly w ≡ false → begins (λ o. o == 58) w ≡ false
no_colon_start [] h = refl
no_colon_start (o ∷ []) h = (or_parts (o == 58) _ h).0
no_colon_start (o ∷ p ∷ os) h = (or_parts (o == 58) _ (or_parts (bad_octet o) _ h).0).0

-- an octet that is none of these, and no `$`
plain_start : (o : ℕ) (r : List ℕ) → (bad_octet o || (36 == o)) ≡ false → starts_badly (o ∷ r) ≡ false
plain_start o [] h = (or_parts (bad_octet o) _ h).0
plain_start o (p ∷ r) h = let q = or_parts (bad_octet o) _ h in rw (q.0, q.1) refl

identifier_start : (w r : List ℕ) → is_identifier w ≡ true → starts_badly (w ++ r) ≡ false
identifier_start [] r h = absurd (false≢true h)
identifier_start (o ∷ os) r h =
    let q : (is_letter o || (o == 95)) ≡ true = (and_parts _ _ h).0 in
    plain_start o (os ++ r) (grind (arith, nat_tests, q))

first_no_brace : (w : List ℕ) → begins begins_symbol w ≡ true → begins (λ o. o == 123) w ≡ false
first_no_brace [] h = refl
first_no_brace (o ∷ os) h = no_brace_octet o h

number_no_colon : (w r : List ℕ) → begins_number w ≡ true → starts_badly (w ++ r) ≡ false
number_no_colon [] r h = absurd (false≢true h)
number_no_colon (o ∷ os) r h = plain_start o (os ++ r) (by (begins is_digit os) h) where
  by : (b : Bool) → (is_digit o || ((o == 45) && b)) ≡ true → (bad_octet o || (36 == o)) ≡ false
  by true h = grind (arith, nat_tests)
  by false h = grind (arith, nat_tests)

-- 2. A symbol and the mark behind it.

pub data Marked (p : Place) (m : Mark) (Names : Content → Type 0) : List Placed → Type 0 where
  marked : (t mark : Placed) (said : Content) → Says p t said → Names said → Says p mark (Mark' m) → Marked p m Names (t ∷ mark ∷ [])

symbol_marked : (c : List Slot) (p : Place) (m : Mark) (s : Option (List ℕ)) (before : ℕ) (rest : List ℕ) → IsText s → EndsWords (mark_spelling m ++ rest)
    → MarkStands p true m → MarkEnds m rest
    → Written (Marked p m (λ said. IsSymbol c said s)) before (symbol_text s ++ mark_spelling m) rest
symbol_marked c p m s before rest t a stands ends =
    let h = symbol_spelled c p s (mark_spelling m ++ rest) t a in
    let w = symbol_text s in
    let symbol = placed p before w h.token.kind h.token.octets in
    let k = mark_written p m (before + length w) rest ends in
    record {
      first = symbol;
      others = k.token ∷ [];
      after = false;
      lexes = λ colon. both_lex colon before w (mark_spelling m) rest (symbol ∷ []) (k.token ∷ []) true false
          (subst (λ (b : Bool). LexesTo colon before (w ++ (mark_spelling m ++ rest)) (symbol ∷ []) b (before + length w) (mark_spelling m ++ rest)) h.takes
          (token_lexes p colon before w (mark_spelling m ++ rest) h.token.kind h.token.octets (h.token.lexeme colon)))
          (k.lexes true stands);
      short = (h.token.short, (k.short, tt));
      is = marked symbol k.token h.said (record { place = refl; body = h.token.body }) h.is k.is;
    }

note_written : (c : List Slot) (p : Place) (s : Option (List ℕ)) (before : ℕ) (rest : List ℕ) → IsText s
    → Written (Marked p Mark.Colons (λ said. IsSymbol c said s)) before (symbol_text s ++ codes "::") rest
note_written c p s before rest t = symbol_marked c p Mark.Colons s before rest t (record { word = refl; dot = refl; quote = refl }) refl tt

-- 3. Annotations before a payload.

abbrev IsPlain : List Slot → Place → Payload → List Placed → Type 0
IsPlain c p x ts = Plain c p ts x

abbrev MeansBehind : List Slot → Place → List Placed → List (Option (List ℕ)) → Payload → List Placed → Type 0
MeansBehind c p us ss x ts = Means c p (us ++ ts) (annotated ss x)

with_note : (c : List Slot) (p : Place) (us ts : List Placed) (ss : List (Option (List ℕ))) (s : Option (List ℕ)) → Annotations c p us ss
    → Marked p Mark.Colons (λ said. IsSymbol c said s) ts → Annotations c p (us ++ ts) (ss ++ s ∷ [])
with_note c p us _ ss s h (marked t mark said a b d) = one_annotation us ss t mark said s h a b d

behind_notes : (c : List Slot) (p : Place) (us : List Placed) (done ss : List (Option (List ℕ))) (x : Payload) (w : List ℕ) (before : ℕ) (rest : List ℕ)
    → Annotations c p us done → AreTexts ss → ((at : ℕ) → Written (IsPlain c p x) at w rest)
    → Written (MeansBehind c p us (done ++ ss) x) before (notes_text ss ++ w) rest
behind_notes c p us done [] x w before rest h t k =
    let now = k before in
    rw (append-nil done) (written_as _ _ before w rest now (means p us (tokens now) done x h now.is))
behind_notes c p us done (s ∷ ss) x w before rest h t k =
    let note = symbol_text s ++ codes "::" in
    let more = notes_text ss ++ w in
    let one = note_written c p s before (more ++ rest) t.0 in
    let ts = tokens one in
    let tail = behind_notes c p (us ++ ts) (done ++ s ∷ []) ss x w (before + length note) rest (with_note c p us ts done s h one.is) t.1 k in
    let is = rw (append_assoc us ts (tokens tail), append_assoc done (s ∷ []) ss) at tail.is in
    rw (append_assoc note (notes_text ss) w) (both _ _ _ before note more rest one tail is)

-- 4. Scalars.

scalar_written : {c : List Slot} {p : Place} {said : Content} {x : Payload} {at : ℕ} {w rest : List ℕ} → IsScalar c said x → Spelling p w rest said
    → Written (IsPlain c p x) at w rest
scalar_written {c = c} {p = p} {said = said} {x = x} {at = at} {w = w} {rest = rest} h k = let token = one_written p at w rest said k in
    written_as _ _ at w rest token (plain_of (tokens token) token.is)
  where
    plain_of : (ts : List Placed) → One p said ts → Plain c p ts x
    plain_of _ (one t i) = one_token p t said x i h

null_scalar : (c : List Slot) (k : Kind) → IsScalar c (null_said k) (payloads.Null k)
null_scalar c Kind.Null = is_null
null_scalar c x = is_typed_null x

truth_scalar : (c : List Slot) (b : Bool) → IsScalar c (Word (truth_text b)) (payloads.Truth b)
truth_scalar c false = is_false
truth_scalar c true = is_true

symbol_written : (c : List Slot) (p : Place) (s : Option (List ℕ)) {at : ℕ} (rest : List ℕ) → IsText s → EndsWords rest
    → Written (IsPlain c p (payloads.Symbol s)) at (symbol_text s) rest
symbol_written c p s rest t a = let h = symbol_spelled c p s rest t a in scalar_written (is_symbol h.said s h.is) h.token

-- 5. What ends a value.

close_stops : (by close : ℕ) (r : List ℕ) → EndsNumbers (by ∷ []) → EndsNumbers (close ∷ []) → (ws : List (List ℕ))
    → EndsNumbers ((flat_map (λ (x : List ℕ). by ∷ x) ws ++ close ∷ []) ++ r)
close_stops by close r a b [] = record { apart = record { word = b.apart.word; dot = b.apart.dot; quote = b.apart.quote }; stop = b.stop }
close_stops by close r a b (w ∷ ws) = record { apart = record { word = a.apart.word; dot = a.apart.dot; quote = a.apart.quote }; stop = a.stop }

-- an octet that ends numbers and words
stops : (o : ℕ) (r : List ℕ) → (is_stop o && not (is_word_octet o || ((o == 46) || (o == 39)))) ≡ true → EndsNumbers (o ∷ r)
stops o r h = record {
  apart = record { word = grind (arith, nat_tests, h); dot = grind (arith, nat_tests, h); quote = grind (arith, nat_tests, h) };
  stop = grind (arith, nat_tests, h);
}

-- the end of the octets ends numbers
pub nothing_stops : EndsNumbers []
nothing_stops = record { apart = record { word = refl; dot = refl; quote = refl }; stop = tt }

-- a line feed ends numbers
pub line_stops : (r : List ℕ) → EndsNumbers (10 ∷ r)
line_stops r = record { apart = record { word = refl; dot = refl; quote = refl }; stop = refl }

-- 6. The contents of lists, s-expressions and structs, up to the mark that closes them.

pub data ClosedList (c : List Slot) : List Placed → List Value → Type 0 where
  closed_list : (ts : List Placed) (vs : List Value) (more : Bool) (close : Placed) → Elements c ts vs more → Says Place.List close (Mark' Mark.ListClose)
      → ClosedList c (ts ++ close ∷ []) vs

pub data ClosedSexp (c : List Slot) : List Placed → List Value → Type 0 where
  closed_sexp : (ts : List Placed) (vs : List Value) (close : Placed) → Row c ts vs → Says Place.Sexp close (Mark' Mark.SexpClose)
      → ClosedSexp c (ts ++ close ∷ []) vs

pub data ClosedFields (c : List Slot) : List Placed → List Field → Type 0 where
  closed_fields : (ts : List Placed) (ms : List Field) (more : Bool) (close : Placed) → Members c ts ms more
      → Says (close_place more) close (Mark' Mark.FieldsClose) → ClosedFields c (ts ++ close ∷ []) ms

list_plain : (c : List Slot) (p : Place) (ts us : List Placed) (vs : List Value) → One p (Mark' Mark.ListOpen) ts → ClosedList c us vs
    → Plain c p (ts ++ us) (payloads.List vs)
list_plain c p _ _ _ (one t h) (closed_list us vs more close i k) = is_list p t close us vs more h i k

sexp_plain : (c : List Slot) (p : Place) (ts us : List Placed) (vs : List Value) → One p (Mark' Mark.SexpOpen) ts → ClosedSexp c us vs
    → Plain c p (ts ++ us) (payloads.Sexp vs)
sexp_plain c p _ _ _ (one t h) (closed_sexp us vs close i k) = is_sexp p t close us vs h i k

struct_plain : (c : List Slot) (p : Place) (ts us : List Placed) (ms : List Field) → One p (Mark' Mark.FieldsOpen) ts → ClosedFields c us ms
    → Plain c p (ts ++ us) (payloads.Fields ms)
struct_plain c p _ _ _ (one t h) (closed_fields us ms more close i k) = is_struct p t close us ms more h i k

-- a name, a colon and a value
pub data OneField (c : List Slot) : List Placed → Field → Type 0 where
  one_field : (ns us : List Placed) (colon : Placed) (s : Option (List ℕ)) (v : Value) → IsName c ns s → Says Place.Name colon (Mark' Mark.Colon)
      → Means c Place.FieldValue us v → OneField c (ns ++ colon ∷ us) (field_of s v)

with_field : (c : List Slot) (ts us : List Placed) (ms : List Field) (m : Field) → Members c ts ms true → OneField c us m
    → Members c (ts ++ us) (ms ++ m ∷ []) false
with_field c ts _ ms _ i (one_field ns us colon s v n k h) = field ts ns us colon ms s v i n k h

field_tokens : (c : List Slot) (s : Option (List ℕ)) (v : Value) (ts us : List Placed) → Marked Place.Name Mark.Colon (λ said. IsSymbol c said s) ts
    → Means c Place.FieldValue us v → OneField c (ts ++ us) (field_of s v)
field_tokens c s v _ us (marked t mark said a b d) h = one_field (t ∷ []) us mark s v (by_symbol t said s a b) d h

-- 7. Values.

number_written : (c : List Slot) (p : Place) (k : Number) {x : Payload} {at : ℕ} (rest : List ℕ) → IsScalar c (Number' k) x → is_name p ≡ false
    → ReadsNumber (number_text k) (Ok k) → EndsNumbers rest → Written (IsPlain c p x) at (number_text k) rest
number_written c p k rest h n r s = scalar_written h (number_spelled p k rest n r s)

-- no value's text begins with `:`
numeric_no_colon : (n : Number) (r : List ℕ) → ReadsNumber (number_text n) (Ok n) → starts_badly (number_text n ++ r) ≡ false
numeric_no_colon n r h = number_no_colon (number_text n) r (numeric_run (number_text n) n h).begun

null_no_colon : (k : Kind) (r : List ℕ) → starts_badly (null_text k ++ r) ≡ false
null_no_colon Kind.Null r = refl
null_no_colon _ r = refl

truth_no_colon : (b : Bool) (r : List ℕ) → starts_badly (truth_text b ++ r) ≡ false
truth_no_colon false r = refl
truth_no_colon true r = refl

symbol_no_colon : (s : Option (List ℕ)) (r : List ℕ) → starts_badly (symbol_text s ++ r) ≡ false
unfolding symbol_text
symbol_no_colon None r = refl
symbol_no_colon (Some w) r = by (is_unquoted w) refl where
  by : (b : Bool) → is_unquoted w ≡ b → starts_badly (known_text w ++ r) ≡ false
  by true h = rw h (identifier_start w r (and_parts _ _ h).0)
  by false h = rw h (plain_start 39 ((escaped_text of_symbol w ++ 39 ∷ []) ++ r) refl)

payload_no_colon : (x : Payload) → KeptPayload x → (r : List ℕ) → starts_badly (layer_text (views.out-Payload x) ++ r) ≡ false
payload_no_colon _ (kept_null k) r = rw (views.outs-Null k) (null_no_colon k r)
payload_no_colon _ (kept_truth b) r = rw (views.outs-Truth b) (truth_no_colon b r)
payload_no_colon _ (kept_int z h) r = rw (views.outs-Int z) (numeric_no_colon (Number.Int z) r (int_reads z h))
payload_no_colon _ (kept_decimal d h) r = rw (views.outs-Decimal d) (numeric_no_colon (Number.Decimal d) r (decimal_reads d h))
payload_no_colon _ (kept_timestamp t h) r = rw (views.outs-Timestamp t) (numeric_no_colon (Number.Timestamp t) r (timestamp_reads t h))
payload_no_colon _ (kept_symbol s t) r = rw (views.outs-Symbol s) (symbol_no_colon s r)
payload_no_colon _ (kept_string text u) r = rw (views.outs-Str text) (plain_start 34 ((escaped_text of_string text ++ 34 ∷ []) ++ r) refl)
payload_no_colon _ (kept_clob body h) r = rw (views.outs-Clob body) refl
payload_no_colon _ (kept_blob body h) r = rw (views.outs-Blob body) refl
payload_no_colon _ (kept_list vs k) r = rw (views.outs-List vs) (plain_start 91 ((separated (codes ",") (map value_text vs) ++ 93 ∷ []) ++ r) refl)
payload_no_colon _ (kept_sexp vs k) r = rw (views.outs-Sexp vs) (plain_start 40 ((separated (codes " ") (map value_text vs) ++ 41 ∷ []) ++ r) refl)
payload_no_colon _ (kept_fields ms k) r =
    rw (views.outs-Fields ms) (plain_start 123 ((separated (codes ",") (map field_text ms) ++ 125 ∷ []) ++ r) refl)

notes_no_colon : (ss : List (Option (List ℕ))) (w r : List ℕ) → starts_badly (w ++ r) ≡ false → starts_badly ((notes_text ss ++ w) ++ r) ≡ false
notes_no_colon [] w r h = h
notes_no_colon (s ∷ ss) w r h = simp append_assoc (symbol_no_colon s _)

-- what is written of a value begins with no colon, blank or comment, and not with `$i`
pub value_no_colon : (v : Value) → IsKept v → (r : List ℕ) → starts_badly (value_text v ++ r) ≡ false
value_no_colon _ (kept ss x t k) r = rw (text-out (annotated ss x)) (notes_no_colon ss (layer_text (views.out-Payload x)) r (payload_no_colon x k r))

-- a struct does not open like a lob
fields_no_brace : (ms : List Field) (r : List ℕ) → begins (λ o. o == 123) ((separated (codes ",") (map field_text ms) ++ 125 ∷ []) ++ r) ≡ false
fields_no_brace [] r = refl
fields_no_brace (m ∷ ms) r =
    let more = 58 ∷ (value_text m.value ++ (flat_map (λ (x : List ℕ). 44 ∷ x) (map field_text ms) ++ 125 ∷ r)) in
    simp append_assoc (first_no_brace (symbol_text m.name ++ more) (symbol_begins m.name more))

-- behind a comma or a space
abbrev tails : ℕ → ℕ → List (List ℕ) → List ℕ
tails by close ws = flat_map (λ (x : List ℕ). by ∷ x) ws ++ close ∷ []

field_by : (c : List Slot) (s : Option (List ℕ)) (v : Value) → IsText s → IsKept v → (at : ℕ) (rest : List ℕ)
    → ((here : ℕ) → Written (λ ts. Means c Place.FieldValue ts v) here (value_text v) rest)
    → Written (λ ts. OneField c ts (field_of s v)) at (named_text s (value_text v)) rest
field_by c s v t k at rest written =
    let w = value_text v in
    let name = symbol_text s ++ codes ":" in
    let h = symbol_marked c Place.Name Mark.Colon s at (w ++ rest) t (record { word = refl; dot = refl; quote = refl }) refl
    (no_colon_start (w ++ rest) (value_no_colon v k rest)) in
    let x = written (at + length name) in
    rw (← append_assoc (symbol_text s) (codes ":") w) (both _ _ _ at name w rest h x (field_tokens c s v (tokens h) (tokens x) h.is x.is))

-- 8. One behind the other, with commas or spaces between, up to the mark that closes them.

-- each of these is written so
abbrev EachWritten : {X : Type 0} → (X → List ℕ) → (X → List Placed → Type 0) → List X → Type 0
EachWritten text Is xs = AllByRecursion (λ x. (at : ℕ) (rest : List ℕ) → EndsNumbers rest → Written (Is x) at (text x) rest) xs

-- `Seq` says of tokens that they are so many of them, `Closed` with the mark behind them
module _ {X : Type 0} (text : X → List ℕ) (by close : ℕ) (Is : X → List Placed → Type 0) (Seq Closed : List Placed → List X → Type 0)
    (stops : EndsNumbers (by ∷ [])) (ends : EndsNumbers (close ∷ []))
    (first : (x : X) (ts : List Placed) (t : Placed) (others : List Placed) → ts ≡ t ∷ others → is_long t ≡ false → Is x ts → Seq ts (x ∷ []))
    (next : (us : List Placed) (done : List X) (x : X) (at : ℕ) (w rest : List ℕ) → Seq us done → Written (Is x) (at + 1) w rest
    → Written (λ ts. Seq (us ++ ts) (done ++ x ∷ [])) at (by ∷ w) rest)
    (closes : (us : List Placed) (done : List X) → Seq us done → (at : ℕ) (rest : List ℕ) → Written (λ ts. Closed (us ++ ts) done) at (close ∷ []) rest)
    (empty : (at : ℕ) (rest : List ℕ) → Written (λ ts. Closed ts []) at (close ∷ []) rest) where
  behind : (us : List Placed) (done xs : List X) → Seq us done → EachWritten text Is xs → (at : ℕ) (rest : List ℕ)
      → Written (λ ts. Closed (us ++ ts) (done ++ xs)) at (tails by close (map text xs)) rest
  behind us done [] i h at rest = rw (append-nil done) (closes us done i at rest)
  behind us done (x ∷ xs) i h at rest =
      let more = tails by close (map text xs) in
      let one = next us done x at (text x) (more ++ rest) i (h.0 (at + 1) (more ++ rest) (close_stops by close rest stops ends (map text xs))) in
      let others = behind (us ++ tokens one) (done ++ x ∷ []) xs one.is h.1 (at + length (by ∷ text x)) rest in
      let is = rw (append_assoc us (tokens one) (tokens others), append_assoc done (x ∷ []) xs) at others.is in
      rw (append_assoc (by ∷ text x) (flat_map (λ (w : List ℕ). by ∷ w) (map text xs)) (close ∷ [])) (both _ _ _ at (by ∷ text x) more rest one others is)

  all_closed : (xs : List X) → EachWritten text Is xs → (at : ℕ) (rest : List ℕ)
      → Written (λ ts. Closed ts xs) at (separated (by ∷ []) (map text xs) ++ close ∷ []) rest
  all_closed [] h at rest = empty at rest
  all_closed (x ∷ xs) h at rest =
      let more = tails by close (map text xs) in
      let one = h.0 at (more ++ rest) (close_stops by close rest stops ends (map text xs)) in
      let others = behind (tokens one) (x ∷ []) xs (first x (tokens one) one.first one.others refl one.short.0 one.is) h.1 (at + length (text x)) rest in
      rw (append_assoc (text x) (flat_map (λ (w : List ℕ). by ∷ w) (map text xs)) (close ∷ [])) (both _ _ _ at (text x) more rest one others others.is)

-- a comma before what is written
behind_comma : (p : Place) {Js Ks : List Placed → Type 0} (at : ℕ) (w rest : List ℕ) (h : Written Js (at + 1) w rest)
    → ((t : Placed) → Says p t (Mark' Mark.Comma) → Ks (t ∷ tokens h)) → Written Ks at (44 ∷ w) rest
behind_comma p at w rest h is =
    let k = mark_written p Mark.Comma at (w ++ rest) tt in
    mark_then p Mark.Comma _ _ at w rest (λ colon. tt) k h (is k.token k.is)

module _ (c : List Slot) where
  -- a closing mark behind what it closes
  close_by : (p : Place) (m : Mark) (Closed : List Placed → Type 0) (us : List Placed) (at : ℕ) (rest : List ℕ) → ((colon : Bool) → MarkStands p colon m)
      → MarkEnds m rest → ((t : Placed) → Says p t (Mark' m) → Closed (us ++ t ∷ [])) → Written (λ ts. Closed (us ++ ts)) at (mark_spelling m) rest
  close_by p m Closed us at rest stands ends is = let k = free_mark p m at rest stands ends in written_as _ _ at _ rest k (by (tokens k) k.is)
    where
      by : (ts : List Placed) → One p (Mark' m) ts → Closed (us ++ ts)
      by _ (one t i) = is t i

  list_closed : (vs : List Value) → EachWritten value_text (λ v ts. Means c Place.List ts v) vs → (at : ℕ) (rest : List ℕ)
      → Written (λ ts. ClosedList c ts vs) at (separated (codes ",") (map value_text vs) ++ 93 ∷ []) rest
  list_closed =
      all_closed value_text 44 93 (λ v ts. Means c Place.List ts v) (λ ts vs. Elements c ts vs false) (ClosedList c) (stops 44 [] refl) (stops 93 [] refl)
      (λ v ts t others e s h. element [] ts [] v no_element h)
      (λ us done v at w rest i h. behind_comma Place.List at w rest h (λ t k.
      rw (append_assoc us (t ∷ []) (tokens h)) at (element (us ++ t ∷ []) (tokens h) done v (comma us done t i k) h.is)))
      (λ us done i at rest. close_by Place.List Mark.ListClose (λ ts. ClosedList c ts done) us at rest (λ colon. refl) tt (λ t k. closed_list us done false t i k))
      (λ at rest. close_by Place.List Mark.ListClose (λ ts. ClosedList c ts []) [] at rest (λ colon. refl) tt (λ t k. closed_list [] [] true t no_element k))

  -- what is no long string goes on in none
  with_item : (ts us : List Placed) (vs : List Value) (v : Value) → Row c ts vs → (t : Placed) (others : List Placed) → us ≡ t ∷ others
      → is_long t ≡ false → Means c Place.Sexp us v → Row c (ts ++ us) (vs ++ v ∷ [])
  with_item ts us vs v i t others e short h = item ts us vs v i h (rw e (and_right (ends_long ts) (is_long t) short))

  sexp_closed : (vs : List Value) → EachWritten value_text (λ v ts. Means c Place.Sexp ts v) vs → (at : ℕ) (rest : List ℕ)
      → Written (λ ts. ClosedSexp c ts vs) at (separated (codes " ") (map value_text vs) ++ 41 ∷ []) rest
  sexp_closed =
      all_closed value_text 32 41 (λ v ts. Means c Place.Sexp ts v) (Row c) (ClosedSexp c) (stops 32 [] refl) (stops 41 [] refl)
      (λ v ts t others e s h. with_item [] ts [] v no_item t others e s h)
      (λ us done v at w rest i h. white_written 32 refl _ at w rest
      (written_as _ _ (at + 1) w rest h (with_item us (tokens h) done v i h.first h.others refl h.short.0 h.is)))
      (λ us done i at rest. close_by Place.Sexp Mark.SexpClose (λ ts. ClosedSexp c ts done) us at rest (λ colon. refl) tt (λ t k. closed_sexp us done t i k))
      (λ at rest. close_by Place.Sexp Mark.SexpClose (λ ts. ClosedSexp c ts []) [] at rest (λ colon. refl) tt (λ t k. closed_sexp [] [] t no_item k))

  fields_closed : (ms : List Field) → EachWritten field_text (λ m ts. OneField c ts m) ms → (at : ℕ) (rest : List ℕ)
      → Written (λ ts. ClosedFields c ts ms) at (separated (codes ",") (map field_text ms) ++ 125 ∷ []) rest
  fields_closed =
      all_closed field_text 44 125 (λ m ts. OneField c ts m) (λ ts ms. Members c ts ms false) (ClosedFields c) (stops 44 [] refl) (stops 125 [] refl)
      (λ m ts t others e s h. with_field c [] ts [] m no_field h)
      (λ us done m at w rest i h. behind_comma Place.FieldValue at w rest h (λ t k.
      rw (append_assoc us (t ∷ []) (tokens h)) at (with_field c (us ++ t ∷ []) (tokens h) done m (field_comma us done t i k) h.is)))
      (λ us done i at rest. close_by Place.FieldValue Mark.FieldsClose (λ ts. ClosedFields c ts done) us at rest (λ colon. tt) tt
      (λ t k. closed_fields us done false t i k))
      (λ at rest. close_by Place.Name Mark.FieldsClose (λ ts. ClosedFields c ts []) [] at rest (λ colon. tt) tt (λ t k. closed_fields [] [] true t no_field k))

  mutual
    -- the text of a value is tokens that mean it, in each place but a field's name, before what ends it
    pub value_written : (v : Value) → IsKept v → (p : Place) → is_name p ≡ false → (at : ℕ) (rest : List ℕ) → EndsNumbers rest
        → Written (λ ts. Means c p ts v) at (value_text v) rest
    value_written _ (kept ss x t k) p n at rest s = rw (text-out (annotated ss x))
        (behind_notes c p [] [] ss x (layer_text (views.out-Payload x)) at rest no_annotation t (λ here. payload_written x k p n here rest s))

    payload_written : (x : Payload) → KeptPayload x → (p : Place) → is_name p ≡ false → (at : ℕ) (rest : List ℕ) → EndsNumbers rest
        → Written (IsPlain c p x) at (layer_text (views.out-Payload x)) rest
    payload_written _ (kept_null k) p n at rest s = rw (views.outs-Null k) (scalar_written (null_scalar c k) (null_spelled p k rest s.apart))
    payload_written _ (kept_truth b) p n at rest s = rw (views.outs-Truth b) (scalar_written (truth_scalar c b) (truth_spelled p b rest s.apart))
    payload_written _ (kept_int z h) p n at rest s = rw (views.outs-Int z) (number_written c p (Number.Int z) rest (is_int z) n (int_reads z h) s)
    payload_written _ (kept_decimal d h) p n at rest s =
        rw (views.outs-Decimal d) (number_written c p (Number.Decimal d) rest (is_decimal d) n (decimal_reads d h) s)
    payload_written _ (kept_timestamp t h) p n at rest s =
        rw (views.outs-Timestamp t) (number_written c p (Number.Timestamp t) rest (is_timestamp t) n (timestamp_reads t h) s)
    payload_written _ (kept_symbol x t) p n at rest s = rw (views.outs-Symbol x) (symbol_written c p x rest t s.apart)
    payload_written _ (kept_string text u) p n at rest s = rw (views.outs-Str text) (scalar_written (is_short text) (string_spelled p text rest u))
    payload_written _ (kept_clob body h) p n at rest s = rw (views.outs-Clob body) (scalar_written (is_clob body) (clob_spelled p body rest n h))
    payload_written _ (kept_blob body h) p n at rest s = rw (views.outs-Blob body) (scalar_written (is_blob body) (blob_spelled p body rest n h))
    payload_written _ (kept_list vs k) p n at rest s =
        let front = free_mark p Mark.ListOpen at _ (λ colon. n) tt in
        let back = list_closed vs (values_each vs k Place.List refl) (at + 1) rest in
        rw (views.outs-List vs) (both _ _ _ at (91 ∷ []) _ rest front back (list_plain c p (tokens front) (tokens back) vs front.is back.is))
    payload_written _ (kept_sexp vs k) p n at rest s =
        let front = free_mark p Mark.SexpOpen at _ (λ colon. n) tt in
        let back = sexp_closed vs (values_each vs k Place.Sexp refl) (at + 1) rest in
        rw (views.outs-Sexp vs) (both _ _ _ at (40 ∷ []) _ rest front back (sexp_plain c p (tokens front) (tokens back) vs front.is back.is))
    payload_written _ (kept_fields ms k) p n at rest s =
        let front = free_mark p Mark.FieldsOpen at _ (λ colon. n) (fields_no_brace ms rest) in
        let back = fields_closed ms (fields_each ms k) (at + 1) rest in
        rw (views.outs-Fields ms) (both _ _ _ at (123 ∷ []) _ rest front back (struct_plain c p (tokens front) (tokens back) ms front.is back.is))

    values_each : (vs : List Value) → KeptItems vs → (p : Place) → is_name p ≡ false → EachWritten value_text (λ v ts. Means c p ts v) vs
    values_each _ no_items p n = tt
    values_each _ (an_item v vs k ks) p n = (value_written v k p n, values_each vs ks p n)

    fields_each : (ms : List Field) → KeptFields ms → EachWritten field_text (λ m ts. OneField c ts m) ms
    fields_each _ no_fields = tt
    fields_each _ (a_field s v ms t k ks) =
        (λ at rest e. field_by c s v t k at rest (λ here. value_written v k Place.FieldValue refl here rest e), fields_each ms ks)
