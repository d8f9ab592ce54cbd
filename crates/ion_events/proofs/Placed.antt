-- Where the texts of symbols lie, and what a visitor does at each event.
use Rattle.std.proofs.Common.{if◌then◌else◌, cond, not, ◌≡◌, ◌≢◌, ℕ, zero, suc, ◌+◌, ◌≤◌, ◌<◌, ◌||◌, ◌⊎◌, inl, inr, Bool, true, false, List, [], ◌∷◌, ◌++◌, length, set, slice_get, Option, None, Some, refl, ap, sym, subst, ◌∙◌, arith, append_assoc, append-nil, length-append}
use Rattle.std.specs.List.{list_any}
use Rattle.std.proofs.Common.{eqb}
use Rattle.std.proofs.lemmas.Bool.Decides.{eqb_tells}
use Rattle.std.proofs.lemmas.Grind.{common_steps}
use Rattle.std.proofs.lemmas.Option.{slice_get_within}
use Rattle.ion_model.specs.Kept.{kept_symbol}
use Rattle.ion_model.specs.Symbols.{IsText, symbol_same}
use Rattle.ion_model.specs.declared.value.Payload.TheVariants as payloads
use Rattle.ion_model.specs.declared.value.Payload.TheViews.{outs-Blob, outs-Clob, outs-Decimal, outs-Int, outs-Null, outs-Str, outs-Symbol, outs-Timestamp, outs-Truth}
use Rattle.ion_names.specs.Among.{IsAmong, among_last, same_is_equal}
use Rattle.ion_names.specs.Ids.{Names, id_of, with_name}
use Rattle.ion_scalar.specs.declared.number.Number.{Number}
use Rattle.ion_visiting.specs.Parts.{number_payload}
use Rattle.ion_events.specs.Drafts.{Adds, Closes, Opens, text_place}
use Rattle.ion_events.specs.Drawing.{Labels, draws_part}
use Rattle.ion_events.specs.Entries.{annotation_code, code_of, label_entry, name_code, null_entry, number_entries, plain, truth_entry}
use Rattle.ion_events.specs.Laying.{ArePlaces, IsBehind, IsFound, IsNamed, IsPut, LiesAmong, PutsAt, Shows, ShowsSymbol, lays_down}
use Rattle.ion_events.specs.Names.Below.{Bracket, KeptPayload, Kind, Layer, Payload, annotation, closes, name, opens, out-Payload, part}
use Rattle.ion_events.specs.laws.Drawn.{adds_both}
use Rattle.ion_events.specs.declared.draft.Draft.{Draft}
use Rattle.ion_events.specs.declared.entry.Entry.{Entry}
use Rattle.ion_events.specs.declared.entry.Place.{Place}
use Rattle.ion_events.specs.declared.laying.Laying.{Laying}

-- 1. Lists by their places.

get_left : {X : Type 0} (xs ys : List X) (i : ℕ) → i < length xs → slice_get (xs ++ ys) i ≡ slice_get xs i
get_left [] ys i h = absurd (omega arith)
get_left (x ∷ xs) ys zero h = refl
get_left (x ∷ xs) ys (suc i) h = get_left xs ys i (omega arith)

get_set : {X : Type 0} (xs : List X) (i : ℕ) (x y : X) → slice_get (set xs i x) i ≡ Some y → x ≡ y
get_set [] i x y h = cc
get_set (z ∷ xs) zero x y h = cc
get_set (z ∷ xs) (suc i) x y h = get_set xs i x y h

get_set_other : {X : Type 0} (xs : List X) (i j : ℕ) (x : X) → i ≢ j → slice_get (set xs i x) j ≡ slice_get xs j
get_set_other [] i j x h = refl
get_set_other (z ∷ xs) zero zero x h = absurd (h refl)
get_set_other (z ∷ xs) zero (suc j) x h = refl
get_set_other (z ∷ xs) (suc i) zero x h = refl
get_set_other (z ∷ xs) (suc i) (suc j) x h = get_set_other xs i j x (λ e. h (ap suc e))

-- nothing is said where None was put behind
none_behind : {X : Type 0} (xs : List (Option X)) (i : ℕ) (x : X) → slice_get (xs ++ None ∷ []) i ≡ Some (Some x) → slice_get xs i ≡ Some (Some x)
none_behind [] zero x h = cc
none_behind [] (suc i) x h = cc
none_behind (y ∷ xs) zero x h = h
none_behind (y ∷ xs) (suc i) x h = none_behind xs i x h

-- 2. Names by their ids.

name_if : (s x : Option (List ℕ)) (rest : Names) (b : Bool) → symbol_same s x ≡ b → (b || list_any (symbol_same s) rest) ≡ true
    → (IsAmong rest s → slice_get rest (id_of rest s) ≡ Some s) → slice_get (x ∷ rest) (cond (not b) (1 + id_of rest s) 0) ≡ Some s
name_if s x rest true e h later = ap Some (sym (same_is_equal s x e))
name_if s x rest false e h later = let n : 1 + id_of rest s ≡ suc (id_of rest s) = omega arith in rw n (later h)

-- a name stands at its id
name_at : (names : Names) (s : Option (List ℕ)) → IsAmong names s → slice_get names (id_of names s) ≡ Some s
name_at [] s h = cc
name_at (x ∷ rest) s h = name_if s x rest (symbol_same s x) refl h (name_at rest s)

among_if : (names : Names) (s : Option (List ℕ)) (b : Bool) → list_any (symbol_same s) names ≡ b → IsAmong (if b then names else names ++ s ∷ []) s
among_if names s true h = h
among_if names s false h = among_last names s

among_with : (names : Names) (s : Option (List ℕ)) → IsAmong (with_name names s) s
among_with names s = among_if names s (list_any (symbol_same s) names) refl

-- with one more name, names are the same or one longer
longer_if : (names : Names) (s : Option (List ℕ)) (b : Bool)
    → (if b then names else names ++ s ∷ [] ≡ names) ⊎ (if b then names else names ++ s ∷ [] ≡ names ++ s ∷ [])
longer_if names s true = inl refl
longer_if names s false = inr refl

longer : (names : Names) (s : Option (List ℕ)) → (with_name names s ≡ names) ⊎ (with_name names s ≡ names ++ s ∷ [])
longer names s = longer_if names s (list_any (symbol_same s) names)

-- 3. Texts that lie among others.

lies_more : (texts more text : List ℕ) (p : Place) → LiesAmong texts text p → LiesAmong (texts ++ more) text p
lies_more texts more text p h = record {
  count = h.count;
  within = grind (arith, common_steps, h.within);
  is = grind (arith, common_steps, h.within, h.is);
}

lies_last : (texts text : List ℕ) (p : Place) → p ≡ record { count = length text; number = length texts } → LiesAmong (texts ++ text) text p
lies_last texts text p h = rw h (record { count = refl; within = grind (arith, common_steps); is = grind (arith, common_steps) })

-- places hold behind more texts
places_more : (texts more : List ℕ) (names : Names) (places : List (Option Place)) → ArePlaces texts names places → ArePlaces (texts ++ more) names places
places_more texts more names places h = record {
  few = h.few;
  each = λ id text p n k. lies_more texts more text p (h.each id text p n k);
}

-- and for one name more
places_named : (texts : List ℕ) (names more : Names) (s : Option (List ℕ)) (old new : List (Option Place)) → ArePlaces texts names old
    → more ≡ with_name names s
    → ((new ≡ old) × (length more ≤ length old)) ⊎ ((new ≡ old ++ None ∷ []) × (length old < length more)) → ArePlaces texts more new
places_named texts names more s old new h e (inl (k, few)) = by_names (longer names s)
  where
    by_names : (with_name names s ≡ names) ⊎ (with_name names s ≡ names ++ s ∷ []) → ArePlaces texts more new
    by_names (inl same) = rw (e, same, k) h
    by_names (inr one) = absurd (omega (arith, few, h.few, ap length (e ∙ one), length-append names (s ∷ [])))
places_named texts names more s old new h e (inr (k, few)) = rw k (record {
  few = omega (arith, few, length-append old (None ∷ []));
  each = λ id text p n g.
      let was = none_behind old id p g in
      let within : id < length names = omega (arith, slice_get_within old id (Some p) was, h.few) in
      h.each id text p (by_names id within (longer names s) ∙ n) was;
})
  where
    by_names : (id : ℕ) → id < length names → (with_name names s ≡ names) ⊎ (with_name names s ≡ names ++ s ∷ []) → slice_get names id ≡ slice_get more id
    by_names id within (inl same) = ap (λ (x : Names). slice_get x id) (sym (e ∙ same))
    by_names id within (inr one) = sym (ap (λ (x : Names). slice_get x id) (e ∙ one) ∙ get_left names (s ∷ []) id within)

-- and where the text of one id was put behind those so far
places_put : (texts text : List ℕ) (names : Names) (places : List (Option Place)) (id : ℕ) (p : Place) → ArePlaces texts names places
    → slice_get names id ≡ Some (Some text) → p ≡ record { count = length text; number = length texts }
    → ArePlaces (texts ++ text) names (set places id (Some p))
places_put texts text names places id p h n e = record {
  few = grind (arith, common_steps, h.few);
  each = λ i t q m g. by_id i t q m g (eqb_tells id i);
}
  where
    by_id : (i : ℕ) (t : List ℕ) (q : Place) → slice_get names i ≡ Some (Some t) → slice_get (set places id (Some p)) i ≡ Some (Some q)
        → ((eqb id i ≡ true) × (id ≡ i)) ⊎ ((eqb id i ≡ false) × (id ≢ i)) → LiesAmong (texts ++ text) t q
    by_id i t q m g (inl (k, same)) =
        let is : p ≡ q = let k : Some p ≡ Some q = get_set places id (Some p) (Some q) (rw (← same) at g) in cc in
        let text_is : text ≡ t = let k : Some (Some text) ≡ Some (Some t) = sym n ∙ ap (slice_get names) same ∙ m in cc in
        rw (← is, ← text_is) (lies_last texts text p e)
    by_id i t q m g (inr (k, other)) = lies_more texts text t q (h.each i t q m (sym (get_set_other places id i (Some p) other) ∙ g))

-- 4. Visitors.

-- of the same symbols and places, with more texts or none
pub behind_more : {S T : Type 0} (before : List ℕ) (a b : Laying S T) (es : List Entry) (text : List ℕ) (n : ℕ) → Adds a.draft b.draft es text n
    → b.names ≡ a.names → b.places.items ≡ a.places.items → IsBehind before a → IsBehind before b
behind_more before a b es text n h names places k = record {
  size = k.size ∙ sym h.stays.texts;
  places =
      let texts : (before ++ a.draft.texts.items) ++ text ≡ before ++ b.draft.texts.items =
      append_assoc before a.draft.texts.items text ∙ ap (λ x. before ++ x) (sym h.texts) in
      rw (names, places, ← texts) (places_more (before ++ a.draft.texts.items) text a.names a.places.items k.places);
}

-- with the same texts
behind_same : {S T : Type 0} (before : List ℕ) (a b : Laying S T) → b.draft.texts_before ≡ a.draft.texts_before → b.draft.texts.items ≡ a.draft.texts.items
    → b.names ≡ a.names → b.places.items ≡ a.places.items → IsBehind before a → IsBehind before b
behind_same before a b same texts names places k = record { size = k.size ∙ sym same; places = rw (texts, names, places) k.places }

-- 5. The place of a text.

-- a symbol that has an id stands there
named_at : {S T : Type 0} (a b : Laying S T) (text : List ℕ) (id : ℕ) → IsNamed a text id b → slice_get b.names id ≡ Some (Some text)
named_at a b text id h =
    let among : IsAmong b.names (Some text) = subst (λ (x : Names). IsAmong x (Some text)) (sym h.names) (among_with a.names (Some text)) in
    ap (slice_get b.names) h.is ∙ name_at b.names (Some text) among

-- and the places are of the symbols
named_behind : {S T : Type 0} (a b : Laying S T) (text : List ℕ) (id : ℕ) (before : List ℕ) → IsNamed a text id b → IsBehind before a → IsBehind before b
named_behind a b text id before h k = record {
  size = k.size ∙ ap (λ (d : Draft). d.texts_before) (sym h.draft);
  places = rw h.draft (places_named (before ++ a.draft.texts.items) a.names b.names (Some text) a.places.items b.places.items k.places h.names h.places);
}

module _ {S T : Type 0} (a b : Laying S T) (text : List ℕ) (p : Place) (id : ℕ) where
  -- one that is known by its id lies there
  pub shows_known : id ≡ id_of a.names (Some text) → with_name a.names (Some text) ≡ a.names → slice_get a.places.items id ≡ Some (Some p) → Shows a text p a
  shows_known is same there before k =
      let among : IsAmong a.names (Some text) = subst (λ (x : Names). IsAmong x (Some text)) same (among_with a.names (Some text)) in
      let named : slice_get a.names id ≡ Some (Some text) = ap (slice_get a.names) is ∙ name_at a.names (Some text) among in
      (k, inr (record { same = refl; there = k.places.each id text p named there }))

  pub shows_found : IsNamed a text id b → slice_get b.places.items id ≡ Some (Some p) → Shows a text p b
  shows_found h there before k =
      let behind = named_behind a b text id before h k in
      let lies : LiesAmong (before ++ b.draft.texts.items) text p = behind.places.each id text p (named_at a b text id h) there in
      (behind, inr (record { same = h.draft; there = subst (λ (d : Draft). LiesAmong (before ++ d.texts.items) text p) h.draft lies }))

  -- one that wasn't laid is put behind the others
  pub shows_put : (m : Laying S T) → IsNamed a text id m → PutsAt m id text p b → Shows a text p b
  shows_put m h w before k = (record { size = behind.size ∙ sym w.adds.stays.texts; places = by_place w.places }, inl was_put)
    where
      behind : IsBehind before m
      behind = named_behind a m text id before h k

      was_put : IsPut a text p b
      was_put =
          let k = subst (λ (d : Draft). Adds d b.draft [] text 0 × (p ≡ record { count = length text; number = text_place d })) h.draft (w.adds, w.is) in
          record { adds = k.0; is = k.1 }

      by_place : (b.places.items ≡ set m.places.items id (Some p)) ⊎ (b.places.items ≡ m.places.items)
          → ArePlaces (before ++ b.draft.texts.items) b.names b.places.items
      by_place (inr same) = (behind_more before m b [] text 0 w.adds w.names same behind).places
      by_place (inl kept) =
          let texts : (before ++ m.draft.texts.items) ++ text ≡ before ++ b.draft.texts.items =
          append_assoc before m.draft.texts.items text ∙ ap (λ x. before ++ x) (sym w.adds.texts) in
          let size : length (before ++ m.draft.texts.items) ≡ text_place m.draft =
          length-append before m.draft.texts.items ∙ ap (λ n. n + length m.draft.texts.items) behind.size in
          rw (w.names, kept, ← texts) (places_put (before ++ m.draft.texts.items) text m.names m.places.items id p behind.places (named_at a m text id h)
          (w.is ∙ (λ i. record { count = length text; number = sym size i })))

-- 6. Events.

module _ {S T : Type 0} (a m b : Laying S T) (s : Option (List ℕ)) (place : Option Place) (code n : ℕ) where
  -- a symbol as an entry, by the place of its text
  pub labeled : ShowsSymbol a s place m → Adds m.draft b.draft (label_entry code place ∷ []) [] n → b.names ≡ m.names → b.places.items ≡ m.places.items
      → (before : List ℕ) → IsBehind before a → Labels before a.draft code s n b.draft × IsBehind before b
  labeled h adds names places before k = by_text s h
    where
      by_text : (s : Option (List ℕ)) → ShowsSymbol a s place m → Labels before a.draft code s n b.draft × IsBehind before b
      by_text None (is, same) =
          let adds' : Adds a.draft b.draft (label_entry code None ∷ []) [] n = rw (is, same) at adds in
          (adds', behind_more before a b _ [] n adds' (names ∙ ap (λ (x : Laying S T). x.names) same) (places ∙ ap (λ (x : Laying S T). x.places.items) same) k)
      by_text (Some text) (p, is, shows) =
          let (behind, found) = shows before k in
          let adds' : Adds m.draft b.draft (plain code p.count p.number ∷ []) [] n = rw is at adds in
          (by_place text p adds' found, behind_more before m b _ [] n adds' names places behind)
        where
          by_place : (text : List ℕ) (p : Place) → Adds m.draft b.draft (plain code p.count p.number ∷ []) [] n
              → IsPut a text p m ⊎ IsFound before a text p m → Labels before a.draft code (Some text) n b.draft
          by_place text p adds (inl put) =
              let both = adds_both a.draft m.draft b.draft [] (plain code p.count p.number ∷ []) text [] 0 n put.adds adds in
              let one : 0 + n ≡ n = omega arith in
              inl (rw (put.is, append-nil text, one) at both)
          by_place text p adds (inr found) = inr (record {
            place = p.number;
            adds = rw (found.same, found.there.count) at adds;
            within = omega (arith, found.there.within, length-append before a.draft.texts.items, k.size);
            is = found.there.is;
          })

-- an annotation, or a name
pub annotated_down : {S T : Type 0} (a b : Laying S T) (s : Option (List ℕ)) → IsText s
    → ((before : List ℕ) → IsBehind before a → Labels before a.draft annotation_code s 0 b.draft × IsBehind before b) → lays_down a (annotation s) b
annotated_down a b s t h before k = let l = h before k in ((t, l.0), l.1)

pub named_down : {S T : Type 0} (a b : Laying S T) (s : Option (List ℕ)) → IsText s
    → ((before : List ℕ) → IsBehind before a → Labels before a.draft name_code s 0 b.draft × IsBehind before b) → lays_down a (name s) b
named_down a b s t h before k = let l = h before k in ((t, l.0), l.1)

module _ {S T : Type 0} (a b : Laying S T) where
  part_down : (p : Payload) (d : Layer) → out-Payload p ≡ d → KeptPayload p
      → ((before : List ℕ) → IsBehind before a → draws_part before a.draft d b.draft × IsBehind before b) → lays_down a (part p) b
  part_down p d e t h before k =
      let l = h before k in
      ((t, subst (λ (x : Layer). draws_part before a.draft x b.draft) (sym e) l.0), l.1)

  -- a symbol
  pub symbol_down : (s : Option (List ℕ)) → IsText s
      → ((before : List ℕ) → IsBehind before a → Labels before a.draft (code_of Kind.Symbol) s 1 b.draft × IsBehind before b)
      → lays_down a (part (payloads.Symbol s)) b
  symbol_down s t h = part_down (payloads.Symbol s) _ (outs-Symbol s) (kept_symbol s t) h

  module _ (names : b.names ≡ a.names) (places : b.places.items ≡ a.places.items) where
    -- what has entries and a text of its own
    adds_down : (p : Payload) (d : Layer) (es : List Entry) (text : List ℕ) → out-Payload p ≡ d → KeptPayload p → Adds a.draft b.draft es text 1
        → ((before : List ℕ) → Adds a.draft b.draft es text 1 → draws_part before a.draft d b.draft) → lays_down a (part p) b
    adds_down p d es text e t adds h =
        part_down p d e t (λ before k. (h before adds, behind_more before a b es text 1 adds names places k))

    -- brackets
    pub opened_down : (x : Bracket) → Opens a.draft b.draft x → lays_down a (opens x) b
    opened_down x h before k = (h, behind_same before a b h.stays.texts h.texts names places k)

    pub closed_down : (x : Bracket) → Closes a.draft b.draft x → lays_down a (closes x) b
    closed_down x h before k = (h, behind_same before a b h.stays.texts h.texts names places k)

    -- a part that is no symbol, and a number
    pub null_down : (k : Kind) → KeptPayload (payloads.Null k) → Adds a.draft b.draft (null_entry k ∷ []) [] 1 → lays_down a (part (payloads.Null k)) b
    null_down k t adds = adds_down _ _ _ _ (outs-Null k) t adds (λ before h. h)

    pub truth_down : (t : Bool) → KeptPayload (payloads.Truth t) → Adds a.draft b.draft (truth_entry t ∷ []) [] 1 → lays_down a (part (payloads.Truth t)) b
    truth_down t kept adds = adds_down _ _ _ _ (outs-Truth t) kept adds (λ before h. h)

    pub string_down : (w : List ℕ) → KeptPayload (payloads.Str w)
        → Adds a.draft b.draft (plain (code_of Kind.Str) (length w) (text_place a.draft) ∷ []) w 1 → lays_down a (part (payloads.Str w)) b
    string_down w t adds = adds_down _ _ _ _ (outs-Str w) t adds (λ before h. h)

    pub clob_down : (w : List ℕ) → KeptPayload (payloads.Clob w)
        → Adds a.draft b.draft (plain (code_of Kind.Clob) (length w) (text_place a.draft) ∷ []) w 1 → lays_down a (part (payloads.Clob w)) b
    clob_down w t adds = adds_down _ _ _ _ (outs-Clob w) t adds (λ before h. h)

    pub blob_down : (w : List ℕ) → KeptPayload (payloads.Blob w)
        → Adds a.draft b.draft (plain (code_of Kind.Blob) (length w) (text_place a.draft) ∷ []) w 1 → lays_down a (part (payloads.Blob w)) b
    blob_down w t adds = adds_down _ _ _ _ (outs-Blob w) t adds (λ before h. h)

    pub number_down : (n : Number) → KeptPayload (number_payload n) → Adds a.draft b.draft (number_entries n) [] 1 → lays_down a (part (number_payload n)) b
    number_down (Number.Int z) t adds = adds_down _ _ _ _ (outs-Int z) t adds (λ before h. h)
    number_down (Number.Decimal d) t adds = adds_down _ _ _ _ (outs-Decimal d) t adds (λ before h. h)
    number_down (Number.Timestamp m) t adds = adds_down _ _ _ _ (outs-Timestamp m) t adds (λ before h. h)
