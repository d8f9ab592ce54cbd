-- Values handed over one by one are the layout of their stream.
use Rattle.std.proofs.Common.{◌≡◌, ℕ, ◌+◌, ◌*◌, ◌/◌, ◌^◌, ◌≤◌, ◌<◌, suc, List, [], ◌∷◌, ◌++◌, length, take, drop, refl, ap, sym, subst, ◌∙◌, arith, append_assoc, append-nil, length-append}
use Rattle.std.specs.Prelude.{codes}
use Rattle.std.specs.Int.{to_le_bytes, w64}
use Rattle.std.specs.List.{All, flat_map}
use Rattle.std.proofs.Math.Seq.{drop-append_seam, take-append_seam}
use Rattle.std.proofs.lemmas.Grind.{flat_map-append}
use Rattle.std.proofs.lemmas.List.Elements.{All-append}
use Rattle.std.proofs.lemmas.Nat.{from_le_bytes-to_le_bytes_8}
use Rattle.ion_visiting.specs.laws.Led.{led_both}
use Rattle.ion_events.specs.Drafts.{IsBlank, IsEmpty, IsHandedOver, IsSpelled, joined, next_place, text_place}
use Rattle.ion_events.specs.Drawing.{Drawn, HandedOver, TextsAre, none, one_more, walk}
use Rattle.ion_events.specs.Entries.{entry_of, octets_of, spelled}
use Rattle.ion_events.specs.Layouts.{LaysStream, Stand, begin, entry_count, finish, lays_one, texts_of}
use Rattle.ion_events.specs.Names.Below.{Led, Value, events_of}
use Rattle.ion_events.specs.laws.Drawn.{drafted, fewer_texts, next_is, stand_both}
use Rattle.ion_events.specs.declared.draft.Draft.{Draft}
use Rattle.ion_events.specs.declared.entry.Entry.{Entry}
use Rattle.ion_events.specs.declared.laid.Laid.{Laid}

-- 1. Entries as octets.

octet_count : (e : Entry) → length (octets_of e) ≡ 16
unfolding octets_of
octet_count e = refl

all_octets : (es : List Entry) → length (spelled es) ≡ 16 * length es
all_octets [] = refl
all_octets (e ∷ es) = length-append (octets_of e) (spelled es) ∙ omega (arith, octet_count e, all_octets es)

-- an entry behind so many octets
one_entry : (front w rest : List ℕ) (i : ℕ) → length front ≡ 16 * i → length w ≡ 16 → take 16 (drop (16 * i) (front ++ (w ++ rest))) ≡ w
one_entry front w rest i h k =
    (λ j. take (sym k j) (drop (sym h j) (front ++ (w ++ rest)))) ∙ ap (take (length w)) (drop-append_seam front (w ++ rest)) ∙ take-append_seam w rest

stand_spelled : (front rest : List ℕ) (i : ℕ) (es : List Entry) → length front ≡ 16 * i → All IsSpelled es → Stand (front ++ (spelled es ++ rest)) i es
stand_spelled front rest i [] h k = tt
stand_spelled front rest i (e ∷ es) h k =
    let o = front ++ ((octets_of e ++ spelled es) ++ rest) in
    let here : o ≡ front ++ (octets_of e ++ (spelled es ++ rest)) = ap (λ x. front ++ x) (append_assoc (octets_of e) (spelled es) rest) in
    let there : o ≡ (front ++ octets_of e) ++ (spelled es ++ rest) = here ∙ sym (append_assoc front (octets_of e) (spelled es ++ rest)) in
    let count : length (front ++ octets_of e) ≡ 16 * (i + 1) = length-append front (octets_of e) ∙ omega (arith, h, octet_count e) in (
      ap (λ x. entry_of (take 16 (drop (16 * i) x))) here ∙ ap entry_of (one_entry front (octets_of e) (spelled es ++ rest) i h (octet_count e))
          ∙ k 0 e (omega arith),
      subst (λ x. Stand x (i + 1) es) (sym there) (stand_spelled (front ++ octets_of e) rest (i + 1) es count (λ j d l. k (suc j) d (omega (arith, l)))),
    )

-- 2. What was handed over.

abbrev blank : List ℕ
blank = codes "pjevent1" ++ to_le_bytes w64 0

record Held (s : List Value) (laid : Laid) (a : Draft) : Type 0 where
  es : List Entry
  entries : laid.entries.items ≡ blank ++ spelled es
  each : All IsSpelled es
  no_entries : a.entries.items ≡ []
  no_texts : a.texts.items ≡ []
  before : a.entries_before ≡ 1 + length es
  texts : length laid.texts.items ≡ a.texts_before
  led : (o : List ℕ) → Stand o 1 es → TextsAre o laid.texts.items → Led (lays_one o) (flat_map events_of s) begin (walk a [])

none_held : (laid : Laid) (a : Draft) → IsEmpty laid → IsBlank a → Held [] laid a
none_held laid a h k = record {
  es = [];
  entries = h.entries ∙ sym (append-nil blank);
  each = λ j d l. absurd (omega (arith, l));
  no_entries = k.entries;
  no_texts = k.texts;
  before = k.entries_before;
  texts = ap length h.texts ∙ sym k.texts_before;
  led = λ o s x.
      let at : 1 ≡ next_place a = omega (arith, k.entries_before, ap length k.entries) in
      let used : 0 ≡ text_place a = omega (arith, k.texts_before, ap length k.texts) in
      λ i. record { at = at i; around = []; used = used i };
}

one_held : (s : List Value) (v : Value) (laid more : Laid) (a b c : Draft) → Held s laid a
    → Drawn laid.texts.items (events_of v) a b 1 → IsHandedOver b laid c more
    → Held (s ++ v ∷ []) more c
one_held s v laid more a b c g d h =
    let own : b.entries.items ≡ d.entry = d.adds.entries ∙ ap (λ x. x ++ d.entry) g.no_entries in
    let at_a : next_place a ≡ 1 + length g.es = omega (arith, g.before, ap length g.no_entries) in
    let at_b : next_place b ≡ next_place a + length d.entry = next_is a b d.entry d.text 1 d.adds in
    let at_c : next_place b ≡ next_place c = omega (arith, h.entries_before, ap length h.no_entries) in
    let used_c : text_place b ≡ text_place c = omega (arith, h.texts_before, ap length h.no_texts) in
    record {
      es = g.es ++ d.entry;
      entries = h.entries ∙ (λ i. g.entries i ++ spelled (own i)) ∙ append_assoc blank (spelled g.es) (spelled d.entry)
          ∙ ap (λ x. blank ++ x) (sym (flat_map-append octets_of g.es d.entry));
      each = All-append IsSpelled g.es d.entry g.each (subst (All IsSpelled) own h.each);
      no_entries = h.no_entries;
      no_texts = h.no_texts;
      before = h.entries_before ∙ omega (arith, at_a, at_b, length-append g.es d.entry);
      texts = ap length h.texts ∙ length-append laid.texts.items b.texts.items ∙ omega (arith, g.texts, d.adds.stays.texts, h.texts_before);
      led = λ o st tx.
          let k = stand_both o 1 g.es d.entry st in
          let all : TextsAre o (laid.texts.items ++ b.texts.items) = subst (TextsAre o) h.texts tx in
          let first = g.led o k.0 (fewer_texts o laid.texts.items b.texts.items all) in
          let next = d.lies o [] (subst (λ i. Stand o i d.entry) (sym at_a) k.1) all in
          let to : walk b [] ≡ walk c [] = λ i. record { at = at_c i; around = []; used = used_c i } in
          let told : flat_map events_of (s ++ v ∷ []) ≡ flat_map events_of s ++ events_of v =
          flat_map-append events_of s (v ∷ []) ∙ ap (λ x. flat_map events_of s ++ x) (append-nil (events_of v)) in
          subst (λ es. Led (lays_one o) es begin (walk c [])) (sym told)
          (led_both (lays_one o) (flat_map events_of s) (events_of v) begin (walk a []) (walk c []) first
          (subst (λ x. Led (lays_one o) (events_of v) (walk a []) x) to next));
    }

held : {s : List Value} {laid : Laid} {a : Draft} → HandedOver s laid a → Held s laid a
held (none laid a h k) = none_held laid a h k
held (one_more s v laid more a b c h l k) = let g = held h in one_held s v laid more a b c g (drafted laid.texts.items v a b g.texts l) k

-- 3. The whole layout.

pub handed_over : (s : List Value) (laid : Laid) (a : Draft) → length laid.entries.items < 2 ^ 64 → HandedOver s laid a → LaysStream s (joined laid)
handed_over s laid a few h =
    let g = held h in
    let n = 1 + length g.es in
    let head = codes "pjevent1" ++ to_le_bytes w64 n in
    let behind = spelled g.es ++ laid.texts.items in
    let o = head ++ behind in
    let sizes : length laid.entries.items ≡ 16 * n =
    ap length g.entries ∙ length-append blank (spelled g.es) ∙ omega (arith, all_octets g.es) in
    let entries : 16 * n ≡ length (head ++ spelled g.es) = omega (arith, length-append head (spelled g.es), all_octets g.es) in
    let is : joined laid ≡ o =
    (λ i. take 8 (g.entries i) ++ (to_le_bytes w64 (sizes i / 16) ++ (drop 16 (g.entries i) ++ laid.texts.items)))
    ∙ ap (λ k. codes "pjevent1" ++ (to_le_bytes w64 k ++ behind)) (let e : 16 * n / 16 ≡ n = omega arith in e) in
    let count : entry_count o ≡ n = from_le_bytes-to_le_bytes_8 n (omega (arith, few, sizes)) in
    let texts : texts_of o ≡ laid.texts.items =
    ap (λ k. drop (16 * k) o) count
    ∙ (λ i. drop (entries i) (sym (append_assoc head (spelled g.es) laid.texts.items) i)) ∙ drop-append_seam (head ++ spelled g.es) laid.texts.items in
    let at : next_place a ≡ entry_count o = let e : next_place a ≡ n = omega (arith, g.before, ap length g.no_entries) in e ∙ sym count in
    let used : text_place a ≡ length (texts_of o) =
    let e : text_place a ≡ length laid.texts.items = omega (arith, g.texts, ap length g.no_texts) in e ∙ sym (ap length texts) in
    let room : 16 * n ≤ length o = omega (arith, length-append head behind, length-append (spelled g.es) laid.texts.items, all_octets g.es) in
    let ends : walk a [] ≡ finish o = λ i. record { at = at i; around = []; used = used i } in
    let there = stand_spelled head laid.texts.items 1 g.es refl g.each in
    let lays : LaysStream s o = record {
      magic = refl;
      room = subst (λ k. 16 * k ≤ length o) (sym count) room;
      led = subst (λ x. Led (lays_one o) (flat_map events_of s) begin x) ends (g.led o there ([], texts ∙ sym (append-nil laid.texts.items)));
    } in
    subst (LaysStream s) (sym is) lays
