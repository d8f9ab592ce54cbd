-- What is found on a tape is a value that is equivalent to the one that lies there.
use Rattle.std.proofs.Common.{◌≡◌, ℕ, ◌+◌, ◌-◌, ◌*◌, ◌<◌, ◌/◌, ◌%◌, ◌^◌, Bool, true, false, cond, List, [], ◌∷◌, ◌++◌, slice_get, count_by, map, mul_assoc, pow-suc, Option, Some, refl, ap, sym, subst, ◌∙◌, arith}
use Rattle.std.proofs.lemmas.Cmp.{lists_equiv}
use Rattle.std.proofs.lemmas.Option.{same_Some}
use lib.Pointwise.{pointwise}
use Rattle.ion_visiting.specs.Names.{Bracket, Entry, Event, Field, Following, Form, Frame, Led, Payload, Role, Tape, Value, annotated, annotation, bare, closes, events_of, field_same, name, number_payload, opens, part, same, symbol_same}
use Rattle.ion_atoms.specs.laws.Tests.{both}
use Rattle.ion_model.specs.laws.Counts.{alike_from, count_by-cons}
use Rattle.ion_model.specs.laws.Equivalence.{field_same-equiv, same-equiv, symbol_same-equiv}
use Rattle.ion_model.specs.laws.Same.{same-payload}
use Rattle.ion_model.proofs.Replacing.{same-lists, same-sexps, structs}
use Rattle.ion_visiting.specs.Following as following
use Rattle.ion_visiting.specs.Following.{Behind, IsField, IsFound, Skips, Steps, behind_payload, follows, is_annotation, no_step, none_skipped, one_skipped, one_step}
use Rattle.ion_visiting.specs.Tapes.{Enters, Holds, Leaves, Tells, Walk, role_event, text_at, text_event, told, walks}
use Rattle.ion_visiting.proofs.Taped.{ends_alike, some_told, walk_tells}
use Rattle.ion_visiting.specs.laws.Trees.{Told, ToldFields, ToldItems, ToldPayload, fields_from, in_one, in_sequence, in_struct, items_from, no_fields, no_items, sequence_bracket, told_by, value_told}

-- 1. Of one place.

abbrev is_note : Event → Bool
is_note (annotation s) = true
is_note _ = false

abbrev is_close : Event → Bool
is_close (closes x) = true
is_close _ = false

-- an entry is an annotation where it tells one
entry_note : (t : Tape) (e : Entry) (x : Event) → told t e ≡ Some x → is_annotation e ≡ is_note x
entry_note t (Entry.Unknown Role.Annotation) x h = ap is_note (same_Some _ x h)
entry_note t (Entry.Short Role.Annotation n l f) x h = ap is_note (same_Some _ x h)
entry_note t (Entry.Long Role.Annotation r) x h = ap is_note (some_told (text_at t r) (λ w. annotation (Some w)) x h).2
entry_note t (Entry.Long z r) x h = ap is_note (some_told (text_at t r) (λ w. role_event z (Some w)) x h).2
entry_note t (Entry.Shared Role.Annotation n) x h = ap is_note (some_told (slice_get t.symbols.items n) annotation x h).2
entry_note t (Entry.Shared z n) x h = ap is_note (some_told (slice_get t.symbols.items n) (role_event z) x h).2
entry_note t (Entry.Text Form.Str r) x h = ap is_note (some_told (text_at t r) (text_event Form.Str) x h).2
entry_note t (Entry.Text z r) x h = ap is_note (some_told (text_at t r) (text_event z) x h).2
entry_note t (Entry.Number n) x h = ap is_note (some_told (slice_get t.numbers.items n) (λ m. part (number_payload m)) x h).2
entry_note t _ x h = ap is_note (same_Some _ x h)

-- an entry that tells a part is one alone
part_alone : (t : Tape) (e : Entry) (p : Payload) (i : ℕ) → told t e ≡ Some (part p) → behind_payload e i ≡ i + 1
part_alone t (Entry.Open x j) p i h = absurd cc
part_alone t _ p i h = refl

-- 2. Which fields are taken, as bits say: the lowest is the first field's.

one_most : (b : Bool) → cond b 1 0 < 2
one_most true = omega arith
one_most false = omega arith

-- how many pass, of those that aren't taken
abbrev left : (Field → Bool) → List Field → ℕ → ℕ
left p [] n = 0
left p (f ∷ fs) n = (cond (p f) 1 0 - n % 2) + left p fs (n / 2)

left_all : (p : Field → Bool) (fs : List Field) → left p fs 0 ≡ count_by p fs
left_all p [] = refl
left_all p (f ∷ fs) = omega (arith, count_by-cons p f fs, left_all p fs)

-- two equivalent fields are the same as another, or neither is
alike_same : (f g m : Field) → field_same same g m ≡ true → field_same same f g ≡ field_same same f m
alike_same f g m h = let e = field_same-equiv same same-equiv in e.symm f g ∙ e.congr g m f h ∙ e.symm m f

module _ (t : Tape) where
  -- 3. Where values end on the tape, and which brackets are around them.

  -- where a value ends, as its front says, the same brackets are around
  abbrev Past : Walk → Walk → Type 0
  Past a b = (b.ends ≡ a.ends) × Behind t a.at b.at

  within_past : (x : Bracket) {a m n b : Walk} → Enters t a x m → n.ends ≡ m.ends → Leaves t n x b → Past a b
  within_past x {a = a} {b = b} o h c =
      let at : o.end ≡ b.at = cc in
      (cc, subst (Behind t a.at) at (following.past_payload a.at (Entry.Open x o.end) o.there refl))

  notes_past : (ss : List (Option (List ℕ))) (a m b : Walk) → Led (walks t) (map annotation ss) a m → Past m b → Past a b
  notes_past [] a m b h k = subst (λ x. Past x b) (sym h) k
  notes_past (s ∷ ss) a m b h k =
      let e = h.1.tells in
      let rest : Past (record { at = a.at + 1; ends = a.ends }) b = subst (λ x. Past x b) h.1.is (notes_past ss h.0 m b h.2 k) in
      (rest.0, following.past_annotation a.at b.at e.entry e.there (entry_note t e.entry (annotation s) e.is) rest.1)

  mutual
    value_past : {v : Value} {a b : Walk} → Told (walks t) v a b → Past a b
    value_past (value_told ss p a m b n h) = notes_past ss a m b n (payload_past h)

    payload_past : {p : Payload} {a b : Walk} → ToldPayload (walks t) p a b → Past a b
    payload_past (in_one p a b _ h) =
        let e = h.tells in
        let at : behind_payload e.entry a.at ≡ b.at = part_alone t e.entry p a.at e.is ∙ cc in
        (cc, subst (Behind t a.at) at (following.past_payload a.at e.entry e.there (entry_note t e.entry (part p) e.is)))
    payload_past (in_sequence l vs a m n b o h c) = within_past (sequence_bracket l) o (items_level h) c
    payload_past (in_struct ms a m n b o h c) = within_past Bracket.Fields o (fields_level h) c

    items_level : {vs : List Value} {a b : Walk} → ToldItems (walks t) vs a b → b.ends ≡ a.ends
    items_level (no_items a) = refl
    items_level (items_from v vs a m b x h) = items_level h ∙ (value_past x).0

    fields_level : {ms : List Field} {a b : Walk} → ToldFields (walks t) ms a b → b.ends ≡ a.ends
    fields_level (no_fields a) = refl
    fields_level (fields_from f fs a n m b i x h) = fields_level h ∙ (value_past x).0 ∙ ap (λ (w : Walk). w.ends) i.is

  -- 4. A struct's fields on the tape, which end where brackets close.

  abbrev Closed : Bracket → ℕ → Type 0
  Closed x i = slice_get t.entries.items i ≡ Some (Entry.Close x)

  -- the fields from a place on, of which something is so
  record Onward (So : List Field → Type 0) (i : ℕ) (z : Walk) : Type 0 where
    fields : List Field
    so : So fields
    walk : Walk
    at : walk.at ≡ i
    lie : ToldFields (walks t) fields walk z

  -- the first of them
  record First (So : List Field → Type 0) (i : ℕ) (z : Walk) : Type 0 where
    field : Field
    others : List Field
    so : So (field ∷ others)
    tells : Tells t i (name field.name)
    from : Walk
    at : from.at ≡ i + 1
    to : Walk
    value : Told (walks t) field.value from to
    lie : ToldFields (walks t) others to z

  the_first : {So : List Field → Type 0} {i : ℕ} {z : Walk} → Onward So i z → Closed Bracket.Fields z.at → (Closed Bracket.Fields i → ⊥) → First So i z
  the_first {So = So} {i = i} {z = z} o close more = by o.so o.at o.lie
    where
      by : {fs : List Field} {x : Walk} → So fs → x.at ≡ i → ToldFields (walks t) fs x z → First So i z
      by so e (no_fields a) = absurd (more (subst (Closed Bracket.Fields) e close))
      by so e (fields_from f fs a n m b x v h) = record {
        field = f;
        others = fs;
        so = so;
        tells = subst (λ i. Tells t i (name f.name)) e x.tells;
        from = n;
        at = ap (λ (w : Walk). w.at) x.is ∙ ap (λ i. i + 1) e;
        to = m;
        value = v;
        lie = h;
      }

  -- behind the first of them, if one is there
  passed : {So To : List Field → Type 0} {i j : ℕ} {z : Walk} → Onward So i z → Closed Bracket.Fields z.at → IsField t i
      → ((k : ℕ) → Behind t (i + 1) k → j ≡ k) → ((f : Field) (fs : List Field) → So (f ∷ fs) → To fs) → Onward To j z
  passed o close i end to =
      let l = the_first o close (λ c. absurd cc) in
      let at = end l.to.at (subst (λ k. Behind t k l.to.at) l.at (value_past l.value).1) in
      record { fields = l.others; so = to l.field l.others l.so; walk = l.to; at = sym at; lie = l.lie }

  -- bits set so many steps on change what is left of all fields as they do for those behind
  abbrev Lower : List Field → ℕ → ℕ → ℕ → List Field → Type 0
  Lower fs n k m gs = (p : Field → Bool) (x y : ℕ) → y ≡ 2 ^ k * x → left p fs (n + y) + left p gs m ≡ left p fs n + left p gs (m + x)

  stepped : {fs : List Field} {g n k h m : ℕ} {x z : Walk} → Steps t g n k h m → ToldFields (walks t) fs x z → x.at ≡ g → Closed Bracket.Fields z.at
      → Onward (Lower fs n k m) h z
  stepped {fs = fs} {x = x} no_step lie e close =
      record { fields = fs; so = λ p x y a. let b : y ≡ x = omega (arith, a) in rw b (omega arith); walk = x; at = e; lie = lie }
  stepped (one_step k g m h s i end) lie e close = passed (stepped s lie e close) close i end (λ f gs so p x y a.
      let half : (m + 2 * x) / 2 ≡ m / 2 + x = omega arith in
      omega (arith, so p (2 * x) y (a ∙ rw (pow-suc 2 k) (mul_assoc (2 ^ k) 2 x)), ap (left p gs) half))

  -- of those that are skipped none is left
  skipped : {fs : List Field} {g n h m : ℕ} {x z : Walk} → Skips t g n h m → ToldFields (walks t) fs x z → x.at ≡ g → Closed Bracket.Fields z.at
      → Onward (λ gs. (p : Field → Bool) → left p fs n ≡ left p gs m) h z
  skipped {fs = fs} {x = x} none_skipped lie e close = record { fields = fs; so = λ p. refl; walk = x; at = e; lie = lie }
  skipped (one_skipped g m h s i odd end) lie e close =
      passed (skipped s lie e close) close i end (λ f gs so p. omega (arith, so p, odd, one_most (p f)))

  -- 5. What a payload begins with.

  abbrev first_event : {S : Type 0} {takes : S → Event → S → Type 0} {p : Payload} {a b : S} → ToldPayload takes p a b → Event
  first_event (in_one p a b _ h) = part p
  first_event (in_sequence l vs a m n b o i c) = opens (sequence_bracket l)
  first_event (in_struct ms a m n b o i c) = opens Bracket.Fields

  -- it is told there, and neither annotates nor closes
  abbrev Begins : ℕ → Event → Type 0
  Begins i e = Tells t i e × (is_note e ≡ false) × (is_close e ≡ false)

  payload_there : {p : Payload} {a b : Walk} (h : ToldPayload (walks t) p a b) → Begins a.at (first_event h)
  payload_there (in_one p a b _ h) = (h.tells, refl, refl)
  payload_there (in_sequence l vs a m n b o i c) = (walk_tells t (opens (sequence_bracket l)) a m o, refl, refl)
  payload_there (in_struct ms a m n b o i c) = (walk_tells t (opens Bracket.Fields) a m o, refl, refl)

  payload_found : {p : Payload} {a b : Following} (h : ToldPayload (follows t) p a b) → Begins a.at (first_event h)
  payload_found (in_one p a b _ h) = (h.tells, refl, refl)
  payload_found (in_sequence l vs a m n b o i c) = (o.tells, refl, refl)
  payload_found (in_struct ms a m n b o i c) = (o.tells, refl, refl)

  -- 6. Both values.

  -- those around, and its own
  abbrev frames : Following → List Frame
  frames a = a.outer.items ++ a.frame ∷ []

  -- something is so, and behind it the search is where the tape is
  record Followed (So : Type 0) (y : Walk) (a b : Following) : Type 0 where
    at : y.at ≡ b.at
    frames : frames b ≡ frames a
    so : So

  notes_followed : {q p : Payload} (us ss : List (Option (List ℕ))) (a m b : Following) (x z y : Walk)
      → Led (follows t) (map annotation us) a m → ToldPayload (follows t) q m b
      → Led (walks t) (map annotation ss) x z → ToldPayload (walks t) p z y → x.at ≡ a.at → Followed (ss ≡ us) z a m
  notes_followed [] [] a m b x z y i h k l e = record { at = cc; frames = cc; so = refl }
  notes_followed [] (s ∷ ss) a m b x z y i h k l e = let f = payload_found h in absurd cc
  notes_followed (u ∷ us) [] a m b x z y i h k l e = let f = payload_there l in absurd cc
  notes_followed (u ∷ us) (s ∷ ss) a m b x z y i h k l e =
      let one : s ≡ u = cc in
      let others = notes_followed us ss i.0 m b k.0 z y i.2 h k.2 l cc in
      record { at = others.at; frames = cc; so = cc }

  -- fields were found, in some order: of those that weren't taken before, as many are the same as any
  record FieldsFollowed (fs ms : List Field) (z : Walk) (a b : Following) : Type 0 where
    at : z.at ≡ b.frame.free
    outer : b.outer.items ≡ a.outer.items
    counts : (f : Field) → count_by (field_same same f) ms ≡ left (field_same same f) fs a.frame.taken

  mutual
    value_followed : {v w : Value} {a b : Following} {x y : Walk} → Told (follows t) w a b → Told (walks t) v x y → x.at ≡ a.at
        → Followed (same v w ≡ true) y a b
    value_followed (value_told us q a m b i h) (value_told ss p x z y k l) e =
        let n = notes_followed us ss a m b x z y i h k l e in
        let r = payload_followed h l n.at in
        let alike = same-payload (annotated us p) (annotated us q) ((lists_equiv symbol_same-equiv).refl us) in
        let notes = ap (λ s. same (annotated s p) (annotated us q)) n.so in
        record { at = r.at; frames = r.frames ∙ n.frames; so = notes ∙ sym alike ∙ same-payload (bare p) (bare q) refl ∙ r.so }

    -- at one place payloads of two kinds would begin with two events
    payload_followed : {p q : Payload} {a b : Following} {x y : Walk} → ToldPayload (follows t) q a b → ToldPayload (walks t) p x y → x.at ≡ a.at
        → Followed (same (bare p) (bare q) ≡ true) y a b
    payload_followed (in_one q a b _ h) (in_one p x y _ k) e =
        let one : p ≡ q = cc in
        record { at = cc; frames = cc; so = ap (λ p. same (bare p) (bare q)) one ∙ same-equiv.refl (bare q) }
    payload_followed (in_sequence true ws a m n b o i c) (in_sequence true vs x z k y u j d) e =
        let f = items_followed i c.there j d.there cc in
        let inside = ends_alike _ _ _ _ f.frames in
        record { at = cc; frames = cc; so = same-lists [] vs ws f.so }
    payload_followed (in_sequence false ws a m n b o i c) (in_sequence false vs x z k y u j d) e =
        let f = items_followed i c.there j d.there cc in
        let inside = ends_alike _ _ _ _ f.frames in
        record { at = cc; frames = cc; so = same-sexps [] vs ws f.so }
    payload_followed (in_struct ms a m n b o i c) (in_struct fs x z k y u j d) e =
        let f = fields_followed i c.there j d.there cc in
        let counts : (g : Field) → count_by (field_same same g) fs ≡ count_by (field_same same g) ms = λ g.
        sym (f.counts g ∙ ap (λ (w : Frame). left (field_same same g) fs w.taken) o.frame ∙ left_all (field_same same g) fs) in
        record { at = cc; frames = cc; so = structs [] fs ms (alike_from (field_same same) fs ms (record { at = counts })) }
    payload_followed (in_struct ms a m n b o i c) (in_sequence true vs x z k y u j d) e = absurd cc
    payload_followed h l e = let there = payload_there l in let found = payload_found h in absurd cc

    items_followed : {vs ws : List Value} {a b : Following} {x y : Walk} {r l : Bracket} → ToldItems (follows t) ws a b → Closed r b.at
        → ToldItems (walks t) vs x y → Closed l y.at → x.at ≡ a.at → Followed (pointwise same vs ws ≡ true) y a b
    items_followed (no_items a) stop (no_items x) end e = record { at = e; frames = refl; so = refl }
    items_followed (no_items a) stop (items_from _ vs x z k (value_told [] p _ y _ l h) j) end e = let f = payload_there h in absurd cc
    items_followed (no_items a) stop (items_from _ vs x z k (value_told (s ∷ ss) p _ y _ l h) j) end e = absurd cc
    items_followed (items_from _ ws a m n (value_told [] q _ b _ l h) i) stop (no_items x) end e = let f = payload_found h in absurd cc
    items_followed (items_from _ ws a m n (value_told (u ∷ us) q _ b _ l h) i) stop (no_items x) end e = absurd cc
    items_followed (items_from w ws a m n h i) stop (items_from v vs x z k g j) end e =
        let one = value_followed h g e in
        let others = items_followed i stop j end one.at in
        record { at = others.at; frames = others.frames ∙ one.frames; so = both _ _ one.so others.so }

    fields_followed : {fs ms : List Field} {a b : Following} {x z : Walk} → ToldFields (follows t) ms a b → Closed Bracket.Fields b.frame.free
        → ToldFields (walks t) fs x z → Closed Bracket.Fields z.at → x.at ≡ a.frame.free → FieldsFollowed fs ms z a b
    fields_followed (no_fields a) stop (no_fields x) close e = record { at = e; outer = refl; counts = λ f. refl }
    fields_followed (no_fields a) stop (fields_from g gs x n m b y v h) close e = absurd cc
    fields_followed (fields_from m ms a n b c i h j) stop lie close e =
        let o = stepped i.seeks.steps lie e close in
        let l = the_first o close (λ c. absurd cc) in
        let named : l.field.name ≡ m.name = cc in
        let k = skipped i.skips lie e close in
        let value = value_followed h l.value cc in
        let back = ends_alike _ _ _ _ value.frames in
        let others = fields_followed j stop k.lie close cc in
        let alike : field_same same l.field m ≡ true = both _ _ (ap (λ s. symbol_same s m.name) named ∙ symbol_same-equiv.refl m.name) value.so in
        record {
          at = others.at;
          outer = cc;
          counts = λ f.
              let p = field_same same f in
              let n = i.seeks.others in
              let half : (n + 1) / 2 ≡ n / 2 = omega (arith, i.seeks.is_free) in
              let bits = l.so p 1 i.bit (omega (arith, i.seeks.is_bit)) in
              let after = ap (λ (w : Frame). left p k.fields w.taken) back.1 in
              let both_count = ap {B = ℕ} (λ b. cond b 1 0) (alike_same f l.field m alike) in
              let here = one_most (p l.field) in
              omega (arith, bits, ap (left p l.others) half, i.seeks.is_free, here, k.so p, after, others.counts f, both_count, count_by-cons p m ms);
        }

-- a value that was found on a tape is equivalent to the one that it holds
pub followed : (t : Tape) (v w : Value) → Holds t v → IsFound t (events_of w) → same v w ≡ true
followed t v w h f = (value_followed t (told_by (follows t) w f.from f.to f.led) (told_by (walks t) v _ _ h) (sym f.begins.at)).so
