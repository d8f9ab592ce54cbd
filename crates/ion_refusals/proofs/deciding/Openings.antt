-- What the reader of tokens holds of the open item is what stands open.
use Rattle.std.proofs.Common.{◌≡◌, ◌+◌, ◌≤◌, ℕ, suc, List, [], ◌∷◌, ◌++◌, length, true, false, Bool, ◌&&◌, refl, sym, ap, ◌∙◌, subst, arith, append_assoc, append-nil}
use Rattle.ion_refusals.specs.Names.{Annotations, Catalog, Comes, Container, Content, Field, Frame, InField, InList, InSexp, InStruct, Limits, ListOrSexp, Mark, Mark', MayNote, Means, Open, Pieces, Place, Placed, Says, Slot, Symbols, TakesValue, Value, annotated, begins_as_long, close_place, ends_long, is_struct, list_open, means, no_annotation, none_open, place_of, sexp_open, struct_open}
use Rattle.ion_model.specs.declared.value.Payload.TheVariants as payloads
use Rattle.ion_refusals.specs.Deciding.{Ends, named}
use Rattle.ion_text.specs.laws.reading.complete.Complete.{depth-struct}
use Rattle.ion_text.specs.laws.reading.sound.Depths.{Deep}
use Rattle.ion_text.specs.laws.reading.sound.Held.{IsSome, some_more}
use Rattle.ion_text.specs.laws.reading.sound.StandsOpen.{Opened, ReadyFor, Receives, value_place}

abbrev pub container : Frame → Container
container (Frame.Items ListOrSexp.List ss vs) = InList
container (Frame.Items ListOrSexp.Sexp ss vs) = InSexp
container (Frame.Fields ss ms) = InStruct
container (Frame.Named ss ms s) = InField

-- the containers that the reader holds, the innermost first
abbrev pub containers : List Frame → List Container
containers [] = []
containers (f ∷ fs) = container f ∷ containers fs

-- what the reader holds and what stands open have the same place for a value
pub place_same : (fs : List Frame) → value_place fs ≡ place_of (containers fs)
place_same (Frame.Items ListOrSexp.List ss vs ∷ fs) = refl
place_same _ = refl

-- as many containers stand open as the reader holds
pub levels_same : (fs : List Frame) → length (containers fs) ≡ length fs
levels_same [] = refl
levels_same (f ∷ fs) = ap suc (levels_same fs)

-- where the reader holds a container that receives a value, a value may come
pub takes_value : (fs : List Frame) → Receives fs → TakesValue (containers fs)
takes_value (Frame.Fields ss ms ∷ fs) h = absurd h
takes_value (Frame.Items ListOrSexp.List ss vs ∷ fs) h = tt
takes_value _ h = tt

pub may_note : (fs : List Frame) (notes : List Placed) → Receives fs → MayNote (containers fs) notes
may_note (Frame.Fields ss ms ∷ fs) notes h = absurd h
may_note (Frame.Items ListOrSexp.List ss vs ∷ fs) notes h = tt
may_note _ notes h = tt

pub noted_there : (c : List Slot) (fs : List Frame) (notes : List Placed) (ss : Symbols) → Annotations c (value_place fs) notes ss
    → Annotations c (place_of (containers fs)) notes ss
noted_there c fs notes ss h = subst (λ p. Annotations c p notes ss) (place_same fs) h

-- what a token says in the place that the reader looks in, it says in the place of what stands open
pub says_there : (fs : List Frame) (t : Placed) (said : Content) → Says (value_place fs) t said → Says (place_of (containers fs)) t said
says_there fs t said h = subst (λ p. Says p t said) (place_same fs) h

module _ (l : Limits) (c : List Slot) where
  -- one level more
  deeper : (fs : List Frame) (n : ℕ) → n + suc (length fs) ≤ l.depth → n + suc (length (containers fs)) ≤ l.depth
  deeper fs n h = omega (arith, h, levels_same fs)

  -- The open containers of the reader stand open.
  pub opened_open : (fs : List Frame) (ts : List Placed) → Deep l.depth fs → Opened c fs ts true → Open l c (containers fs) ts
  opened_open [] ts d o = subst (Open l c []) (sym o) none_open
  opened_open (Frame.Items ListOrSexp.List ss vs ∷ fs) ts d o =
      subst (Open l c (InList ∷ containers fs)) (sym o.whole)
      (list_open (containers fs) o.front o.notes o.body ss o.open' vs (opened_open fs o.front d.1 o.outer) (takes_value fs o.receives)
      (noted_there c fs o.notes ss o.noted) (says_there fs o.open' (Mark' Mark.ListOpen) o.opens) o.items (deeper fs _ d.0))
  opened_open (Frame.Items ListOrSexp.Sexp ss vs ∷ fs) ts d o =
      subst (Open l c (InSexp ∷ containers fs)) (sym o.whole)
      (sexp_open (containers fs) o.front o.notes o.body ss o.open' vs (opened_open fs o.front d.1 o.outer) (takes_value fs o.receives)
      (noted_there c fs o.notes ss o.noted) (says_there fs o.open' (Mark' Mark.SexpOpen) o.opens) o.items (deeper fs _ d.0))
  opened_open (Frame.Fields ss ms ∷ fs) ts d o =
      subst (Open l c (InStruct ∷ containers fs)) (sym o.whole)
      (struct_open (containers fs) o.front o.notes o.body ss o.open' ms (opened_open fs o.front d.1 o.outer) (takes_value fs o.receives)
      (noted_there c fs o.notes ss o.noted) (says_there fs o.open' (Mark' Mark.FieldsOpen) o.opens) o.items (deeper fs _ d.0))
  opened_open (Frame.Named ss ms s ∷ fs) ts d o =
      let name : List Placed = o.name ++ o.colon ∷ [] in
      let cut : ts ≡ (o.front ++ (o.notes ++ o.open' ∷ o.body)) ++ name =
      o.whole ∙ (ap (λ x. o.front ++ x) (sym (append_assoc o.notes (o.open' ∷ o.body) name)) ∙ sym (append_assoc o.front (o.notes ++ o.open' ∷ o.body) name)) in
      subst (Open l c (InField ∷ containers fs)) (sym cut)
      (named (containers fs) (o.front ++ (o.notes ++ o.open' ∷ o.body)) o.name s o.colon
      (struct_open (containers fs) o.front o.notes o.body ss o.open' ms (opened_open fs o.front d.1 o.outer) (takes_value fs o.receives)
      (noted_there c fs o.notes ss o.noted) (says_there fs o.open' (Mark' Mark.FieldsOpen) o.opens) o.items (deeper fs _ d.0))
      o.named o.colons)

-- the first token stays so
pub begins_so : (a : Bool) (ts us : List Placed) → (a && begins_as_long (ts ++ us)) ≡ false → (a && begins_as_long ts) ≡ false
begins_so true (t ∷ ts) us h = h
begins_so _ _ us h = refl

pub begins_on : (a : Bool) (ts us : List Placed) → IsSome ts → (a && begins_as_long ts) ≡ false → (a && begins_as_long (ts ++ us)) ≡ false
begins_on a (t ∷ ts) us i h = h
begins_on a [] us i h = absurd i

module _ (g : Catalog) (l : Limits) (c : List Slot) (front : List Placed) (vs : List Value) (pieces : Pieces g l front vs c) (t : Placed) (said : Content) where
  -- a token comes where a value may begin
  abbrev pub value_comes : (fs : List Frame) (ss : Symbols) (item : List Placed) → Deep l.depth fs → (ends_long front && begins_as_long item) ≡ false
      → ReadyFor c fs ss item → Says (value_place fs) t said → Comes g l c (containers fs) said (front ++ (item ++ t ∷ []))
  value_comes fs ss item deep apart d h = record {
    front = front;
    item = d.front;
    notes = d.notes;
    token = t;
    values = vs;
    symbols = ss;
    parts = ap (λ x. front ++ (x ++ t ∷ [])) d.whole;
    pieces = pieces;
    open' = opened_open l c fs d.front deep d.outer;
    noted = noted_there c fs d.notes ss d.noted;
    may = may_note fs d.notes d.receives;
    apart = subst (λ x. (ends_long front && begins_as_long x) ≡ false) d.whole apart;
    says = says_there fs t said h;
  }

  -- and where a name may
  pub name_comes : (rs : Symbols) (ms : List Field) (fs : List Frame) (item : List Placed) → Deep l.depth (Frame.Fields rs ms ∷ fs)
      → (ends_long front && begins_as_long item) ≡ false → Opened c (Frame.Fields rs ms ∷ fs) item true → Says Place.Name t said
      → Comes g l c (InStruct ∷ containers fs) said (front ++ (item ++ t ∷ []))
  name_comes rs ms fs item deep apart o h = record {
    front = front;
    item = item;
    notes = [];
    token = t;
    values = vs;
    symbols = [];
    parts = ap (λ x. front ++ (x ++ t ∷ [])) (sym (append-nil item));
    pieces = pieces;
    open' = opened_open l c (Frame.Fields rs ms ∷ fs) item deep o;
    noted = no_annotation;
    may = refl;
    apart = subst (λ x. (ends_long front && begins_as_long x) ≡ false) (sym (append-nil item)) apart;
    says = h;
  }

-- a struct of the top level is closed
pub struct_ends : (g : Catalog) (l : Limits) (c : List Slot) (front : List Placed) (vs : List Value) (ss : Symbols) (ms : List Field) (item : List Placed)
    (more : Bool) (t : Placed) → Pieces g l front vs c → Deep l.depth (Frame.Fields ss ms ∷ []) → (ends_long front && begins_as_long item) ≡ false
    → Opened c (Frame.Fields ss ms ∷ []) item more → Says (close_place more) t (Mark' Mark.FieldsClose)
    → Ends g l c (annotated ss (payloads.Fields ms)) (front ++ (item ++ t ∷ []))
struct_ends g l c front vs ss ms item more t pieces deep apart o h =
    let alone : item ≡ o.notes ++ o.open' ∷ o.body = o.whole ∙ ap (λ x. x ++ (o.notes ++ o.open' ∷ o.body)) o.outer in
    let cut : item ++ t ∷ [] ≡ o.notes ++ (o.open' ∷ (o.body ++ t ∷ [])) = ap (λ x. x ++ t ∷ []) alone ∙ append_assoc o.notes (o.open' ∷ o.body) (t ∷ []) in
    record {
      front = front;
      item = item ++ t ∷ [];
      values = vs;
      parts = refl;
      pieces = pieces;
      deep = omega (arith, deep.0, depth-struct ss ms);
      apart = begins_on (ends_long front) item (t ∷ []) (subst IsSome (sym alone) (some_more o.notes o.body o.open')) apart;
      means =
          subst (λ x. Means c Place.Top x (annotated ss (payloads.Fields ms))) (sym cut)
          (means Place.Top o.notes (o.open' ∷ (o.body ++ t ∷ [])) ss (payloads.Fields ms) o.noted
          (is_struct Place.Top o.open' t o.body ms more o.opens o.items h));
    }
