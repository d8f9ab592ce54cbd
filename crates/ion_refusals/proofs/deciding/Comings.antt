-- The tokens of a row lead the reader to where its last token stands, and with that one it goes on as it does there.
use Rattle.std.proofs.Common.{◌≡◌, ℕ, suc, ◌+◌, ◌≤◌, true, false, ◌&&◌, List, [], ◌∷◌, ◌++◌, length, refl, sym, ap, ◌∙◌, subst, arith, append_assoc, append-nil, Option}
use Rattle.std.proofs.lemmas.Bool.{and_right}
use Rattle.ion_refusals.specs.Names.{Annotations, Bracket, Catalog, Comes, Container, Content, Field, Frame, InField, InList, InSexp, InStruct, IsName, Limits, ListOrSexp, Long, Mark, Mark', Members, Open, Place, Placed, Quoted, Says, Slot, Stage, Symbols, TakesValue, adds_values, at, begins_as_long, bracket_in, ends_long, fresh, list_open, none_open, open_mark, place_of, reads, sexp_open, struct_open}
use Rattle.ion_refusals.specs.Deciding.{named}
use Rattle.ion_refusals.proofs.deciding.Fronts.{Came, SettlesTo, origin, ready_settles, stands_read, struct_settles}
use Rattle.ion_refusals.proofs.deciding.Openings.{containers, levels_same, place_same}
use Rattle.ion_text.specs.laws.reading.Brackets.{no_colons}
use Rattle.ion_text.specs.laws.reading.complete.Complete.{Begins, notes_begin, starts}
use Rattle.ion_text.specs.laws.reading.complete.Pieces.{more_read, pieces_read}
use Rattle.ion_text.specs.laws.reading.complete.Tokens.{neither}
use Rattle.ion_text.specs.laws.reading.sound.Depths.{Deep}
use Rattle.ion_text.specs.laws.reading.sound.StandsOpen.{Around, Items, Opened, ReadyFor, Receives, value_place}
use Rattle.ion_text.specs.laws.showing.tokens.Stays.{name_there, ready_outer, token_behind}

-- What stands open is what the reader would hold.
pub record Framed (l : Limits) (c : List Slot) (ks : List Container) (ts : List Placed) : Type 0 where
  pub held : List Frame
  pub same : containers held ≡ ks
  pub opened : Opened c held ts true
  pub deep : Deep l.depth held

receives : (fs : List Frame) → TakesValue (containers fs) → Receives fs
receives (Frame.Fields ss ms ∷ fs) h = absurd h
receives _ h = tt

module _ (l : Limits) (c : List Slot) where
  -- where a value may come
  pub place_there : (ks : List Container) (fs : List Frame) → containers fs ≡ ks → place_of ks ≡ value_place fs
  place_there ks fs e = rw (← e, place_same fs) refl

  noted_so : (ks : List Container) (fs : List Frame) (notes : List Placed) (ss : Symbols) → containers fs ≡ ks → Annotations c (place_of ks) notes ss
      → Annotations c (value_place fs) notes ss
  noted_so ks fs notes ss e a = rw (place_there ks fs e) at a

  says_so : (ks : List Container) (fs : List Frame) (t : Placed) (d : Content) → containers fs ≡ ks → Says (place_of ks) t d → Says (value_place fs) t d
  says_so ks fs t d e h = rw (place_there ks fs e) at h

  -- as many containers are held as stand open
  pub same_levels : (ks : List Container) (fs : List Frame) → containers fs ≡ ks → length fs ≡ length ks
  same_levels ks fs e = rw (← e, levels_same fs) refl

  shallow : (ks : List Container) (fs : List Frame) (n : ℕ) → containers fs ≡ ks → n + suc (length ks) ≤ l.depth → n + suc (length fs) ≤ l.depth
  shallow ks fs n e h = omega (arith, h, same_levels ks fs e)

  named_frames : (ks : List Container) (ts ns : List Placed) (s : Option (List ℕ)) (colon : Placed) (n : IsName c ns s)
      (k : Says Place.Name colon (Mark' Mark.Colon)) (fs : List Frame) → containers fs ≡ InStruct ∷ ks → Opened c fs ts true → Deep l.depth fs
      → Framed l c (InField ∷ ks) (ts ++ (ns ++ colon ∷ []))
  named_frames ks ts ns s colon n k (Frame.Fields ss ms ∷ fs) e o d =
      let rest : containers fs ≡ ks = cc in
      record {
        held = Frame.Named ss ms s ∷ fs;
        same = rw rest refl;
        opened = record {
          front = o.front;
          notes = o.notes;
          body = o.body;
          name = ns;
          open' = o.open';
          colon = colon;
          whole = simp (o.whole, append_assoc);
          outer = o.outer;
          receives = o.receives;
          noted = o.noted;
          opens = o.opens;
          items = o.items;
          named = n;
          colons = k;
        };
        deep = d;
      }
  named_frames ks ts ns s colon n k (Frame.Items ListOrSexp.List ss vs ∷ fs) e o d = absurd cc
  named_frames ks ts ns s colon n k _ e o d = absurd cc

  -- a container stands open in what does
  around : (bracket : Bracket) (Body : List Placed → Type 0) (ks : List Container) (ts notes us : List Placed) (ss : Symbols) (t : Placed)
      → (f : Framed l c ks ts) → TakesValue ks → Annotations c (place_of ks) notes ss → Says (place_of ks) t (Mark' (open_mark bracket)) → Body us
      → Around c f.held ss (ts ++ (notes ++ t ∷ us)) bracket (λ front. Opened c f.held front true) Body
  around bracket Body ks ts notes us ss t f takes a says items = record {
    front = ts;
    notes = notes;
    body = us;
    open' = t;
    whole = refl;
    outer = f.opened;
    receives = receives f.held (rw f.same takes);
    noted = noted_so ks f.held notes ss f.same a;
    opens = says_so ks f.held t (Mark' (open_mark bracket)) f.same says;
    items = items;
  }

  pub framed : (ks : List Container) (ts : List Placed) → Open l c ks ts → Framed l c ks ts
  framed _ _ none_open = record { held = []; same = refl; opened = refl; deep = tt }
  framed _ _ (list_open ks ts notes us ss t vs o takes a says items deep) = let f = framed ks ts o in record {
    held = Frame.Items ListOrSexp.List ss vs ∷ f.held;
    same = rw f.same refl;
    opened = around Bracket.List (Items c ListOrSexp.List vs true) ks ts notes us ss t f takes a says items;
    deep = (shallow ks f.held _ f.same deep, f.deep);
  }
  framed _ _ (sexp_open ks ts notes us ss t vs o takes a says items deep) = let f = framed ks ts o in record {
    held = Frame.Items ListOrSexp.Sexp ss vs ∷ f.held;
    same = rw f.same refl;
    opened = around Bracket.Sexp (Items c ListOrSexp.Sexp vs true) ks ts notes us ss t f takes a says items;
    deep = (shallow ks f.held _ f.same deep, f.deep);
  }
  framed _ _ (struct_open ks ts notes us ss t ms o takes a says items deep) = let f = framed ks ts o in record {
    held = Frame.Fields ss ms ∷ f.held;
    same = rw f.same refl;
    opened = around Bracket.Fields (λ body. Members c body ms true) ks ts notes us ss t f takes a says items;
    deep = (shallow ks f.held _ f.same deep, f.deep);
  }
  framed _ _ (named ks ts ns s colon o n k) =
      let f = framed (InStruct ∷ ks) ts o in
      named_frames ks ts ns s colon n k f.held f.same f.opened f.deep

-- What a token says that neither is a quoted symbol or a segment nor `::`: a long string before it doesn't go on with it, nor does a word.
pub record JoinsNothing (d : Content) : Type 0 where
  pub long : (w : List ℕ) → d ≡ Long w → ⊥
  pub quoted : (w : List ℕ) → d ≡ Quoted w → ⊥
  pub colons : d ≡ Mark' Mark.Colons → ⊥

module _ (g : Catalog) (l : Limits) where
  -- the first tokens of an open item
  item_begins : (c : List Slot) (fs : List Frame) (ts us front notes body : List Placed) (ss : Symbols) (t : Placed) (d : Content)
      → ts ≡ front ++ (notes ++ t ∷ body) → Annotations c (value_place fs) notes ss → Says (value_place fs) t d → (d ≡ Mark' Mark.Colons → ⊥)
      → ((x : List Placed) → Begins g l (value_place fs) x → Begins g l Place.Top (front ++ x)) → Begins g l Place.Top (ts ++ us)
  item_begins c fs ts us front notes body ss t d cut a says n f =
      simp (cut, append_assoc) (f (notes ++ t ∷ (body ++ us)) (notes_begin g l c (value_place fs) notes (t ∷ (body ++ us)) ss a
      (record { first = t; later = body ++ us; said = d; cut = refl; says = says; no_colons = n })))

  opened_begins : (c : List Slot) (fs : List Frame) (ts us : List Placed) → Opened c fs ts true → Begins g l (value_place fs) us
      → Begins g l Place.Top (ts ++ us)
  opened_begins c [] ts us o b = rw o b
  opened_begins c (Frame.Items listing ss vs ∷ fs) ts us o b = item_begins c fs ts us o.front o.notes o.body ss o.open'
      (Mark' (open_mark (bracket_in listing))) o.whole o.noted o.opens (no_colons (bracket_in listing)) (λ x d. opened_begins c fs o.front x o.outer d)
  opened_begins c (Frame.Fields ss ms ∷ fs) ts us o b = item_begins c fs ts us o.front o.notes o.body ss o.open' (Mark' Mark.FieldsOpen) o.whole o.noted
      o.opens (λ e. cc) (λ x d. opened_begins c fs o.front x o.outer d)
  opened_begins c (Frame.Named ss ms s ∷ fs) ts us o b = item_begins c fs ts us o.front o.notes (o.body ++ (o.name ++ o.colon ∷ [])) ss o.open'
      (Mark' Mark.FieldsOpen) o.whole o.noted o.opens (λ e. cc) (λ x d. opened_begins c fs o.front x o.outer d)

  -- behind a long string none that isn't open stands
  stays_apart : (front item : List Placed) (t : Placed) (d : Content) (more : List Placed) (p : Place) → (ends_long front && begins_as_long item) ≡ false
      → Says p t d → JoinsNothing d → (ends_long front && begins_as_long (item ++ t ∷ more)) ≡ false
  stays_apart front [] t d more p h says a = and_right (ends_long front) (begins_as_long (t ∷ more))
      (neither true t.lexeme.start t.lexeme.end t.lexeme.kind t.lexeme.octets d a.long a.quoted says.body)
  stays_apart front (x ∷ item) t d more p h says a = h

  module _ (c : List Slot) (ks : List Container) (said : Content) (ts : List Placed) (h : Comes g l c ks said ts) where
    -- the octets of the item that stands open
    abbrev pub item : List Placed
    item = h.item ++ h.notes

    -- the tokens before the one that comes
    abbrev pub before : List Placed
    before = h.front ++ item

    -- the tokens are those before the one that comes, and then this one
    pub cut : ts ≡ before ++ h.token ∷ []
    cut = rw (append_assoc h.front item (h.token ∷ [])) h.parts

    -- what the reader would hold of the item that stands open
    pub f : Framed l c ks h.item
    f = framed l c ks h.item h.open'

    -- where a value may come
    module _ (takes : TakesValue ks) where
      -- the token comes in the place of a value behind what is held
      pub here : place_of ks ≡ value_place f.held
      here = place_there l c ks f.held f.same

      noted : Annotations c (value_place f.held) h.notes h.symbols
      noted = noted_so l c ks f.held h.notes h.symbols f.same h.noted

      ready : ReadyFor c f.held h.symbols item
      ready = record {
        front = h.item;
        notes = h.notes;
        whole = refl;
        outer = f.opened;
        receives = receives f.held (rw f.same takes);
        noted = noted;
      }

      -- the tokens before it lead the reader to the place in which it comes
      pub came : Came g l before (place_of ks)
      came = rw here (stands_read g l c h.front h.values f.held h.symbols Stage.Ready item h.pieces f.deep ready h.apart)

      -- behind the tokens before it the reader settles to where a value may come
      pub settles : (s : ℕ) × SettlesTo g l before (at s c f.held h.symbols Stage.Ready)
      settles = ready_settles g l c h.front h.values f.held h.symbols item h.pieces f.deep ready h.apart

      -- A token that comes there is read there.
      pub go_on : (t : Placed) (d : Content) (more : List Placed) → Says (place_of ks) t d → JoinsNothing d → (s : ℕ)
          × (reads g l (origin g l) (before ++ t ∷ more) ≡ adds_values h.values (reads g l (at s c f.held h.symbols Stage.Ready) (t ∷ more)))
      unfolding ready
      go_on t d more says a =
          let says' = says_so l c ks f.held t d f.same says in
          let first = opened_begins c f.held h.item (h.notes ++ t ∷ more) f.opened
          (notes_begin g l c (value_place f.held) h.notes (t ∷ more) h.symbols noted
          (record { first = t; later = more; said = d; cut = refl; says = says'; no_colons = a.colons })) in
          let join = append_assoc h.item h.notes (t ∷ more) in (
            starts g l (starts g l 0 [] h.item) f.held h.notes,
            rw (append_assoc h.front item (t ∷ more)) (more_read g l h.front (item ++ t ∷ more) h.values c (pieces_read g l h.front h.values c h.pieces)
                (rw join first) (stays_apart h.front item t d more (place_of ks) h.apart says a) ∙ ap (adds_values h.values) (rw join
                (token_behind g l c f.held h.item f.opened (ready_outer g l c f.held h.symbols item f.deep ready) h.notes h.symbols noted t d more says' a.colons a.long))),
          )

  -- where a name may come
  pub record Struct (c : List Slot) (ts : List Placed) : Type 0 where
    pub notes : Symbols
    pub fields : List Field
    pub outer : List Frame
    pub opened : Opened c (Frame.Fields notes fields ∷ outer) ts true
    pub deep : Deep l.depth (Frame.Fields notes fields ∷ outer)

  struct_of : (c : List Slot) (ks : List Container) (ts : List Placed) (fs : List Frame) → containers fs ≡ InStruct ∷ ks → Opened c fs ts true → Deep l.depth fs
      → Struct c ts
  struct_of c ks ts (Frame.Fields ss ms ∷ fs) e o d = record { notes = ss; fields = ms; outer = fs; opened = o; deep = d }
  struct_of c ks ts (Frame.Items ListOrSexp.List ss vs ∷ fs) e o d = absurd cc
  struct_of c ks ts _ e o d = absurd cc

  module _ (c : List Slot) (ks : List Container) (said : Content) (ts : List Placed) (h : Comes g l c (InStruct ∷ ks) said ts) where
    -- where a name comes next, the innermost of what the reader would hold is a struct
    pub struct : Struct c h.item
    struct = let f = framed l c (InStruct ∷ ks) h.item h.open' in struct_of c ks h.item f.held f.same f.opened f.deep

    bare : h.item ++ h.notes ≡ h.item
    bare = rw h.may (append-nil h.item)

    -- the tokens before the name
    abbrev pub up_to : List Placed
    up_to = h.front ++ h.item

    -- the tokens are those before the name, and then the name
    pub cut_name : ts ≡ up_to ++ h.token ∷ []
    cut_name = rw (append_assoc h.front h.item (h.token ∷ [])) (rw bare at h.parts)

    apart : (ends_long h.front && begins_as_long h.item) ≡ false
    apart = rw bare at h.apart

    -- the tokens before the name lead the reader to the place of names
    pub came_name : Came g l up_to Place.Name
    came_name = stands_read g l c h.front h.values (Frame.Fields struct.notes struct.fields ∷ struct.outer) [] Stage.Name h.item h.pieces struct.deep
        (struct.opened, tt) apart

    -- behind the tokens before the name the reader settles to where a name may come
    pub settles_name : (s : ℕ) × SettlesTo g l up_to (at s c (Frame.Fields struct.notes struct.fields ∷ struct.outer) [] Stage.Name)
    settles_name = struct_settles g l c h.front h.values struct.notes struct.fields struct.outer h.item true h.pieces struct.deep struct.opened apart

    -- whatever token comes in place of the name is read as where a name may come
    pub go_on_name : (t : Placed) (d : Content) → Says Place.Name t d → JoinsNothing d → (s : ℕ)
        × (reads g l (origin g l) (up_to ++ t ∷ []) ≡ adds_values h.values
        (reads g l (at s c (Frame.Fields struct.notes struct.fields ∷ struct.outer) [] Stage.Name) (t ∷ [])))
    go_on_name t d says a =
        let b : Begins g l Place.Name (t ∷ []) = record { first = t; later = []; said = d; cut = refl; says = says; no_colons = a.colons } in
        let first = opened_begins c (Frame.Fields struct.notes struct.fields ∷ struct.outer) h.item (t ∷ []) struct.opened b in (
          starts g l 0 [] h.item,
          rw (append_assoc h.front h.item (t ∷ [])) (more_read g l h.front (h.item ++ t ∷ []) h.values c (pieces_read g l h.front h.values c h.pieces) first
              (stays_apart h.front h.item t d [] Place.Name apart says a)
              ∙ ap (adds_values h.values) (name_there g l c struct.notes struct.fields struct.outer h.item struct.deep struct.opened [] (t ∷ []) b)),
        )
