-- The promises of a reader of either encoding, from those of both: the first octet chooses.
use Rattle.std.proofs.Common.{◌≡◌, ℕ, List, [], ◌∷◌, ◌++◌, ◌<◌, ◌≤◌, length, None, refl, ap, sym, ◌∙◌, arith, Bool, true, false, cond, ◌==◌, append_assoc, length-append}
use Rattle.ion_docs.specs.Names.{Catalog, Denotes, Format, HasPieces, Limits, OpenAfter, Pieces, Shown, Shows, Value, binary_pieces, binary_rest, chosen, documents, in_binary, in_text, is_binary, system_slots, text_pieces, text_rest}
use Rattle.ion_model.specs.Measures.{nodes}
use Rattle.ion_symtab.specs.laws.Promises.{shown_once}
use Rattle.ion_binary.specs.Grammar as binary
use Rattle.ion_binary.specs.machine.Run as binary_run
use Rattle.ion_binary.specs.laws.reading.Apart as binary_apart
use Rattle.ion_binary.specs.laws.reading.Promises as binary_laws
use Rattle.ion_text.specs.Grammar as text
use Rattle.ion_text.specs.machine.Pieces as text_runs
use Rattle.ion_text.specs.machine.Run as text_run
use Rattle.ion_text.specs.laws.reading.Promises as text_laws
use Rattle.ion_text.specs.laws.reading.Stops as text_stops
use Rattle.ion_text.specs.laws.reading.small.Apart as text_apart
use Rattle.ion_text.specs.laws.reading.small.Small as text_small
use Rattle.ion_text.specs.laws.showing.ended.AtItsEnd as text_at_its_end
use Rattle.ion_text.specs.laws.showing.refused.Refusing as text_refusing
use Rattle.ion_text.specs.laws.showing.tokens.Alone as text_alone
use Rattle.ion_text.specs.laws.showing.tokens.Once as text_once
use Rattle.ion_docs.specs.laws.ByFirstOctet.{Alike, Promised, carried}
use Rattle.ion_text.specs.laws.showing.shown.Given as text_given

differ : {A : Type 0} → (b : Bool) → b ≡ true → b ≡ false → A
differ b h k = let e : true ≡ false = sym h ∙ k in absurd cc

module _ (g : Catalog) (l : Limits) where
  -- 1. A document denotes one stream, and octets show one.
  pub one_document : (u : List ℕ) (s t : List Value) → Denotes g l u s → Denotes g l u t → s ≡ t
  one_document u s t (in_binary h d) (in_binary k e) = binary_laws.one_stream g l u s t d e
  one_document u s t (in_text h d) (in_text k e) = text_laws.one_stream g l u s t d e
  one_document u s t (in_binary h d) (in_text k e) = differ (is_binary u) h k
  one_document u s t (in_text h d) (in_binary k e) = differ (is_binary u) k h

  one_pieces : (front following : List ℕ) (s t : List Value) → Pieces g l front following s → Pieces g l front following t → s ≡ t
  one_pieces front following s t (binary_pieces h p) (binary_pieces k q) = binary_laws.one_whole g l front front s t refl p q
  one_pieces front following s t (text_pieces h p) (text_pieces k q) = text_once.one_whole g l front following s t p q
  one_pieces front following s t (binary_pieces h p) (text_pieces k q) = differ (is_binary (front ++ following)) h k
  one_pieces front following s t (text_pieces h p) (binary_pieces k q) = differ (is_binary (front ++ following)) k h

  -- octets show one list of values
  pub one_shown : (u : List ℕ) (s t : List Value) → Shown (Pieces g l) u s → Shown (Pieces g l) u t → s ≡ t
  one_shown u s t a b = shown_once (Pieces g l) u s t (λ front following p q. one_pieces front following s t p q) a b

  -- 2. Each encoding by itself.
  abbrev in_binary_alone : Format
  in_binary_alone = record { denotes = binary.Document g l; pieces = λ front following s. binary.Whole g l front s; trace = binary_run.trace g l }

  abbrev in_text_alone : Format
  in_text_alone = record { denotes = text.Document g l; pieces = text.Whole g l; trace = text_run.trace g l }

  binary_promised : (u : List ℕ) → Promised in_binary_alone (λ front rest. binary.OpenRest l rest) l.item u (binary_run.trace g l u)
  binary_promised u = record {
    settled = binary_laws.grows g l u;
    exact = binary_laws.exact g l u;
    refused = binary_laws.refused g l u;
    decided = binary_laws.decided g l u;
    shown = binary_laws.shown g l u;
    unfinished = binary_laws.unfinished g l u;
    reasons = binary_laws.reasons g l u;
    small = binary_laws.small g l u;
    no_tables = binary_laws.no_tables g l u;
    ends_values = binary_laws.ends_values g l u;
  }

  text_promised : (u : List ℕ) → Promised in_text_alone (λ front rest. text.OpenRest l rest) l.item u (text_run.trace g l u)
  text_promised u = record {
    settled = text_runs.grows g l u;
    exact = text_laws.exact g l u;
    refused = text_refusing.refuses g l u;
    decided = text_stops.decided g l u;
    shown = text_given.shown g l u;
    unfinished = text_stops.unfinished g l u;
    reasons = text_laws.has_reasons g l u;
    small = text_small.is_small g l u;
    no_tables = text_stops.no_tables g l u;
    ends_values = text_at_its_end.at_its_end g l u;
  }

  -- 3. Of octets that begin with E0, and of those that begin with another.
  abbrev BinaryAlike : ℕ → Type 0
  BinaryAlike first = Alike in_binary_alone (documents g l) (λ front rest. binary.OpenRest l rest) (OpenAfter l) first

  binary_document : (u : List ℕ) (s : List Value) → is_binary u ≡ true → Denotes g l u s → binary.Document g l u s
  binary_document u s h (in_binary k d) = d
  binary_document u s h (in_text k d) = differ (is_binary u) h k

  binary_front : (front following : List ℕ) (s : List Value) → is_binary (front ++ following) ≡ true → Pieces g l front following s → binary.Whole g l front s
  binary_front front following s h (binary_pieces k p) = p
  binary_front front following s h (text_pieces k p) = differ (is_binary (front ++ following)) h k

  binary_alike : (first : ℕ) → (first == 0xE0) ≡ true → BinaryAlike first
  binary_alike first h = record {
    some = (binary.the_marker, [], (system_slots, binary.begins));
    document = λ w s. (in_binary h, binary_document (first ∷ w) s h);
    pieces = λ front following rest s e. (binary_pieces (ap is_binary e ∙ h), binary_front front following s (ap is_binary e ∙ h));
    rests = λ front rest w e. binary_rest (ap is_binary e ∙ h);
    same = λ w. sym (ap (λ b. cond b (binary_run.trace g l (first ∷ w)) (text_run.trace g l (first ∷ w))) h);
    begun = refl;
  }

  abbrev TextAlike : ℕ → Type 0
  TextAlike first = Alike in_text_alone (documents g l) (λ front rest. text.OpenRest l rest) (OpenAfter l) first

  text_document : (u : List ℕ) (s : List Value) → is_binary u ≡ false → Denotes g l u s → text.Document g l u s
  text_document u s h (in_text k d) = d
  text_document u s h (in_binary k d) = differ (is_binary u) k h

  text_front : (front following : List ℕ) (s : List Value) → is_binary (front ++ following) ≡ false → Pieces g l front following s
      → text.Whole g l front following s
  text_front front following s h (text_pieces k p) = p
  text_front front following s h (binary_pieces k p) = differ (is_binary (front ++ following)) k h

  -- no octet at all is a text document
  pub no_octet : Denotes g l [] []
  no_octet = in_text refl ((text_laws.exact g l [] []).0 (record { last = None; ends = refl; values = refl }))

  text_alike : (first : ℕ) → (first == 0xE0) ≡ false → TextAlike first
  text_alike first h = record {
    some = ([], [], text_document [] [] refl no_octet);
    document = λ w s. (in_text h, text_document (first ∷ w) s h);
    pieces = λ front following rest s e. (text_pieces (ap is_binary e ∙ h), text_front front following s (ap is_binary e ∙ h));
    rests = λ front rest w e. text_rest (ap is_binary e ∙ h);
    same = λ w. sym (ap (λ b. cond b (binary_run.trace g l (first ∷ w)) (text_run.trace g l (first ∷ w))) h);
    begun = refl;
  }

  -- 4. Before the first octet: nothing is shown, whichever encoding comes.
  nothing : (following : List ℕ) → (b : Bool) → is_binary following ≡ b → text.Whole g l [] following [] → Pieces g l [] following []
  nothing following true h p = binary_pieces h binary.no_piece
  nothing following false h p = text_pieces h p

  -- the pieces of no octets are of no octets
  no_front : (front rest : List ℕ) → [] ≡ front ++ rest → (front ≡ []) × (rest ≡ [])
  no_front [] [] e = (refl, refl)
  no_front _ _ e = cc

  shows_nothing : Shows (text.Whole g l) (λ front rest. text.OpenRest l rest) [] [] → Shows (Pieces g l) (OpenAfter l) [] []
  shows_nothing h =
      let e = no_front h.shown.front h.shown.open_rest h.shown.parts in
      let p = rw (e.0, e.1) at h.shown.whole in
      record {
        shown = record {
          front = [];
          open_rest = [];
          parts = refl;
          whole = λ following octets. nothing following (is_binary following) refl (p following octets);
          longest = λ v rest t same p. let k : length {A = ℕ} [] ≡ length (v ++ rest) = ap length same in let i = length-append v rest in omega arith;
        };
        rest = text_rest refl (rw e.1 at h.rest);
      }

  promised_nothing : Promised (documents g l) (OpenAfter l) l.item [] (text_run.trace g l [])
  promised_nothing =
      let h = text_promised [] in
      record {
        settled = λ w. record { given = ((chosen g l w).given, refl); refused = λ never. cc };
        exact = λ s. (λ t. in_text refl ((h.exact s).0 t), λ d. (h.exact s).1 (text_document [] s refl d));
        refused = λ r e. absurd cc;
        decided = λ r e. absurd cc;
        shown = λ none. shows_nothing (h.shown none);
        unfinished = h.unfinished;
        reasons = h.reasons;
        small = h.small;
        no_tables = h.no_tables;
        ends_values = λ o last v total later ends given. absurd cc;
      }

  -- 5. So of all octets.
  pub promised : (u : List ℕ) → Promised (documents g l) (OpenAfter l) l.item u (chosen g l u)
  promised [] = promised_nothing
  promised (first ∷ w) = by (first == 0xE0) refl
    where
      by : (b : Bool) → (first == 0xE0) ≡ b → Promised (documents g l) (OpenAfter l) l.item (first ∷ w) (chosen g l (first ∷ w))
      by true h = carried in_binary_alone (documents g l) (λ front rest. binary.OpenRest l rest) (OpenAfter l) first (binary_alike first h) l.item w
          (binary_promised (first ∷ w))
      by false h = carried in_text_alone (documents g l) (λ front rest. text.OpenRest l rest) (OpenAfter l) first (text_alike first h) l.item w
          (text_promised (first ∷ w))

  -- 6. Documents and whole pieces.
  pub document_pieces : (u : List ℕ) (s : List Value) → Denotes g l u s → HasPieces (Pieces g l) (OpenAfter l) u s
  document_pieces u s (in_binary h d) =
      let k = binary_laws.documents_are_pieces g l u s d in
      let first = ap is_binary (sym k.parts) ∙ h in
      record { front = k.front; open_rest = k.open_rest; parts = k.parts; whole = binary_pieces first k.whole; rest = binary_rest first k.rest }
  document_pieces u s (in_text h d) =
      let k = text_alone.document_pieces g l u s d in
      let first = ap is_binary (sym k.parts) ∙ h in
      record { front = k.front; open_rest = k.open_rest; parts = k.parts; whole = text_pieces first k.whole; rest = text_rest first k.rest }

  -- whole pieces that aren't empty are a document by themselves, whatever followed them
  pub whole_document : (u following : List ℕ) (s : List Value) → Pieces g l u following s → 0 < length u → Denotes g l u s
  whole_document [] following s p some = absurd (omega arith)
  whole_document (x ∷ u) following s (binary_pieces h p) some = in_binary h (binary_laws.pieces_are_documents g l (x ∷ u) following s p some)
  whole_document (x ∷ u) following s (text_pieces h p) some = in_text h (text_alone.whole_document g l (x ∷ u) following s p)

  -- 7. Between whole pieces with the values before a value and whole pieces with it stand at least as many octets as it has nodes.
  pub nodes_between : (front span behind : List ℕ) (before : List Value) (v : Value) → Pieces g l front (span ++ behind) before
      → Pieces g l (front ++ span) behind (before ++ v ∷ []) → nodes v ≤ length span
  nodes_between front span behind before v (binary_pieces h p) (binary_pieces k q) = binary_apart.nodes_between g l front span before v p q
  nodes_between front span behind before v (text_pieces h p) (text_pieces k q) = text_apart.nodes_between g l front span behind before v p q
  nodes_between front span behind before v (binary_pieces h p) (text_pieces k q) =
      differ (is_binary (front ++ (span ++ behind))) h (ap is_binary (sym (append_assoc front span behind)) ∙ k)
  nodes_between front span behind before v (text_pieces h p) (binary_pieces k q) =
      differ (is_binary (front ++ (span ++ behind))) (ap is_binary (sym (append_assoc front span behind)) ∙ k) h
