-- The values of a document are such as the types keep, where the texts of the catalog are UTF-8; so they may be written.
use Rattle.std.proofs.Common.{◌≡◌, ℕ, Bool, true, false, List, [], ◌∷◌, ◌++◌, Option, Some, subst, IsUtf8}
use Rattle.std.proofs.lemmas.Str.{IsUtf8-append}
use Rattle.ion_text.specs.Names.{Annotations, AreKept, AreTexts, Content, Document, Elements, Field, FitsIn, IsKept, IsName, IsScalar, IsSymbol, IsText, KeptFields, KeptItems, KeptPayload, Kind, Limits, Means, Members, NoTables, Payload, Pieces, Place, Placed, Plain, Row, Says, Segments, Slot, Table, Value, begins, by_long, by_short, by_symbol, comma, element, field, field_comma, holds, is_blob, is_clob, is_decimal, is_false, is_id, is_int, is_list, is_null, is_operator, is_short, is_struct, is_symbol, is_table, is_timestamp, is_true, is_typed_null, item, joined, kept, kept_blob, kept_clob, kept_decimal, kept_fields, kept_int, kept_list, kept_null, kept_sexp, kept_string, kept_symbol, kept_timestamp, kept_truth, long_string, marked, means, no_annotation, no_element, no_field, no_fields, no_item, no_items, one_annotation, one_token, segment, text_of, turns}
use Rattle.ion_model.specs.laws.Kept.{fields_last, items_last, kept_last, texts_last}
use Rattle.ion_tokens.specs.laws.TokensKept.{AreLobsKept, IsContentKept, IsLobKept, body_kept, lexes_lobs, lobs_front, lobs_rest}
use Rattle.ion_symtab.specs.laws.ContextTexts.{AreTextSlots, AreTextTables, TextAnswer, next_texts, resolved_text, system_are_texts}
use Rattle.ion_text.specs.Grammar.{is_sexp}
use Rattle.ion_text.specs.laws.writing.RoundTrip.{round_trip}

-- 1. The tokens of octets: what their lobs hold are octets.

said_kept : (p : Place) (said : Content) (t : Placed) → IsLobKept t.lexeme.kind t.lexeme.octets → Says p t said → IsContentKept said
said_kept p said t l h = body_kept t.lexeme.kind t.lexeme.octets said l h.body

-- 2. What tokens mean in a context of UTF-8 texts.

segments_kept : (p : Place) (ts : List Placed) (w : List ℕ) → AreLobsKept ts → Segments p ts w → IsUtf8 w
segments_kept p _ _ l (segment t w h) = said_kept p _ t l.0 h
segments_kept p _ _ l (joined ts v w t h k) = IsUtf8-append v w (segments_kept p ts v (lobs_front ts (t ∷ []) l) h)
    (said_kept p _ t (lobs_rest ts (t ∷ []) l).0 k)

module _ (c : List Slot) (texts : AreTextSlots c) where
  symbol_kept : (said : Content) (s : Option (List ℕ)) → IsContentKept said → IsSymbol c said s → IsText s
  symbol_kept _ _ k (is_id n s e) = resolved_text c n s texts e
  symbol_kept _ _ k _ = k

  name_kept : (ts : List Placed) (s : Option (List ℕ)) → AreLobsKept ts → IsName c ts s → IsText s
  name_kept _ _ l (by_symbol t said s h k) = symbol_kept said s (said_kept _ said t l.0 h) k
  name_kept _ _ l (by_short t w h) = said_kept _ _ t l.0 h
  name_kept _ _ l (by_long ts w h) = segments_kept _ ts w l h

  scalar_kept : (said : Content) (x : Payload) → IsContentKept said → IsScalar c said x → KeptPayload x
  scalar_kept _ _ k is_null = kept_null Kind.Null
  scalar_kept _ _ k (is_typed_null n) = kept_null n
  scalar_kept _ _ k is_true = kept_truth true
  scalar_kept _ _ k is_false = kept_truth false
  scalar_kept _ _ k (is_int z) = kept_int z k.0
  scalar_kept _ _ k (is_decimal d) = kept_decimal d k.0
  scalar_kept _ _ k (is_timestamp t) = kept_timestamp t k.1
  scalar_kept _ _ k (is_symbol said s h) = kept_symbol s (symbol_kept said s k h)
  scalar_kept _ _ k (is_operator w) = kept_symbol (Some w) k
  scalar_kept _ _ k (is_short w) = kept_string w k
  scalar_kept _ _ k (is_clob w) = kept_clob w k
  scalar_kept _ _ k (is_blob w) = kept_blob w k

  notes_kept : (p : Place) (ts : List Placed) (ss : List (Option (List ℕ))) → AreLobsKept ts → Annotations c p ts ss → AreTexts ss
  notes_kept p _ _ l no_annotation = tt
  notes_kept p _ _ l (one_annotation ts ss t colons said s h a b d) =
      let r = lobs_rest ts (t ∷ colons ∷ []) l in
      texts_last ss s (notes_kept p ts ss (lobs_front ts (t ∷ colons ∷ []) l) h) (symbol_kept said s (said_kept p said t r.0 a) b)

  mutual
    plain_kept : (p : Place) (ts : List Placed) (x : Payload) → AreLobsKept ts → Plain c p ts x → KeptPayload x
    plain_kept _ _ _ l (one_token p t said q h k) = scalar_kept said q (said_kept p said t l.0 h) k
    plain_kept _ _ _ l (long_string p ts w h) = kept_string w (segments_kept p ts w l h)
    plain_kept _ _ _ l (is_list p before close ts vs more a h b) = kept_list vs (elements_kept ts vs more (lobs_front ts (close ∷ []) l.1) h)
    plain_kept _ _ _ l (is_sexp p before close ts vs a h b) = kept_sexp vs (row_kept ts vs (lobs_front ts (close ∷ []) l.1) h)
    plain_kept _ _ _ l (is_struct p before close ts ms more a h b) = kept_fields ms (members_kept ts ms more (lobs_front ts (close ∷ []) l.1) h)

    -- a value that tokens mean is kept
    pub means_kept : (p : Place) (ts : List Placed) (v : Value) → AreLobsKept ts → Means c p ts v → IsKept v
    means_kept _ _ _ l (means p notes ts ss q n h) = kept ss q (notes_kept p notes ss (lobs_front notes ts l) n) (plain_kept p ts q (lobs_rest notes ts l) h)

    elements_kept : (ts : List Placed) (vs : List Value) (more : Bool) → AreLobsKept ts → Elements c ts vs more → KeptItems vs
    elements_kept _ _ _ l no_element = no_items
    elements_kept _ _ _ l (element ts us vs v i h) = items_last vs v (elements_kept ts vs true (lobs_front ts us l) i) (means_kept _ us v (lobs_rest ts us l) h)
    elements_kept _ _ _ l (comma ts vs t i h) = elements_kept ts vs false (lobs_front ts (t ∷ []) l) i

    row_kept : (ts : List Placed) (vs : List Value) → AreLobsKept ts → Row c ts vs → KeptItems vs
    row_kept _ _ l no_item = no_items
    row_kept _ _ l (item ts us vs v i h e) = items_last vs v (row_kept ts vs (lobs_front ts us l) i) (means_kept _ us v (lobs_rest ts us l) h)

    members_kept : (ts : List Placed) (ms : List Field) (more : Bool) → AreLobsKept ts → Members c ts ms more → KeptFields ms
    members_kept _ _ _ l no_field = no_fields
    members_kept _ _ _ l (field ts ns us colon ms s v i n k h) =
        let r = lobs_rest ts (ns ++ colon ∷ us) l in
        fields_last ms s v (members_kept ts ms true (lobs_front ts (ns ++ colon ∷ us) l) i) (name_kept ns s (lobs_front ns (colon ∷ us) r) n)
        (means_kept _ us v (lobs_rest ns (colon ∷ us) r).1 h)
    members_kept _ _ _ l (field_comma ts ms t i h) = members_kept ts ms false (lobs_front ts (t ∷ []) l) i

-- 3. Documents.

tables_last : (s : List Value) (v : Value) → NoTables s → is_table v ≡ false → NoTables (s ++ v ∷ [])
tables_last [] v h k = (k, tt)
tables_last (w ∷ s) v h k = (h.0, tables_last s v h.1 k)

module _ (g : List Table) (l : Limits) where
  -- no value of whole pieces is a local symbol table
  pub pieces_values : (ts : List Placed) (s : List Value) (c : List Slot) → Pieces g l ts s c → NoTables s
  pieces_values _ _ _ begins = tt
  pieces_values _ _ _ (marked ts s c t p a b) = pieces_values ts s c p
  pieces_values _ _ _ (turns ts us s c d v p h table e deep long apart) = pieces_values ts s c p
  pieces_values _ _ _ (holds ts us s c v p h no_table word deep long apart) = tables_last s v (pieces_values ts s c p) no_table

  -- no value of a document is a local symbol table
  pub document_values : (w : List ℕ) (s : List Value) → Document g l w s → NoTables s
  document_values w s d = pieces_values d.tokens s d.context d.pieces

module _ (g : List Table) (l : Limits) (tables : AreTextTables g) where
  pieces_kept : (ts : List Placed) (s : List Value) (c : List Slot) → AreLobsKept ts → Pieces g l ts s c → AreKept s × AreTextSlots c
  pieces_kept _ _ _ k begins = (tt, system_are_texts)
  pieces_kept _ _ _ k (marked ts s c t p a b) = ((pieces_kept ts s c (lobs_front ts (t ∷ []) k) p).0, system_are_texts)
  pieces_kept _ _ _ k (turns ts us s c d v p h table e deep long apart) =
      let q = pieces_kept ts s c (lobs_front ts us k) p in
      (q.0, subst TextAnswer e (next_texts c v g tables q.1 (means_kept c q.1 _ us v (lobs_rest ts us k) h)))
  pieces_kept _ _ _ k (holds ts us s c v p h no_table word deep long apart) =
      let q = pieces_kept ts s c (lobs_front ts us k) p in
      (kept_last s v q.0 (means_kept c q.1 _ us v (lobs_rest ts us k) h), q.1)

  -- the values of a document are kept
  pub document_kept : (w : List ℕ) (s : List Value) → Document g l w s → AreKept s
  document_kept w s d = (pieces_kept d.tokens s d.context (lexes_lobs _ false 0 w d.tokens d.lexed) d.pieces).0

  -- so what is written of them is a document with these values
  pub written_again : (h : List Table) (m : Limits) (w : List ℕ) (s : List Value) → Document g l w s → FitsIn m s → Document h m (text_of s) s
  written_again h m w s d fits = round_trip h m s (document_kept w s d) (document_values g l w s d) fits
