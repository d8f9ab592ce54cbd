-- The document of a stream in either encoding denotes it, chosen by the first octet.
use Rattle.std.proofs.Common.{◌≡◌, ℕ, ◌==◌, Bool, true, false, List, [], ◌∷◌, ◌++◌, Result, Ok, Err, IfOk, arith, refl, subst}
use Rattle.std.proofs.lemmas.Bool.Decides.{nat_tests}
use Rattle.ion_docs.specs.Names.{AreKept, AreOctets, Catalog, Denotes, DenotesAnywhere, Fault, Inlet, KeepsStream, Limits, NoTables, Outlet, Pieces, Refusal, Slot, Target, Unexpected, Value, WasRead, WritesKept, bin_of, binary_pieces, documents, encoding_of, in_binary, in_text, is_binary, text_of, text_pieces}
use Rattle.ion_symtab.specs.declared.target.Target.TheVariants.{Binary, Text}
use Rattle.ion_symtab.specs.laws.ContextTexts.{AreTextTables}
use Rattle.ion_binary.specs.Grammar as binary
use Rattle.ion_binary.specs.laws.reading.DocumentKept as binary_kept
use Rattle.ion_binary.specs.laws.reading.Promises as binary_laws
use Rattle.ion_binary.specs.laws.writing.RoundTrip.{round_trip as binary_round_trip}
use Rattle.ion_text.specs.Grammar.{Document}
use Rattle.ion_text.specs.laws.reading.Stops.{begins_none}
use Rattle.ion_text.specs.laws.reading.ValuesKept as text_kept
use Rattle.ion_text.specs.laws.writing.RoundTrip.{round_trip as text_round_trip}

binary-append : (u w : List ℕ) → is_binary u ≡ true → is_binary (u ++ w) ≡ true
binary-append [] w h = absurd cc
binary-append (first ∷ u) w h = h

-- each document in binary begins with E0
pieces_begin : (g : Catalog) (l : Limits) (w : List ℕ) (s : List Value) (c : List Slot) → binary.Pieces g l w s c → is_binary w ≡ true
pieces_begin g l _ _ _ binary.begins = refl
pieces_begin g l _ _ _ (binary.marked u s c d) = binary-append u binary.the_marker (pieces_begin g l u s c d)
pieces_begin g l _ _ _ (binary.skips u w s c d p) = binary-append u w (pieces_begin g l u s c d)
pieces_begin g l _ _ _ (binary.turns u w s c e v d b t n p q) = binary-append u w (pieces_begin g l u s c d)
pieces_begin g l _ _ _ (binary.holds u w s c v d b t p q) = binary-append u w (pieces_begin g l u s c d)

-- no document in text begins with E0: a reader refuses that octet
pub text_begins : (g : Catalog) (l : Limits) (u : List ℕ) (s : List Value) → Document g l u s → is_binary u ≡ false
text_begins g l [] s d = refl
text_begins g l (o ∷ u) s d = by (o == 0xE0) refl where
  same : (o == 0xE0) ≡ true → o ≡ 0xE0
  same h = grind (arith, nat_tests)

  by : (b : Bool) → (o == 0xE0) ≡ b → b ≡ false
  by false h = refl
  by true h = absurd (begins_none g l (0xE0 ∷ []) (record { offset = 1; reason = Unexpected }) refl u s (subst (λ (x : ℕ). Document g l (x ∷ u) s) (same h) d))

-- what is written of values that the types keep, none of them a local symbol table, denotes them
pub written_denotes : (target : Target) (s : List Value) → AreKept s → NoTables s → DenotesAnywhere (encoding_of target) ((encoding_of target).document s) s
written_denotes Binary s kept none g l fits = let d = binary_round_trip g l s kept none fits in in_binary (pieces_begin g l (bin_of s) s d.0 d.1) d
written_denotes Text s kept none g l fits = let d = text_round_trip g l s kept none fits in in_text (text_begins g l (text_of s) s d) d

-- no value of a stream is a local symbol table
stream_values : (g : Catalog) (l : Limits) (u : List ℕ) (s : List Value) → Denotes g l u s → NoTables s
stream_values g l u s (in_binary h d) = binary_laws.pieces_values g l u s d.0 d.1
stream_values g l u s (in_text h d) = text_kept.document_values g l u s d

-- and the types keep them, where the texts of the catalog are UTF-8
stream_kept : (g : Catalog) (l : Limits) (u : List ℕ) (s : List Value) → AreTextTables g → AreOctets u → Denotes g l u s → AreKept s
stream_kept g l u s texts octets (in_binary h d) = binary_kept.document_kept g l texts u s octets d
stream_kept g l u s texts octets (in_text h d) = text_kept.document_kept g l texts u s d

-- so what is written of the stream of a document of octets denotes it
pub again_denotes : (target : Target) (g : Catalog) (l : Limits) (u : List ℕ) (s : List Value) → AreTextTables g → AreOctets u → Denotes g l u s
    → DenotesAnywhere (encoding_of target) ((encoding_of target).document s) s
again_denotes target g l u s texts octets d = written_denotes target s (stream_kept g l u s texts octets d) (stream_values g l u s d)

piece_values : (g : Catalog) (l : Limits) (u following : List ℕ) (s : List Value) → Pieces g l u following s → NoTables s
piece_values g l u following s (binary_pieces h w) = binary_laws.whole_values g l u s w
piece_values g l u following s (text_pieces h w) = text_kept.pieces_values g l w.tokens s w.context w.pieces

module _ {S T : Type 0} (R : Inlet S) (W : Outlet T) (g : Catalog) (l : Limits) (first now : S) (old new : T) where
  -- no value that was read is a local symbol table
  read_values : (answer : Result ℕ Refusal) (s : List Value) → WasRead R (documents g l) first now answer s → NoTables s
  read_values (Ok values) s told = stream_values g l told.octets s told.denoted
  read_values (Err refusal) s told = let shown = (told.refused [] (λ _. refl)).shown in
      piece_values g l shown.front (shown.open_rest ++ []) s (shown.whole [] tt)

  -- what was read is what the octets written denote
  keeps_stream : (target : Target) (answer : Result ℕ Refusal) → WritesKept R W (encoding_of target) (documents g l) first now old new answer
      → KeepsStream R W (encoding_of target) g l first now old new answer
  keeps_stream target answer (s, read, kept, wrote) = (
    s,
    read,
    (encoding_of target).document s,
    wrote,
    written_denotes target s kept (read_values answer s read),
  )

  -- so for a whole call
  pub keeps_if : (target : Target) (r : Result (Result ℕ Refusal) Fault) → IfOk r (WritesKept R W (encoding_of target) (documents g l) first now old new)
      → IfOk r (KeepsStream R W (encoding_of target) g l first now old new)
  keeps_if target (Ok answer) h = keeps_stream target answer h
  keeps_if target (Err fault) h = tt
