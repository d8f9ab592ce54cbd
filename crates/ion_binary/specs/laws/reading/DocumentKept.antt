-- The values of a document of octets are kept, where the texts of the catalog are UTF-8; so they may be written.
use Rattle.std.proofs.Common.{ℕ, List, subst}
use Rattle.ion_binary.specs.Names.{AreKept, AreOctets, Document, FitsIn, Limits, Pieces, Slot, Table, Value, begins, bin_of, holds, marked, octets_front, octets_rest, skips, the_marker, turns}
use Rattle.ion_model.specs.laws.Kept.{kept_last}
use Rattle.ion_symtab.specs.laws.ContextTexts.{AreTextSlots, AreTextTables, TextAnswer, next_texts, system_are_texts}
use Rattle.ion_binary.specs.laws.reading.GivesKept.{binary_kept}
use Rattle.ion_binary.specs.laws.reading.Promises.{pieces_values}
use Rattle.ion_binary.specs.laws.writing.RoundTrip.{round_trip}

module _ (g : List Table) (l : Limits) (h : AreTextTables g) where
  pub pieces_kept : (u : List ℕ) (s : List Value) (c : List Slot) → AreOctets u → Pieces g l u s c → AreKept s × AreTextSlots c
  pieces_kept _ _ _ o begins = (tt, system_are_texts)
  pieces_kept _ _ _ o (marked u s c p) = ((pieces_kept u s c (octets_front u the_marker o) p).0, system_are_texts)
  pieces_kept _ _ _ o (skips u w s c p pad) = pieces_kept u s c (octets_front u w o) p
  pieces_kept _ _ _ o (turns u w s c d v p b t e deep long) =
      let k = pieces_kept u s c (octets_front u w o) p in
      (k.0, subst TextAnswer e (next_texts c v g h k.1 (binary_kept c k.1 w v (octets_rest u w o) b)))
  pieces_kept _ _ _ o (holds u w s c v p b t deep long) =
      let k = pieces_kept u s c (octets_front u w o) p in
      (kept_last s v k.0 (binary_kept c k.1 w v (octets_rest u w o) b), k.1)

  -- the values of a document are kept
  pub document_kept : (w : List ℕ) (s : List Value) → AreOctets w → Document g l w s → AreKept s
  document_kept w s o d = (pieces_kept w s d.0 o d.1).0

  -- so what is written of a document's values is a document with the same values, under any catalog and limits that admit it
  pub written_again : (f : List Table) (m : Limits) (w : List ℕ) (s : List Value) → AreOctets w → Document g l w s → FitsIn m s → Document f m (bin_of s) s
  written_again f m w s o d fits = round_trip f m s (document_kept w s o d) (pieces_values g l w s d.0 d.1) fits
