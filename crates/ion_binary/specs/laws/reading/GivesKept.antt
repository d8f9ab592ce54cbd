-- The values of octets are kept where the texts of the context are UTF-8.
use Rattle.std.proofs.Common.{ℕ, zero, suc, pos, neg_ℤ, ◌^◌, ◌<◌, List, [], ◌++◌, Option, arith}
use Rattle.ion_binary.specs.Names.{AreOctets, AreTexts, Binary, Field, Fields, Ids, IsKept, IsScalar, IsWhole, KeptFields, KeptItems, KeptPayload, ListOrSexp, Payload, Plain, Scalar, Sequence, Slot, Value, is_blob, is_clob, is_decimal, is_int, is_listing, is_negative, is_null, is_ordered, is_scalar, is_string, is_struct, is_symbol, is_timestamp, is_truth, kept, kept_blob, kept_clob, kept_decimal, kept_fields, kept_int, kept_list, kept_null, kept_sexp, kept_string, kept_symbol, kept_timestamp, kept_truth, listed, no_ids, no_items, nothing, octets_front, octets_rest, one_field, one_id, one_more, padded, padded_field, positional, unannotated, wrapped}
use Rattle.ion_model.specs.Kept.{no_fields}
use Rattle.ion_model.specs.laws.Kept.{fields_last, items_last, texts_last}
use Rattle.ion_symtab.specs.laws.ContextTexts.{AreTextSlots, resolved_text}
use Rattle.ion_binary.specs.Grammar as grammar

-- minus a number below 2^127 is an int in range
pub negative_whole : (n : ℕ) → n < 2 ^ 127 → IsWhole (neg_ℤ (pos n))
negative_whole zero h = omega arith
negative_whole (suc n) h = omega arith

pub kept_listed : (x : ListOrSexp) (vs : List Value) → KeptItems vs → KeptPayload (listed x vs)
kept_listed ListOrSexp.List vs h = kept_list vs h
kept_listed ListOrSexp.Sexp vs h = kept_sexp vs h

module _ (c : List Slot) (h : AreTextSlots c) where
  scalar_kept : (body : List ℕ) (t : Scalar) (p : Payload) → AreOctets body → IsScalar c body t p → KeptPayload p
  scalar_kept body _ _ o (is_int k) = kept_int (pos (positional 256 body)) k
  scalar_kept body _ _ o (is_negative k n) = kept_int (neg_ℤ (pos (positional 256 body))) (negative_whole (positional 256 body) k)
  scalar_kept body _ _ o (is_decimal d b k) = kept_decimal d k
  scalar_kept body _ _ o (is_timestamp t b) = kept_timestamp t b.is
  scalar_kept body _ _ o (is_symbol s k r) = kept_symbol s (resolved_text c (positional 256 body) s h r)
  scalar_kept body _ _ o (is_string k) = kept_string body k
  scalar_kept body _ _ o is_clob = kept_clob body o
  scalar_kept body _ _ o is_blob = kept_blob body o

  ids_texts : (w : List ℕ) (ss : List (Option (List ℕ))) → Ids c w ss → AreTexts ss
  ids_texts _ _ no_ids = tt
  ids_texts _ _ (one_id us w ss k s b v r) = texts_last ss s (ids_texts us ss b) (resolved_text c k s h r)

  mutual
    plain_kept : (w : List ℕ) (p : Payload) → AreOctets w → Plain c w p → KeptPayload p
    plain_kept _ _ o (is_null b k d) = kept_null k
    plain_kept _ _ o (is_truth b t d) = kept_truth t
    plain_kept _ _ o (is_scalar head body t p d i) = scalar_kept body t p (octets_rest head body o) i
    plain_kept _ _ o (is_listing head body x vs d q) = kept_listed x vs (sequence_kept body vs (octets_rest head body o) q)
    plain_kept _ _ o (is_struct head body ms d q) = kept_fields ms (fields_kept body ms (octets_rest head body o) q)
    plain_kept _ _ o (is_ordered head body ms d n q) = kept_fields ms (fields_kept body ms (octets_rest head body o) q)

    -- a value of octets is kept, where the texts of the context are UTF-8
    pub binary_kept : (w : List ℕ) (v : Value) → AreOctets w → Binary c w v → IsKept v
    binary_kept _ _ o (unannotated w p b) = kept [] p tt (plain_kept w p o b)
    binary_kept _ _ o (wrapped head count ids w ss p d v n i b) =
        kept ss p (ids_texts ids ss i) (plain_kept w p (octets_rest ids w (octets_rest count (ids ++ w) (octets_rest head (count ++ (ids ++ w)) o))) b)

    sequence_kept : (w : List ℕ) (vs : List Value) → AreOctets w → Sequence c w vs → KeptItems vs
    sequence_kept _ _ o nothing = no_items
    sequence_kept _ _ o (one_more us w vs v q b) = items_last vs v (sequence_kept us vs (octets_front us w o) q) (binary_kept w v (octets_rest us w o) b)
    sequence_kept _ _ o (padded us w vs q b) = sequence_kept us vs (octets_front us w o) q

    fields_kept : (w : List ℕ) (ms : List Field) → AreOctets w → Fields c w ms → KeptFields ms
    fields_kept _ _ o grammar.no_fields = no_fields
    fields_kept _ _ o (one_field us id w ms k s v q n r b) = fields_last ms s v (fields_kept us ms (octets_front us _ o) q) (resolved_text c k s h r)
        (binary_kept w v (octets_rest id w (octets_rest us _ o)) b)
    fields_kept _ _ o (padded_field us id w ms k q n b) = fields_kept us ms (octets_front us (id ++ w) o) q
