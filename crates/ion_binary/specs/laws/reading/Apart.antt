-- No whole pieces end within a piece. So a value's item lies between any with the values before it and any with one more.
use Rattle.std.proofs.Common.{◌≡◌, ℕ, zero, suc, ◌+◌, ◌≤◌, ◌<◌, List, [], ◌∷◌, ◌++◌, length, refl, ap, sym, ◌∙◌, arith, append_assoc, append-nil, length-append, inl, inr}
use Rattle.std.proofs.lemmas.Bool.{cases_lt}
use Rattle.ion_binary.specs.Names.{Binary, Catalog, Follows, Form, Header, IsPad, Known, Limits, Marker, Opening, Payload, Pieces, Plain, Refused, Sized, Slot, Value, VarUInt, Whole, begins, descriptor_of, document, holds, is_listing, is_null, is_ordered, is_scalar, is_struct, is_truth, long, marked, no_piece, nodes, opening_of, short, skipped, skips, the_marker, trace, turns, unannotated, wrapped}
use Rattle.ion_scalar.specs.binary.laws.VarUInt.{one_var_uint}
use Rattle.ion_symtab.specs.laws.Promises.{same_cut, same_last}
use Rattle.ion_binary.specs.laws.reading.Documents.{pieces_run}
use Rattle.ion_binary.specs.laws.reading.Promises.{front_of, grows, one_whole, plain_long}
use Rattle.ion_binary.specs.laws.reading.Small.{binary_nodes}

-- 1. The first octets of a piece say how long it is.

-- as many octets stand behind a descriptor that opens this
abbrev pub IsSizedBy : Opening → List ℕ → Type 0
IsSizedBy (Refused reason) rest = ⊥
IsSizedBy Marker rest = length rest ≡ 3
IsSizedBy (Sized form (Known n)) rest = length rest ≡ n
IsSizedBy (Sized form Follows) rest = (number body : List ℕ) × (rest ≡ number ++ body) × VarUInt number (length body)
IsSizedBy _ rest = length rest ≡ 0

-- a descriptor, and as many octets as it says
pub record IsPiece (w : List ℕ) : Type 0 where
  pub descriptor : ℕ
  pub rest : List ℕ
  pub whole : w ≡ descriptor ∷ rest
  pub sized : IsSizedBy (opening_of descriptor) rest

sized_alike : (o : Opening) (rest other x y : List ℕ) → IsSizedBy o rest → IsSizedBy o other → rest ++ x ≡ other ++ y → length rest ≡ length other
sized_alike (Refused reason) rest other x y h k e = absurd h
sized_alike (Sized form Follows) rest other x y (number, body, parts, is) (number', body', parts', is') e =
    let same = rw (parts, parts', append_assoc number, append_assoc number') at e in
    let one = one_var_uint number number' (body ++ x) (body' ++ y) (length body) (length body') is is' same in
    omega (arith, one.0, one.1, ap length parts, ap length parts', length-append number body, length-append number' body')
sized_alike _ rest other x y h k e = h ∙ sym k

-- two pieces at one place are equally long
piece_alike : (p q x y : List ℕ) → IsPiece p → IsPiece q → p ++ x ≡ q ++ y → length p ≡ length q
piece_alike p q x y a b e =
    let whole : a.descriptor ∷ (a.rest ++ x) ≡ b.descriptor ∷ (b.rest ++ y) = rw (a.whole, b.whole) at e in
    let head : a.descriptor ≡ b.descriptor = cc in
    let tail : a.rest ++ x ≡ b.rest ++ y = cc in
    let k = sized_alike (opening_of b.descriptor) a.rest b.rest x y (rw head at a.sized) b.sized tail in
    omega (arith, k, ap length a.whole, ap length b.whole)

piece_some : (p : List ℕ) → IsPiece p → 0 < length p
piece_some p a = omega (arith, ap length a.whole)

marker_opens : opening_of 0xE0 ≡ Marker
unfolding opening_of descriptor_of
marker_opens = refl

marker_piece : IsPiece the_marker
marker_piece = record { descriptor = 0xE0; rest = 1 ∷ 0 ∷ 0xEA ∷ []; whole = refl; sized = rw marker_opens refl }

headed : (form : Form) (n : ℕ) (h body : List ℕ) → n ≡ length body → Header form n h → IsPiece (h ++ body)
headed form n _ body e (short b o) = record { descriptor = b; rest = body; whole = refl; sized = rw o (sym e) }
headed form n _ body e (long b w o v) = record { descriptor = b; rest = w ++ body; whole = refl; sized = rw o (w, body, refl, rw e at v) }

plain_piece : (c : List Slot) (w : List ℕ) (p : Payload) → Plain c w p → IsPiece w
plain_piece c _ _ (is_null b k o) = record { descriptor = b; rest = []; whole = refl; sized = rw o refl }
plain_piece c _ _ (is_truth b t o) = record { descriptor = b; rest = []; whole = refl; sized = rw o refl }
plain_piece c _ _ (is_scalar h body t p d i) = headed (Form.Scalar t) (length body) h body refl d
plain_piece c _ _ (is_listing h body x vs d q) = headed (Form.ListOrSexp x) (length body) h body refl d
plain_piece c _ _ (is_struct h body ms d q) = headed Form.Struct (length body) h body refl d
plain_piece c _ _ (is_ordered h body ms d k q) = headed Form.OrderedStruct (length body) h body refl d

value_piece : (c : List Slot) (w : List ℕ) (v : Value) → Binary c w v → IsPiece w
value_piece c _ _ (unannotated w p b) = plain_piece c w p b
value_piece c _ _ (wrapped h count ids w ss p d v n i b) = headed Form.Wrapper (length (count ++ (ids ++ w))) h (count ++ (ids ++ w)) refl d

pad_piece : (w : List ℕ) → IsPad w → IsPiece w
pad_piece _ (skipped h body d) = headed Form.Pad (length body) h body refl d

-- 2. Pieces one behind the other.

data ArePieces : List ℕ → Type 0 where
  none : ArePieces []
  one_more : (u p : List ℕ) → ArePieces u → IsPiece p → ArePieces (u ++ p)

-- no pieces end within a piece: those that end behind its first octet end with its last, or later
cut_nowhere : (most : ℕ) (inner front p rest : List ℕ) → length inner ≤ most → ArePieces inner → ArePieces front → IsPiece p → inner ++ rest ≡ front ++ p
    → length front < length inner → length inner ≡ length (front ++ p)
cut_nowhere most _ front p rest few none f i e h = absurd (omega arith)
cut_nowhere zero _ front p rest few (one_more u q us j) f i e h = absurd (omega (arith, piece_some q j, length-append u q))
cut_nowhere (suc most) _ front p rest few (one_more u q us j) f i e h =
    elim (cases_lt (length front) (length u)) [
      | inl lt ↦
          let k = cut_nowhere most u front p (q ++ rest) (omega (arith, some, size)) us f i whole lt in
          absurd (omega (arith, k, some, ap length whole, length-append u (q ++ rest), length-append q rest))
      | inr le ↦ elim (cases_lt (length u) (length front)) [
        | inl lt ↦
            let r = front_of (u ++ q) rest front p e (omega arith) in
            let k = cut_nowhere most front u q r.0 (omega arith) f us j (sym r.1) lt in
            absurd (omega arith)
        | inr ge ↦
            let c = same_cut u front (q ++ rest) p whole (omega arith) in
            let k = piece_alike q p rest [] j i (c.rests ∙ sym (append-nil p)) in
            omega (arith, k, size, length-append front p)
      ]
    ]
  where
    some : 0 < length q
    some = piece_some q j

    size : length (u ++ q) ≡ length u + length q
    size = length-append u q

    whole : u ++ (q ++ rest) ≡ front ++ p
    whole = sym (append_assoc u q rest) ∙ e

module _ (g : Catalog) (l : Limits) where
  in_row : (w : List ℕ) (s : List Value) (c : List Slot) → Pieces g l w s c → ArePieces w
  in_row _ _ _ begins = one_more [] the_marker none marker_piece
  in_row _ _ _ (marked u s c d) = one_more u the_marker (in_row u s c d) marker_piece
  in_row _ _ _ (skips u w s c d p) = one_more u w (in_row u s c d) (pad_piece w p)
  in_row _ _ _ (turns u w s c e v d b t n p q) = one_more u w (in_row u s c d) (value_piece c w v b)
  in_row _ _ _ (holds u w s c v d b t p q) = one_more u w (in_row u s c d) (value_piece c w v b)

  whole_row : (w : List ℕ) (s : List Value) → Whole g l w s → ArePieces w
  whole_row _ _ no_piece = none
  whole_row _ _ (document u s c d) = in_row u s c d

  -- 3. More pieces have more values.

  values : (w : List ℕ) (s : List Value) → Whole g l w s → length (trace g l w).given ≡ length s
  values _ _ no_piece = refl
  values _ _ (document u s c d) =
      let r = pieces_run g l u s c d in
      omega (arith, plain_long r.given, ap length r.gave, ap (λ x. length x.given) r.ran)

  values_grow : (u w rest : List ℕ) (s t : List Value) → w ≡ u ++ rest → Whole g l u s → Whole g l w t → length s ≤ length t
  values_grow u w rest s t e a b =
      let more = (grows g l u rest).given in
      omega (arith, values u s a, values w t b, ap (λ x. length (trace g l x).given) e, ap length more.1, length-append (trace g l u).given more.0)

  -- 4. The item.

  module _ (front : List ℕ) (before : List Value) (v : Value) (a : Whole g l front before) where
    -- those with one more value are those that end where they do, and one or more pieces behind
    abbrev Further : List ℕ → List ℕ → Type 0
    Further u w = (span : List ℕ) → u ++ w ≡ front ++ span → nodes v ≤ length span

    -- where the last piece isn't the value
    not_last : (u w : List ℕ) (c : List Slot) → Pieces g l u (before ++ v ∷ []) c → ((span : List ℕ) → u ≡ front ++ span → nodes v ≤ length span) → Further u w
    not_last u w c d rest span e =
        elim (cases_lt (length u) (length front)) [
          | inl lt ↦
              let r = front_of front span u w (sym e) (omega arith) in
              let k = values_grow u front r.0 (before ++ v ∷ []) before r.1 (document u (before ++ v ∷ []) c d) a in
              absurd (omega (arith, k, length-append before (v ∷ [])))
          | inr le ↦
              let r = front_of u w front span e le in
              omega (arith, rest r.0 r.1, ap length e, ap length r.1, length-append u w, length-append front span, length-append front r.0)
        ]

    -- where it is, its item isn't begun in front
    last_one : (u w : List ℕ) (s : List Value) (c : List Slot) → Pieces g l u s c → Binary c w v → Whole g l (u ++ w) (before ++ v ∷ []) → Further u w
    last_one u w s c d b all span e =
        elim (cases_lt (length u) (length front)) [
          | inl lt ↦
              let k = cut_nowhere (length front) front u w span (omega arith) (whole_row front before a) (in_row u s c d) (value_piece c w v b) (sym e) lt in
              let none : span ≡ [] = nothing span (omega (arith, k, ap length e, length-append front span)) in
              let same : front ≡ u ++ w = sym (rw (none, append-nil front) at e) in
              let one = one_whole g l front (u ++ w) before (before ++ v ∷ []) same a all in
              absurd (omega (arith, ap length one, length-append before (v ∷ [])))
          | inr le ↦ omega (arith, binary_nodes c w v b, ap length e, length-append u w, length-append front span)
        ]
      where
        nothing : (x : List ℕ) → length x ≡ 0 → x ≡ []
        nothing [] h = refl
        nothing (o ∷ os) h = absurd (omega arith)

    further : (w : List ℕ) (t : List Value) (c : List Slot) → Pieces g l w t c → t ≡ before ++ v ∷ [] → (span : List ℕ) → w ≡ front ++ span
        → nodes v ≤ length span
    further _ _ _ begins e span h = absurd (omega (arith, ap length e, length-append before (v ∷ [])))
    further _ _ _ (marked u s c d) e span h = not_last u the_marker c (rw e at d) (further u s c d e) span h
    further _ _ _ (skips u w s c d p) e span h = not_last u w c (rw e at d) (further u s c d e) span h
    further _ _ _ (turns u w s c f x d b t n p q) e span h = not_last u w c (rw e at d) (further u s c d e) span h
    further _ _ _ (holds u w s c x d b t p q) e span h =
        let same : x ≡ v = same_last s before x v e in
        last_one u w s c d (rw same at b) (rw (← e) (document (u ++ w) (s ++ x ∷ []) c (holds u w s c x d b t p q))) span h

  -- between whole pieces with the values before a value and whole pieces with it stand at least as many octets as it has nodes
  pub nodes_between : (front span : List ℕ) (before : List Value) (v : Value) → Whole g l front before → Whole g l (front ++ span) (before ++ v ∷ [])
      → nodes v ≤ length span
  nodes_between front span before v a b = by (front ++ span) (before ++ v ∷ []) b refl refl
    where
      by : (w : List ℕ) (t : List Value) → Whole g l w t → t ≡ before ++ v ∷ [] → w ≡ front ++ span → nodes v ≤ length span
      by _ _ no_piece e h = absurd (omega (arith, ap length e, length-append before (v ∷ [])))
      by _ _ (document w t c d) e h = further front before v a w t c d e span h
