-- Which octet decides that no document begins so, and why: for each row of docs/FORMAT.md, "Refusals", the constructors of `Decides` that
-- stand under it. A row says what stands open behind some octets (`Open`: whole pieces of the grammar, then containers that have begun),
-- and which octets come next. Nothing here speaks of reading.
use Rattle.std.specs.Prelude.{◌≡◌, ◌≢◌, ◌⊎◌, ℕ, suc, ◌+◌, ◌*◌, ◌^◌, ◌<◌, ◌≤◌, ◌||◌, Bool, true, false, List, [], ◌∷◌, ◌++◌, length, Option, Ok, Err}
use Rattle.ion_binary.specs.Names.Below.{Catalog, Depth, Digits128, Field, Follows, Form, ItemTooLong, Kind, Known, Limits, ListOrSexp, Malformed, Marker, Null, Reason, Refused, Scalar, Size, Sized, Slot, TooLarge, Truth, Value, VarUInt, Version, depth, is_table, next, positional, reason_number, resolve, seven_bits}
use Rattle.ion_binary.specs.Depths.{depths, field_depths}
use Rattle.ion_binary.specs.Grammar.{Binary, Fields, Header, Ids, Pieces, Sequence}
use Rattle.ion_binary.specs.Judge.{judge}
use Rattle.ion_binary.specs.Opening.{is_pad, is_wrapper, opening_of}

-- 1. What stands open.

-- a container that has begun, by its end: so many octets of the document reach up to there
pub data Container : Type 0 where
  -- a list or an s-expression
  Items : ℕ → Container
  -- a struct, in which the name of a field comes next
  Names : ℕ → Container
  -- a struct, behind the name of a field, which has this id
  Named : ℕ → ℕ → Container
  -- a wrapper, behind its annotations
  Noted : ℕ → Container

-- so many octets of the document reach up to the end of the container
abbrev pub container_end : Container → ℕ
container_end (Items end) = end
container_end (Names end) = end
container_end (Named end id) = end
container_end (Noted end) = end

-- how many of them are lists, s-expressions and structs
abbrev pub container_levels : List Container → ℕ
container_levels [] = 0
container_levels (Noted end ∷ ks) = container_levels ks
container_levels (_ ∷ ks) = suc (container_levels ks)

-- a descriptor comes next, and not a field's name
abbrev pub TakesValue : List Container → Type 0
TakesValue (Names end ∷ ks) = ⊥
TakesValue _ = Unit {0}

-- no pad and no wrapper in a wrapper; behind a name what isn't a pad needs the symbol of the id
abbrev pub MayBegin : List Slot → List Container → Bool → Bool → Type 0
MayBegin c (Noted end ∷ ks) pad wrapper = (pad || wrapper) ≡ false
MayBegin c (Named end id ∷ ks) pad wrapper = pad ≡ false → (s : Option (List ℕ)) × (resolve c id ≡ Ok s)
MayBegin c (Names end ∷ ks) pad wrapper = ⊥
MayBegin c _ pad wrapper = Unit {0}

-- what is no pad may reach up to here in these containers: the value in a wrapper fills it, others stay inside, and at the top level
-- the item that begins behind `start` octets has its limit; a pad has none there
abbrev pub MayReach : Limits → ℕ → List Container → Bool → ℕ → Type 0
MayReach l start [] pad to = pad ≡ false → to ≤ start + l.item
MayReach l start (Noted end ∷ ks) pad to = to ≡ end
MayReach l start (k ∷ ks) pad to = to ≤ container_end k

-- behind octets that Outer describes, in the containers ks, the header of a body that ends with the octet `end` and may do so
pub record Headed (l : Limits) (c : List Slot) (start : ℕ) (Outer : List ℕ → Type 0) (ks : List Container) (form : Form) (end : ℕ) (u : List ℕ) : Type 0 where
  pub before : List ℕ
  pub header : List ℕ
  pub n : ℕ
  pub parts : u ≡ before ++ header
  pub outer : Outer before
  pub begins : MayBegin c ks (is_pad form) (is_wrapper form)
  pub head : Header form n header
  pub ends : end ≡ length u + n
  pub reaches : MayReach l start ks (is_pad form) end

-- a struct, whether its header announces the order of its fields or not
abbrev pub IsStruct : Form → Type 0
IsStruct Form.Struct = Unit {0}
IsStruct Form.OrderedStruct = Unit {0}
IsStruct _ = ⊥

-- the header of a struct, and whole fields
pub record InStruct (l : Limits) (c : List Slot) (start : ℕ) (Outer : List ℕ → Type 0) (ks : List Container) (end : ℕ) (u : List ℕ) : Type 0 where
  pub front : List ℕ
  pub body : List ℕ
  pub form : Form
  pub fields : List Field
  pub parts : u ≡ front ++ body
  pub headed : Headed l c start Outer ks form end front
  pub struct : IsStruct form
  pub come : Fields c body fields
  pub deep : field_depths fields + suc (container_levels ks) ≤ l.depth
  pub more : length u < end

-- The octets u are whole pieces, and behind them these containers stand open, the innermost first; of each some octets are still to come.
-- The pieces have `start` octets, and c are the slots behind them.
abbrev pub Open : Catalog → Limits → List Slot → ℕ → List Container → List ℕ → Type 0
Open g l c start [] u = (s : List Value) × Pieces g l u s c × (length u ≡ start)
Open g l c start (Items end ∷ ks) u =
    record {
      front : List ℕ;
      body : List ℕ;
      listing : ListOrSexp;
      items : List Value;
      parts : u ≡ front ++ body;
      headed : Headed l c start (Open g l c start ks) ks (Form.ListOrSexp listing) end front;
      come : Sequence c body items;
      deep : depths items + suc (container_levels ks) ≤ l.depth;
      more : length u < end;
    }
Open g l c start (Names end ∷ ks) u = InStruct l c start (Open g l c start ks) ks end u
Open g l c start (Named end id ∷ ks) u =
    record {
      front : List ℕ;
      name : List ℕ;
      parts : u ≡ front ++ name;
      inside : InStruct l c start (Open g l c start ks) ks end front;
      number : VarUInt name id;
      more : length u < end;
    }
Open g l c start (Noted end ∷ ks) u =
    record {
      front : List ℕ;
      count : List ℕ;
      ids : List ℕ;
      symbols : List (Option (List ℕ));
      parts : u ≡ front ++ (count ++ ids);
      headed : Headed l c start (Open g l c start ks) ks Form.Wrapper end front;
      number : VarUInt count (length ids);
      some : 0 < length ids;
      come : Ids c ids symbols;
      more : length u < end;
    }

-- 2. VarUInts outside of a body.

-- what a VarUInt stands for
pub data Number : Type 0 where
  -- the octets of a body of this form
  Length : Form → Number
  -- the id of a field's name
  Name : Number
  -- the octets of the annotations of a wrapper that ends here
  Count : ℕ → Number
  -- the id of an annotation; the annotations end here
  Id : ℕ → Number

module _ (g : Catalog) (l : Limits) (c : List Slot) (start : ℕ) where
  -- the octets u end before such a number
  pub data Before : List Container → Number → List ℕ → Type 0 where
    a_length : (ks : List Container) (u : List ℕ) (b : ℕ) (form : Form) → Open g l c start ks u
        → opening_of b ≡ Sized form Follows → MayBegin c ks (is_pad form) (is_wrapper form)
        → Before ks (Length form) (u ++ b ∷ [])
    a_name : (end : ℕ) (ks : List Container) (u : List ℕ) → Open g l c start (Names end ∷ ks) u → Before (Names end ∷ ks) Name u
    a_count : (ks : List Container) (end : ℕ) (u : List ℕ) → Headed l c start (Open g l c start ks) ks Form.Wrapper end u
        → Before ks (Count end) u
    an_id : (ks : List Container) (end n : ℕ) (front count ids : List ℕ) (ss : List (Option (List ℕ)))
        → Headed l c start (Open g l c start ks) ks Form.Wrapper end front → VarUInt count n → 0 < n → Ids c ids ss
        → length front + length count + n < end
        → Before ks (Id (length front + length count + n)) (front ++ (count ++ ids))

  -- the octet with which it must have ended; the length of an item or a pad at the top level has none such
  pub data LastOctet : List Container → Number → ℕ → Type 0 where
    of_container : (k : Container) (ks : List Container) (form : Form) → LastOctet (k ∷ ks) (Length form) (container_end k)
    of_struct : (end : ℕ) (ks : List Container) → LastOctet (Names end ∷ ks) Name end
    of_wrapper : (ks : List Container) (end : ℕ) → LastOctet ks (Count end) end
    of_annotations : (ks : List Container) (stop : ℕ) → LastOctet ks (Id stop) stop

  -- behind so many octets it may go on
  abbrev pub MayGoOn : List Container → Number → ℕ → Type 0
  MayGoOn [] (Length form) used = is_pad form ≡ false → used ≤ start + l.item
  MayGoOn ks p used = (last : ℕ) → LastOctet ks p last → used < last

  -- the octets u end inside of such a number, and its octets so far make a
  pub record InNumber (ks : List Container) (p : Number) (a : ℕ) (u : List ℕ) : Type 0 where
    pub before : List ℕ
    pub digits : List ℕ
    pub parts : u ≡ before ++ digits
    pub comes : Before ks p before
    pub small : Digits128 digits
    pub value : a ≡ positional 128 digits
    pub bound : a < 2 ^ 63
    pub goes_on : MayGoOn ks p (length u)

  -- the last octet of u ends such a number, which is n
  pub record EndsNumber (ks : List Container) (p : Number) (n : ℕ) (u : List ℕ) : Type 0 where
    pub before : List ℕ
    pub digits : ℕ
    pub last : ℕ
    pub parts : u ≡ before ++ (128 + last) ∷ []
    pub inside : InNumber ks p digits before
    pub value : n ≡ 128 * digits + last
    pub bound : n < 2 ^ 63

  -- the last octet of u ends the header of a body of n octets, or is a value of one octet
  pub data EndsHeader (ks : List Container) (form : Form) (n : ℕ) : List ℕ → Type 0 where
    by_descriptor : (u : List ℕ) (b : ℕ) → Open g l c start ks u → TakesValue ks → opening_of b ≡ Sized form (Known n)
        → EndsHeader ks form n (u ++ b ∷ [])
    by_length : (u : List ℕ) → EndsNumber ks (Length form) n u → EndsHeader ks form n u

  -- with the last octet of u it shows that a value, or a pad, reaches up to here
  pub data Reaches (ks : List Container) : Bool → ℕ → List ℕ → Type 0 where
    a_null : (u : List ℕ) (b : ℕ) (k : Kind) → Open g l c start ks u → TakesValue ks → opening_of b ≡ Null k
        → Reaches ks false (length u + 1) (u ++ b ∷ [])
    a_truth : (u : List ℕ) (b : ℕ) (t : Bool) → Open g l c start ks u → TakesValue ks → opening_of b ≡ Truth t
        → Reaches ks false (length u + 1) (u ++ b ∷ [])
    a_body : (u : List ℕ) (form : Form) (n : ℕ) → EndsHeader ks form n u → Reaches ks (is_pad form) (length u + n) u

-- a list, an s-expression or a struct
abbrev pub IsContainer : Form → Type 0
IsContainer (Form.ListOrSexp x) = Unit {0}
IsContainer form = IsStruct form

-- 3. The rows.

-- whole pieces, or none yet
abbrev pub IsFront : Catalog → Limits → List ℕ → Type 0
IsFront g l u = (u ≡ []) ⊎ ((s : List Value) × (c : List Slot) × Pieces g l u s c)

-- the last of these octets decides for this reason that no document begins with them
pub data Decides (g : Catalog) (l : Limits) : List ℕ → Reason → Type 0 where
  -- | a marker | its fourth: `Version` if that is `EA`, else `Malformed` | (octets that begin otherwise aren't read as binary at all)
  no_marker : (b : ℕ) → b ≢ 0xE0 → Decides g l (b ∷ []) Malformed
  other_marker : (u : List ℕ) (x y b : ℕ) → IsFront g l u → b ≢ 0xEA → Decides g l (u ++ 0xE0 ∷ x ∷ y ∷ b ∷ []) Malformed
  other_version : (u : List ℕ) (x y : ℕ) → IsFront g l u → ((x ≡ 1) × (y ≡ 0) → ⊥)
      → Decides g l (u ++ 0xE0 ∷ x ∷ y ∷ 0xEA ∷ []) Version
  -- | a descriptor, `Float`, a wrapper or a pad in a wrapper, `E0` in a container | the descriptor |
  no_descriptor : (c : List Slot) (start : ℕ) (ks : List Container) (u : List ℕ) (b : ℕ) (e : Reason) → Open g l c start ks u
      → TakesValue ks → opening_of b ≡ Refused e
      → Decides g l (u ++ b ∷ []) e
  inner_marker : (c : List Slot) (start : ℕ) (k : Container) (ks : List Container) (u : List ℕ) (b : ℕ)
      → Open g l c start (k ∷ ks) u → TakesValue (k ∷ ks) → opening_of b ≡ Marker
      → Decides g l (u ++ b ∷ []) Malformed
  in_wrapper : (c : List Slot) (start end : ℕ) (ks : List Container) (u : List ℕ) (b : ℕ) (form : Form) (size : Size)
      → Open g l c start (Noted end ∷ ks) u → opening_of b ≡ Sized form size → (is_pad form || is_wrapper form) ≡ true
      → Decides g l (u ++ b ∷ []) Malformed
  -- | a VarUInt that reaches 2^63, outside of a body | the octet with which it does |
  too_large : (c : List Slot) (start : ℕ) (ks : List Container) (p : Number) (a : ℕ) (u : List ℕ) (b : ℕ)
      → InNumber g l c start ks p a u → 2 ^ 63 ≤ 128 * a + seven_bits b
      → Decides g l (u ++ b ∷ []) TooLarge
  -- | a length past its container, one that doesn't fill its wrapper, 0 behind `D1`, `Depth`, `ItemTooLong` | the last octet of the length, or the descriptor
  -- if none follows |
  past_container : (c : List Slot) (start : ℕ) (k : Container) (ks : List Container) (pad : Bool) (to : ℕ) (u : List ℕ)
      → Reaches g l c start (k ∷ ks) pad to u → container_end k < to
      → Decides g l u Malformed
  wrapper_unfilled : (c : List Slot) (start end : ℕ) (ks : List Container) (pad : Bool) (to : ℕ) (u : List ℕ)
      → Reaches g l c start (Noted end ∷ ks) pad to u → to < end
      → Decides g l u Malformed
  no_fields : (c : List Slot) (start : ℕ) (ks : List Container) (u : List ℕ) → EndsHeader g l c start ks Form.OrderedStruct 0 u
      → Decides g l u Malformed
  too_deep : (c : List Slot) (start : ℕ) (ks : List Container) (form : Form) (n : ℕ) (u : List ℕ)
      → EndsHeader g l c start ks form n u → IsContainer form → l.depth ≤ container_levels ks
      → Decides g l u Depth
  too_long : (c : List Slot) (start to : ℕ) (u : List ℕ) → Reaches g l c start [] false to u → start + l.item < to
      → Decides g l u ItemTooLong
  -- | for `ItemTooLong` also octet `item` + 1 of a header that hasn't ended |
  header_too_long : (c : List Slot) (start : ℕ) (form : Form) (a : ℕ) (u : List ℕ) (b : ℕ)
      → InNumber g l c start [] (Length form) a u → is_pad form ≡ false → b < 128 → start + l.item < length u + 1
      → Decides g l (u ++ b ∷ []) ItemTooLong
  -- | a number of annotation octets that is 0 or too large for its wrapper | its last octet |
  no_annotations : (c : List Slot) (start end : ℕ) (ks : List Container) (u : List ℕ) → EndsNumber g l c start ks (Count end) 0 u
      → Decides g l u Malformed
  annotations_past : (c : List Slot) (start end n : ℕ) (ks : List Container) (u : List ℕ)
      → EndsNumber g l c start ks (Count end) n u → end ≤ length u + n
      → Decides g l u Malformed
  -- | a VarUInt that runs past its container or past the annotations, a field name without a value | the last octet of the container or of the annotations |
  number_past : (c : List Slot) (start last : ℕ) (ks : List Container) (p : Number) (a : ℕ) (u : List ℕ) (b : ℕ)
      → InNumber g l c start ks p a u → b < 128 → LastOctet g l c start ks p last → last ≤ length u + 1
      → Decides g l (u ++ b ∷ []) Malformed
  no_length : (c : List Slot) (start : ℕ) (k : Container) (ks : List Container) (u : List ℕ) (b : ℕ) (form : Form)
      → Open g l c start (k ∷ ks) u → TakesValue (k ∷ ks) → opening_of b ≡ Sized form Follows → container_end k ≤ length u + 1
      → Decides g l (u ++ b ∷ []) Malformed
  no_count : (c : List Slot) (start : ℕ) (ks : List Container) (u : List ℕ) → EndsHeader g l c start ks Form.Wrapper 0 u
      → Decides g l u Malformed
  no_value : (c : List Slot) (start end id : ℕ) (ks : List Container) (u : List ℕ)
      → EndsNumber g l c start (Names end ∷ ks) Name id u → end ≤ length u
      → Decides g l u Malformed
  -- | the id of a field name (`SymbolRange`, `ImportGap`) | the descriptor behind it |
  no_name : (c : List Slot) (start end id : ℕ) (ks : List Container) (u : List ℕ) (b : ℕ) (e : Reason)
      → Open g l c start (Named end id ∷ ks) u → resolve c id ≡ Err e → ((size : Size) → opening_of b ≢ Sized Form.Pad size)
      → Decides g l (u ++ b ∷ []) e
  -- | the id of an annotation | its last octet |
  no_annotation : (c : List Slot) (start stop id : ℕ) (ks : List Container) (u : List ℕ) (e : Reason)
      → EndsNumber g l c start ks (Id stop) id u → resolve c id ≡ Err e
      → Decides g l u e
  -- | a body, with the id of a symbol | its last octet, or that of its length if it is empty |
  bad_body : (c : List Slot) (start end : ℕ) (ks : List Container) (t : Scalar) (front body : List ℕ) (e : Reason)
      → Headed l c start (Open g l c start ks) ks (Form.Scalar t) end front → end ≡ length front + length body → 0 < length body
      → judge c t body ≡ Err e
      → Decides g l (front ++ body) e
  bad_empty_body : (c : List Slot) (start : ℕ) (ks : List Container) (t : Scalar) (u : List ℕ) (e : Reason)
      → EndsHeader g l c start ks (Form.Scalar t) 0 u → judge c t [] ≡ Err e
      → Decides g l u e
  -- | a local symbol table | its last octet |
  bad_table : (u w : List ℕ) (s : List Value) (c : List Slot) (v : Value) (e : Reason) → Pieces g l u s c → Binary c w v
      → is_table v ≡ true → depth v ≤ l.depth → length w ≤ l.item → next c v g ≡ Err e
      → Decides g l (u ++ w) e

-- 4. What a refusal says.

-- "If two reasons fall on one octet, the smaller number answers": the last octet of u decides, and this is the reason that answers
pub record Answers (g : Catalog) (l : Limits) (u : List ℕ) (e : Reason) : Type 0 where
  pub decides : Decides g l u e
  pub smallest : (f : Reason) → Decides g l u f → reason_number e ≤ reason_number f
