-- Which octet decides that no document begins so, or what the end decides, and why, for the reasons that symbols, symbol tables, versions
-- and levels give: for each of these rows of docs/FORMAT.md, "Values in text", the constructors of `Gives` that stand under it. A row says
-- which tokens the octets are (whole pieces of the grammar, then those of an open item), and what shows it. Nothing here speaks of reading.
use Rattle.std.specs.Prelude.{◌≡◌, ◌≢◌, ◌⊎◌, ◌+◌, ◌≤◌, ℕ, suc, Bool, true, false, ◌&&◌, List, [], ◌∷◌, ◌++◌, length, map, Option, Err, codes}
use Rattle.ion_refusals.specs.Names.Below.{Catalog, Content, Depth, Field, Id, ImportGap, KeywordAsName, Kind, LexesTo, Limits, Mark, Mark', MissingImport, NullTable, Place, Placed, Reason, RepeatedField, Slot, SymbolRange, TableTooLarge, Value, Version, Word, annotated, depth, greatest, is_table, next, resolve}
use Rattle.ion_model.specs.declared.value.Payload.TheVariants as payloads
use Rattle.ion_text.specs.Grammar.{Annotations, BlankThen, Elements, IsKeyword, IsName, Means, Members, Pieces, Row, Says, begins_as_long, ends_long, is_version, the_marker}

-- 1. What stands open.

-- a container that has begun
pub data Container : Type 0 where
  -- a list, in which an element may come next
  InList : Container
  -- an s-expression
  InSexp : Container
  -- a struct, in which the name of a field may come next
  InStruct : Container
  -- a struct, behind the name of a field and its colon
  InField : Container

-- where the next token stands
abbrev pub place_of : List Container → Place
place_of [] = Place.Top
place_of (InList ∷ ks) = Place.List
place_of (InSexp ∷ ks) = Place.Sexp
place_of (InStruct ∷ ks) = Place.Name
place_of (InField ∷ ks) = Place.FieldValue

-- a value may come there, and no name
abbrev pub TakesValue : List Container → Type 0
TakesValue (InStruct ∷ ks) = ⊥
TakesValue _ = Unit {0}

-- what has come of a container with values as deep as this, in these containers, is within the limit
abbrev pub MayGoSoDeep : Limits → List Container → ℕ → Type 0
MayGoSoDeep l ks deepest = deepest + suc (length ks) ≤ l.depth

-- the tokens of an item, behind which these containers stand open, the innermost first
pub data Open (l : Limits) (c : List Slot) : List Container → List Placed → Type 0 where
  none_open : Open l c [] []
  list_open : (ks : List Container) (ts notes us : List Placed) (ss : List (Option (List ℕ))) (t : Placed) (vs : List Value)
      → Open l c ks ts → TakesValue ks → Annotations c (place_of ks) notes ss → Says (place_of ks) t (Mark' Mark.ListOpen) → Elements c us vs true
      → MayGoSoDeep l ks (greatest (map depth vs)) → Open l c (InList ∷ ks) (ts ++ (notes ++ t ∷ us))
  sexp_open : (ks : List Container) (ts notes us : List Placed) (ss : List (Option (List ℕ))) (t : Placed) (vs : List Value)
      → Open l c ks ts → TakesValue ks → Annotations c (place_of ks) notes ss → Says (place_of ks) t (Mark' Mark.SexpOpen) → Row c us vs
      → MayGoSoDeep l ks (greatest (map depth vs)) → Open l c (InSexp ∷ ks) (ts ++ (notes ++ t ∷ us))
  struct_open : (ks : List Container) (ts notes us : List Placed) (ss : List (Option (List ℕ))) (t : Placed) (ms : List Field)
      → Open l c ks ts → TakesValue ks → Annotations c (place_of ks) notes ss → Says (place_of ks) t (Mark' Mark.FieldsOpen) → Members c us ms true
      → MayGoSoDeep l ks (greatest (map (λ f. depth f.value) ms)) → Open l c (InStruct ∷ ks) (ts ++ (notes ++ t ∷ us))
  named : (ks : List Container) (ts ns : List Placed) (s : Option (List ℕ)) (colon : Placed)
      → Open l c (InStruct ∷ ks) ts → IsName c ns s → Says Place.Name colon (Mark' Mark.Colon) → Open l c (InField ∷ ks) (ts ++ (ns ++ colon ∷ []))

-- annotations may stand before a value, and none before a name
abbrev pub MayNote : List Container → List Placed → Type 0
MayNote (InStruct ∷ ks) notes = notes ≡ []
MayNote _ notes = Unit {0}

-- The tokens are whole pieces, behind which the slots are c, and an open item of which these containers stand open, where this token comes
-- next and says this: a value or a name begins with it, or annotations stand before it. An item doesn't go on with a long string before it.
pub record Comes (g : Catalog) (l : Limits) (c : List Slot) (ks : List Container) (said : Content) (ts : List Placed) : Type 0 where
  pub front : List Placed
  pub item : List Placed
  pub notes : List Placed
  pub token : Placed
  pub values : List Value
  pub symbols : List (Option (List ℕ))
  pub parts : ts ≡ front ++ ((item ++ notes) ++ token ∷ [])
  pub pieces : Pieces g l front values c
  pub open' : Open l c ks item
  pub noted : Annotations c (place_of ks) notes symbols
  pub may : MayNote ks notes
  pub apart : (ends_long front && begins_as_long (item ++ notes)) ≡ false
  pub says : Says (place_of ks) token said

-- the tokens are whole pieces, behind which the slots are c, and this value
pub record Ends (g : Catalog) (l : Limits) (c : List Slot) (v : Value) (ts : List Placed) : Type 0 where
  pub front : List Placed
  pub item : List Placed
  pub values : List Value
  pub parts : ts ≡ front ++ item
  pub pieces : Pieces g l front values c
  pub means : Means c Place.Top item v
  pub deep : depth v ≤ l.depth
  pub apart : (ends_long front && begins_as_long item) ≡ false

-- 2. What the octets show.

-- the octets are these tokens, with blanks between, and then the rest
abbrev pub Are : List ℕ → List Placed → List ℕ → Type 0
Are u ts rest = (colon : Bool) × (end : ℕ) × LexesTo false 0 u ts colon end rest

-- Behind the tokens `::` may yet follow up to the last octet, which shows that it doesn't, whatever comes.
pub record NoColons (u : List ℕ) (ts : List Placed) : Type 0 where
  pub rest : List ℕ
  pub o : ℕ
  pub are : Are u ts (rest ++ o ∷ [])
  pub before : (more : List ℕ) × BlankThen (codes "::") (rest ++ more)
  pub after : (more : List ℕ) → BlankThen (codes "::") (rest ++ o ∷ more) → ⊥

-- behind the tokens `::` may yet follow, and hasn't
pub record AwaitsColons (u : List ℕ) (ts : List Placed) : Type 0 where
  pub rest : List ℕ
  pub are : Are u ts rest
  pub before : (more : List ℕ) × BlankThen (codes "::") (rest ++ more)
  pub after : BlankThen (codes "::") rest → ⊥

-- what shows that the last of the tokens has ended: an octet, or the end of the input
pub record Sight : Type 1 where
  -- a word
  pub word : List Placed → Type 0
  -- the `{` of a struct, which begins no lob
  pub struct : List Placed → Type 0
  -- another mark
  pub mark : List Placed → Type 0
  -- what `::` might follow, and doesn't
  pub alone : List Placed → Type 0

-- the last of these octets: the one directly behind a word or `{`, the last one of another mark, the first that goes on to no `::`
abbrev pub by_octet : List ℕ → Sight
by_octet u = record {
  word = λ ts. (o : ℕ) × Are u ts (o ∷ []);
  struct = λ ts. (o : ℕ) × Are u ts (o ∷ []);
  mark = λ ts. Are u ts [];
  alone = λ ts. NoColons u ts;
}

-- The end behind these octets: directly behind a word, or where `::` may yet follow. Marks are shown by octets alone.
abbrev pub by_end : List ℕ → Sight
by_end u = record {
  word = λ ts. Are u ts [];
  struct = λ ts. ⊥;
  mark = λ ts. ⊥;
  alone = λ ts. AwaitsColons u ts;
}

-- the mark that opens a list or an s-expression
abbrev pub OpensRow : Content → Type 0
OpensRow said = (said ≡ Mark' Mark.ListOpen) ⊎ (said ≡ Mark' Mark.SexpOpen)

-- 3. What decides, each under its row of the table.

-- one of the table's rows gives this reason, and what it asks to be seen is seen
pub data Gives (g : Catalog) (l : Limits) (sight : Sight) : Reason → Type 0 where
  -- "an id of a symbol; `KeywordAsName` of a field's name | the octet that ends the word"
  no_symbol : (ts : List Placed) (c : List Slot) (ks : List Container) (id : ℕ) (e : Reason)
      → sight.word ts → Comes g l c ks (Id id) ts → resolve c id ≡ Err e → Gives g l sight e
  keyword_as_name : (ts : List Placed) (c : List Slot) (ks : List Container) (said : Content)
      → sight.word ts → Comes g l c (InStruct ∷ ks) said ts → IsKeyword said → Gives g l sight KeywordAsName
  -- "`KeywordAsName` of an annotation | the second colon"
  keyword_as_annotation : (ts : List Placed) (colons : Placed) (c : List Slot) (ks : List Container) (said : Content)
      → sight.mark (ts ++ colons ∷ []) → Comes g l c ks said ts → TakesValue ks → IsKeyword said → Says (place_of ks) colons (Mark' Mark.Colons)
      → Gives g l sight KeywordAsName
  -- "`nan`, `Version`, `NullTable` | the octet that shows that no `::` follows, or the end"
  other_version : (ts : List Placed) (c : List Slot) (w : List ℕ)
      → sight.alone ts → (h : Comes g l c [] (Word w) ts) → h.notes ≡ [] → is_version w ≡ true → w ≢ the_marker → Gives g l sight Version
  null_table : (ts : List Placed) (c : List Slot) (ss : List (Option (List ℕ))) (k : Kind) (e : Reason)
      → sight.alone ts → Ends g l c (annotated ss (payloads.Null k)) ts → is_table (annotated ss (payloads.Null k)) ≡ true
      → next c (annotated ss (payloads.Null k)) g ≡ Err e → Gives g l sight e
  -- "`Depth` | the `[` or `(`; of a struct the octet after `{`, which shows that no lob begins"
  too_deep : (ts : List Placed) (c : List Slot) (ks : List Container) (said : Content)
      → sight.mark ts → Comes g l c ks said ts → TakesValue ks → OpensRow said → l.depth ≤ length ks → Gives g l sight Depth
  struct_too_deep : (ts : List Placed) (c : List Slot) (ks : List Container)
      → sight.struct ts → Comes g l c ks (Mark' Mark.FieldsOpen) ts → TakesValue ks → l.depth ≤ length ks → Gives g l sight Depth
  -- "a local symbol table, but `NullTable` | its `}`"
  bad_table : (ts : List Placed) (c : List Slot) (ss : List (Option (List ℕ))) (ms : List Field) (e : Reason)
      → sight.mark ts → Ends g l c (annotated ss (payloads.Fields ms)) ts → is_table (annotated ss (payloads.Fields ms)) ≡ true
      → next c (annotated ss (payloads.Fields ms)) g ≡ Err e → Gives g l sight e

-- the last of these octets decides
abbrev pub Decides : Catalog → Limits → List ℕ → Reason → Type 0
Decides g l u e = Gives g l (by_octet u) e

-- the end behind these octets does
abbrev pub EndDecides : Catalog → Limits → List ℕ → Reason → Type 0
EndDecides g l u e = Gives g l (by_end u) e

-- the reasons of these rows, which no others give
abbrev pub HasRow : Reason → Type 0
HasRow SymbolRange = Unit {0}
HasRow ImportGap = Unit {0}
HasRow MissingImport = Unit {0}
HasRow RepeatedField = Unit {0}
HasRow TableTooLarge = Unit {0}
HasRow NullTable = Unit {0}
HasRow Depth = Unit {0}
HasRow Version = Unit {0}
HasRow KeywordAsName = Unit {0}
HasRow _ = ⊥
