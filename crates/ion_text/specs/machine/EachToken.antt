-- The reader of tokens as a machine: what each token does.
use Rattle.std.specs.Prelude.{ℕ, ◌+◌, true, false, List, [], ◌∷◌, ◌++◌, length, nat_lt, nat_le, if◌then◌else◌, Result, Ok, Err, Option, Some, None, codes, bytes_eq}
use Rattle.ion_text.specs.Names.Below.{Blob, Bracket, Catalog, Clob, Content, Frame, Held, Id, Kind, Limits, ListOrSexp, Long, Mark, Mark', Number', Operator, Payload, Place, Quoted, Reason, Short, Slot, Stage, TypedNull, Value, Word, annotated, field_of, is_table, next, number_payload, resolve, system_slots}
use Rattle.ion_model.specs.declared.value.Payload.TheVariants as payloads
use Rattle.ion_spelling.specs.Keywords.{is_keyword}
use Rattle.ion_text.specs.Grammar.{is_version, the_marker}

-- symbols, each a text or unknown
abbrev pub Symbols : Type 0
Symbols = List (Option (List ℕ))

-- what stays: the shared tables that a document may import, and how much may come
pub record Setting : Type 0 where
  pub catalog : Catalog
  pub limits : Limits

-- a token ends at `end`, the open item of the top level begins at `start`, `context` are the slots of symbol ids there
pub record Spot : Type 0 where
  pub end : ℕ
  pub start : ℕ
  pub context : List Slot

-- the open item of the top level begins at `start`; `context` are the slots of symbol ids there, `frames` the open containers, the
-- innermost first, and `notes` the annotations read of the value that is read now
pub record Reading : Type 0 where
  pub start : ℕ
  pub context : List Slot
  pub frames : List Frame
  pub notes : Symbols
  pub now : Stage

-- what a token leads to
pub data Turn : Type 0 where
  goes : Reading → Turn
  gives : Value → Reading → Turn
  refuses : Reason → Turn
  -- refused, unless the octet that shows it is refused for a smaller reason where this is read next
  late : Reason → Reading → Turn

-- a token that is judged
pub record Token : Type 0 where
  pub start : ℕ
  pub end : ℕ
  pub said : Content

-- the setting of this catalog and these limits
abbrev pub under : Catalog → Limits → Setting
under g l = record { catalog = g; limits = l }

-- the spot where a token ends at `end`, and the open item begins at `start` with these slots
abbrev pub spot_at : ℕ → ℕ → List Slot → Spot
spot_at end start c = record { end = end; start = start; context = c }

-- a token of the open item ends at `end`
abbrev pub spot_in : Reading → ℕ → Spot
spot_in r end = spot_at end r.start r.context

-- the token that begins and ends there and says this
abbrev pub token_at : ℕ → ℕ → Content → Token
token_at start end said = record { start = start; end = end; said = said }

-- the reading with these open containers and annotations, of an item that begins at `start`
abbrev pub at : ℕ → List Slot → List Frame → Symbols → Stage → Reading
at start c fs ss now = record { start = start; context = c; frames = fs; notes = ss; now = now }

-- no item is open
abbrev pub fresh : List Slot → Reading
fresh c = at 0 c [] [] Stage.Ready

-- where the items of a list or an s-expression stand, and what may come behind one
abbrev pub item_place : ListOrSexp → Place
item_place ListOrSexp.List = Place.List
item_place ListOrSexp.Sexp = Place.Sexp

-- what may come behind an item: of a list a comma or the close
abbrev pub behind_item : ListOrSexp → Stage
behind_item ListOrSexp.List = Stage.After
behind_item ListOrSexp.Sexp = Stage.Ready

-- the place in which the next token is looked for
abbrev pub place_in : List Frame → Stage → Place
place_in [] now = Place.Top
place_in (Frame.Items listing ss vs ∷ fs) now = item_place listing
place_in (Frame.Fields ss ms ∷ fs) Stage.After = Place.FieldValue
place_in (Frame.Fields ss ms ∷ fs) _ = Place.Name
place_in (Frame.Named ss ms name ∷ fs) now = Place.FieldValue

-- the place in which a reading looks for the next token
abbrev pub place : Reading → Place
place r = place_in r.frames r.now

-- an item of the top level that ends here is whole, if it isn't too long
abbrev pub within : ℕ → ℕ → ℕ → Turn → Turn
within item start end t = if nat_le end (start + item) then t else refuses Reason.ItemTooLong

-- behind a local symbol table
abbrev pub turned : ℕ → ℕ → ℕ → Result (List Slot) Reason → Turn
turned item start end (Ok d) = within item start end (goes (fresh d))
turned item start end (Err e) = refuses e

-- a value is whole, with the token that ends here
abbrev pub ended : Setting → Spot → List Frame → Value → Turn
ended setting spot [] v =
    if is_table v then turned setting.limits.item spot.start spot.end (next spot.context v setting.catalog)
    else within setting.limits.item spot.start spot.end (gives v (fresh spot.context))
ended setting spot (Frame.Items listing ss vs ∷ fs) v =
    goes (at spot.start spot.context (Frame.Items listing ss (vs ++ v ∷ []) ∷ fs) [] (behind_item listing))
ended setting spot (Frame.Named ss ms name ∷ fs) v =
    goes (at spot.start spot.context (Frame.Fields ss (ms ++ field_of name v ∷ []) ∷ fs) [] Stage.After)
ended setting spot (Frame.Fields ss ms ∷ fs) v = refuses Reason.Unexpected

-- what a word is as a value, or as an annotation
abbrev pub held_word : List ℕ → Held
held_word w =
    if bytes_eq w (codes "null") then Held.Null Kind.Null
    else (if bytes_eq w (codes "true") then Held.Truth true
    else (if bytes_eq w (codes "false") then Held.Truth false
    else (if bytes_eq w (codes "nan") then Held.Nan
    else (if is_version w then Held.Version (bytes_eq w the_marker) (Some w)
    else Held.Symbol (Some w)))))

-- what was held, as a value; `nan` is none, and is refused as a float
abbrev pub held_payload : Held → Result Payload Reason
held_payload (Held.Symbol s) = Ok (payloads.Symbol s)
held_payload (Held.Version ours s) = Ok (payloads.Symbol s)
held_payload (Held.Null k) = Ok (payloads.Null k)
held_payload (Held.Truth b) = Ok (payloads.Truth b)
held_payload Held.Nan = Err Reason.Float

-- what was held, as an annotation; a keyword is none
abbrev pub held_symbol : Held → Result (Option (List ℕ)) Reason
held_symbol (Held.Symbol s) = Ok s
held_symbol (Held.Version ours s) = Ok s
held_symbol _ = Err Reason.KeywordAsName

-- the value of what was held is whole, or it is refused
abbrev pub paid : Setting → Spot → List Frame → Symbols → Result Payload Reason → Turn
paid setting spot fs ss (Ok q) = ended setting spot fs (annotated ss q)
paid setting spot fs ss (Err e) = refuses e

-- no `::` follows what was held; an unannotated version marker at the top level is no value
abbrev pub released : Setting → Spot → List Frame → Symbols → Held → Turn
released setting spot [] [] (Held.Version true s) = within setting.limits.item spot.start spot.end (goes (fresh system_slots))
released setting spot [] [] (Held.Version false s) = late Reason.Version (fresh spot.context)
released setting spot fs ss h = paid setting spot fs ss (held_payload h)

-- what waited for more is whole
abbrev pub settled : Setting → ℕ → List Slot → List Frame → Symbols → Stage → Turn
settled setting start c fs ss (Stage.Pending h end) = released setting (spot_at end start c) fs ss h
settled setting start c fs ss (Stage.Long w end) = ended setting (spot_at end start c) fs (annotated ss (payloads.Str w))
settled setting start c fs ss (Stage.LongName w) = goes (at start c fs ss (Stage.Keyed (Some w)))
settled setting start c fs ss now = goes (at start c fs ss now)

-- what waits in a reading is whole
abbrev pub settle : Catalog → Limits → Reading → Turn
settle g l r = settled (under g l) r.start r.context r.frames r.notes r.now

-- one level more, if the limit admits it
abbrev pub deeper : ℕ → List Frame → Turn → Turn → Turn
deeper depth fs t deep = if nat_lt (length fs) depth then t else deep

-- what comes of an id's symbol, or the refusal where it has none
abbrev pub resolved : Result (Option (List ℕ)) Reason → (Option (List ℕ) → Turn) → Turn
resolved (Ok s) f = f s
resolved (Err e) f = refuses e

-- a token that may not stand there is refused
abbrev pub unexpected : Turn
unexpected = refuses Reason.Unexpected

-- a container behind its open, and what may come there
abbrev pub opened : Bracket → Symbols → Frame
opened Bracket.List ss = Frame.Items ListOrSexp.List ss []
opened Bracket.Sexp ss = Frame.Items ListOrSexp.Sexp ss []
opened Bracket.Fields ss = Frame.Fields ss []

-- what may come behind an open: in a struct a name, else a value
abbrev pub first_now : Bracket → Stage
first_now Bracket.Fields = Stage.Name
first_now _ = Stage.Ready

-- a container beyond the limit on depth; the octet behind `{` shows that it is no `{{`, and may be refused for a smaller reason
abbrev pub beyond_depth : Bracket → Reading → Turn
beyond_depth Bracket.Fields r = late Reason.Depth r
beyond_depth _ r = refuses Reason.Depth

-- an open
abbrev pub opening : Bracket → ℕ → ℕ → List Slot → List Frame → Symbols → Turn
opening bracket depth start c fs ss = deeper depth fs (goes (at start c (opened bracket ss ∷ fs) [] (first_now bracket)))
    (beyond_depth bracket (at start c (opened bracket ss ∷ fs) [] (first_now bracket)))

-- a close, where no annotation stands before it
abbrev pub closed : Bracket → Setting → Spot → List Frame → Turn
closed Bracket.List setting spot (Frame.Items ListOrSexp.List ss vs ∷ fs) = ended setting spot fs (annotated ss (payloads.List vs))
closed Bracket.Sexp setting spot (Frame.Items ListOrSexp.Sexp ss vs ∷ fs) = ended setting spot fs (annotated ss (payloads.Sexp vs))
closed Bracket.Fields setting spot (Frame.Fields ss ms ∷ fs) = ended setting spot fs (annotated ss (payloads.Fields ms))
closed _ setting spot _ = unexpected

-- a close is unexpected behind an annotation
abbrev pub bare_close : Symbols → Turn → Turn
bare_close [] t = t
bare_close (s ∷ ss) t = unexpected

-- a value or an annotation may come, of an item that begins where the spot says
abbrev pub on_ready : Setting → Spot → List Frame → Symbols → Content → Turn
on_ready setting spot fs ss (Word w) = goes (at spot.start spot.context fs ss (Stage.Pending (held_word w) spot.end))
on_ready setting spot fs ss (Id id) =
    resolved (resolve spot.context id) (λ s. goes (at spot.start spot.context fs ss (Stage.Pending (Held.Symbol s) spot.end)))
on_ready setting spot fs ss (Quoted w) = goes (at spot.start spot.context fs ss (Stage.Pending (Held.Symbol (Some w)) spot.end))
on_ready setting spot fs ss (TypedNull k) = goes (at spot.start spot.context fs ss (Stage.Pending (Held.Null k) spot.end))
on_ready setting spot fs ss (Long w) = goes (at spot.start spot.context fs ss (Stage.Long w spot.end))
on_ready setting spot fs ss (Short w) = ended setting spot fs (annotated ss (payloads.Str w))
on_ready setting spot fs ss (Number' n) = ended setting spot fs (annotated ss (number_payload n))
on_ready setting spot fs ss (Operator w) = ended setting spot fs (annotated ss (payloads.Symbol (Some w)))
on_ready setting spot fs ss (Clob w) = ended setting spot fs (annotated ss (payloads.Clob w))
on_ready setting spot fs ss (Blob w) = ended setting spot fs (annotated ss (payloads.Blob w))
on_ready setting spot fs ss (Mark' Mark.ListOpen) = opening Bracket.List setting.limits.depth spot.start spot.context fs ss
on_ready setting spot fs ss (Mark' Mark.SexpOpen) = opening Bracket.Sexp setting.limits.depth spot.start spot.context fs ss
on_ready setting spot fs ss (Mark' Mark.FieldsOpen) = opening Bracket.Fields setting.limits.depth spot.start spot.context fs ss
on_ready setting spot fs ss (Mark' Mark.ListClose) = bare_close ss (closed Bracket.List setting spot fs)
on_ready setting spot fs ss (Mark' Mark.SexpClose) = bare_close ss (closed Bracket.Sexp setting spot fs)
on_ready setting spot fs ss (Mark' _) = unexpected

-- behind what may be an annotation
abbrev pub noted : ℕ → List Slot → List Frame → Symbols → Result (Option (List ℕ)) Reason → Turn
noted start c fs ss (Ok s) = goes (at start c fs (ss ++ s ∷ []) Stage.Ready)
noted start c fs ss (Err e) = late e (at start c fs (ss ++ None ∷ []) Stage.Ready)

-- `::` makes an annotation of what was held, and no other token may come
abbrev pub on_pending : ℕ → List Slot → List Frame → Symbols → Held → Content → Turn
on_pending start c fs ss h (Mark' Mark.Colons) = noted start c fs ss (held_symbol h)
on_pending start c fs ss h _ = unexpected

-- a further segment goes on with a long string, and no other token may come
abbrev pub on_long : Spot → List Frame → Symbols → List ℕ → Content → Turn
on_long spot fs ss v (Long w) = goes (at spot.start spot.context fs ss (Stage.Long (v ++ w) spot.end))
on_long spot fs ss v _ = unexpected

-- behind a comma the next element may come, or the next field's name
abbrev pub on_comma : ℕ → List Slot → List Frame → Turn
on_comma start c (Frame.Items ListOrSexp.List ss vs ∷ fs) = goes (at start c (Frame.Items ListOrSexp.List ss vs ∷ fs) [] Stage.Ready)
on_comma start c (Frame.Fields ss ms ∷ fs) = goes (at start c (Frame.Fields ss ms ∷ fs) [] Stage.Name)
on_comma start c _ = unexpected

-- behind an element or a field a comma or the close may come
abbrev pub on_after : Setting → Spot → List Frame → Content → Turn
on_after setting spot fs (Mark' Mark.Comma) = on_comma spot.start spot.context fs
on_after setting spot fs (Mark' Mark.ListClose) = closed Bracket.List setting spot fs
on_after setting spot fs (Mark' Mark.FieldsClose) = closed Bracket.Fields setting spot fs
on_after setting spot fs _ = unexpected

-- a field's name was read, behind which its colon may come
abbrev pub keyed : ℕ → List Slot → List Frame → Option (List ℕ) → Reading
keyed start c fs s = at start c fs [] (Stage.Keyed s)

-- a field's name may come, or the close of the struct
abbrev pub on_name : Setting → Spot → List Frame → Content → Turn
on_name setting spot fs (Word w) =
    if is_keyword w then late Reason.KeywordAsName (keyed spot.start spot.context fs (Some w))
    else goes (keyed spot.start spot.context fs (Some w))
on_name setting spot fs (TypedNull k) = late Reason.KeywordAsName (keyed spot.start spot.context fs None)
on_name setting spot fs (Id id) = resolved (resolve spot.context id) (λ s. goes (keyed spot.start spot.context fs s))
on_name setting spot fs (Quoted w) = goes (keyed spot.start spot.context fs (Some w))
on_name setting spot fs (Short w) = goes (keyed spot.start spot.context fs (Some w))
on_name setting spot fs (Long w) = goes (at spot.start spot.context fs [] (Stage.LongName w))
on_name setting spot fs (Mark' Mark.FieldsClose) = closed Bracket.Fields setting spot fs
on_name setting spot fs _ = unexpected

-- a further segment goes on with a long name, and no other token may come
abbrev pub on_long_name : ℕ → List Slot → List Frame → List ℕ → Content → Turn
on_long_name start c fs v (Long w) = goes (at start c fs [] (Stage.LongName (v ++ w)))
on_long_name start c fs v _ = unexpected

-- behind a field's name and its colon the value may come
abbrev pub named : ℕ → List Slot → List Frame → Option (List ℕ) → Turn
named start c (Frame.Fields ss ms ∷ fs) s = goes (at start c (Frame.Named ss ms s ∷ fs) [] Stage.Ready)
named start c _ s = unexpected

-- behind a field's name its colon may come
abbrev pub on_keyed : ℕ → List Slot → List Frame → Option (List ℕ) → Content → Turn
on_keyed start c fs s (Mark' Mark.Colon) = named start c fs s
on_keyed start c fs s _ = unexpected

-- where the item of a token begins
abbrev pub begun_at : ℕ → ℕ → List Frame → Symbols → ℕ
begun_at start begin [] [] = begin
begun_at start begin _ _ = start

-- what a token does where this is expected; where nothing waits, an item may begin with it
abbrev pub turn_now : Setting → Reading → Token → Stage → Turn
turn_now setting r t Stage.Ready =
    on_ready setting (spot_at t.end (begun_at r.start t.start r.frames r.notes) r.context) r.frames r.notes t.said
turn_now setting r t (Stage.Pending h _) = on_pending r.start r.context r.frames r.notes h t.said
turn_now setting r t (Stage.Long w _) = on_long (spot_in r t.end) r.frames r.notes w t.said
turn_now setting r t Stage.After = on_after setting (spot_in r t.end) r.frames t.said
turn_now setting r t Stage.Name = on_name setting (spot_in r t.end) r.frames t.said
turn_now setting r t (Stage.LongName w) = on_long_name r.start r.context r.frames w t.said
turn_now setting r t (Stage.Keyed s) = on_keyed r.start r.context r.frames s t.said

-- what a token does
abbrev pub turn : Catalog → Limits → Reading → Token → Turn
turn g l r t = turn_now (under g l) r t r.now
