-- Worked documents.
use Rattle.std.proofs.Common.{ℕ, ◌≤◌, List, [], ◌∷◌, Some, None, refl, arith}
use Rattle.std.specs.Prelude.{codes}
use Rattle.std.specs.Str as str
use lib.Utf8 as utf8
use denote.Hole.Carrier as carrier
use Rattle.ion_text.specs.Names.{Catalog, Document, Limits, Pieces, Placed, Slot, Value, annotated, bare, begins, holds, marked, turns}
use Rattle.ion_model.specs.declared.value.Payload.TheBlock as block
use Rattle.ion_model.specs.declared.value.Payload.TheVariants as payloads
use Rattle.ion_model.specs.declared.value.Payload.TheViews as views
use Rattle.ion_tokens.specs.machine.Said as said_by
use Rattle.ion_symtab.specs.Next as next_by
use Rattle.ion_symtab.specs.Slots as slots
use Rattle.ion_text.specs.laws.reading.Promises.{exact}

-- 1. Wider limits admit what narrower ones do.
module _ (g : Catalog) (l m : Limits) (deep : l.depth ≤ m.depth) (long : l.item ≤ m.item) where
  pieces_wider : (ts : List Placed) (s : List Value) (c : List Slot) → Pieces g l ts s c → Pieces g m ts s c
  pieces_wider _ _ _ begins = begins
  pieces_wider _ _ _ (marked ts s c t p w fits) = marked ts s c t (pieces_wider ts s c p) w (omega arith)
  pieces_wider _ _ _ (turns ts us s c d v p is table next low fits apart) =
      turns ts us s c d v (pieces_wider ts s c p) is table next (omega arith) (omega arith) apart
  pieces_wider _ _ _ (holds ts us s c v p is table version low fits apart) =
      holds ts us s c v (pieces_wider ts s c p) is table version (omega arith) (omega arith) apart

  -- what is a document within some limits is one with the same values within wider ones
  pub wider : (u : List ℕ) (s : List Value) → Document g l u s → Document g m u s
  wider u s d = record { tokens = d.tokens; context = d.context; lexed = d.lexed; pieces = pieces_wider d.tokens s d.context d.pieces }

-- two levels, and items of 100 octets
abbrev hundred : Limits
hundred = record { depth = 2; item = 100; reads = 1; deep = (omega arith, omega arith); long = (omega arith, omega arith); often = (omega arith, omega arith) }

-- 2. The values.
abbrev symbol_value : List ℕ → Value
symbol_value text = bare (payloads.Symbol (Some text))

abbrev sum_value : Value
sum_value = bare (payloads.Sexp (symbol_value (codes "x") ∷ symbol_value (codes "+") ∷ symbol_value (codes "y") ∷ []))

abbrev note_value : Value
note_value = annotated (Some (codes "a") ∷ []) (payloads.Symbol (Some (codes "b")))

-- 3. Documents and their streams: none; a long string in two segments; operators; an annotation with comments around; a table that another appends to.
abbrev pub worked_documents : List (List ℕ × List Value)
worked_documents =
    (codes "", [])
    ∷ (codes "'''a''' /* c */ '''b'''", bare (payloads.Str (codes "ab")) ∷ [])
    ∷ (codes "(x+y)", sum_value ∷ [])
    ∷ (codes "a /* */ :: // c\nb", note_value ∷ [])
    ∷ (
      codes "$ion_symbol_table::{symbols:[\"a\"]} $10 $ion_symbol_table::{imports:$ion_symbol_table,symbols:[\"b\"]} $10 $11",
      symbol_value (codes "a") ∷ symbol_value (codes "a") ∷ symbol_value (codes "b") ∷ [],
    )
    ∷ []

-- each is a document with these values
abbrev pub AreDocuments : Catalog → Limits → List (List ℕ × List Value) → Type 0
AreDocuments g l [] = Unit {0}
AreDocuments g l (row ∷ rows) = Document g l row.0 row.1 × AreDocuments g l rows

-- 4. By the reading.
module _ (g : Catalog) where
  joined : Document g hundred (codes "'''a''' /* c */ '''b'''") (bare (payloads.Str (codes "ab")) ∷ [])
  unfolding said_by.said str.is_utf8 str.chars utf8.encode
  joined = (exact g _ _ _).0 (record { last = Some (bare (payloads.Str (codes "ab"))); ends = refl; values = refl })

  sum : Document g hundred (codes "(x+y)") (sum_value ∷ [])
  unfolding said_by.said str.is_utf8 str.chars utf8.encode
  sum = (exact g _ _ _).0 (record { last = None; ends = refl; values = refl })

  note : Document g hundred (codes "a /* */ :: // c\nb") (note_value ∷ [])
  unfolding said_by.said str.is_utf8 str.chars utf8.encode
  note = (exact g _ _ _).0 (record { last = Some note_value; ends = refl; values = refl })

  appended : Document g hundred (codes "$ion_symbol_table::{symbols:[\"a\"]} $10 $ion_symbol_table::{imports:$ion_symbol_table,symbols:[\"b\"]} $10 $11")
      (symbol_value (codes "a") ∷ symbol_value (codes "a") ∷ symbol_value (codes "b") ∷ [])
  unfolding said_by.said str.is_utf8 str.chars utf8.encode views.out-Payload carrier.out carrier.shown carrier.hidden next_by.next block.shown-the_row-Field-1
      slots.system_slots slots.system_texts slots.resolve
  appended = (exact g _ _ _).0 (record { last = Some (symbol_value (codes "b")); ends = refl; values = refl })

  none : Document g hundred (codes "") []
  none = (exact g _ _ _).0 (record { last = None; ends = refl; values = refl })

  -- and so within wider limits
  pub are_documents : (l : Limits) → 2 ≤ l.depth → 100 ≤ l.item → AreDocuments g l worked_documents
  are_documents l deep long = (
    wider g hundred l deep long _ _ none,
    (
      wider g hundred l deep long _ _ joined,
      (
        wider g hundred l deep long _ _ sum,
        (
          wider g hundred l deep long _ _ note,
          (
            wider g hundred l deep long _ _ appended,
            tt,
          ),
        ),
      ),
    ),
  )
