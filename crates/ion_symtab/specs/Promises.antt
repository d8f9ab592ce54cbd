-- What a reader's trace promises over the documents of its format.
use Rattle.std.specs.Prelude.{◌≡◌, ◌≢◌, ◌+◌, ◌<◌, ◌≤◌, ℕ, List, [], ◌∷◌, ◌++◌, length, take, Some, None, Ok, Err, false}
use Rattle.ion_symtab.specs.Names.Below.{BadTable, DuplicateTable, Incomplete, Memory, Reason, Refusal, Value, is_table, nodes}
use Rattle.ion_atoms.specs.Octets.{AreOctets}
use Rattle.ion_symtab.specs.Trace.{Trace, plain}

-- no document begins with these octets, whichever numbers follow them
abbrev pub BeginsNone : (List ℕ → List Value → Type 0) → List ℕ → Type 0
BeginsNone denotes u = (rest : List ℕ) (s : List Value) → denotes (u ++ rest) s → ⊥

-- whole pieces of a document with these values, whatever octets follow them, where `open_rest` comes first
abbrev pub ArePieces : (List ℕ → List ℕ → List Value → Type 0) → List ℕ → List ℕ → List Value → Type 0
ArePieces pieces front open_rest s = (following : List ℕ) → AreOctets following → pieces front (open_rest ++ following) s

-- s are the values of the longest list of whole pieces at the front of u that remain pieces whatever octets follow u
pub record Shown (pieces : List ℕ → List ℕ → List Value → Type 0) (u : List ℕ) (s : List Value) : Type 0 where
  pub front : List ℕ
  pub open_rest : List ℕ
  pub parts : u ≡ front ++ open_rest
  pub whole : ArePieces pieces front open_rest s
  pub longest : (v rest : List ℕ) (t : List Value) → u ≡ v ++ rest → ArePieces pieces v rest t → length v ≤ length front

-- s is shown, and what is left is no longer than an open rest may be
pub record Shows (pieces : List ℕ → List ℕ → List Value → Type 0) (open_after : List ℕ → List ℕ → Type 0) (u : List ℕ) (s : List Value) : Type 0 where
  pub shown : Shown pieces u s
  pub rest : open_after shown.front shown.open_rest

-- A step refused: its offset is among these octets.
-- No document begins with the octets before the offset, what was given is what they show, and the end repeats the refusal.
-- It is for the octets' sake, and not for want of memory or of more octets.
pub record Refuses (denotes : List ℕ → List Value → Type 0) (pieces : List ℕ → List ℕ → List Value → Type 0) (u : List ℕ) (t : Trace) (r : Refusal) : Type
    0 where
  pub within : r.offset ≤ length u
  pub none : BeginsNone denotes (take r.offset u)
  pub shown : Shown pieces (take r.offset u) (plain t.given)
  pub ends : t.ends ≡ Err r
  pub whole_memory : r.reason ≢ Memory
  pub before_end : r.reason ≢ Incomplete

-- The octet that a refusal names decides: the octets up to it are refused so by themselves, and no step refuses fewer of them.
pub record IsFirst (trace : List ℕ → Trace) (u : List ℕ) (r : Refusal) : Type 0 where
  pub alone : (trace (take r.offset u)).refused ≡ Some r
  pub before : (k : ℕ) → k < r.offset → (trace (take k u)).refused ≡ None

-- octets are whole pieces with these values, and behind them what may stand open
pub record HasPieces (pieces : List ℕ → List ℕ → List Value → Type 0) (open_after : List ℕ → List ℕ → Type 0) (u : List ℕ) (s : List Value) : Type 0 where
  pub front : List ℕ
  pub open_rest : List ℕ
  pub parts : u ≡ front ++ open_rest
  pub whole : pieces front open_rest s
  pub rest : open_after front open_rest

-- A span behind the first `from` octets and within the first `at`: of at most `item` octets, and of at least as many as the value has
-- nodes. It isn't said here which octets of them are the value's own: that these are as many as its nodes is a law by itself.
pub record HasSpan (item from at : ℕ) (v : Value) : Type 0 where
  pub start : ℕ
  pub end : ℕ
  pub behind : from ≤ start
  pub within : end ≤ at
  pub fits : end ≤ start + item
  pub holds : start + nodes v ≤ end

-- each value has its span behind the octets used for the values before it, the first `from` octets, and within those used when it came;
-- `to` octets are used in all
abbrev pub Spaced : ℕ → ℕ → List (Value × ℕ) → ℕ → Type 0
Spaced item from [] to = from ≤ to
Spaced item from ((v, at) ∷ given) to = HasSpan item from at v × Spaced item at given to

-- between the totals at which a value and the one before it came there are at least as many octets as it has nodes, and it has at most
-- `item` nodes
pub record IsSmall (item : ℕ) (u : List ℕ) (t : Trace) : Type 0 where
  pub given : Spaced item 0 t.given (length u)
  pub last : (v : Value) → t.ends ≡ Ok (Some v) → Spaced item 0 (t.given ++ (v, length u) ∷ []) (length u)

-- a reason for which octets can be no document: neither want of memory nor one for which a catalog is refused
pub record IsReadersReason (reason : Reason) : Type 0 where
  pub whole_memory : reason ≢ Memory
  pub no_duplicate : reason ≢ DuplicateTable
  pub no_bad_table : reason ≢ BadTable

-- a step and the end refuse for such reasons alone
pub record HasReasons (t : Trace) : Type 0 where
  pub step : (r : Refusal) → t.refused ≡ Some r → IsReadersReason r.reason
  pub end : (r : Refusal) → t.ends ≡ Err r → IsReadersReason r.reason

-- none of these is a local symbol table
abbrev pub NoTables : List Value → Type 0
NoTables [] = Unit {0}
NoTables (v ∷ vs) = (is_table v ≡ false) × NoTables vs

-- no value given is a local symbol table
pub record GivesNoTable (t : Trace) : Type 0 where
  pub given : NoTables (plain t.given)
  pub last : (v : Value) → t.ends ≡ Ok (Some v) → is_table v ≡ false

-- where the end of these octets would give a value, the first that the octet behind them gives is that value, and came before that octet
abbrev pub EndsValues : (List ℕ → Trace) → List ℕ → Type 0
EndsValues trace u = (o : ℕ) (last v : Value) (total : ℕ) (later : List (Value × ℕ)) → (trace u).ends ≡ Ok (Some last)
    → (trace (u ++ o ∷ [])).given ≡ (trace u).given ++ (v, total) ∷ later → (total ≡ length u) × (v ≡ last)
