-- Why there is no answer over a device of whose octets all are known, and no read of which fails.
use Rattle.std.proofs.Common.{◌≡◌, ◌⊎◌, ◌∙◌, ℕ, ◌≤◌, List, [], ◌∷◌, ◌++◌, length, Bool, true, false, Option, None, Some, Ok, Err, refl, inl, inr, sym, ap, subst, append-nil, append_assoc, arith}
use Rattle.std.specs.Prelude.{IsNone, IfSome}
use Rattle.ion_memory.specs.Names.{Encoding, Fault, Inlet, IsFront, IsWriteCause, Limits, Memory, Open, Outlet, Read, Tables as Catalog, TellsOnly, TooLarge, TooManyReads, Value, Write, format_of}
use Rattle.ion_symtab.specs.Cause.{IsReadCause}
use Rattle.ion_symtab.specs.declared.items.Items.{Ghosts as Items}
use Rattle.ion_streams.specs.reading.Read.{GaveSoFar}
use Rattle.ion_docs.specs.Converted.{IsConvertCause, ReadSoFar, at_end, at_refusal, in_reading}
use Rattle.ion_docs.proofs.Told.{document_whole, reads_whole, refused_whole, whole}
use Rattle.ion_memory.specs.Octets.{IsFaultInMemory, NeedsTooLargeId, WereRead, fault_in_memory, in_all, so_far}

-- what a reader gave of octets stands in front of what these give, with the octet that it awaits where it awaits one
with_awaited : (given_of : List ℕ → List (Value × ℕ)) (u : List ℕ) (given : List (Value × ℕ)) (awaited : Option ℕ)
    → (IsNone awaited → given_of u ≡ given) → IfSome awaited (λ octet. IsFront given (given_of (u ++ octet ∷ [])))
    → (next : List ℕ) × (length next ≤ 1) × IsFront given (given_of (u ++ next))
with_awaited given_of u given None all more = ([], omega arith, ([], ap given_of (append-nil u) ∙ (all refl ∙ sym (append-nil given))))
with_awaited given_of u given (Some octet) all more = (octet ∷ [], omega arith, more)

module _ {S : Type 0} (R : Inlet S) (some : (device : S) → (rest : List ℕ) × R.tells device rest) (never : (device : S) → R.has_failed device ≡ false)
    (w : List ℕ) (first now : S) (only : TellsOnly R first w) (l : Limits) where
  -- a fault of reading
  pub read_fault : (large : Type 0) (fault : Fault) → IsReadCause R l.reads first now fault → IsFaultInMemory l w large fault
  read_fault large Memory h = tt
  read_fault large Read h = let e : true ≡ false = sym h ∙ never now in absurd cc
  read_fault large TooManyReads h = reads_whole R some l.reads first now w h only
  read_fault large _ h = absurd h

  -- the same, where a write that fails is want of memory
  told_fault : (large : Type 0) (fault : Fault) → IsReadCause R l.reads first now fault → IsFaultInMemory l w large (fault_in_memory fault)
  told_fault large Memory h = tt
  told_fault large Read h = read_fault large Read h
  told_fault large TooManyReads h = read_fault large TooManyReads h
  told_fault large _ h = absurd h

  -- a fault of showing
  pub shown_fault : {T : Type 0} (W : Outlet T) (new : T) (fault : Fault) → IsReadCause R l.reads first now fault ⊎ IsWriteCause W new fault
      → IsFaultInMemory l w ⊥ (fault_in_memory fault)
  shown_fault W new fault (inl h) = told_fault ⊥ fault h
  shown_fault W new Memory (inr h) = tt
  shown_fault W new Write (inr h) = tt
  shown_fault W new _ (inr h) = absurd h

  module _ {X : Type 0} (I : Items X) (g : Catalog)
      (given_so_far : (r : X) (u : List ℕ) (s : List (Value × ℕ)) → I.stands r u s → IsNone (I.awaits r) → (I.trace (I.catalog r) (I.limits r) u).given ≡ s)
      (with_next : (r : X) (u : List ℕ) (s : List (Value × ℕ)) → I.stands r u s
      → IfSome (I.awaits r) (λ octet. IsFront s (I.trace (I.catalog r) (I.limits r) (u ++ octet ∷ [])).given)) where
    -- what a reader gave so far was read of the octets
    gave : (s : List Value) → GaveSoFar R I g l first now s → WereRead (format_of I g l) w s
    gave s h =
        let each = h.gave.each in
        let (more, follows, e) = whole R some first now (each.u ++ h.left) w h.ended each.heard only in
        let found = with_awaited (λ u. (I.trace (I.catalog h.items) (I.limits h.items) u).given) each.u h.gave.given (I.awaits h.items)
        (given_so_far h.items each.u h.gave.given each.stood) (with_next h.items each.u h.gave.given each.stood) in
        let front : IsFront h.gave.given (I.trace g l (each.u ++ found.0)).given =
        subst (λ (c : Catalog). IsFront h.gave.given (I.trace c l (each.u ++ found.0)).given) each.under
        (subst (λ (k : Limits). IsFront h.gave.given (I.trace (I.catalog h.items) k (each.u ++ found.0)).given) each.within found.2) in
        so_far each.u (h.left ++ more) found.0 h.gave.given (sym (append_assoc each.u h.left more) ∙ e) found.1 front h.gave.values

    were_read : (s : List Value) → ReadSoFar R I g l first now s → WereRead (format_of I g l) w s
    were_read s (in_reading h) = gave s h
    were_read s (at_refusal refusal h) = in_all (Err refusal) (refused_whole R some (format_of I g l) first now s refusal w h only)
    were_read s (at_end h) = in_all (Ok (length s)) (document_whole R some (format_of I g l) first now s w h only)

    -- a fault of converting
    pub converted_fault : (E : Encoding) (failed : Bool) (fault : Fault)
        → IsReadCause R l.reads first now fault ⊎ IsConvertCause E (ReadSoFar R I g l first now) failed fault
        → IsFaultInMemory l w (NeedsTooLargeId E (format_of I g l) w) (fault_in_memory fault)
    converted_fault E failed fault (inl h) = told_fault (NeedsTooLargeId E (format_of I g l) w) fault h
    converted_fault E failed Memory (inr h) = tt
    converted_fault E failed Write (inr h) = tt
    converted_fault E failed TooLarge (inr (s, read, large)) = (s, were_read s read, large)
    converted_fault E failed _ (inr h) = absurd h
