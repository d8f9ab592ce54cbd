-- What a table leaves of a context.
use Rattle.std.proofs.Common.{if◌then◌else◌, ◌≡◌, ◌⊎◌, inl, inr, ℕ, zero, suc, ◌-◌, ◌≤◌, ◌<◌, ◌==◌, List, [], ◌∷◌, ◌++◌, length, slice_get, None, Ok, refl, ap, ◌∙◌, subst, arith, append_assoc}
use Rattle.std.specs.List.{flat_map}
use Rattle.ion_symtab.specs.Names.{Slot, Table, Value, greatest_id, next, resolve, symbol_at, system_slots}
use Rattle.ion_symtab.specs.laws.LocalTables.{next_is}

-- the slots begin with others
abbrev pub Begins : List Slot → List Slot → Type 0
Begins front slots = (more : List Slot) × (slots ≡ front ++ more)

begins_trans : (c d e : List Slot) → Begins c d → Begins d e → Begins c e
begins_trans c d e p q = (p.0 ++ q.0, q.1 ∙ ap (λ xs. xs ++ q.0) p.1 ∙ append_assoc c p.0 q.0)

-- what is behind a table begins with what was before it, or with the system slots, and its ids are in range
abbrev pub Follows : List Slot → List Slot → Type 0
Follows c d = (Begins c d ⊎ Begins system_slots d) × (length d ≤ greatest_id)

-- behind a table the context begins with the old slots or the system's, and its ids are in range
pub next_follows : (c : List Slot) (v : Value) (g : List Table) (d : List Slot) → next c v g ≡ Ok d → Follows c d
next_follows c v g d e =
    let m = (next_is g c v d).0 e in
    let parts = flat_map (λ part. part) m.parts in
    let begins : Begins m.base d = (parts ++ m.local, m.joined ∙ append_assoc m.base parts m.local) in
    (elim m.is_base [ inl p ↦ inl (subst (λ b. Begins b d) p.1 begins) | inr p ↦ inr (subst (λ b. Begins b d) p.1 begins) ], m.in_range)

-- the system slots stay first
pub next_begins : (c : List Slot) (v : Value) (g : List Table) (d : List Slot) → next c v g ≡ Ok d → Begins system_slots c → Begins system_slots d
next_begins c v g d e h = elim (next_follows c v g d e).0 [ inl p ↦ begins_trans system_slots c d h p | inr p ↦ p ]

-- a place within the first of two lists has its item
pub slice_get-append_left : {X : Type 0} (xs ys : List X) (i : ℕ) → i < length xs → slice_get (xs ++ ys) i ≡ slice_get xs i
slice_get-append_left [] ys i h = absurd (omega arith)
slice_get-append_left (x ∷ xs) ys zero h = refl
slice_get-append_left (x ∷ xs) ys (suc i) h = slice_get-append_left xs ys i (omega arith)

-- an id keeps its symbol where slots are added
pub resolve_stays : (c d : List Slot) (id : ℕ) → Begins c d → id ≤ length c → resolve d id ≡ resolve c id
unfolding resolve
resolve_stays c d zero p h = refl
resolve_stays c d (suc i) p h =
    let n : suc i - 1 < length c = omega arith in
    ap (λ o. if suc i == 0 then Ok None else symbol_at o) (ap (λ xs. slice_get xs (suc i - 1)) p.1 ∙ slice_get-append_left c p.0 (suc i - 1) n)
