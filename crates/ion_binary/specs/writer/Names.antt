-- The names of a document: what is new is put at the end, and each name has its id in the context of its slots.
use Rattle.std.proofs.Common.{if◌then◌else◌, cond, not, ◌≡◌, ℕ, suc, ◌+◌, ◌-◌, ◌^◌, ◌<◌, ◌||◌, Bool, true, false, List, [], ◌∷◌, ◌++◌, length, map, drop, Option, None, Some, Ok, slice_get, refl, sym, ap, subst, ◌∙◌, arith, append_assoc, append-nil, ne_eqb}
use Rattle.std.specs.List.{list_any, position_or_len, fold}
use Rattle.std.specs.Str.{IsUtf8}
use Rattle.std.proofs.lemmas.List.{map-append}
use Rattle.ion_binary.specs.Names.Below.{AreTexts, IsText, Slot, local_slot, resolve, slot_symbol, symbol_same, system_slots, system_texts}
use Rattle.ion_binary.specs.Output.{Names, id_of, system_names, with_name, with_names}
use Rattle.ion_names.specs.Among.{AreAmong, IsAmong, among_last, among_more, id_few, id_stays, same_is_equal}

-- 1. Ids.

-- the slots of names: those of all but the first, which is the symbol of unknown text
abbrev pub slots : Names → List Slot
slots names = map local_slot (drop 1 names)

-- the slots of the system names are the system slots
pub slots_system : slots system_names ≡ system_slots
unfolding system_names system_slots system_texts
slots_system = refl

-- the first name is the symbol of unknown text
abbrev pub Starts : Names → Type 0
Starts (None ∷ names) = Unit {0}
Starts _ = ⊥

place_either : (s x : Option (List ℕ)) (rest : Names) (b : Bool) → symbol_same s x ≡ b → (b || list_any (symbol_same s) rest) ≡ true
    → (IsAmong rest s → slice_get (map local_slot rest) (position_or_len (symbol_same s) rest) ≡ Some (local_slot s))
    → slice_get (local_slot x ∷ map local_slot rest) (cond (not b) (1 + position_or_len (symbol_same s) rest) 0) ≡ Some (local_slot s)
place_either s x rest true e h later = ap (λ (x : Option (List ℕ)). Some (local_slot x)) (sym (same_is_equal s x e))
place_either s x rest false e h later =
    let n : 1 + position_or_len (symbol_same s) rest ≡ suc (position_or_len (symbol_same s) rest) = omega arith in
    rw n (later h)

at_place : (s : Option (List ℕ)) (names : Names) → IsAmong names s → slice_get (map local_slot names) (position_or_len (symbol_same s) names)
    ≡ Some (local_slot s)
at_place s [] h = cc
at_place s (x ∷ rest) h = place_either s x rest (symbol_same s x) refl h (at_place s rest)

slot_back : (s : Option (List ℕ)) → slot_symbol (local_slot s) ≡ Ok s
slot_back None = refl
slot_back (Some t) = refl

resolve_behind : (c : List Slot) (k : ℕ) (s : Option (List ℕ)) → slice_get c k ≡ Some (local_slot s) → resolve c (1 + k) ≡ Ok s
unfolding resolve
resolve_behind c k s e =
    let n : 1 + k ≡ suc k = omega arith in
    let m : suc k - 1 ≡ k = omega arith in
    rw n (rw (ne_eqb (suc k) 0 (λ z. absurd (omega arith)), m, e) (slot_back s))

resolve_zero : (c : List Slot) → resolve c 0 ≡ Ok None
unfolding resolve
resolve_zero c = refl

-- a name has its id
pub resolve_name : (names : Names) (s : Option (List ℕ)) → Starts names → IsAmong names s → resolve (slots names) (id_of names s) ≡ Ok s
resolve_name (None ∷ names) None b h = resolve_zero (map local_slot names)
resolve_name (None ∷ names) (Some t) b h = resolve_behind (map local_slot names) (position_or_len (symbol_same (Some t)) names) (Some t)
    (at_place (Some t) names h)
resolve_name _ s b h = absurd b

-- each of these symbols has its id in the context, and ids are small
abbrev pub Resolves : List Slot → Names → Names → Type 0
Resolves c names [] = Unit {0}
Resolves c names (s ∷ ss) = ((resolve c (id_of names s) ≡ Ok s) × (id_of names s < 2 ^ 63)) × Resolves c names ss

-- names resolve, in the context of their slots
pub names_resolve : (names ss : Names) → Starts names → AreAmong names ss → length names < 2 ^ 63 → Resolves (slots names) names ss
names_resolve names [] b h few = tt
names_resolve names (s ∷ ss) b h few = ((resolve_name names s b h.0, omega (arith, id_few names s)), names_resolve names ss b h.1 few)

-- and also by the ids that they have among more
pub names_resolve_still : (names more ss : Names) → Starts names → AreAmong names ss → length names < 2 ^ 63 → Resolves (slots names) (names ++ more) ss
names_resolve_still names more [] b h few = tt
names_resolve_still names more (s ∷ ss) b h few =
    let e = id_stays s names more h.0 in
    ((ap (resolve (slots names)) e ∙ resolve_name names s b h.0, omega (arith, e, id_few names s)), names_resolve_still names more ss b h.1 few)

-- 2. New names.

-- more names behind names leave the symbol of unknown text the first
pub starts_more : (names more : Names) → Starts names → Starts (names ++ more)
starts_more (None ∷ names) more b = tt
starts_more _ _ b = absurd b

-- the symbol of unknown text, which is the first, is among the names
pub unknown_among : (names : Names) → Starts names → IsAmong names None
unknown_among (None ∷ names) b = refl
unknown_among _ b = absurd b

-- more names behind names have their slots behind the slots of those
pub slots_more : (names more : Names) → Starts names → slots (names ++ more) ≡ slots names ++ map local_slot more
slots_more (None ∷ names) more b = map-append local_slot names more
slots_more _ _ b = absurd b

-- each is a known text
abbrev pub AreKnown : Names → Type 0
AreKnown [] = Unit {0}
AreKnown (None ∷ ss) = ⊥
AreKnown (Some t ∷ ss) = IsUtf8 t × AreKnown ss

-- the names have been put behind others, for these symbols
pub record Grown (names ss later : Names) : Type 0 where
  pub more : Names
  pub whole : later ≡ names ++ more
  pub among : AreAmong later ss
  pub known : AreKnown more

known_one : (s : Option (List ℕ)) (names more : Names) → IsAmong names None → list_any (symbol_same s) names ≡ false → IsText s → AreKnown more
    → AreKnown (s ∷ more)
known_one None names more n e t k = cc
known_one (Some s) names more n e t k = (t, k)

grown_either : (names : Names) (s : Option (List ℕ)) (ss : Names) (b : Bool) → IsAmong names None → IsText s → list_any (symbol_same s) names ≡ b
    → ((before : Names) → IsAmong before None → Grown before ss (with_names before ss))
    → Grown names (s ∷ ss) (fold with_name (if b then names else names ++ s ∷ []) ss)
grown_either names s ss true n t e later =
    let g = later names n in
    record {
      more = g.more;
      whole = g.whole;
      among = (subst (λ (x : Names). IsAmong x s) (sym g.whole) (among_more names g.more s e), g.among);
      known = g.known;
    }
grown_either names s ss false n t e later =
    let g = later (names ++ s ∷ []) (among_more names (s ∷ []) None n) in
    record {
      more = s ∷ g.more;
      whole = g.whole ∙ append_assoc names (s ∷ []) g.more;
      among = (subst (λ (x : Names). IsAmong x s) (sym g.whole) (among_more (names ++ s ∷ []) g.more s (among_last names s)), g.among);
      known = known_one s names g.more n e t g.known;
    }

-- new symbols are put behind the names, each with its text known
pub grown : (ss names : Names) → IsAmong names None → AreTexts ss → Grown names ss (with_names names ss)
grown [] names n t = record { more = []; whole = sym (append-nil names); among = tt; known = tt }
grown (s ∷ ss) names n t = grown_either names s ss (list_any (symbol_same s) names) n t.0 refl (λ before m. grown ss before m t.1)
