-- The least name with which two structs part is the lesser at the first place where their fields in normal form don't tie.
use Rattle.std.proofs.Common.{◌≡◌, ℕ, ◌<◌, zero, suc, List, [], ◌∷◌, length, get_or, Bool, true, false, Ordering, Less, Equal, Greater, Option, Some, None, MatchOption, refl, arith, add-one, ◌⊎◌, ⊎_elim, inl, inr, ap, ◌∙◌, sym, subst, true≢false}
use Rattle.std.specs.Cmp.Lexicographic.{slice_cmp}
use Rattle.std.specs.Ordering.{is_lt, is_eq, ordering_reverse, ordering_then}
use Rattle.std.proofs.lemmas.List.Sorted.{sorted_far, ranks_by}
use Rattle.ion_model.specs.Names.{AllFieldsNormal, AreNormalOf, Field, FieldsInOrder, LeastParting, field_cmp, field_count, field_same, fields_same, order, same, symbol_cmp, symbol_same}
use Rattle.ion_atoms.specs.laws.Tests.{first, second}
use Rattle.ion_atoms.specs.laws.Ties.{then_tie}
use Rattle.ion_model.specs.laws.Counts.{Counts, Found, bit, count_by-cons, counted, counts_from, find}
use Rattle.ion_model.specs.laws.Equivalence.{field_same-equiv, same-equiv}
use Rattle.ion_model.specs.laws.OrderTotal.{field_cmp-total, order-total, symbol_cmp-total}
use Rattle.ion_model.specs.laws.PartingSteps.{first_untied, lesser}
use Rattle.ion_model.specs.laws.Parts.{symbol_from, symbol_tie}
use Rattle.ion_model.proofs.NormalTies.{field_back, order-from_same, tied-fields}

abbrev E : Field → Field → Bool
E = field_same same

abbrev R : Field → Field → Ordering
R = field_cmp order

-- fields in normal form, in order
pub record Normal (fs : List Field) : Type 0 where
  pub inner : AllFieldsNormal fs
  pub ordered : FieldsInOrder fs

tail : (f : Field) (fs : List Field) → Normal (f ∷ fs) → Normal fs
tail f fs n = record {
  inner = λ k d h. n.inner (suc k) d (omega arith);
  ordered = λ k d low h. rw (add-one k) (simp (add-one (suc k)) at (n.ordered (suc k) d (omega arith) (omega arith)));
}

ties : (fs gs : List Field) → Normal fs → Normal gs → (i j : ℕ) (d : Field) → i < length fs → j < length gs → E (get_or fs i d) (get_or gs j d) ≡ true
    → R (get_or fs i d) (get_or gs j d) ≡ Equal
ties fs gs nf ng i j d p q e =
    then_tie _ _ (symbol_tie (get_or fs i d).name (get_or gs j d).name (first (symbol_same (get_or fs i d).name (get_or gs j d).name) _ e))
    (order-from_same (get_or fs i d).value (get_or gs j d).value (nf.inner i d p) (ng.inner j d q)
    (second (symbol_same (get_or fs i d).name (get_or gs j d).name) _ e))

-- a name isn't less than another
abbrev NotLess : Option (List ℕ) → Option (List ℕ) → Type 0
NotLess s t = is_lt (symbol_cmp s t) ≡ false

name_first : (a b : Ordering) → is_lt (ordering_then a b) ≡ false → is_lt a ≡ false
name_first Less b h = h
name_first _ b h = refl

not_less_back : (a b : Ordering) → a ≡ Less → b ≡ ordering_reverse a → is_lt b ≡ false
not_less_back a b p q = ap is_lt (q ∙ ap ordering_reverse p)

names_chain : (s t u : Option (List ℕ)) → NotLess s t → NotLess t u → NotLess s u
names_chain s t u = (ranks_by symbol_cmp-total (λ (x : Option (List ℕ)). x)).chain s t u

-- no name of a list in order is less than that of its first
names_up : (f : Field) (fs : List Field) → Normal (f ∷ fs) → (j : ℕ) (d : Field) → j < length (f ∷ fs) → NotLess (get_or (f ∷ fs) j d).name f.name
names_up f fs n j d h = name_first _ _ (sorted_far (λ x y. is_lt (R x y)) (ranks_by (field_cmp-total order order-total) (λ (x : Field). x)) (f ∷ fs) n.ordered 0
    j d (omega arith) h)

-- nor is the name of what is counted in it
counted_up : (f : Field) (fs : List Field) → Normal (f ∷ fs) → (x : Field) → 0 < field_count same (f ∷ fs) x → NotLess x.name f.name
counted_up f fs n x h =
    let at : Found E x (f ∷ fs) = find E x (f ∷ fs) h in
    let is : x.name ≡ (get_or (f ∷ fs) at.place f).name = symbol_from x.name (get_or (f ∷ fs) at.place f).name
    (first (symbol_same x.name (get_or (f ∷ fs) at.place f).name) _ (at.alike f)) in
    subst (λ s. NotLess s f.name) (sym is) (names_up f fs n at.place f at.within)

-- what parts is counted on one side
counted_side : (m n : ℕ) → (m ≡ n → ⊥) → (0 < m) ⊎ (0 < n)
counted_side zero zero h = absurd (h refl)
counted_side zero (suc n) h = inr (omega arith)
counted_side (suc m) n h = inl (omega arith)

-- the first field of one side is less than all of the other
lesser_first : (f : Field) (fs : List Field) (gs : List Field) → Normal (f ∷ fs) → ((x : Field) → 0 < field_count same gs x → NotLess x.name f.name)
    → field_count same gs f ≡ 0 → LeastParting (f ∷ fs) gs f.name
lesser_first f fs gs n above none = record {
  field = f;
  named = refl;
  parted = λ e. absurd (omega (arith, e, none, counted E (field_same-equiv same same-equiv) f fs));
  least = λ x p. ⊎_elim (counted_up f fs n x) (above x) (counted_side _ _ p);
}

swapped : (fs gs : List Field) (s : Option (List ℕ)) → LeastParting fs gs s → LeastParting gs fs s
swapped fs gs s l = record { field = l.field; named = l.named; parted = λ e. l.parted (sym e); least = λ x p. l.least x (λ e. p (sym e)) }

-- what is counted in the other list doesn't tie with a lesser field
absent_at : (f g : Field) (gs : List Field) (fs : List Field) → Normal (f ∷ fs) → Normal (g ∷ gs) → R f g ≡ Less → (n : ℕ) → field_count same (g ∷ gs) f ≡ n
    → field_count same (g ∷ gs) f ≡ 0
absent_at f g gs fs nf ng less zero e = e
absent_at f g gs fs nf ng less (suc n) e =
    let at : Found E f (g ∷ gs) = find E f (g ∷ gs) (omega (arith, e)) in
    let y = get_or (g ∷ gs) at.place f in
    let t : R f y ≡ Equal = ties (f ∷ fs) (g ∷ gs) nf ng 0 at.place f (omega arith) at.within (at.alike f) in
    let low : is_lt (R y g) ≡ false = sorted_far (λ x y. is_lt (R x y)) (ranks_by (field_cmp-total order order-total) (λ (x : Field). x)) (g ∷ gs) ng.ordered 0
    at.place f (omega arith) at.within in
    absurd (true≢false (sym (ap is_lt (sym ((field_cmp-total order order-total).congr f y g t) ∙ less)) ∙ low))

less_parts : (f g : Field) (fs gs : List Field) → Normal (f ∷ fs) → Normal (g ∷ gs) → R f g ≡ Less → LeastParting (f ∷ fs) (g ∷ gs) f.name
less_parts f g fs gs nf ng less =
    let back : is_lt (R g f) ≡ false = not_less_back (R f g) (R g f) less ((field_cmp-total order order-total).antisymm g f) in
    lesser_first f fs (g ∷ gs) nf (λ x h. names_chain x.name g.name f.name (counted_up g gs ng x h) (name_first _ _ back))
    (absent_at f g gs fs nf ng less _ refl)

-- behind fields that tie, the rests part alike
tied_first : (f g : Field) (fs gs : List Field) (s : Option (List ℕ)) → E f g ≡ true → LeastParting fs gs s → LeastParting (f ∷ fs) (g ∷ gs) s
tied_first f g fs gs s e l =
    let q = field_same-equiv same same-equiv in
    let alike = λ (x : Field). q.symm x f ∙ q.congr f g x e ∙ q.symm g x in
    let from = λ (x : Field) (h : field_count same (f ∷ fs) x ≡ field_count same (g ∷ gs) x).
    (let b : bit (E x f) ≡ bit (E x g) = ap bit (alike x) in let k : field_count same fs x ≡ field_count same gs x =
    omega (arith, h, b, count_by-cons (E x) f fs, count_by-cons (E x) g gs) in k) in
    let to = λ (x : Field) (h : field_count same fs x ≡ field_count same gs x).
    (let b : bit (E x f) ≡ bit (E x g) = ap bit (alike x) in let k : field_count same (f ∷ fs) x ≡ field_count same (g ∷ gs) x =
    omega (arith, h, b, count_by-cons (E x) f fs, count_by-cons (E x) g gs) in k) in
    record { field = l.field; named = l.named; parted = λ h. l.parted (from l.field h); least = λ x p. l.least x (λ h. p (to x h)) }

abbrev Answers : List Field → List Field → Option (Option (List ℕ)) → Type 0
Answers fs gs answer = MatchOption answer (slice_cmp R fs gs ≡ Equal) (λ s. LeastParting fs gs s)

at_tie : (f g : Field) (fs gs : List Field) (r : Option (Option (List ℕ))) → R f g ≡ Equal → Answers fs gs r → Answers (f ∷ fs) (g ∷ gs) r
at_tie f g fs gs None t h = then_tie _ _ t h
at_tie f g fs gs (Some s) t h = tied_first f g fs gs s (field_back f g t) h

at_order : (o : Ordering) (f g : Field) (fs gs : List Field) (r : Option (Option (List ℕ))) → Normal (f ∷ fs) → Normal (g ∷ gs) → R f g ≡ o → Answers fs gs r
    → Answers (f ∷ fs) (g ∷ gs) (lesser o f.name g.name r)
at_order Less f g fs gs r nf ng e h = less_parts f g fs gs nf ng e
at_order Equal f g fs gs r nf ng e h = at_tie f g fs gs r e h
at_order Greater f g fs gs r nf ng e h =
    swapped (g ∷ gs) (f ∷ fs) g.name (less_parts g f gs fs ng nf ((field_cmp-total order order-total).antisymm g f ∙ ap ordering_reverse e))

untied : (fs gs : List Field) → Normal fs → Normal gs → Answers fs gs (first_untied fs gs)
untied [] [] nf ng = refl
untied [] (g ∷ gs) nf ng = swapped (g ∷ gs) [] g.name (lesser_first g gs [] ng (λ x h. absurd (omega arith)) refl)
untied (f ∷ fs) [] nf ng = lesser_first f fs [] nf (λ x h. absurd (omega arith)) refl
untied (f ∷ fs) (g ∷ gs) nf ng = at_order (R f g) f g fs gs (first_untied fs gs) nf ng refl (untied fs gs (tail f fs nf) (tail g gs ng))

-- lists that count alike part alike
counts_part : (fs gs l r : List Field) (s : Option (List ℕ)) → Counts E l fs → Counts E r gs → LeastParting l r s → LeastParting fs gs s
counts_part fs gs l r s cl cr p = record {
  field = p.field;
  named = p.named;
  parted = λ e. p.parted (cl.at p.field ∙ e ∙ sym (cr.at p.field));
  least = λ x h. p.least x (λ e. h (sym (cl.at x) ∙ e ∙ cr.at x));
}

answer_from : (fs gs l r : List Field) → AreNormalOf l fs → AreNormalOf r gs → (answer : Option (Option (List ℕ))) → Answers l r answer
    → MatchOption answer (fields_same same fs gs ≡ true) (λ s. LeastParting fs gs s)
answer_from fs gs l r nl nr None h = sym (tied-fields fs gs l r nl nr) ∙ ap is_eq h
answer_from fs gs l r nl nr (Some s) h =
    let q = field_same-equiv same same-equiv in
    counts_part fs gs l r s (counts_from E q l fs nl.same) (counts_from E q r gs nr.same) h

-- where normal forms of fields first don't tie, the lesser name is the least that parts them
pub least-name : (fs gs l r : List Field) → AreNormalOf l fs → AreNormalOf r gs
    → MatchOption (first_untied l r) (fields_same same fs gs ≡ true) (λ s. LeastParting fs gs s)
least-name fs gs l r nl nr = answer_from fs gs l r nl nr _
    (untied l r (record { inner = nl.inner; ordered = nl.ordered }) (record { inner = nr.inner; ordered = nr.ordered }))
