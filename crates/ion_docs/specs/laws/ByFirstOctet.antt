-- What a reader promises of octets, and that it promises the same of a format in which octets that begin so mean the same.
use Rattle.std.proofs.Common.{◌≡◌, ◌↔◌, ℕ, zero, suc, List, [], ◌∷◌, ◌++◌, length, take, Err, Some, None, ap, sym, ◌∙◌, subst, append_assoc}
use Rattle.ion_docs.specs.Names.{BeginsNone, EndsValues, Format, GivesNoTable, Grows, HasReasons, IsFirst, IsSmall, Refusal, Refuses, Shown, Shows, Streams, Trace, Value, plain}

-- what is promised of these octets, of which a reader of the format says t
pub record Promised (F : Format) (open_after : List ℕ → List ℕ → Type 0) (item : ℕ) (u : List ℕ) (t : Trace) : Type 0 where
  pub settled : (w : List ℕ) → Grows t (F.trace (u ++ w))
  pub exact : (s : List Value) → Streams t s ↔ F.denotes u s
  pub refused : (r : Refusal) → t.refused ≡ Some r → Refuses F.denotes F.pieces u t r
  pub decided : (r : Refusal) → t.refused ≡ Some r → IsFirst F.trace u r
  pub shown : t.refused ≡ None → Shows F.pieces open_after u (plain t.given)
  pub unfinished : (r : Refusal) → t.refused ≡ None → t.ends ≡ Err r → r.offset ≡ length u
  pub reasons : HasReasons t
  pub small : IsSmall item u t
  pub no_tables : GivesNoTable t
  pub ends_values : EndsValues F.trace u

module _ (F D : Format) (open_f open_d : List ℕ → List ℕ → Type 0) (first : ℕ) where
  -- octets that begin with this one mean the same in both formats, and the first format has documents
  pub record Alike : Type 0 where
    pub some : (w : List ℕ) × (s : List Value) × F.denotes w s
    pub document : (w : List ℕ) (s : List Value) → F.denotes (first ∷ w) s ↔ D.denotes (first ∷ w) s
    pub pieces : (front following rest : List ℕ) (s : List Value) → front ++ following ≡ first ∷ rest → F.pieces front following s ↔ D.pieces front following s
    pub rests : (front rest w : List ℕ) → front ++ rest ≡ first ∷ w → open_f front rest → open_d front rest
    pub same : (w : List ℕ) → F.trace (first ∷ w) ≡ D.trace (first ∷ w)
    pub begun : (D.trace []).refused ≡ None

  module _ (alike : Alike) where
    followed : (front rest w following : List ℕ) → first ∷ w ≡ front ++ rest → front ++ (rest ++ following) ≡ first ∷ (w ++ following)
    followed front rest w following e = sym (append_assoc front rest following) ∙ ap (λ x. x ++ following) (sym e)

    abbrev shown_there : (w : List ℕ) (s : List Value) → Shown F.pieces (first ∷ w) s → Shown D.pieces (first ∷ w) s
    shown_there w s h = record {
      front = h.front;
      open_rest = h.open_rest;
      parts = h.parts;
      whole = λ following octets. (alike.pieces h.front (h.open_rest ++ following) (w ++ following) s (followed h.front h.open_rest w following h.parts)).0
          (h.whole following octets);
      longest = λ v rest t e p. h.longest v rest t e (λ following octets.
          (alike.pieces v (rest ++ following) (w ++ following) t (followed v rest w following e)).1 (p following octets));
    }

    -- a document begins with no octet at all, so a refusal counts one at least
    nothing_begins : BeginsNone F.denotes [] → ⊥
    nothing_begins none = none alike.some.0 alike.some.1 alike.some.2

    none_there : (n : ℕ) (w : List ℕ) → BeginsNone F.denotes (take n (first ∷ w)) → BeginsNone D.denotes (take n (first ∷ w))
    none_there zero w none = absurd (nothing_begins none)
    none_there (suc n) w none = λ rest s d. none rest s ((alike.document (take n w ++ rest) s).1 d)

    front_there : (n : ℕ) (w : List ℕ) (s : List Value) → BeginsNone F.denotes (take n (first ∷ w)) → Shown F.pieces (take n (first ∷ w)) s
        → Shown D.pieces (take n (first ∷ w)) s
    front_there zero w s none h = absurd (nothing_begins none)
    front_there (suc n) w s none h = shown_there (take n w) s h

    refuses_there : (w : List ℕ) (t : Trace) (r : Refusal) → Refuses F.denotes F.pieces (first ∷ w) t r → Refuses D.denotes D.pieces (first ∷ w) t r
    refuses_there w t r h = record {
      within = h.within;
      none = none_there r.offset w h.none;
      shown = front_there r.offset w (plain t.given) h.none h.shown;
      ends = h.ends;
      whole_memory = h.whole_memory;
      before_end = h.before_end;
    }

    alone_there : (n : ℕ) (w : List ℕ) (r : Refusal) → BeginsNone F.denotes (take n (first ∷ w)) → (F.trace (take n (first ∷ w))).refused ≡ Some r
        → (D.trace (take n (first ∷ w))).refused ≡ Some r
    alone_there zero w r none h = absurd (nothing_begins none)
    alone_there (suc n) w r none h = ap (λ (t : Trace). t.refused) (sym (alike.same (take n w))) ∙ h

    before_there : (n : ℕ) (w : List ℕ) → (F.trace (take n (first ∷ w))).refused ≡ None → (D.trace (take n (first ∷ w))).refused ≡ None
    before_there zero w h = alike.begun
    before_there (suc n) w h = ap (λ (t : Trace). t.refused) (sym (alike.same (take n w))) ∙ h

    first_there : (w : List ℕ) (t : Trace) (r : Refusal) → Refuses F.denotes F.pieces (first ∷ w) t r → IsFirst F.trace (first ∷ w) r
        → IsFirst D.trace (first ∷ w) r
    first_there w t r refuses h = record { alone = alone_there r.offset w r refuses.none h.alone; before = λ k less. before_there k w (h.before k less) }

    shows_there : (w : List ℕ) (s : List Value) → Shows F.pieces open_f (first ∷ w) s → Shows D.pieces open_d (first ∷ w) s
    shows_there w s h = record { shown = shown_there w s h.shown; rest = alike.rests h.shown.front h.shown.open_rest w (sym h.shown.parts) h.rest }

    ends_values_there : (w : List ℕ) → EndsValues F.trace (first ∷ w) → EndsValues D.trace (first ∷ w)
    ends_values_there w h o last v total later ends given =
        let before = alike.same w in
        h o last v total later (ap (λ (t : Trace). t.ends) before ∙ ends)
        (ap (λ (t : Trace). t.given) (alike.same (w ++ o ∷ [])) ∙ (given ∙ ap (λ (t : Trace). t.given ++ (v, total) ∷ later) (sym before)))

    -- the promises carry over
    pub carried : (item : ℕ) (w : List ℕ) → Promised F open_f item (first ∷ w) (F.trace (first ∷ w)) → Promised D open_d item (first ∷ w) (D.trace (first ∷ w))
    carried item w h = subst (Promised D open_d item (first ∷ w)) (alike.same w) (record {
      settled = λ v. subst (λ (x : Trace). Grows (F.trace (first ∷ w)) x) (alike.same (w ++ v)) (h.settled v);
      exact = λ s. (λ t. (alike.document w s).0 ((h.exact s).0 t), λ d. (h.exact s).1 ((alike.document w s).1 d));
      refused = λ r e. refuses_there w (F.trace (first ∷ w)) r (h.refused r e);
      decided = λ r e. first_there w (F.trace (first ∷ w)) r (h.refused r e) (h.decided r e);
      shown = λ none. shows_there w (plain (F.trace (first ∷ w)).given) (h.shown none);
      unfinished = h.unfinished;
      reasons = h.reasons;
      small = h.small;
      no_tables = h.no_tables;
      ends_values = ends_values_there w h.ends_values;
    })
