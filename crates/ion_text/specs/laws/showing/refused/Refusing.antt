-- What octets show up to one that is refused: the values given before it, and that which it showed to be whole.
use Rattle.std.proofs.Common.{◌≡◌, ℕ, ◌+◌, ◌≤◌, Bool, true, false, List, [], ◌∷◌, ◌++◌, length, take, Result, Ok, Err, Some, refl, sym, ap, ◌∙◌, subst, arith, append_assoc, append-nil, ◌⊎◌, inl, inr, if◌then◌else◌}
use Rattle.ion_text.specs.Names.{ArePieces, BeginsNone, Catalog, Document, Effect, Limits, Placed, Refusal, Refuses, Run, Shown, State, Value, Whole, begun, eats, fails, leaves, on_now, once_more, plain, run, run_on, start_of, tells, trace, uses}
use Rattle.ion_text.specs.laws.reading.Promises.{before_end, has_reasons}
use Rattle.ion_text.specs.laws.reading.Stops.{Stop, begins_none, behind_run, refused_ends, refused_none, refused_run, stop_of, stop_taken, stop_within}
use Rattle.ion_text.specs.laws.reading.complete.Fuel.{NotLeaves}
use Rattle.ion_text.specs.laws.reading.sound.Held.{ApartAt}
use Rattle.ion_text.specs.laws.reading.sound.Steps.{StoodBehind, begun_stood, run_ran}
use Rattle.ion_text.specs.laws.showing.refused.Ahead.{last_parted}
use Rattle.ion_text.specs.laws.showing.refused.Awaited.{item_end}
use Rattle.ion_text.specs.laws.showing.refused.Chains.{again_chain, eats_chain, gives_once}
use Rattle.ion_text.specs.laws.showing.refused.Halting.{Chosen, chosen, follows, halted_front}
use Rattle.ion_text.specs.laws.showing.refused.Halts.{Chain, Halted}
use Rattle.ion_text.specs.laws.showing.refused.Stuck.{fresh_left}
use Rattle.ion_text.specs.laws.showing.refused.Unended.{item_left}
use Rattle.ion_text.specs.laws.showing.shown.Fronts.{Fronted, no_tokens}
use Rattle.ion_text.specs.laws.showing.shown.Longest.{longest_before}
use Rattle.ion_text.specs.laws.showing.shown.Opened.{ends_before, new}
use Rattle.ion_text.specs.laws.showing.shown.Symbols.{EndsStill, HasBegun, run_still}
use Rattle.ion_text.specs.laws.showing.tokens.Alone.{whole_document}
use Rattle.ion_text.specs.laws.showing.tokens.Exacts.{behind_used}
use Rattle.ion_text.specs.laws.showing.tokens.Froms.{EndsWaiting, run_waits}

module _ (g : Catalog) (l : Limits) where
  module _ (u : List ℕ) (o : ℕ) (vs : List Value) (h : Halted g l u o vs) (none : BeginsNone (Document g l) (u ++ o ∷ [])) where
    x : Fronted g l (u ++ o ∷ []) vs h.s h.r
    x = halted_front g l u o vs h

    -- no longer front of the octets before remains whole pieces
    module _ (v rest : List ℕ) (t : List Value) (cut : u ≡ v ++ rest) (whole : ArePieces (Whole g l) v (rest ++ o ∷ []) t) where
      ch : Chosen g l u o vs h
      ch = chosen g l u o vs h

      w : Whole g l v (rest ++ o ∷ ch.octets) t
      w = subst (λ y. Whole g l v y t) (append_assoc rest (o ∷ []) ch.octets) (whole ch.octets ch.are)

      used : h.s.used ≡ length u
      used = behind_used g l u vs h.s h.r h.ahead (ApartAt o h.s h.r) h.b

      between : h.b.item ≡ [] → length v ≤ length x.front
      between f =
          let i = longest_before g l u vs h.s h.r h.ahead (ApartAt o h.s h.r) h.b used f (o ∷ ch.octets) (follows g l u o vs h ch.octets) v rest t cut w
          (λ z zs e q i n. let k = ch.ends z.lexeme i n in fresh_left g l u o vs h f v rest (o ∷ ch.octets) t w z zs e k.0 k.1) in
          let fresh = (no_tokens g l u vs h.s h.r h.ahead (o ∷ []) (ApartAt o h.s h.r) h.b h.next f).0 in
          let ends : length x.front ≡ start_of h.s.mode h.s.start h.s.used =
          x.ends ∙ ap (λ (y : Bool). if y then start_of h.s.mode h.s.start h.s.used else h.r.start) fresh in
          omega (arith, i, ends)

      within : (y : Placed) (ys : List Placed) → h.b.item ≡ y ∷ ys → length v ≤ length x.front
      within y ys f = by (ends_before g l u vs h.s h.r h.ahead (ApartAt o h.s h.r) h.b used y ys f (o ∷ ch.octets) (follows g l u o vs h ch.octets) v rest t cut
          w (λ z zs e i n. let k = ch.ends z.lexeme i n in item_left g l u o vs h y ys f ch.octets v rest t cut w z zs e k.0 k.1))
        where
          ends : length x.front ≡ h.r.start
          ends = x.ends ∙ ap (λ (y : Bool). if y then start_of h.s.mode h.s.start h.s.used else h.r.start)
              (new g l u vs h.s h.r h.ahead (ApartAt o h.s h.r) h.b used y ys f)

          by : (length v ≤ h.r.start) ⊎ (w.tokens ≡ h.b.front ++ h.b.item) → length v ≤ length x.front
          by (inl i) = omega (arith, i, ends)
          by (inr e) = absurd (item_end g l u o vs h y ys f ch.octets v rest t cut w e)

      longer : length v ≤ length x.front
      longer = go h.b.item refl
        where
          go : (ys : List Placed) → h.b.item ≡ ys → length v ≤ length x.front
          go [] f = between f
          go (y ∷ ys) f = within y ys f

    longest : (v rest : List ℕ) (t : List Value) → u ++ o ∷ [] ≡ v ++ rest → ArePieces (Whole g l) v rest t → length v ≤ length x.front
    longest v rest t e whole = by (last_parted u o v rest e)
      where
        all : rest ≡ [] → v ≡ u ++ o ∷ [] → ⊥
        all f i =
            none [] t
            (subst (λ y. Document g l y t) (i ∙ sym (append-nil (u ++ o ∷ [])))
            (whole_document g l v ([] ++ []) t (subst (λ y. Whole g l v (y ++ []) t) f (whole [] tt))))

        by : ((rest ≡ []) × (v ≡ u ++ o ∷ [])) ⊎ ((front : List ℕ) × (rest ≡ front ++ o ∷ []) × (u ≡ v ++ front)) → length v ≤ length x.front
        by (inl (f, i)) = absurd (all f i)
        by (inr (front, f, i)) = longer v front t i (subst (λ y. ArePieces (Whole g l) v y t) f whole)

    pub halted_shown : Shown (Whole g l) (u ++ o ∷ []) vs
    halted_shown = record { front = x.front; open_rest = x.rest; parts = x.parts; whole = λ following octets. x.whole following; longest = longest }

  -- the values given, in two parts
  plain_parts : (a b : List (Value × ℕ)) → plain (a ++ b) ≡ plain a ++ plain b
  plain_parts [] b = refl
  plain_parts (x ∷ a) b = ap (λ y. x.0 ∷ y) (plain_parts a b)

  -- what one refused octet gave stands before it
  refused_by : (u : List ℕ) (o : ℕ) (vs : List Value) (to : ℕ) (r : Refusal) (x : Effect) → Chain g l u o vs x
      → (run_on to (λ n. eats g l n o) (λ n. run g l (to + 1) n []) x).now ≡ Err r
      → Halted g l u o (vs ++ plain (run_on to (λ n. eats g l n o) (λ n. run g l (to + 1) n []) x).given)
  refused_by u o vs to r (uses m) c e = absurd cc
  refused_by u o vs to r (tells v m) c e = absurd cc
  refused_by u o vs to r (fails y) c e = subst (Halted g l u o) (sym (append-nil vs)) c
  refused_by u o vs to r (leaves v m) c e = go (eats g l m o) (again_chain g l u o (vs ++ v ∷ []) m c) (gives_once g l u o (vs ++ v ∷ []) m c) e
    where
      go : (x : Effect) → Chain g l u o (vs ++ v ∷ []) x → NotLeaves g l x → (once_more to (λ n. run g l (to + 1) n []) x).now ≡ Err r
          → Halted g l u o (vs ++ v ∷ plain (once_more to (λ n. run g l (to + 1) n []) x).given)
      go (leaves y k) c n e = absurd n
      go (fails y) c n e = c
      go _ c n e = absurd cc

  ran_stood : (u : List ℕ) (given : List (Value × ℕ)) (now : Result State Refusal) (n : State) → StoodBehind g l u [] (record { given = given; now = now })
      → EndsStill g l now → EndsWaiting g l now → now ≡ Ok n → (o : ℕ) → Chain g l u o (plain given) (eats g l n o)
  ran_stood u given (Ok m) n b still wait e o = subst (λ k. Chain g l u o (plain given) (eats g l k o)) (let same : m ≡ n = cc in same)
      (eats_chain g l u o (plain given) m b still wait)
  ran_stood u given (Err q) n b still wait e o = absurd cc

  stop_shown : (u : List ℕ) (r : Refusal) (p : Stop g l u r) → Shown (Whole g l) (p.before ++ p.o ∷ []) (plain (run g l 0 begun u).given)
  stop_shown u r p =
      subst (Shown (Whole g l) (p.before ++ p.o ∷ [])) (sym (ap (λ (y : Run). plain y.given) (p.same ∙ step) ∙ plain_parts before.given last.given))
      (halted_shown p.before p.o (plain before.given ++ plain last.given) halted (begins_none g l (p.before ++ p.o ∷ []) r p.stopped))
    where
      before : Run
      before = run g l 0 begun p.before

      last : Run
      last = run g l (length p.before) p.n (p.o ∷ [])

      step : run g l 0 begun (p.before ++ p.o ∷ []) ≡ record { given = before.given ++ last.given; now = last.now }
      step = behind_run g l p.before (p.o ∷ []) ∙ ap (λ y. on_now before.given y (λ n. run g l (length p.before) n (p.o ∷ []))) p.ran

      still : HasBegun g l begun.scan begun.reading
      still f c = absurd (let n : false ≡ true = c in cc)

      chain : Chain g l p.before p.o (plain before.given) (eats g l p.n p.o)
      chain =
          ran_stood p.before before.given before.now p.n (run_ran g l p.before [] [] 0 begun (begun_stood g l))
          (run_still g l p.before [] [] 0 begun (begun_stood g l) still)
          (run_waits g l p.before [] [] 0 begun (begun_stood g l) tt) p.ran p.o

      halted : Halted g l p.before p.o (plain before.given ++ plain last.given)
      halted = refused_by p.before p.o (plain before.given) (length p.before) r (eats g l p.n p.o) chain (sym (ap (λ (y : Run). y.now) step) ∙ p.stopped)

  -- Up to a refused octet, octets show the values given.
  pub refused_shown : (u : List ℕ) (r : Refusal) → (trace g l u).refused ≡ Some r → Shown (Whole g l) (take r.offset u) (plain (trace g l u).given)
  refused_shown u r h =
      let p = stop_of g l u r (refused_run g l u r h) in
      subst (λ y. Shown (Whole g l) y (plain (run g l 0 begun u).given)) (sym (stop_taken g l u r p)) (stop_shown u r p)

  -- A refusal is as the readers promise.
  pub refuses : (u : List ℕ) (r : Refusal) → (trace g l u).refused ≡ Some r → Refuses (Document g l) (Whole g l) u (trace g l u) r
  refuses u r h = record {
    within = stop_within g l u r (stop_of g l u r (refused_run g l u r h));
    none = refused_none g l u r h;
    shown = refused_shown u r h;
    ends = refused_ends g l u r h;
    whole_memory = ((has_reasons g l u).step r h).whole_memory;
    before_end = before_end g l u r h;
  }
