-- An octet that doesn't go on behind a symbol, or behind a long string, and what follows it: no `::`, and no `''`.
use Rattle.std.proofs.Common.{◌≡◌, ℕ, ◌+◌, ◌==◌, Bool, true, false, List, [], ◌∷◌, ◌++◌, length, refl, sym, ap, ◌∙◌, subst, append_assoc, append-nil, ◌⊎◌, inl, inr, if◌then◌else◌}
use Rattle.std.specs.Prelude.{codes}
use Rattle.ion_text.specs.Names.{BlankThen, Known, Mode, Next, Place, Style, TokenKind, Within, acts, before, feed, follow, followed, is_sane, scan as run}
use Rattle.ion_tokens.specs.machine.Table.{go as go_on}
use Rattle.ion_tokens.proofs.complete.Moves.{at}
use Rattle.ion_tokens.proofs.complete.TakesBlanks.{passes_blank}
use Rattle.ion_tokens.proofs.complete.Wholes.{run_behind}
use Rattle.ion_text.specs.laws.reading.complete.Found.{next_is, run_keeps}
use Rattle.ion_text.specs.laws.reading.complete.Meets.{LongOn, follows_as, is_long_text}
use Rattle.ion_text.specs.laws.reading.complete.Segments.{never}
use Rattle.ion_text.specs.laws.reading.sound.Held.{NoLongText, NoSegment}
use Rattle.ion_text.specs.laws.showing.refused.Halts.{NotColons}
use Rattle.ion_text.specs.laws.showing.tokens.Cuts.{begun_kept, parts_meet}
use Rattle.ion_text.specs.laws.showing.tokens.Firsts.{long_run}

-- a list's last item, where the list is parted
pub last_parted : (xs : List ℕ) (o : ℕ) (zs ys : List ℕ) → xs ++ o ∷ [] ≡ zs ++ ys → ((ys ≡ []) × (zs ≡ xs ++ o ∷ []))
    ⊎ ((front : List ℕ) × (ys ≡ front ++ o ∷ []) × (xs ≡ zs ++ front))
last_parted [] o [] ys e = inr ([], sym e, refl)
last_parted [] o (z ∷ []) ys e = inl ((let t : [] ≡ ys = cc in sym t), (let h : o ≡ z = cc in ap (λ x. x ∷ []) (sym h)))
last_parted [] o (z ∷ w ∷ zs) ys e = absurd (let t : [] ≡ w ∷ (zs ++ ys) = cc in cc)
last_parted (x ∷ xs) o [] ys e = inr (x ∷ xs, sym e, refl)
last_parted (x ∷ xs) o (z ∷ zs) ys e =
    let h : x ≡ z = cc in
    let t : xs ++ o ∷ [] ≡ zs ++ ys = cc in
    elim (last_parted xs o zs ys t) [
      | inl (a, b) ↦ inl (a, ap (λ l. z ∷ l) b ∙ ap (λ y. y ∷ (xs ++ o ∷ [])) (sym h))
      | inr (front, a, b) ↦ inr (front, a, ap (λ y. y ∷ xs) h ∙ ap (λ l. z ∷ l) b)
    ]

-- a run over octets in two parts
pub run_parted : (p : Place) (xs ys : List ℕ) (s t : Known) → run p (xs ++ ys) s ≡ Next t → (m : Known) × (run p xs s ≡ Next m) × (run p ys m ≡ Next t)
run_parted p [] ys s t e = (s, refl, e)
run_parted p (x ∷ xs) ys s t e =
    let f = followed (feed p s x) (λ n. run p (xs ++ ys) n) t e in
    let r = run_parted p xs ys f.0 t f.2 in
    (r.0, ap (λ y. follow y (λ n. run p xs n)) f.1 ∙ r.1, r.2)

-- one octet more
last_fed : (p : Place) (xs : List ℕ) (o : ℕ) (s t u : Known) → run p xs s ≡ Next t → run p (xs ++ o ∷ []) s ≡ Next u → feed p t o ≡ Next u
last_fed p xs o s t u e f =
    let x = followed (feed p t o) (λ n. Next n) u (sym (run_behind p xs (o ∷ []) s t e) ∙ f) in
    x.1 ∙ ap Next (next_is x.0 u x.2)

-- a token that has begun and isn't one in quotes stays so
open_kept : (p : Place) (os : List ℕ) (s t : Known) → is_sane s.mode ≡ true → NoLongText s.mode → run p os s ≡ Next t → NoLongText t.mode
open_kept = run_keeps NoLongText (λ p s t o sane e i. let f = follows_as p s o (Next t) sane e in (f.1 i.0, f.2 i.0 i.1))

module _ (p : Place) (k : ℕ) (since : List ℕ) (s : Known) (o : ℕ) (sane : is_sane s.mode ≡ true) where
  -- Of two such octets behind a blank, where the first one leads there, this octet is neither, and both don't stand before it.
  doubled : (colon : Bool) (c : ℕ) (one : Known) (w more following : List ℕ) → run p (w ++ c ∷ []) (at Mode.Blank [] colon k k) ≡ Next one
      → run p since (at Mode.Blank [] colon k k) ≡ Next s → ((m : Known) (z : List ℕ) → feed p s o ≡ Next m → run p z m ≡ Next one → ⊥)
      → (s ≡ one → o ≡ c → ⊥) → ((y : List ℕ) → run p (c ∷ y) one ≡ Next s → ⊥) → since ++ o ∷ following ≡ (w ++ c ∷ c ∷ []) ++ more → ⊥
  doubled colon c one w more following reached ran neither first both e = by (parts_meet (since ++ o ∷ []) following (w ++ c ∷ []) (c ∷ more) same)
    where
      same : (since ++ o ∷ []) ++ following ≡ (w ++ c ∷ []) ++ c ∷ more
      same = append_assoc since (o ∷ []) following ∙ (e ∙ (append_assoc w (c ∷ c ∷ []) more ∙ sym (append_assoc w (c ∷ []) (c ∷ more))))

      -- where one of them at most has come
      within' : (z : List ℕ) → w ++ c ∷ [] ≡ (since ++ o ∷ []) ++ z → ⊥
      within' z f =
          let m = run_parted p (since ++ o ∷ []) z (at Mode.Blank [] colon k k) one (ap (λ x. run p x (at Mode.Blank [] colon k k)) (sym f) ∙ reached) in
          neither m.0 z (last_fed p since o (at Mode.Blank [] colon k k) s m.0 ran m.1) m.2

      -- where both have
      beyond : (y : List ℕ) → since ≡ (w ++ c ∷ []) ++ y → (y ++ o ∷ []) ++ following ≡ c ∷ more → ⊥
      beyond [] f g =
          let here : s ≡ one = next_is s one (sym ran ∙ (ap (λ x. run p x (at Mode.Blank [] colon k k)) (f ∙ append-nil (w ++ c ∷ [])) ∙ reached)) in
          let this : o ≡ c = cc in
          first here this
      beyond (a ∷ y) f g =
          let this : a ≡ c = cc in
          both y (sym (run_behind p (w ++ c ∷ []) (c ∷ y) (at Mode.Blank [] colon k k) one reached)
          ∙ (ap (λ x. run p x (at Mode.Blank [] colon k k)) (ap (λ x. (w ++ c ∷ []) ++ x ∷ y) (sym this) ∙ sym f) ∙ ran))

      by : ((y : List ℕ) × (since ++ o ∷ [] ≡ (w ++ c ∷ []) ++ y) × (y ++ following ≡ c ∷ more))
          ⊎ ((z : List ℕ) × (w ++ c ∷ [] ≡ (since ++ o ∷ []) ++ z) × (z ++ c ∷ more ≡ following)) → ⊥
      by (inr (z, f, g)) = within' z f
      by (inl (y, f, g)) = elim (last_parted since o (w ++ c ∷ []) y f) [
        | inl (a, b) ↦ within' [] (b ∙ sym (append-nil (since ++ o ∷ [])))
        | inr (front, a, b) ↦ beyond front b (ap (λ x. x ++ following) (sym a) ∙ g)
      ]

  -- Such an octet isn't in the front of `::`, whatever follows.
  pub octet_colons : run p since (at Mode.Blank [] true k k) ≡ Next s → NotColons (feed p s o) → (following : List ℕ)
      → BlankThen (codes "::") (since ++ o ∷ following) → ⊥
  octet_colons ran not following (w, more, is, e) =
      doubled true 58 one w more following ((passes_blank p true w is k k).1 (58 ∷ [])) ran
      (λ m z f r. never true (begun_kept p z m one (follows_as p s o (Next m) sane f).0 (subst NotColons f not) r) refl) first both e
    where
      one : Known
      one = at Mode.Colon [] true (k + length w) (k + length w + 1)

      first : s ≡ one → o ≡ 58 → ⊥
      first f i = let z : true ≡ false = subst (λ x. NotColons (feed p one x)) i (subst (λ x. NotColons (feed p x o)) f not) in cc

      both : (y : List ℕ) → run p (58 ∷ y) one ≡ Next s → ⊥
      both y r = cc

  -- Nor is one in the front of `''` that goes on with no long string.
  pub octet_quotes : (colon : Bool) → run p since (at Mode.Blank [] colon k k) ≡ Next s → NoSegment true (feed p s o) → is_long_text s.mode ≡ false
      → (following : List ℕ) → BlankThen (codes "''") (since ++ o ∷ following) → ⊥
  octet_quotes colon ran apart bare following (w, more, is, e) =
      doubled colon 39 one w more following ((passes_blank p colon w is k k).1 (39 ∷ [])) ran
      (λ m z f r. never true (open_kept p z m one (follows_as p s o (Next m) sane f).0 (subst (NoSegment true) f apart) r).1 refl) first behind_two e
    where
      one : Known
      one = at Mode.Quote [] colon (k + length w) (k + length w + 1)

      two : Known
      two = at Mode.Quotes [] colon (k + length w) (k + length w + 1 + 1)

      long : Known
      long = at (Mode.Text Style.LongString Within.Plain) [] colon (k + length w) (k + length w + 1 + 1 + 1)

      first : s ≡ one → o ≡ 39 → ⊥
      first f i =
          let n : NoLongText Mode.Quotes = subst (λ x. NoSegment true (feed p one x)) i (subst (λ x. NoSegment true (feed p x o)) f apart) in
          let z : true ≡ false = n.1 in cc

      -- behind two quotes
      at_two : (b : Bool) → NoSegment true (acts p two o (if b then go_on (Mode.Text Style.LongString Within.Plain) else before TokenKind.QuotedSymbol)) → ⊥
      at_two true h = let z : true ≡ false = h.1 in cc
      at_two false h = let z : true ≡ false = h in cc

      third : (c : ℕ) (y : List ℕ) (b : Bool)
          → follow (acts p two c (if b then go_on (Mode.Text Style.LongString Within.Plain) else before TokenKind.QuotedSymbol)) (λ t. run p y t) ≡ Next s → ⊥
      third c y true h = never (is_long_text s.mode) bare (subst LongOn h (long_run p y long refl))
      third c y false h = cc

      behind_two : (y : List ℕ) → run p y two ≡ Next s → ⊥
      behind_two [] h = at_two (o == 39) (subst (λ x. NoSegment true (feed p x o)) (sym (next_is two s h)) apart)
      behind_two (c ∷ y) h = third c y (c == 39) h
