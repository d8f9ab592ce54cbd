-- What stands behind what waits, by what the octet shows: `::`, or `''`.
use Rattle.std.proofs.Common.{◌≡◌, ℕ, ◌+◌, ◌-◌, ◌≤◌, nat_le, Bool, true, false, ◌&&◌, not, List, [], ◌∷◌, ◌++◌, Some, None, refl, sym, ap, ◌∙◌, subst, arith, append_assoc, append-nil, if◌then◌else◌}
use Rattle.std.proofs.lemmas.Bool.{le-leb}
use Rattle.std.specs.Prelude.{codes}
use Rattle.ion_text.specs.Names.{BlankThen, Frame, Given, IsBlank, Known, Left, Lexeme, Limits, Mark, Mode, Next, Place, Reading, Reason, Stage, Style, Symbols, TokenKind, begun_in, behind, fails, feed, form_of, is_colons, is_idle, is_long_begun, is_quoted, is_quoting, is_segment, longest_top, noticed, reaches, shut, uses, with_scan}
use Rattle.ion_tokens.specs.Lexed.{Passes}
use Rattle.ion_tokens.proofs.sound.Holds.{Holds, InMode, IsTold, Sound}
use Rattle.ion_tokens.proofs.sound.Sounds.{feed_sound}
use Rattle.ion_text.specs.laws.reading.complete.Meets.{finely_as, is_long_text}
use Rattle.ion_text.specs.laws.reading.complete.Segments.{never}
use Rattle.ion_text.specs.laws.reading.complete.Tokens.{quoting_left}
use Rattle.ion_text.specs.laws.reading.sound.Quotes.{Fine}
use Rattle.ion_text.specs.laws.showing.shown.Opened.{colons_token, long_token, quoted_token, segment_is}
use Rattle.ion_text.specs.laws.showing.tokens.Exacts.{exact_at}

-- octets behind a blank at the front of octets
then_more : (octets front token x since more : List ℕ) → IsBlank front → since ≡ front ++ token → token ≡ octets ++ x → BlankThen octets (since ++ more)
then_more octets front token x since more b cut e = (
  front,
  x ++ more,
  b,
  ap (λ l. l ++ more) cut ∙ (append_assoc front token more
      ∙ (ap (λ l. front ++ (l ++ more)) e ∙ (ap (λ l. front ++ l) (append_assoc octets x more) ∙ sym (append_assoc front octets (x ++ more))))),
)

-- in a long text a segment has begun
pub text_quotes : (p : Place) (colon : Bool) (k : ℕ) (s : Known) (since more : List ℕ) → Holds p colon k s since → is_long_text s.mode ≡ true
    → BlankThen (codes "''") (since ++ more)
text_quotes p colon k s since more h e = go s.mode e h.mode
  where
    go : (m : Mode) → is_long_text m ≡ true → InMode p colon k m s.kept s.start since → BlankThen (codes "''") (since ++ more)
    go (Mode.Text Style.LongString w) e i = then_more (codes "''") i.front i.token (39 ∷ (i.is).0) since more i.blank i.cut (i.is).2
    go _ e i = absurd cc

colons_is : (k : TokenKind) → is_colons k ≡ true → k ≡ TokenKind.Mark Mark.Colons
colons_is (TokenKind.Mark Mark.Colons) h = refl
colons_is _ h = absurd cc

module _ (p : Place) (colon : Bool) (k : ℕ) (s : Known) (since : List ℕ) (o : ℕ) (h : Holds p colon k s since) where
  all : (more : List ℕ) → (since ++ o ∷ []) ++ more ≡ since ++ o ∷ more
  all more = append_assoc since (o ∷ []) more

  told : (y : Lexeme) (t : Known) → feed p s o ≡ Given y t → IsTold p colon k (since ++ o ∷ []) [] [] y t
  told y t e = subst (λ x. Sound p colon k since o x) e (feed_sound p colon k s since o h)

  -- colons end with the octet
  pub given_colons : (y : Lexeme) (t : Known) → feed p s o ≡ Given y t → is_colons y.kind ≡ true → (colon ≡ true)
      × ((more : List ℕ) → BlankThen (codes "::") (since ++ o ∷ more))
  given_colons y t e c =
      let kind = colons_is y.kind c in
      let i = told y t e in
      let x = colons_token p colon i.token [] y.kind y.octets (i.found [] (subst (λ n. Passes n y.octets) (sym kind) tt)) kind in (
        x.1,
        λ more. subst (BlankThen (codes "::")) (all more)
            (then_more (codes "::") i.front i.token [] (since ++ o ∷ []) more i.blank (i.cut ∙ append-nil (i.front ++ i.token))
            (x.0 ∙ sym (append-nil (codes "::")))),
      )

  -- a segment does
  pub given_segment : (y : Lexeme) (t : Known) → feed p s o ≡ Given y t → is_segment y.kind ≡ true → (more : List ℕ)
      → BlankThen (codes "''") (since ++ o ∷ more)
  given_segment y t e c more =
      let kind = segment_is y.kind c in
      let i = told y t e in
      let x = long_token p colon i.token [] y.kind y.octets (i.found [] (subst (λ n. Passes n y.octets) (sym kind) tt)) kind in
      subst (BlankThen (codes "''")) (all more) (then_more (codes "''") i.front i.token x.0 (since ++ o ∷ []) more i.blank
      (i.cut ∙ append-nil (i.front ++ i.token)) x.1)

  -- one goes on with the octet
  pub next_segment : (t : Known) → feed p s o ≡ Next t → is_long_text t.mode ≡ true → (more : List ℕ) → BlankThen (codes "''") (since ++ o ∷ more)
  next_segment t e c more = subst (BlankThen (codes "''")) (all more)
      (text_quotes p colon k t (since ++ o ∷ []) more (subst (λ x. Sound p colon k since o x) e (feed_sound p colon k s since o h)) c)

  -- `''` is left before it
  pub left_quotes : (y : Lexeme) (t : Known) → Fine s → feed p s o ≡ Left y t → is_quoted y.kind ≡ true → (more : List ℕ)
      → BlankThen (codes "''") (since ++ o ∷ more)
  left_quotes y t fine e c more = go (is_quoting s.mode) refl
    where
      i : (ahead : List ℕ) × IsTold p colon k since ahead (o ∷ []) y t
      i = subst (λ x. Sound p colon k since o x) e (feed_sound p colon k s since o h)

      go : (b : Bool) → is_quoting s.mode ≡ b → BlankThen (codes "''") (since ++ o ∷ more)
      go false q = absurd (never (is_quoted y.kind) ((finely_as p s o (Left y t) fine e).2 q) c)
      go true q =
          let z = quoting_left p s t o y (exact_at p colon k s since h) q e in
          let d = i.1 in
          let token = quoted_token p colon d.token (i.0 ++ (o ∷ [] ++ [])) y.kind y.octets (d.found [] (subst (λ n. Passes n y.octets) (sym z.0) tt)) z.0
          (omega (arith, z.1, d.end, d.start)) in
          then_more (codes "''") d.front (d.token ++ i.0) i.0 since (o ∷ more) d.blank (d.cut ∙ append_assoc d.front d.token i.0)
          (ap (λ x. x ++ i.0) (token ∙ append-nil (codes "''")))

-- where no segment has begun, what waits at the top level reaches to its last token
long_reach : (start : ℕ) (t : Known) (w : List ℕ) (end : ℕ) (ss : Symbols) → is_long_text t.mode ≡ false
    → longest_top start t.used (Stage.Long w end) ss (begun_in t) (is_long_begun (begun_in t)) ≡ end - start
long_reach start t w end ss h = go t.mode h
  where
    go : (m : Mode) → is_long_text m ≡ false → longest_top start t.used (Stage.Long w end) ss
        (if is_idle m then None else Some (record { start = t.start; end = t.used - behind m; form = form_of m }))
        (is_long_begun (if is_idle m then None else Some (record { start = t.start; end = t.used - behind m; form = form_of m }))) ≡ end - start
    go (Mode.Text Style.LongString w) e = absurd cc
    go _ e = refl

module _ (l : Limits) (r : Reading) (t : Known) where
  -- what isn't shut, and within the limit, is noticed
  noticed_fits : shut r.now ≡ false → reaches r.frames r t ≤ l.item → (e : Reason) → noticed l r t ≡ fails e → ⊥
  noticed_fits c h e f = go (shut r.now) (not (is_idle t.mode)) (nat_le (reaches r.frames r t) l.item) c (le-leb (reaches r.frames r t) l.item h) f
    where
      go : (x y z : Bool) → x ≡ false → z ≡ true → (if x && y then fails Reason.Unexpected else
          (if z then uses (with_scan t r) else fails Reason.ItemTooLong)) ≡ fails e → ⊥
      go false y true a b f = cc
      go _ y _ a b f = absurd cc

  -- What waits at the top level, and ended within the limit, is refused at no octet that it waits for but in a segment.
  pub waits_fits : r.frames ≡ [] → (h : _) (end : ℕ) → r.now ≡ Stage.Pending h end → end ≤ r.start + l.item → (e : Reason) → noticed l r t ≡ fails e → ⊥
  waits_fits top h end n fits e f =
      noticed_fits (ap shut n)
      (subst (λ (fs : List Frame). reaches fs r t ≤ l.item) (sym top)
      (subst (λ (m : Stage). longest_top r.start t.used m r.notes (begun_in t) (is_long_begun (begun_in t)) ≤ l.item) (sym n) (omega (arith, fits)))) e f

  -- a long string that waits at the top level within the limit is refused at no octet outside its segments
  pub long_fits : r.frames ≡ [] → (w : List ℕ) (end : ℕ) → r.now ≡ Stage.Long w end → end ≤ r.start + l.item → is_long_text t.mode ≡ false → (e : Reason)
      → noticed l r t ≡ fails e → ⊥
  long_fits top w end n fits text e f =
      noticed_fits (ap shut n)
      (subst (λ (fs : List Frame). reaches fs r t ≤ l.item) (sym top)
      (subst (λ (m : Stage). longest_top r.start t.used m r.notes (begun_in t) (is_long_begun (begun_in t)) ≤ l.item) (sym n)
      (omega (arith, fits, long_reach r.start t w end r.notes text)))) e f
