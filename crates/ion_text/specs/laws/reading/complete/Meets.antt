-- The tokens that a scanner meets in octets, octet by octet.
use Rattle.std.proofs.Common.{◌≡◌, ℕ, ◌+◌, ◌-◌, ◌≤◌, Bool, true, false, List, [], ◌∷◌, refl, sym, ap, ◌∙◌, subst, arith, Ok, Option, Some, None, ◌⊎◌, inl, inr}
use Rattle.std.specs.Prelude.{◌||◌, not}
use Rattle.ion_text.specs.Names.{Action, End, Follows, Given, Known, Left, Lexeme, Mark, Mode, Next, Outcome, Place, Placed, Refused, Style, TokenKind, Within, acts, at_end, behind, blob_ends, blob_of, end_of, ends_at, feed, follow, in_text, is_closing, is_idle, is_mark, is_sane, is_segment, is_sexp, is_two_quotes, raw, start_of}
use Rattle.ion_tokens.specs.machine.Table.{next}
use Rattle.ion_tokens.specs.laws.ByRows.{by_rows_where}
use Rattle.ion_tokens.specs.laws.Follows.{feed_follows}
use Rattle.ion_tokens.proofs.foreseen.Reaches.{Reaches, begun_stays, run_reaches}
use Rattle.ion_tokens.proofs.runs.Runs.{feed_used, given_used}
use Rattle.ion_text.specs.laws.reading.sound.Admits.{at_end_fine}
use Rattle.ion_text.specs.laws.reading.sound.Held.{NoLongText}
use Rattle.ion_text.specs.laws.reading.sound.Quotes.{Fine, Finely, feed_fine, given_far, left_none}

-- In these octets up to the end of the input the scanner meets these tokens, which are looked for in their places.
pub data Meets : Known → List ℕ → List Placed → Type 0 where
  at_blank : (s : Known) → at_end Place.Top s ≡ Ok None → Meets s [] []
  at_token : (s : Known) (t : Placed) → at_end t.place s ≡ Ok (Some t.lexeme) → Meets s [] (t ∷ [])
  in_blank : (s : Known) (o : ℕ) (os : List ℕ) (s' : Known) → feed Place.Top s o ≡ Next s' → Meets s' os [] → Meets s (o ∷ os) []
  goes_on : (s : Known) (o : ℕ) (os : List ℕ) (t : Placed) (ts : List Placed) (s' : Known) → feed t.place s o ≡ Next s' → Meets s' os (t ∷ ts)
      → Meets s (o ∷ os) (t ∷ ts)
  is_given : (s : Known) (o : ℕ) (os : List ℕ) (t : Placed) (ts : List Placed) (s' : Known) → feed t.place s o ≡ Given t.lexeme s' → Meets s' os ts
      → Meets s (o ∷ os) (t ∷ ts)
  is_left : (s : Known) (o : ℕ) (os : List ℕ) (t : Placed) (ts : List Placed) (s' : Known) → feed t.place s o ≡ Left t.lexeme s' → Meets s' (o ∷ os) ts
      → Meets s (o ∷ os) (t ∷ ts)

-- the token that the scanner meets next
pub data MeetsNext : Known → Placed → Type 0 where
  ends_next : (s : Known) (t : Placed) → at_end t.place s ≡ Ok (Some t.lexeme) → MeetsNext s t
  next_on : (s : Known) (o : ℕ) (t : Placed) (s' : Known) → feed t.place s o ≡ Next s' → MeetsNext s' t → MeetsNext s t
  next_given : (s : Known) (o : ℕ) (t : Placed) (s' : Known) → feed t.place s o ≡ Given t.lexeme s' → MeetsNext s t
  next_left : (s : Known) (o : ℕ) (t : Placed) (s' : Known) → feed t.place s o ≡ Left t.lexeme s' → MeetsNext s t

-- the first of the tokens that it meets
pub meets_next : (s : Known) (os : List ℕ) (t : Placed) (ts : List Placed) → Meets s os (t ∷ ts) → MeetsNext s t
meets_next _ _ _ _ (at_token s t e) = ends_next s t e
meets_next _ _ _ _ (goes_on s o os t ts s' e m) = next_on s o t s' e (meets_next s' os t ts m)
meets_next _ _ _ _ (is_given s o os t ts s' e m) = next_given s o t s' e
meets_next _ _ _ _ (is_left s o os t ts s' e m) = next_left s o t s' e

-- what the table says of a text, and of a token that is left

-- the text of a long string is open
abbrev pub is_long_text : Mode → Bool
is_long_text (Mode.Text Style.LongString w) = true
is_long_text _ = false

-- a text's octets end it or go on, a long one's as such
abbrev pub text : Bool → Action → Bool
text long (Action.Go m k) = not long || is_long_text m
text long (Action.Give kind k) = not long || is_segment kind
text long (Action.Refuse e) = true
text long _ = false

pub record Text (long : Bool) (a : Action) : Type 0 where
  pub is : text long a ≡ true

abbrev pub is_long_string : Style → Bool
is_long_string Style.LongString = true
is_long_string _ = false

abbrev is_text : Mode → Bool
is_text (Mode.Text s w) = true
is_text _ = false

abbrev is_long_mode : Mode → Bool
is_long_mode (Mode.Text s w) = is_long_string s
is_long_mode _ = false

-- an octet of a text goes on with it, ends it or is refused, in a long string as such
pub text_text : (s : Style) (w : Within) (o : ℕ) → Text (is_long_string s) (in_text s w o)
text_text s w o = record { is = by_rows_where is_text (λ sexp m. text (is_long_mode m)) (λ c t. refl) Place.Top false (Mode.Text s w) o refl }

-- where no escape is open in a text, an octet goes on with it, ends it or is refused
pub raw_text : (s : Style) (o : ℕ) → Text (is_long_string s) (raw s o)
raw_text s o = text_text s Within.Plain o

-- what comes of an octet of a long text
abbrev pub LongOn : Outcome → Type 0
LongOn (Next s) = is_long_text s.mode ≡ true
LongOn (Given x s) = is_segment x.kind ≡ true
LongOn (Left x s) = ⊥
LongOn (Refused n e) = Unit {0}

long_acts : (p : Place) (s : Known) (o : ℕ) (a : Action) → text true a ≡ true → LongOn (acts p s o a)
long_acts p s o (Action.Go m k) h = h
long_acts p s o (Action.Give kind k) h = h
long_acts p s o (Action.Refuse e) h = tt
long_acts p s o _ h = absurd cc

-- an octet in a long string goes on with it, ends the segment or is refused
pub long_feed : (p : Place) (s : Known) (o : ℕ) → is_long_text s.mode ≡ true → LongOn (feed p s o)
long_feed p s o h = long_acts p s o (next p s.colon s.mode o) (by_rows_where is_long_text (λ sexp m. text true) (λ c t. refl) p s.colon s.mode o h)

-- from where no token has begun a colon may be left, or in an s-expression an operator; from where quotes are open a quoted symbol
abbrev leaves_idle : Bool → Action → Bool
leaves_idle sexp (Action.Before (TokenKind.Mark Mark.Colon) k Mode.Blank) = true
leaves_idle sexp (Action.Before TokenKind.Operator k m) = sexp
leaves_idle sexp (Action.Before _ k m) = false
leaves_idle sexp Action.EndWord = false
leaves_idle sexp (Action.Split n) = false
leaves_idle sexp _ = true

-- what is left where no token has begun
abbrev pub IdleLeft : Place → ℕ → Outcome → Type 0
IdleLeft p n (Left x s) = ((x.kind ≡ TokenKind.Mark Mark.Colon) × (n ≤ x.end)) ⊎ ((x.kind ≡ TokenKind.Operator) × (is_sexp p ≡ true))
IdleLeft p n _ = Unit {0}

blob_leaves : (p : Place) (s : Known) (b : Option (List ℕ)) → IdleLeft p s.used (blob_ends s b)
blob_leaves p s None = tt
blob_leaves p s (Some b) = tt

idle_acts : (p : Place) (s : Known) (o : ℕ) (a : Action) → leaves_idle (is_sexp p) a ≡ true → IdleLeft p s.used (acts p s o a)
idle_acts p s o (Action.Go m k) h = tt
idle_acts p s o (Action.Give kind k) h = tt
idle_acts p s o (Action.Refuse e) h = tt
idle_acts p s o Action.EndBlob h = blob_leaves p s (blob_of s.kept)
idle_acts p s o Action.EndWord h = absurd cc
idle_acts p s o (Action.Split n) h = absurd cc
idle_acts p s o (Action.Before TokenKind.Operator k m) h = inr (refl, h)
idle_acts p s o (Action.Before (TokenKind.Mark Mark.Colon) k Mode.Blank) h = inl (refl, omega arith)
idle_acts p s o (Action.Before _ k m) h = absurd cc

-- where no token has begun, what is left is a colon, or in an s-expression an operator
pub idle_left : (p : Place) (s : Known) (o : ℕ) → is_idle s.mode ≡ true → IdleLeft p s.used (feed p s o)
idle_left p s o h = idle_acts p s o (next p s.colon s.mode o) (by_rows_where is_idle (λ sexp m. leaves_idle sexp) (λ c t. refl) p s.colon s.mode o h)

-- of the next token that is met

mark_closing : (k : TokenKind) → is_mark k ≡ false → is_closing k ≡ false
mark_closing (TokenKind.Mark m) h = absurd cc
mark_closing _ h = refl

-- whatever outcome an octet has follows the mode before it as the table promises
pub follows_as : (p : Place) (s : Known) (o : ℕ) (x : Outcome) → is_sane s.mode ≡ true → feed p s o ≡ x → Follows p s.mode x
follows_as p s o x h e = subst (Follows p s.mode) e (feed_follows p s o h)

-- whatever outcome an octet has, its token is as long and of such a kind as the table promises
pub finely_as : (p : Place) (s : Known) (o : ℕ) (x : Outcome) → Fine s → feed p s o ≡ x → Finely s.mode x
finely_as p s o x h e = subst (Finely s.mode) e (feed_fine p s o h)

-- one that has begun is no mark, but for an open brace
pub begun_closing : (s : Known) (t : Placed) → MeetsNext s t → is_sane s.mode ≡ true → is_idle s.mode ≡ false → is_closing t.lexeme.kind ≡ false
begun_closing _ _ (ends_next s t e) h i = (at_end_fine t.place s t.lexeme e).2 i
begun_closing _ _ (next_on s o t s' e m) h i = let f = follows_as t.place s o (Next s') h e in begun_closing s' t m f.0 (f.1 i)
begun_closing _ _ (next_given s o t s' e) h i = let f = follows_as t.place s o (Given t.lexeme s') h e in mark_closing t.lexeme.kind (f.0 i)
begun_closing _ _ (next_left s o t s' e) h i = let f = follows_as t.place s o (Left t.lexeme s') h e in f.1 i

-- one that has begun without quotes is no segment and no `''`
pub begun_apart : (s : Known) (t : Placed) → MeetsNext s t → is_sane s.mode ≡ true → Fine s → NoLongText s.mode
    → (is_segment t.lexeme.kind ≡ false) × (is_two_quotes t.lexeme.kind t.lexeme.start t.lexeme.end ≡ false)
begun_apart _ _ (ends_next s t e) h f k = let a = at_end_fine t.place s t.lexeme e in (a.0, left_none t.lexeme.kind t.lexeme.start t.lexeme.end (a.1 k.1))
begun_apart _ _ (next_on s o t s' e m) h f k = let a = follows_as t.place s o (Next s') h e in
    begun_apart s' t m a.0 (finely_as t.place s o (Next s') f e) (a.1 k.0, a.2 k.0 k.1)
begun_apart _ _ (next_given s o t s' e) h f k = let a = follows_as t.place s o (Given t.lexeme s') h e in let b =
    finely_as t.place s o (Given t.lexeme s') f e in (a.1 k.0 k.1, given_far t.lexeme b.1)
begun_apart _ _ (next_left s o t s' e) h f k = let b = finely_as t.place s o (Left t.lexeme s') f e in
    (b.1, left_none t.lexeme.kind t.lexeme.start t.lexeme.end (b.2 k.1))

-- where the end ends a token
pub end_spans : (s : Known) (e : End) (x : Lexeme) → ends_at s e ≡ Ok (Some x) → (x.start ≡ start_of s.mode s.start s.used) × (x.end ≡ s.used)
end_spans s End.Blank x h = absurd (let n : Ok None ≡ Ok (Some x) = h in cc)
end_spans s (End.Token kind k) x h = (cc, cc)
end_spans s (End.Refuse e) x h = absurd cc

one_reaches : (p : Place) (s : Known) (o start end : ℕ) (x : Outcome) → Reaches start end (Next s) → feed p s o ≡ x → Reaches start end (follow x (λ t. Next t))
one_reaches p s o start end x h e = subst (λ y. Reaches start end (follow y (λ t. Next t))) e (run_reaches p (o ∷ []) s start end h)

-- one that has begun reaches over the octets that are surely its own, but for an operator
begun_covers : (start end : ℕ) (s : Known) (os : List ℕ) (t : Placed) (ts : List Placed) → Meets s os (t ∷ ts) → (s.start ≡ start) × (is_idle s.mode ≡ false)
    × (end + behind s.mode ≤ s.used)
    → (t.lexeme.start ≡ start) × ((end ≤ t.lexeme.end) ⊎ (t.lexeme.kind ≡ TokenKind.Operator))
unfolding Reaches
begun_covers start end _ _ _ _ (at_token s t e) h =
    let x = end_spans s (end_of t.place s.mode) t.lexeme e in
    let k = h.2 in
    (x.0 ∙ begun_stays s.mode s.start s.used h.1 ∙ h.0, inl (omega (arith, x.1, k)))
begun_covers start end _ _ _ _ (goes_on s o os t ts s' e m) h = begun_covers start end s' os t ts m (one_reaches t.place s o start end (Next s') h e)
begun_covers start end _ _ _ _ (is_given s o os t ts s' e m) h = let x = one_reaches t.place s o start end (Given t.lexeme s') h e in (x.0, inl x.1)
begun_covers start end _ _ _ _ (is_left s o os t ts s' e m) h =
    let x = one_reaches t.place s o start end (Left t.lexeme s') h e in
    (x.0, elim x.1 [ inl k ↦ inl k | inr k ↦ inr k.0 ])

behind_one : (m : Mode) → behind m ≤ 1
behind_one Mode.NumberSlash = omega arith
behind_one _ = omega arith

behind_used : (m : Mode) (used : ℕ) → 1 ≤ used → used - behind m + behind m ≤ used
behind_used m used h = let k = behind_one m in omega arith

-- the token that has begun
pub begun_span : (s : Known) (os : List ℕ) (t : Placed) (ts : List Placed) → Meets s os (t ∷ ts) → is_idle s.mode ≡ false → 1 ≤ s.used
    → (t.lexeme.start ≡ s.start) × ((s.used - behind s.mode ≤ t.lexeme.end) ⊎ (t.lexeme.kind ≡ TokenKind.Operator))
begun_span s os t ts m i u = begun_covers s.start (s.used - behind s.mode) s os t ts m (refl, i, behind_used s.mode s.used u)

-- an octet that ends a token is used
pub one_given : (p : Place) (s s' : Known) (o : ℕ) (x : Lexeme) → feed p s o ≡ Given x s' → s.used + 1 ≤ s'.used
one_given p s s' o x e = let k = given_used p (o ∷ []) s s' x (sym (ap (λ y. follow y (λ t. Next t)) e)) in omega (arith, k.0)

-- where none has begun, the next one ends behind the octets used
pub idle_span : (s : Known) (os : List ℕ) (t : Placed) (ts : List Placed) → Meets s os (t ∷ ts) → Fine s → is_idle s.mode ≡ true → (s.used ≤ t.lexeme.end)
    ⊎ (t.lexeme.kind ≡ TokenKind.Operator)
idle_span _ _ _ _ (at_token s t e) f i = let x = end_spans s (end_of t.place s.mode) t.lexeme e in inl (omega (arith, x.1))
idle_span _ _ _ _ (goes_on s o os t ts s' e m) f i = go (λ j. idle_span s' os t ts m (finely_as t.place s o (Next s') f e) j) (is_idle s'.mode) refl
  where
    one : s'.used ≡ s.used + 1
    one = feed_used t.place s s' o e

    go : (is_idle s'.mode ≡ true → (s'.used ≤ t.lexeme.end) ⊎ (t.lexeme.kind ≡ TokenKind.Operator)) → (b : Bool) → is_idle s'.mode ≡ b → (s.used ≤ t.lexeme.end)
        ⊎ (t.lexeme.kind ≡ TokenKind.Operator)
    go rest true j = elim (rest j) [
      | inl k ↦ inl (omega (arith, one, k))
      | inr k ↦ inr k
    ]
    go rest false j = elim ((begun_span s' os t ts m j (omega (arith, one))).1) [
      | inl k ↦ inl (omega (arith, one, k, behind_one s'.mode))
      | inr k ↦ inr k
    ]
idle_span _ _ _ _ (is_given s o os t ts s' e m) f i = let x = finely_as t.place s o (Given t.lexeme s') f e in
    inl (omega (arith, x.4, one_given t.place s s' o t.lexeme e))
idle_span _ _ _ _ (is_left s o os t ts s' e m) f i =
    elim (subst (IdleLeft t.place s.used) e (idle_left t.place s o i)) [ inl h ↦ inl h.1 | inr h ↦ inr h.0 ]

-- a long text becomes a segment
pub long_segment : (s : Known) (os : List ℕ) (t : Placed) (ts : List Placed) → Meets s os (t ∷ ts) → is_long_text s.mode ≡ true → is_segment t.lexeme.kind
    ≡ true
long_segment _ _ _ _ (at_token s t e) h = absurd (go s.mode h (ap (λ m. ends_at s (end_of t.place m)) refl ∙ e))
  where
    go : (m : Mode) → is_long_text m ≡ true → ends_at s (end_of t.place m) ≡ Ok (Some t.lexeme) → ⊥
    go (Mode.Text x w) h k = cc
    go _ h k = cc
long_segment _ _ _ _ (goes_on s o os t ts s' e m) h = long_segment s' os t ts m (subst LongOn e (long_feed t.place s o h))
long_segment _ _ _ _ (is_given s o os t ts s' e m) h = subst LongOn e (long_feed t.place s o h)
long_segment _ _ _ _ (is_left s o os t ts s' e m) h = absurd (subst LongOn e (long_feed t.place s o h))
