-- What an octet says of an open quoted text.
use Rattle.std.proofs.Common.{◌≡◌, ℕ, Bool, true, false, List, [], ◌∷◌, ◌++◌, refl, sym, ap, ◌∙◌, subst, append_assoc, append-nil}
use Rattle.std.specs.Prelude.{◌==◌, not}
use Rattle.std.specs.List.{flat_map}
use Rattle.std.proofs.lemmas.Bool.{cond_both, eqb-true, true≢false}
use Rattle.ion_tokens.specs.Names.{Action, Each, Keep, Lob, Mode, Place, Segment, Style, TokenKind, Within, before, begins, in_quote, in_quotes, in_text, is_name, kept_after, raw, segment_spelling}
use Rattle.ion_tokens.proofs.sound.Opens.{InText, IsLongFront, IsLongText, IsOpen, IsUnjudgedToken, Turns}
use Rattle.ion_tokens.proofs.sound.TurnsWords.{empty_symbol}
use Rattle.ion_tokens.proofs.texts.TextsRead.{LeadsText, reads_none, text_step}
use Rattle.ion_tokens.proofs.texts.TextsSound.{Closes, EndsText, GivesText, Keeps, Reads, keeps_behind}
use Rattle.ion_tokens.specs.laws.Each.{flat_last}

-- what an action makes of an open text is so, where what it reads, what it ends and what it gives are
fits : (p : Place) (colon : Bool) (s : Style) (token part kept inside : List ℕ) (o : ℕ)
    → ((v : Within) (k : Keep) → Keeps k inside → Reads s v (part ++ o ∷ []) (kept_after k inside) → InText p s v (token ++ o ∷ []) (kept_after k kept))
    → ((l : Lob) (k : Keep) → Keeps k inside → EndsText s l → Closes s (part ++ o ∷ []) (kept_after k inside)
    → IsOpen p colon (Mode.Lob l) (token ++ o ∷ []) (kept_after k kept))
    → ((kind : TokenKind) (k : Keep) → GivesText s kind → Closes s (part ++ o ∷ []) (kept_after k inside) → (r : List ℕ)
    → IsUnjudgedToken p colon (token ++ o ∷ []) r kind (kept_after k kept))
    → (a : Action) → LeadsText s a (part ++ o ∷ []) inside → Turns p colon token kept o a
fits p colon s token part kept inside o reads ends gives (Action.Go (Mode.Text t v) k) (d, (e, h)) =
    subst (λ x. InText p x v (token ++ o ∷ []) (kept_after k kept)) (sym e) (reads v k d h)
fits p colon s token part kept inside o reads ends gives (Action.Go (Mode.Lob l) k) (d, (e, h)) = ends l k d e h
fits p colon s token part kept inside o reads ends gives (Action.Go m k) h = absurd h.1
fits p colon s token part kept inside o reads ends gives (Action.Give kind k) (d, g, c) = gives kind k g c
fits p colon s token part kept inside o reads ends gives (Action.Refuse e) h = tt
fits p colon s token part kept inside o reads ends gives a h = absurd h

-- short strings
short_turns : (p : Place) (colon : Bool) (part kept : List ℕ) (o : ℕ) (a : Action) → LeadsText Style.ShortString a (part ++ o ∷ []) kept
    → Turns p colon (34 ∷ part) kept o a
short_turns p colon part kept o =
    fits p colon Style.ShortString (34 ∷ part) part kept kept o (λ v k d h. (part ++ o ∷ [], h, refl)) (λ l k d e. absurd e) gives where
      gives : (kind : TokenKind) (k : Keep) → GivesText Style.ShortString kind → Closes Style.ShortString (part ++ o ∷ []) (kept_after k kept) → (r : List ℕ)
          → IsUnjudgedToken p colon (34 ∷ part ++ o ∷ []) r kind (kept_after k kept)
      gives TokenKind.ShortString k g c r = λ j. (c.content, c.is, ap (λ l. 34 ∷ l) c.spelled)
      gives _ k g c r = absurd g

-- long strings
long_turns : (p : Place) (colon : Bool) (part kept : List ℕ) (o : ℕ) (a : Action) → LeadsText Style.LongString a (part ++ o ∷ []) kept
    → Turns p colon (39 ∷ 39 ∷ 39 ∷ part) kept o a
long_turns p colon part kept o =
    fits p colon Style.LongString (39 ∷ 39 ∷ 39 ∷ part) part kept kept o (λ v k d h. (part ++ o ∷ [], h, refl)) (λ l k d e. absurd e) gives where
      gives : (kind : TokenKind) (k : Keep) → GivesText Style.LongString kind → Closes Style.LongString (part ++ o ∷ []) (kept_after k kept) → (r : List ℕ)
          → IsUnjudgedToken p colon (39 ∷ 39 ∷ 39 ∷ part ++ o ∷ []) r kind (kept_after k kept)
      gives TokenKind.LongString k g c r = λ j. (c.content, c.is, ap (λ l. 39 ∷ 39 ∷ 39 ∷ l) c.spelled)
      gives _ k g c r = absurd g

-- a text between two single quotes doesn't begin with a third
some_behind : (part content : List ℕ) (o : ℕ) → part ++ o ∷ [] ≡ content ++ 39 ∷ [] → begins (λ o. not (o == 39)) (part ++ o ∷ []) ≡ true → content ≡ [] → ⊥
some_behind part content o e n f = true≢false (sym n ∙ ap (begins (λ o. not (o == 39))) (e ∙ ap (λ l. l ++ 39 ∷ []) f))

begins_more : (class : ℕ → Bool) (part : List ℕ) (o : ℕ) → begins class part ≡ true → begins class (part ++ o ∷ []) ≡ true
begins_more class [] o h = cc
begins_more class (x ∷ part) o h = h

symbol_turns : (p : Place) (colon : Bool) (part kept : List ℕ) (o : ℕ) (a : Action) → begins (λ o. not (o == 39)) (part ++ o ∷ []) ≡ true
    → LeadsText Style.QuotedSymbol a (part ++ o ∷ []) kept → Turns p colon (39 ∷ part) kept o a
symbol_turns p colon part kept o a n = fits p colon Style.QuotedSymbol (39 ∷ part) part kept kept o (λ v k d h. (part ++ o ∷ [], h, refl, n))
    (λ l k d e. absurd e) gives a where
      gives : (kind : TokenKind) (k : Keep) → GivesText Style.QuotedSymbol kind → Closes Style.QuotedSymbol (part ++ o ∷ []) (kept_after k kept) → (r : List ℕ)
          → IsUnjudgedToken p colon (39 ∷ part ++ o ∷ []) r kind (kept_after k kept)
      gives TokenKind.QuotedSymbol k g c r = λ j. (c.content, c.is, ap (λ l. 39 ∷ l) c.spelled, λ e. absurd (some_behind part c.content o c.spelled n e))
      gives _ k g c r = absurd g

-- short clobs
short_clob_turns : (p : Place) (colon : Bool) (before part kept : List ℕ) (o : ℕ) (a : Action) → is_name p ≡ false
    → Each Rattle.ion_tokens.specs.Octets.is_white before → LeadsText Style.ShortClob a (part ++ o ∷ []) kept
    → Turns p colon (123 ∷ 123 ∷ (before ++ 34 ∷ part)) kept o a
short_clob_turns p colon before part kept o a n w = fits p colon Style.ShortClob (123 ∷ 123 ∷ (before ++ 34 ∷ part)) part kept kept o
    (λ v k d h. (n, before, part ++ o ∷ [], w, h, ap (λ l. 123 ∷ 123 ∷ l) (append_assoc before (34 ∷ part) (o ∷ [])))) ends (λ kind k g. absurd g) a where
      ends : (l : Lob) (k : Keep) → Keeps k kept → EndsText Style.ShortClob l → Closes Style.ShortClob (part ++ o ∷ []) (kept_after k kept)
          → IsOpen p colon (Mode.Lob l) (123 ∷ 123 ∷ (before ++ 34 ∷ part) ++ o ∷ []) (kept_after k kept)
      ends Lob.AfterShort k d e c =
          let shown = append_assoc before (34 ∷ part) (o ∷ []) ∙ ap (λ l. before ++ 34 ∷ l) c.spelled ∙ sym (append_assoc before (34 ∷ c.content) (34 ∷ [])) in
          (n, (before ++ 34 ∷ part) ++ o ∷ [], refl, (before, c.content, [], w, c.is, tt, shown))
      ends _ k d e c = absurd e

-- segments of long clobs
long_ends : (front kept' part q octets : List ℕ) (o : ℕ) → IsLongFront front kept' → (c : Closes Style.LongClob (part ++ o ∷ []) octets)
    → IsLongText ((front ++ 39 ∷ 39 ∷ 39 ∷ part) ++ o ∷ []) (kept' ++ octets)
long_ends front kept' part q octets o f c =
    let g : Segment = record { content = c.content; octets = octets; white = [] } in
    record {
      before = f.before;
      segments = f.segments;
      last = g;
      white = f.white;
      each = f.each;
      is_last = (c.is, tt);
      spelled = append_assoc front (39 ∷ 39 ∷ 39 ∷ part) (o ∷ []) ∙ (λ i. f.spelled i ++ 39 ∷ 39 ∷ 39 ∷ c.spelled i)
          ∙ append_assoc f.before (flat_map segment_spelling f.segments) (39 ∷ 39 ∷ 39 ∷ (c.content ++ 39 ∷ 39 ∷ 39 ∷ []))
          ∙ ap (λ l. f.before ++ (flat_map segment_spelling f.segments ++ l)) (sym (append-nil (39 ∷ 39 ∷ 39 ∷ (c.content ++ 39 ∷ 39 ∷ 39 ∷ []))))
          ∙ ap (λ l. f.before ++ l) (sym (flat_last segment_spelling f.segments g));
      means = ap (λ l. l ++ octets) f.means ∙ sym (flat_last (λ (g : Segment). g.octets) f.segments g);
    }

long_clob_turns : (p : Place) (colon : Bool) (front kept' part q : List ℕ) (o : ℕ) (a : Action) → is_name p ≡ false → IsLongFront front kept'
    → LeadsText Style.LongClob a (part ++ o ∷ []) q → Turns p colon (123 ∷ 123 ∷ (front ++ 39 ∷ 39 ∷ 39 ∷ part)) (kept' ++ q) o a
long_clob_turns p colon front kept' part q o a n f = fits p colon Style.LongClob (123 ∷ 123 ∷ (front ++ 39 ∷ 39 ∷ 39 ∷ part)) part (kept' ++ q) q o
    (λ v k d h. (
      n,
      front,
      kept',
      part ++ o ∷ [],
      kept_after k q,
      f,
      h,
      ap (λ l. 123 ∷ 123 ∷ l) (append_assoc front (39 ∷ 39 ∷ 39 ∷ part) (o ∷ [])),
      keeps_behind kept' q k d,
    )) ends (λ kind k g. absurd g) a where
      ends : (l : Lob) (k : Keep) → Keeps k q → EndsText Style.LongClob l → Closes Style.LongClob (part ++ o ∷ []) (kept_after k q)
          → IsOpen p colon (Mode.Lob l) (123 ∷ 123 ∷ (front ++ 39 ∷ 39 ∷ 39 ∷ part) ++ o ∷ []) (kept_after k (kept' ++ q))
      ends Lob.AfterLong k d e c = (
        n,
        (front ++ 39 ∷ 39 ∷ 39 ∷ part) ++ o ∷ [],
        refl,
        subst (λ l. IsLongText ((front ++ 39 ∷ 39 ∷ 39 ∷ part) ++ o ∷ []) l) (sym (keeps_behind kept' q k d))
            (long_ends front kept' part q (kept_after k q) o f c),
      )
      ends _ k d e c = absurd e

-- what the table does with an octet of an open quoted text fits the text
pub text_turns : (p : Place) (colon : Bool) (s : Style) (v : Within) (w kept : List ℕ) (o : ℕ) → InText p s v w kept → Turns p colon w kept o (in_text s v o)
text_turns p colon Style.ShortString v w kept o (part, h, e) =
    subst (λ l. Turns p colon l kept o (in_text Style.ShortString v o)) (sym e)
    (short_turns p colon part kept o (in_text Style.ShortString v o) (text_step Style.ShortString v o part kept h))
text_turns p colon Style.QuotedSymbol v w kept o (part, h, e, n) =
    subst (λ l. Turns p colon l kept o (in_text Style.QuotedSymbol v o)) (sym e)
    (symbol_turns p colon part kept o (in_text Style.QuotedSymbol v o) (begins_more (λ o. not (o == 39)) part o n)
    (text_step Style.QuotedSymbol v o part kept h))
text_turns p colon Style.LongString v w kept o (part, h, e) =
    subst (λ l. Turns p colon l kept o (in_text Style.LongString v o)) (sym e)
    (long_turns p colon part kept o (in_text Style.LongString v o) (text_step Style.LongString v o part kept h))
text_turns p colon Style.ShortClob v w kept o (n, before, part, b, h, e) =
    subst (λ l. Turns p colon l kept o (in_text Style.ShortClob v o)) (sym e)
    (short_clob_turns p colon before part kept o (in_text Style.ShortClob v o) n b (text_step Style.ShortClob v o part kept h))
text_turns p colon Style.LongClob v w kept o (n, front, kept', part, q, f, h, e, k) =
    subst (λ l. Turns p colon l kept o (in_text Style.LongClob v o)) (sym e)
    (subst (λ l. Turns p colon (123 ∷ 123 ∷ (front ++ 39 ∷ 39 ∷ 39 ∷ part)) l o (in_text Style.LongClob v o)) (sym k)
    (long_clob_turns p colon front kept' part q o (in_text Style.LongClob v o) n f (text_step Style.LongClob v o part q h)))

-- behind one quote, and behind two
pub quote_turns : (p : Place) (colon : Bool) (w kept : List ℕ) (o : ℕ) → IsOpen p colon Mode.Quote w kept → Turns p colon w kept o (in_quote o)
quote_turns p colon w kept o (e, k) = subst (λ l. Turns p colon l kept o (in_quote o)) (sym e)
    (subst (λ l. Turns p colon (39 ∷ []) l o (in_quote o)) (sym k)
    (cond_both (o == 39) _ _ (Turns p colon (39 ∷ []) [] o) (λ f. ((λ i. 39 ∷ eqb-true o 39 f i ∷ []), refl))
    (λ f. symbol_turns p colon [] [] o (raw Style.QuotedSymbol o) (ap not f)
    (text_step Style.QuotedSymbol Within.Plain o [] [] (reads_none Style.QuotedSymbol)))))

-- what the table does with an octet behind `''` fits the quotes
pub quotes_turns : (p : Place) (colon : Bool) (w kept : List ℕ) (o : ℕ) → IsOpen p colon Mode.Quotes w kept → Turns p colon w kept o (in_quotes o)
quotes_turns p colon w kept o (e, k) = subst (λ l. Turns p colon l kept o (in_quotes o)) (sym e)
    (subst (λ l. Turns p colon (39 ∷ 39 ∷ []) l o (in_quotes o)) (sym k)
    (cond_both (o == 39) _ _ (Turns p colon (39 ∷ 39 ∷ []) [] o)
    (λ f. ([], reads_none Style.LongString, (λ i. 39 ∷ 39 ∷ eqb-true o 39 f i ∷ []))) (λ f r j. ([], empty_symbol, refl, λ i. f))))
