-- Strings, quoted symbols, clobs and blobs are read as they are spelled.
use Rattle.std.proofs.Common.{◌≡◌, ◌≢◌, ℕ, ◌-◌, ⊎_elim, Bool, true, false, List, [], ◌∷◌, ◌++◌, length, refl, sym, ap, ◌∙◌, subst, arith, append_assoc, length-append, cond}
use Rattle.std.specs.Prelude.{◌==◌, codes, take}
use Rattle.std.specs.List.{flat_map, AllByRecursion}
use Rattle.std.proofs.lemmas.Bool.{false≢true, ne_eqb}
use lib.Utf8.{encode, scalar_cases}
use Rattle.std.proofs.Math.Seq.{take-append_seam}
use Rattle.ion_tokens.specs.Names.{Action, Element, IsElement, IsQuoted, Keep, Known, Mode, Outcome, Place, Raw, RawLine, Style, TokenKind, Within, acts, begins, follow, go, in_text, is_long, kept_after, raw, run, spelling}
use Rattle.ion_tokens.specs.machine.Table.{next}
use Rattle.ion_tokens.proofs.complete.Moves.{Moves, Opens, Takes, at, moves_one, moves_then, opens_one, opens_then, takes_end, takes_left, takes_now}
use Rattle.ion_tokens.proofs.texts.Encodings.{Encoding, encoding, four_octets, one_octet, three_octets, two_octets}
use Rattle.ion_tokens.proofs.texts.TextElements.{GoesInText}
use Rattle.ion_tokens.proofs.texts.TextSteps.{raw_quote}
use Rattle.ion_tokens.proofs.texts.TextsComplete.{Ended, read_content}

-- short strings
short_close : (v : Within) → Ended v → in_text Style.ShortString v 34 ≡ Action.Give TokenKind.ShortString Keep.Nothing
short_close Within.Plain h = refl
short_close Within.AfterReturn h = refl
short_close _ h = absurd h

-- a short string is read as the text that its content means
pub takes_short : (p : Place) (colon : Bool) (content octets r : List ℕ) → IsQuoted Style.ShortString content octets
    → Takes p colon ((34 ∷ content) ++ 34 ∷ []) r TokenKind.ShortString octets
takes_short p colon content octets r q =
    let c = read_content p Style.ShortString content octets [] q in
    takes_now 34 Keep.Nothing (λ s u. refl) (opens_then
    (opens_one p colon 34 (Mode.Text Style.ShortString Within.Plain) Keep.Nothing refl) c.2) (λ b. short_close c.0 c.1)

-- quoted symbols
symbol_close : (v : Within) → Ended v → in_text Style.QuotedSymbol v 39 ≡ Action.Give TokenKind.QuotedSymbol Keep.Nothing
symbol_close Within.Plain h = refl
symbol_close Within.AfterReturn h = refl
symbol_close _ h = absurd h

-- a `'` opens a quoted symbol or a long string
pub opens_quote : (p : Place) (colon : Bool) → Opens p colon (39 ∷ []) Mode.Quote []
opens_quote p colon = opens_one p colon 39 Mode.Quote Keep.Nothing refl

-- the first octet between the quotes isn't a quote
abbrev pub BeginsOther : List ℕ → Type 0
BeginsOther [] = Unit {0}
BeginsOther (o ∷ os) = o ≢ 39

begins_front : (xs ys : List ℕ) → xs ≢ [] → BeginsOther xs → BeginsOther (xs ++ ys)
begins_front [] ys n h = absurd (n refl)
begins_front (x ∷ xs) ys n h = h

raw_other : (c : ℕ) → c ≢ 39 → Encoding c → (encode c ≢ []) × BeginsOther (encode c)
raw_other c n (one_octet l e) = rw e ((λ f. cc), n)
raw_other c n (two_octets x y l u f t e) = rw e ((λ f. cc), (λ i. omega arith))
raw_other c n (three_octets x y z l u f g t e) = rw e ((λ f. cc), (λ i. omega arith))
raw_other c n (four_octets x y z v l u f g h t e) = rw e ((λ f. cc), (λ i. omega arith))

element_other : (e : Element) → IsElement Style.QuotedSymbol e → (spelling e ≢ []) × BeginsOther (spelling e)
element_other (Raw c) i = raw_other c (⊎_elim (λ l. absurd (false≢true l)) (λ n. n) i.2) (encoding c (scalar_cases c i.0))
element_other (RawLine e) i = absurd (false≢true i)
element_other _ i = ((λ f. cc), (λ i. omega arith))

elements_other : (es : List Element) → AllByRecursion (IsElement Style.QuotedSymbol) es → BeginsOther (flat_map spelling es)
elements_other [] h = tt
elements_other (e ∷ es) h = let o = element_other e h.0 in begins_front (spelling e) (flat_map spelling es) o.0 o.1

same_quote : (p : Place) (colon : Bool) (start used o : ℕ) (f : Known → Outcome) (a : Action) → follow (acts p (at Mode.Quote [] colon start used) o a) f
    ≡ follow (acts p (at (Mode.Text Style.QuotedSymbol Within.Plain) [] colon start used) o a) f
same_quote p colon start used o f (Action.Go m k) = refl
same_quote p colon start used o f _ = refl

-- behind the first quote, content that begins with no quote is read as that of a quoted symbol
pub from_quote : (p : Place) (content octets : List ℕ) (v : Within) → content ≢ [] → BeginsOther content
    → GoesInText p Style.QuotedSymbol Within.Plain [] content v octets → Moves p Mode.Quote [] content (Mode.Text Style.QuotedSymbol v) octets
from_quote p [] octets v some other f = absurd (some refl)
from_quote p (o ∷ os) octets v some other f = record {
  on = λ colon start used r.
      ap (λ b. follow (acts p (at Mode.Quote [] colon start used) o (cond b (go Mode.Quotes) (raw Style.QuotedSymbol o))) (λ t. run p (os ++ r) t))
      (ne_eqb o 39 other)
      ∙ same_quote p colon start used o (λ t. run p (os ++ r) t) (raw Style.QuotedSymbol o) ∙ f.on colon start used r;
}

-- behind two single quotes an octet that is none ends the empty symbol
pub quotes_end : (x : ℕ) → (x == 39) ≡ false → (c : Bool) (p : Place) → next p c Mode.Quotes x ≡ Action.Before TokenKind.QuotedSymbol Keep.Nothing Mode.Blank
quotes_end x h c p = rw h

-- two single quotes open the empty symbol or a segment of a long string
pub opens_quotes : (p : Place) (colon : Bool) → Opens p colon (39 ∷ 39 ∷ []) Mode.Quotes []
opens_quotes p colon = opens_then (opens_quote p colon) (moves_one p Mode.Quote 39 [] Mode.Quotes Keep.Nothing (λ s u. refl) (λ c. refl))

takes_empty : (p : Place) (colon : Bool) (r : List ℕ) → begins (λ o. o == 39) r ≡ false → Takes p colon (39 ∷ 39 ∷ []) r TokenKind.QuotedSymbol []
takes_empty p colon [] h = takes_end (opens_quotes p colon) (λ start used. refl)
takes_empty p colon (x ∷ r) h = takes_left Keep.Nothing (λ s u. refl) (opens_quotes p colon) (λ c. quotes_end x h c p)

no_octets : (octets : List ℕ) → IsQuoted Style.QuotedSymbol [] octets → octets ≡ []
no_octets octets q = by q.elements q.each q.spelled q.means where
  front : (e : Element) (es : List Element) → spelling e ≢ [] → [] ≡ spelling e ++ flat_map spelling es → ⊥
  front e es n h = at (spelling e) n h where
    at : (xs : List ℕ) → xs ≢ [] → [] ≡ xs ++ flat_map spelling es → ⊥
    at [] n h = n refl
    at (x ∷ xs) n h = cc

  by : (es : List Element) → AllByRecursion (IsElement Style.QuotedSymbol) es → [] ≡ flat_map spelling es
      → octets ≡ flat_map (Rattle.ion_tokens.specs.Quoted.meaning Style.QuotedSymbol) es → octets ≡ []
  by [] h s m = m
  by (e ∷ es) h s m = absurd (front e es (element_other e h.0).0 s)

-- a quoted symbol is read as the text that it means, the empty one before no third quote
pub takes_symbol : (p : Place) (colon : Bool) (content octets r : List ℕ) → IsQuoted Style.QuotedSymbol content octets
    → (content ≡ [] → begins (λ o. o == 39) r ≡ false) → Takes p colon ((39 ∷ content) ++ 39 ∷ []) r TokenKind.QuotedSymbol octets
takes_symbol p colon [] octets r q h = subst (λ l. Takes p colon (39 ∷ 39 ∷ []) r TokenKind.QuotedSymbol l) (sym (no_octets octets q))
    (takes_empty p colon r (h refl))
takes_symbol p colon (x ∷ content) octets r q h =
    let c = read_content p Style.QuotedSymbol (x ∷ content) octets [] q in
    let P : List ℕ → Type 0 = BeginsOther in
    takes_now 39 Keep.Nothing (λ s u. refl) (opens_then (opens_quote p colon)
    (from_quote p (x ∷ content) octets c.0 (λ f. cc) (subst P (sym q.spelled) (elements_other q.elements q.each)) c.2)) (λ b. symbol_close c.0 c.1)

-- long strings
ended_quote : (s : Style) (v : Within) → is_long s ≡ true → Ended v → in_text s v 39 ≡ Action.Go (Mode.Text s Within.OneQuote) (Keep.One 39)
ended_quote s Within.Plain l h = raw_quote s l
ended_quote s Within.AfterReturn l h = raw_quote s l
ended_quote s _ l h = absurd h

-- the content of a long text, behind which it may end, and two of the quotes that close it
pub long_quotes : (p : Place) (s : Style) (v : Within) (content kept kept' : List ℕ) → is_long s ≡ true → Ended v
    → Moves p (Mode.Text s Within.Plain) kept content (Mode.Text s v) kept'
    → Moves p (Mode.Text s Within.Plain) kept (content ++ 39 ∷ 39 ∷ []) (Mode.Text s Within.TwoQuotes) ((kept' ++ 39 ∷ []) ++ 39 ∷ [])
long_quotes p s v content kept kept' l ended moves =
    moves_then moves (moves_then
    (moves_one p (Mode.Text s v) 39 kept' (Mode.Text s Within.OneQuote) (Keep.One 39) (λ a b. refl) (λ b. ended_quote s v l ended))
    (moves_one p (Mode.Text s Within.OneQuote) 39 (kept' ++ 39 ∷ []) (Mode.Text s Within.TwoQuotes) (Keep.One 39) (λ a b. refl) (λ b. refl)))

-- the content of a long text and two of the quotes that close it
pub long_content : (p : Place) (s : Style) (content octets kept : List ℕ) → is_long s ≡ true → IsQuoted s content octets
    → Moves p (Mode.Text s Within.Plain) kept (content ++ 39 ∷ 39 ∷ []) (Mode.Text s Within.TwoQuotes) (((kept ++ octets) ++ 39 ∷ []) ++ 39 ∷ [])
long_content p s content octets kept l q =
    let c = read_content p s content octets kept q in
    long_quotes p s c.0 content kept (kept ++ octets) l c.1 c.2

-- the last two octets that are kept are dropped, as the quotes of a long text's close
pub drops_two : (k : List ℕ) (a b : ℕ) → kept_after Keep.DropQuotes ((k ++ a ∷ []) ++ b ∷ []) ≡ k
drops_two k a b =
    let size : length ((k ++ a ∷ []) ++ b ∷ []) - 2 ≡ length k = omega (arith, length-append (k ++ a ∷ []) (b ∷ []), length-append k (a ∷ [])) in
    ap (λ (n : ℕ). take n ((k ++ a ∷ []) ++ b ∷ [])) size ∙ ap (take (length k)) (append_assoc k (a ∷ []) (b ∷ [])) ∙ take-append_seam k (a ∷ b ∷ [])

-- three quotes open a segment of a long string
pub opens_long : (p : Place) (colon : Bool) → Opens p colon (39 ∷ 39 ∷ 39 ∷ []) (Mode.Text Style.LongString Within.Plain) []
opens_long p colon = opens_then (opens_quotes p colon)
    (moves_one p Mode.Quotes 39 [] (Mode.Text Style.LongString Within.Plain) Keep.Nothing (λ s u. refl) (λ c. refl))

long_cut : (content : List ℕ) → (39 ∷ 39 ∷ 39 ∷ (content ++ 39 ∷ 39 ∷ [])) ++ 39 ∷ [] ≡ codes "'''" ++ content ++ codes "'''"
long_cut content = ap (λ l. 39 ∷ 39 ∷ 39 ∷ l) (append_assoc content (39 ∷ 39 ∷ []) (39 ∷ []))

-- a segment of a long string is read as the text that its content means
pub takes_long : (p : Place) (colon : Bool) (content octets r : List ℕ) → IsQuoted Style.LongString content octets
    → Takes p colon (codes "'''" ++ content ++ codes "'''") r TokenKind.LongString octets
takes_long p colon content octets r q =
    subst (λ l. Takes p colon l r TokenKind.LongString octets) (long_cut content)
    (subst (λ l. Takes p colon ((39 ∷ 39 ∷ 39 ∷ (content ++ 39 ∷ 39 ∷ [])) ++ 39 ∷ []) r TokenKind.LongString l) (drops_two octets 39 39)
    (takes_now 39 Keep.DropQuotes (λ s u. refl) (opens_then (opens_long p colon)
    (long_content p Style.LongString content octets [] refl q)) (λ b. refl)))
