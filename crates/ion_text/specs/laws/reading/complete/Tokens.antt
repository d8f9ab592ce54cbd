-- Octets that are tokens lead the reader of octets where the tokens lead the reader of tokens.
use Rattle.std.proofs.Common.{◌≡◌, ℕ, ◌+◌, ◌-◌, ◌==◌, List, Bool, true, false, cond, ◌&&◌, ◌||◌, Ok, Err, Some, refl, ap, sym, ◌∙◌, subst, arith, inl, inr}
use Rattle.std.proofs.lemmas.Bool.{and_right, or_from, or_parts}
use Rattle.std.proofs.lemmas.Bool.Decides.{nat_tests}
use Rattle.ion_text.specs.Names.{Action, Content, Frame, Given, Held, IsBody, Keep, Known, Left, Lexeme, Long, Mark, Mark', Mode, Next, Place, Placed, Quoted, Reason, Stage, Style, TokenKind, Within, acts, at_end, before, continues_now, end_of, ends_at, feed, in_text, is_closing, is_colons, is_idle, is_quoted, is_quoting, is_sane, is_segment, is_top, is_two_quotes, raw, start_of, token_of, waits_now}
use Rattle.ion_tokens.specs.machine.Table.{next}
use Rattle.ion_text.specs.laws.reading.complete.Complete.{body_kind, kind_said, segment_kind}
use Rattle.ion_text.specs.laws.reading.complete.Exact.{Exact, exact}
use Rattle.ion_text.specs.laws.reading.complete.Meets.{IdleLeft, MeetsNext, begun_apart, begun_closing, finely_as, follows_as, idle_left, raw_text, text, text_text}
use Rattle.ion_text.specs.laws.reading.complete.Pieces.{quoted_kind}
use Rattle.ion_text.specs.laws.reading.sound.Quotes.{Fine, left_none}
use Rattle.ion_text.specs.laws.reading.sound.StandsOpen.{no_segment}

-- the octet at which a token is given or left shows what waits to go on, or not, as the token does

-- a token is `::` just where a symbol that waits goes on with what it says
pub colons_agree : (top : Bool) (h : Held) (e start end : ℕ) (k : TokenKind) (octets : List ℕ) (c : Content) → IsBody k octets (Ok c)
    → is_colons k ≡ continues_now top (Stage.Pending h e) (record { start = start; end = end; said = c })
colons_agree top h e start end k octets c b = ap is_colons (body_kind k octets c b) ∙ by c
  where
    by : (c : Content) → is_colons (kind_said c) ≡ continues_now top (Stage.Pending h e) (record { start = start; end = end; said = c })
    by (Mark' Mark.Colons) = refl
    by (Mark' _) = refl
    by _ = refl

-- what is said is a segment
abbrev pub is_long_said : Content → Bool
is_long_said (Long w) = true
is_long_said _ = false

-- a token is a segment just where it says one
pub segment_agree : (k : TokenKind) (octets : List ℕ) (c : Content) → IsBody k octets (Ok c) → is_segment k ≡ is_long_said c
segment_agree k octets (Long w) b = segment_kind k octets w b
segment_agree k octets x b = no_segment k octets x (λ w e. cc) b

-- a token that says neither is neither a segment nor quoted
pub neither : (top : Bool) (start end : ℕ) (k : TokenKind) (octets : List ℕ) (c : Content) → ((w : List ℕ) → c ≡ Long w → ⊥) → ((w : List ℕ) → c ≡ Quoted w → ⊥)
    → IsBody k octets (Ok c) → (is_segment k || (top && is_two_quotes k start end)) ≡ false
neither top start end TokenKind.LongString octets c n m b = absurd (n octets b.0)
neither top start end TokenKind.QuotedSymbol octets c n m b = absurd (m octets b.0)
neither top start end _ octets c n m b = and_right top false refl

-- a long string goes on with a segment, and at the top level with `''`
pub long_goes : (top : Bool) (w : List ℕ) (e start end : ℕ) (k : TokenKind) (octets : List ℕ) (c : Content) → IsBody k octets (Ok c)
    → continues_now top (Stage.Long w e) (record { start = start; end = end; said = c }) ≡ (is_segment k || (top && is_two_quotes k start end))
long_goes top w e start end k octets (Long v) b = sym (ap (λ x. x || (top && is_two_quotes k start end)) (segment_kind k octets v b))
long_goes top w e start end k octets (Quoted v) b = sym (ap (λ x. is_segment x || (top && is_two_quotes x start end)) (quoted_kind k octets v b))
long_goes top w e start end k octets z b = sym (neither top start end k octets z (λ x y. cc) (λ x y. cc) b)

name_goes : (top : Bool) (w : List ℕ) (start end : ℕ) (k : TokenKind) (octets : List ℕ) (c : Content) → IsBody k octets (Ok c)
    → continues_now top (Stage.LongName w) (record { start = start; end = end; said = c }) ≡ is_segment k
name_goes top w start end k octets (Long v) b = sym (segment_agree k octets (Long v) b)
name_goes top w start end k octets x b = sym (segment_agree k octets x b)

closing_colons : (k : TokenKind) → is_closing k ≡ false → is_colons k ≡ false
closing_colons (TokenKind.Mark Mark.Colons) h = absurd cc
closing_colons _ h = refl

or_none : (a b top : Bool) → b ≡ false → a ≡ (a || (top && b))
or_none false b true h = sym h
or_none _ b _ h = refl

-- where the octet shows that nothing goes on, the token that has begun doesn't go on
pub next_agrees : (fs : List Frame) (now : Stage) (s : Known) (t : Placed) (c : Content) → MeetsNext s t
    → is_sane s.mode ≡ true → Fine s → IsBody t.lexeme.kind t.lexeme.octets (Ok c) → waits_now (is_top fs) now (Next s) ≡ false
    → continues_now (is_top fs) now (token_of t.lexeme c) ≡ false
next_agrees fs (Stage.Pending h e) s t c m sane f b w = sym (colons_agree (is_top fs) h e t.lexeme.start t.lexeme.end t.lexeme.kind t.lexeme.octets c b)
    ∙ closing_colons t.lexeme.kind (begun_closing s t m sane w)
next_agrees fs (Stage.Long v e) s t c m sane f b w =
    let x = begun_apart s t m sane f (or_parts (is_idle s.mode) (is_quoting s.mode) w) in
    long_goes (is_top fs) v e t.lexeme.start t.lexeme.end t.lexeme.kind t.lexeme.octets c b
    ∙ or_from (is_segment t.lexeme.kind) (is_top fs && is_two_quotes t.lexeme.kind t.lexeme.start t.lexeme.end) x.0
    (and_right (is_top fs) (is_two_quotes t.lexeme.kind t.lexeme.start t.lexeme.end) x.1)
next_agrees fs (Stage.LongName v) s t c m sane f b w =
    let x = begun_apart s t m sane f (or_parts (is_idle s.mode) (is_quoting s.mode) w) in
    name_goes (is_top fs) v t.lexeme.start t.lexeme.end t.lexeme.kind t.lexeme.octets c b ∙ x.0
next_agrees fs _ s t c m sane f b w = refl

-- a token that is given
pub given_agrees : (fs : List Frame) (now : Stage) (s : Known) (x : Lexeme) (c : Content) → IsBody x.kind x.octets (Ok c) → is_two_quotes x.kind x.start x.end
    ≡ false → waits_now (is_top fs) now (Given x s) ≡ continues_now (is_top fs) now (token_of x c)
given_agrees fs (Stage.Pending h e) s x c b two = colons_agree (is_top fs) h e x.start x.end x.kind x.octets c b
given_agrees fs (Stage.Long v e) s x c b two = or_none (is_segment x.kind) (is_two_quotes x.kind x.start x.end) (is_top fs) two
    ∙ sym (long_goes (is_top fs) v e x.start x.end x.kind x.octets c b)
given_agrees fs (Stage.LongName v) s x c b two = sym (name_goes (is_top fs) v x.start x.end x.kind x.octets c b)
given_agrees fs _ s x c b two = refl

-- a token that is left
pub left_agrees : (fs : List Frame) (now : Stage) (s : Known) (x : Lexeme) (c : Content) → IsBody x.kind x.octets (Ok c) → is_colons x.kind ≡ false
    → is_segment x.kind ≡ false → is_two_quotes x.kind x.start x.end ≡ is_quoted x.kind → waits_now (is_top fs) now (Left x s)
    ≡ continues_now (is_top fs) now (token_of x c)
left_agrees fs (Stage.Pending h e) s x c b col seg two = sym col ∙ colons_agree (is_top fs) h e x.start x.end x.kind x.octets c b
left_agrees fs (Stage.Long v e) s x c b col seg two = ap (λ y. is_top fs && y) (sym two)
    ∙ (sym (ap (λ y. y || (is_top fs && is_two_quotes x.kind x.start x.end)) seg) ∙ sym (long_goes (is_top fs) v e x.start x.end x.kind x.octets c b))
left_agrees fs (Stage.LongName v) s x c b col seg two = sym (name_goes (is_top fs) v x.start x.end x.kind x.octets c b ∙ seg)
left_agrees fs _ s x c b col seg two = refl

-- what is left where quotes are open
text_no_left : (long : Bool) (p : Place) (s s' : Known) (o : ℕ) (x : Lexeme) (a : Action) → text long a ≡ true → acts p s o a ≡ Left x s' → ⊥
text_no_left long p s s' o x (Action.Go m k) h e = cc
text_no_left long p s s' o x _ h e = cc

abbrev pub IsEmptyQuotes : Known → Lexeme → Type 0
IsEmptyQuotes s x = (x.kind ≡ TokenKind.QuotedSymbol) × (x.end ≡ x.start + 2)

quotes_left : (p : Place) (s s' : Known) (o : ℕ) (x : Lexeme) → Exact s → s.mode ≡ Mode.Quotes → feed p s o ≡ Left x s' → IsEmptyQuotes s x
quotes_left p s s' o x f e h = go (o == 39) (sym (ap (λ m. acts p s o (next p s.colon m o)) e) ∙ h)
  where
    span : s.used ≡ s.start + 2
    span = subst (λ m. exact m s.start s.used) e f.is

    starts : start_of s.mode s.start s.used ≡ s.start
    starts = ap (λ m. start_of m s.start s.used) e

    go : (b : Bool) → acts p s o (cond b (Action.Go (Mode.Text Style.LongString Within.Plain) Keep.Nothing) (before TokenKind.QuotedSymbol)) ≡ Left x s'
        → IsEmptyQuotes s x
    go true k = absurd cc
    go false k =
        let kind : TokenKind.QuotedSymbol ≡ x.kind = cc in
        let from : start_of s.mode s.start s.used ≡ x.start = cc in
        let to : s.used - 0 ≡ x.end = cc in
        (sym kind, omega (arith, from, to, span, starts))

-- a token that is left where quotes are open is `''`
pub quoting_left : (p : Place) (s s' : Known) (o : ℕ) (x : Lexeme) → Exact s → is_quoting s.mode ≡ true → feed p s o ≡ Left x s' → IsEmptyQuotes s x
quoting_left p s s' o x f q h = go s.mode refl q
  where
    go : (m : Mode) → s.mode ≡ m → is_quoting m ≡ true → IsEmptyQuotes s x
    go Mode.Quotes e k = quotes_left p s s' o x f e h
    go Mode.Quote e k = absurd (quote (o == 39) (sym (ap (λ m. acts p s o (next p s.colon m o)) e) ∙ h))
      where
        quote : (b : Bool) → acts p s o (cond b (Action.Go Mode.Quotes Keep.Nothing) (raw Style.QuotedSymbol o)) ≡ Left x s' → ⊥
        quote true k = cc
        quote false k = text_no_left false p s s' o x (raw Style.QuotedSymbol o) (raw_text Style.QuotedSymbol o).is k
    go (Mode.Text Style.LongString w) e k = absurd (text_no_left true p s s' o x (in_text Style.LongString w o) (text_text Style.LongString w o).is
        (sym (ap (λ m. acts p s o (next p s.colon m o)) e) ∙ h))
    go _ e k = absurd cc

pub two_test : (a b : ℕ) → b ≡ a + 2 → (b == a + 2) ≡ true
two_test a b h = grind (arith, nat_tests)

pub empty_two : (s : Known) (x : Lexeme) → IsEmptyQuotes s x → is_two_quotes x.kind x.start x.end ≡ is_quoted x.kind
empty_two s x h = ap (λ k. is_two_quotes k x.start x.end) h.0 ∙ (two_test x.start x.end h.1 ∙ sym (ap is_quoted h.0))

-- a quoted symbol that is left is `''`
pub left_two : (p : Place) (s s' : Known) (o : ℕ) (x : Lexeme) → Fine s → Exact s → feed p s o ≡ Left x s' → is_two_quotes x.kind x.start x.end
    ≡ is_quoted x.kind
left_two p s s' o x f e h = go (is_quoting s.mode) refl
  where
    go : (b : Bool) → is_quoting s.mode ≡ b → is_two_quotes x.kind x.start x.end ≡ is_quoted x.kind
    go true q = empty_two s x (quoting_left p s s' o x e q h)
    go false q = let k = (finely_as p s o (Left x s') f h).2 q in left_none x.kind x.start x.end k ∙ sym k

-- no token that is left is `::`
pub left_colons : (p : Place) (s s' : Known) (o : ℕ) (x : Lexeme) → is_sane s.mode ≡ true → feed p s o ≡ Left x s' → is_colons x.kind ≡ false
left_colons p s s' o x h e = go (is_idle s.mode) refl
  where
    go : (b : Bool) → is_idle s.mode ≡ b → is_colons x.kind ≡ false
    go true i = elim (subst (IdleLeft p s.used) e (idle_left p s o i)) [ inl k ↦ ap is_colons k.0 | inr k ↦ ap is_colons k.0 ]
    go false i = closing_colons x.kind ((follows_as p s o (Left x s') h e).1 i)

-- quotes that the end ends are two
pub quotes_end : (p : Place) (s : Known) (x : Lexeme) → is_quoting s.mode ≡ true → Exact s → at_end p s ≡ Ok (Some x)
    → s.used ≡ start_of s.mode s.start s.used + 2
quotes_end p s x q f e = go s.mode refl q (ap (λ m. ends_at s (end_of p m)) refl ∙ e)
  where
    go : (m : Mode) → s.mode ≡ m → is_quoting m ≡ true → ends_at s (end_of p m) ≡ Ok (Some x) → s.used ≡ start_of s.mode s.start s.used + 2
    go Mode.Quotes h k y = subst (λ m. exact m s.start s.used) h f.is ∙ ap (λ m. start_of m s.start s.used + 2) (sym h)
    go Mode.Quote h k y = absurd (let n : Err Reason.Incomplete ≡ Ok (Some x) = y in cc)
    go (Mode.Text t w) h k y = absurd (let n : Err Reason.Incomplete ≡ Ok (Some x) = y in cc)
    go _ h k y = absurd cc
