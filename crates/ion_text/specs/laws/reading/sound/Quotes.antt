-- More of what the scanner's table promises: which tokens come of which octets.
use Rattle.std.proofs.Common.{◌≡◌, ℕ, ◌+◌, ◌≤◌, Bool, true, false, cond, List, [], refl, arith, Option, Some, None, ◌⊎◌, inl, inr}
use Rattle.std.specs.Prelude.{◌==◌, ◌&&◌, ◌||◌, not, nat_le, bytes_eq, codes}
use Rattle.std.proofs.lemmas.Bool.{and_parts, leb-true, not-true}
use Rattle.std.proofs.lemmas.Bool.Decides.{nat_tests}
use Rattle.ion_text.specs.Names.{Action, Given, Known, Left, Lexeme, Mark, Mode, Next, Outcome, Place, Refused, Style, TokenKind, acts, blob_ends, blob_of, cut, feed, go_to, is_idle, is_quoted, is_quoting, is_sane, is_segment, is_two_quotes, past, start_of}
use Rattle.ion_tokens.specs.machine.Table.{next}
use Rattle.ion_tokens.specs.laws.ByRows.{by_rows, modes_imply}

-- a token that has begun has so many octets
abbrev pub least : Mode → ℕ
least Mode.Quote = 1
least Mode.Quotes = 2
least (Mode.Text Style.QuotedSymbol w) = 2
least _ = 0

-- the close of a container
abbrev pub is_close : TokenKind → Bool
is_close (TokenKind.Mark Mark.ListClose) = true
is_close (TokenKind.Mark Mark.SexpClose) = true
is_close (TokenKind.Mark Mark.FieldsClose) = true
is_close _ = false

-- behind what is left nothing is open but a slash
abbrev pub is_left_in : Mode → Bool
is_left_in Mode.Blank = true
is_left_in Mode.Slash = true
is_left_in _ = false

-- from a mode with so many octets, quoting or not
abbrev quotes_fit : ℕ → Bool → Action → Bool
quotes_fit n q (Action.Go m k) = nat_le (least m) (n + 1)
quotes_fit n q (Action.Give kind k) = not (is_quoted kind) || nat_le 2 n
quotes_fit n q (Action.Before kind k m) = (is_left_in m && not (is_segment kind)) && ((not (is_quoted kind) || q) && not (is_close kind))
quotes_fit n q _ = true

-- What the table does fits.
table_fits : (p : Place) (colon : Bool) (m : Mode) (o : ℕ) → quotes_fit (least m) (is_quoting m) (next p colon m o) ≡ true
table_fits = by_rows (λ sexp m. quotes_fit (least m) (is_quoting m)) (λ c t. refl)

-- What a scanner knows that began with no octets: a token that has begun has its octets.
pub record Fine (s : Known) : Type 0 where
  pub enough : start_of s.mode s.start s.used + least s.mode ≤ s.used

-- A quoted symbol that is given is longer than `''`, and nothing is open behind what is given. What is left is no segment and closes no
-- container, and it is no quoted symbol but where quotes are open; behind it a token is open only where it was an operator.
abbrev pub Finely : Mode → Outcome → Type 0
Finely m (Next s) = Fine s
Finely m (Given l s) = Fine s × (is_quoted l.kind ≡ true → l.start + 3 ≤ l.end) × (is_sane s.mode ≡ true) × (is_idle s.mode ≡ true) × (l.end ≡ s.used)
Finely m (Left l s) = Fine s × (is_segment l.kind ≡ false) × (is_quoting m ≡ false → is_quoted l.kind ≡ false) × (is_sane s.mode ≡ true)
    × ((is_idle s.mode ≡ true) ⊎ (l.kind ≡ TokenKind.Operator)) × (is_close l.kind ≡ false) × (l.end ≤ s.used)
Finely m (Refused n e) = Unit {0}

-- where a test holds that implies another, the other holds
pub implies : (a b : Bool) → (not a || b) ≡ true → a ≡ true → b ≡ true
implies true b h e = h
implies false b h e = absurd cc

counter : (a b : Bool) → (not a || b) ≡ true → b ≡ false → a ≡ false
counter false b h e = refl
counter true true h e = absurd cc
counter true false h e = absurd cc

moved : (m : Mode) (start used n : ℕ) → start + n ≤ used → least m ≤ n + 1 → start_of m start (used + 1) + least m ≤ used + 1
moved Mode.Blank start used n h k = omega arith
moved _ start used n h k = omega arith

left_fine : (p : Place) (kind : TokenKind) (m : Mode) (k : List ℕ) (start used : ℕ) → is_left_in m ≡ true → Fine (past p kind m k start used)
left_fine p kind Mode.Blank k start used h = record { enough = omega arith }
left_fine p kind Mode.Slash k start used h = record { enough = omega arith }
left_fine p kind _ k start used h = absurd cc

blob_fine : (s : Known) (b : Option (List ℕ)) → blob_of s.kept ≡ b → Fine s → Finely s.mode (blob_ends s b)
blob_fine s None e h = tt
blob_fine s (Some octets) e h = let k = h.enough in record { enough = omega arith }

acts_fine : (p : Place) (s : Known) (o : ℕ) (a : Action) → quotes_fit (least s.mode) (is_quoting s.mode) a ≡ true → Fine s → Finely s.mode (acts p s o a)
acts_fine p s o (Action.Go m k) f h = record { enough = moved m (start_of s.mode s.start s.used) s.used (least s.mode) h.enough (leb-true _ _ f) }
acts_fine p s o (Action.Give kind k) f h = (
  record { enough = omega arith },
  (λ e. let n = leb-true 2 (least s.mode) (implies (is_quoted kind) _ f e) in let m = h.enough in omega arith),
  refl,
  refl,
  refl,
)
acts_fine p s o (Action.Before kind k m) f h =
    let x = and_parts _ _ f in
    let y = and_parts _ _ x.0 in
    let z = and_parts _ _ x.1 in (
      left_fine p kind m _ _ _ y.0,
      not-true (is_segment kind) y.1,
      counter (is_quoted kind) (is_quoting s.mode) z.0,
      modes_imply is_left_in is_sane (λ c. refl) m y.0,
      inl (modes_imply is_left_in is_idle (λ c. refl) m y.0),
      not-true (is_close kind) z.1,
      omega arith,
    )
acts_fine p s o Action.EndWord f h = word ((o == 46) && bytes_eq s.kept (codes "null"))
  where
    word : (b : Bool) → Finely s.mode (cond b (Next (go_to s Mode.KindName []))
        (Left (cut s TokenKind.Word s.kept s.used) (past p TokenKind.Word Mode.Blank [] s.used s.used)))
    word true = let k = h.enough in record { enough = omega arith }
    word false = (record { enough = omega arith }, refl, (λ e. refl), refl, inl refl, refl, omega arith)
acts_fine p s o (Action.Split n) f h = (record { enough = omega arith }, refl, (λ e. refl), refl, inr refl, refl, omega arith)
acts_fine p s o Action.EndBlob f h = blob_fine s (blob_of s.kept) refl h
acts_fine p s o (Action.Refuse e) f h = tt

-- What comes of an octet.
pub feed_fine : (p : Place) (s : Known) (o : ℕ) → Fine s → Finely s.mode (feed p s o)
feed_fine p s o h = acts_fine p s o (next p s.colon s.mode o) (table_fits p s.colon s.mode o) h

-- a quoted symbol that is given is longer than two octets
pub given_far : (x : Lexeme) → (is_quoted x.kind ≡ true → x.start + 3 ≤ x.end) → is_two_quotes x.kind x.start x.end ≡ false
given_far x h = go x.kind h
  where
    far : (a b : ℕ) → a + 3 ≤ b → (b == a + 2) ≡ false
    far a b k = grind (arith, nat_tests)

    go : (k : TokenKind) → (is_quoted k ≡ true → x.start + 3 ≤ x.end) → is_two_quotes k x.start x.end ≡ false
    go TokenKind.QuotedSymbol k = far x.start x.end (k refl)
    go _ k = refl

-- a token that isn't quoted is no `''`
pub left_none : (k : TokenKind) (start end : ℕ) → is_quoted k ≡ false → is_two_quotes k start end ≡ false
left_none TokenKind.QuotedSymbol start end h = absurd cc
left_none _ start end h = refl
