-- Tokens have octets: each ends behind its beginning, and behind as many octets as the scanner used up to it.
use Rattle.std.proofs.Common.{◌≡◌, ℕ, zero, suc, ◌+◌, ◌-◌, ◌≤◌, Bool, true, false, cond, List, [], refl, arith, Option, Some, None, Ok, ◌⊎◌, inl, inr}
use Rattle.std.specs.Prelude.{◌==◌, ◌&&◌, ◌||◌, not, nat_le, bytes_eq, codes}
use Rattle.std.specs.List.{list_all}
use Rattle.std.proofs.lemmas.Bool.{and_parts, le-leb, leb-true}
use Rattle.ion_text.specs.Names.{Action, End, Given, Keep, Known, Left, Lexeme, Mode, Next, Outcome, Place, Reason, Refused, TokenKind, acts, at_end, blob_ends, blob_of, cut, end_of, ends_at, feed, go_to, initial, is_idle, is_quoted, is_quoting, is_sexp, left_of, past, start_of}
use Rattle.ion_tokens.specs.machine.Rows.{infinity_rows}
use Rattle.ion_tokens.specs.machine.Table.{next}
use Rattle.ion_tokens.specs.laws.ByRows.{by_mode, by_rows_where}
use Rattle.ion_text.specs.laws.reading.sound.Quotes.{implies, is_left_in}

-- At least so many octets were used since the open token began: one of its own, and those that may turn out to be no part of it.
abbrev pub wants : Mode → ℕ
wants Mode.Blank = 0
wants Mode.LineComment = 0
wants Mode.BlockComment = 0
wants Mode.BlockCommentStar = 0
wants Mode.NumberSlash = 2
wants Mode.OperatorSlash = 2
wants (Mode.Infinity letters) = 1 + letters
wants _ = 1

-- behind one octet more it is that at most
abbrev pub wants_next : Mode → ℕ
wants_next Mode.Number = 2
wants_next (Mode.Operator e) = 2
wants_next (Mode.Infinity letters) = 2 + letters
wants_next _ = 1

-- the front of `inf` has a letter
abbrev pub lettered : Mode → Bool
lettered (Mode.Infinity zero) = false
lettered _ = true

-- in an s-expression or not, from a mode that wants n, and at most `more` behind an octet, and in which quotes are open or not
abbrev length_fits : Bool → ℕ → ℕ → Bool → Action → Bool
length_fits sexp n more q (Action.Go m k) = nat_le (wants m) more && lettered m
length_fits sexp n more q (Action.Before kind k m) = (is_left_in m && nat_le (wants m + 1) n) && (not q || is_quoted kind)
length_fits sexp n more q Action.EndWord = nat_le 1 n && not q
length_fits sexp n more q (Action.Split letters) = (sexp && not q) && (nat_le 1 letters && nat_le (1 + letters) n)
length_fits sexp n more q Action.EndBlob = nat_le 1 more
length_fits sexp n more q _ = true

infinity_fits : (letters : ℕ) (sexp : Bool) → 1 ≤ letters
    → list_all (length_fits sexp (1 + letters) (2 + letters) false) (infinity_rows sexp letters) ≡ true
infinity_fits letters true h =
    rw (le-leb (1 + suc letters) (2 + letters) (omega arith), le-leb 1 letters h, le-leb (1 + letters) (1 + letters) (omega arith)) refl
infinity_fits letters false h = rw (le-leb (1 + suc letters) (2 + letters) (omega arith)) refl

abbrev is_infinity : Mode → Bool
is_infinity (Mode.Infinity letters) = true
is_infinity _ = false

rows_fit : (p : Place) (colon : Bool) (m : Mode) (o : ℕ) → not (is_infinity m) ≡ true
    → length_fits (is_sexp p) (wants m) (wants_next m) (is_quoting m) (next p colon m o) ≡ true
rows_fit = by_rows_where (λ m. not (is_infinity m)) (λ sexp m. length_fits sexp (wants m) (wants_next m) (is_quoting m)) (λ c t. refl)

table_fits : (p : Place) (colon : Bool) (m : Mode) (o : ℕ) → lettered m ≡ true
    → length_fits (is_sexp p) (wants m) (wants_next m) (is_quoting m) (next p colon m o) ≡ true
table_fits p colon (Mode.Infinity zero) o h = absurd cc
table_fits p colon (Mode.Infinity (suc n)) o h =
    by_mode (length_fits (is_sexp p) (1 + suc n) (2 + suc n) false) p colon (Mode.Infinity (suc n)) o (λ t. infinity_fits (suc n) (is_sexp p) (omega arith))
table_fits p colon m o h = rows_fit p colon m o refl

-- what a scanner knows that began with no octets
pub record Sized (s : Known) : Type 0 where
  pub enough : start_of s.mode s.start s.used + wants s.mode ≤ s.used
  pub letters : lettered s.mode ≡ true

-- what each scanner knows of its open token's octets, one that begins knows
pub sized_initial : Sized initial
sized_initial = record { enough = omega arith; letters = refl }

-- A token that ended has octets, of which the open one's were used, and none is open behind it but the word behind an operator.
pub record EndedToken (p : Place) (s : Known) (x : Lexeme) (t : Known) : Type 0 where
  pub sized : Sized t
  pub some : x.start + 1 ≤ x.end
  pub behind : s.used + 1 ≤ x.end + wants s.mode
  pub rest : x.end + wants t.mode ≤ t.used
  pub idle : (is_idle t.mode ≡ true) ⊎ ((x.kind ≡ TokenKind.Operator) × (is_sexp p ≡ true))

-- what comes of an octet
abbrev pub Measured : Place → Known → Outcome → Type 0
Measured p s (Next t) = Sized t × (t.used ≡ s.used + 1) × (wants t.mode ≤ wants_next s.mode)
Measured p s (Given x t) = EndedToken p s x t × (t.used ≡ s.used + 1) × (x.end ≡ s.used + 1)
Measured p s (Left x t) = EndedToken p s x t × (t.used ≡ s.used) × (is_quoting s.mode ≡ true → is_quoted x.kind ≡ true)
Measured p s (Refused n e) = Unit {0}

-- an octet adds what it may
pub next_wants : (m : Mode) → wants_next m ≤ wants m + 1
next_wants Mode.Number = omega arith
next_wants _ = omega arith

-- where no token is open
pub idle_next : (m : Mode) → is_idle m ≡ true → wants_next m ≡ 1
idle_next Mode.Number h = absurd cc
idle_next (Mode.Operator e) h = absurd cc
idle_next (Mode.Infinity letters) h = absurd cc
idle_next _ h = refl

-- where quotes are
pub quoting_next : (m : Mode) → is_quoting m ≡ true → wants_next m ≡ 1
quoting_next Mode.Number h = absurd cc
quoting_next (Mode.Operator e) h = absurd cc
quoting_next (Mode.Infinity letters) h = absurd cc
quoting_next _ h = refl

went : (m : Mode) (start used n : ℕ) → start + n ≤ used → wants m ≤ n + 1 → start_of m start (used + 1) + wants m ≤ used + 1
went Mode.Blank start used n h k = omega arith
went _ start used n h k = omega arith

left_ends : (p : Place) (s : Known) (kind : TokenKind) (k : List ℕ) (m : Mode) → is_left_in m ≡ true → wants m + 1 ≤ wants s.mode → Sized s
    → EndedToken p s (cut s kind k (s.used - left_of m)) (past p kind m [] (s.used - left_of m) s.used)
left_ends p s kind k Mode.Blank h w z = let e = z.enough in
    record {
      sized = record { enough = omega arith; letters = refl };
      some = omega (arith, e, w);
      behind =
          omega (arith, w);
      rest = omega arith;
      idle = inl refl;
    }
left_ends p s kind k Mode.Slash h w z = let e = z.enough in
    record {
      sized = record { enough = omega (arith, e, w); letters = refl };
      some = omega (arith, e, w);
      behind =
          omega (arith, e, w);
      rest = omega (arith, e, w);
      idle = inl refl;
    }
left_ends p s kind k _ h w z = absurd cc

-- where no quotes are open, nothing is asked of what was left
not_open : (a b : Bool) → not a ≡ true → a ≡ true → b ≡ true
not_open false b h e = absurd cc
not_open true b h e = absurd cc

acts_measured : (p : Place) (s : Known) (o : ℕ) (a : Action)
    → length_fits (is_sexp p) (wants s.mode) (wants_next s.mode) (is_quoting s.mode) a ≡ true → Sized s → Measured p s (acts p s o a)
acts_measured p s o (Action.Go m k) f z =
    let x = and_parts (nat_le (wants m) (wants_next s.mode)) (lettered m) f in
    let n = leb-true (wants m) (wants_next s.mode) x.0 in
    (record { enough = went m (start_of s.mode s.start s.used) s.used (wants s.mode) z.enough (omega (arith, n, next_wants s.mode)); letters = x.1 }, refl, n)
acts_measured p s o (Action.Give kind k) f z =
    let e = z.enough in (
      record { sized = record { enough = omega arith; letters = refl }; some = omega (arith, e); behind = omega arith; rest = omega arith; idle = inl refl },
      refl,
      refl,
    )
acts_measured p s o (Action.Before kind k m) f z =
    let x = and_parts (is_left_in m && nat_le (wants m + 1) (wants s.mode)) (not (is_quoting s.mode) || is_quoted kind) f in
    let y = and_parts (is_left_in m) (nat_le (wants m + 1) (wants s.mode)) x.0 in
    (left_ends p s kind _ m y.0 (leb-true (wants m + 1) (wants s.mode) y.1) z, refl, implies (is_quoting s.mode) (is_quoted kind) x.1)
acts_measured p s o Action.EndWord f z = word ((o == 46) && bytes_eq s.kept (codes "null"))
  where
    x : (nat_le 1 (wants s.mode) ≡ true) × (not (is_quoting s.mode) ≡ true)
    x = and_parts (nat_le 1 (wants s.mode)) (not (is_quoting s.mode)) f

    n : 1 ≤ wants s.mode
    n = leb-true 1 (wants s.mode) x.0

    less : (m : Mode) → 1 ≤ wants_next m
    less Mode.Number = omega arith
    less _ = omega arith

    word : (b : Bool) → Measured p s (cond b (Next (go_to s Mode.KindName []))
        (Left (cut s TokenKind.Word s.kept s.used) (past p TokenKind.Word Mode.Blank [] s.used s.used)))
    word true = let e = z.enough in (record { enough = omega (arith, e, n); letters = refl }, refl, less s.mode)
    word false = let e = z.enough in (
      record {
        sized = record { enough = omega arith; letters = refl };
        some = omega (arith, e, n);
        behind =
            omega (arith, n);
        rest = omega arith;
        idle = inl refl;
      },
      refl,
      not_open (is_quoting s.mode) (is_quoted TokenKind.Word) x.1,
    )
acts_measured p s o (Action.Split letters) f z =
    let x = and_parts (is_sexp p && not (is_quoting s.mode)) (nat_le 1 letters && nat_le (1 + letters) (wants s.mode)) f in
    let y = and_parts (is_sexp p) (not (is_quoting s.mode)) x.0 in
    let w = and_parts (nat_le 1 letters) (nat_le (1 + letters) (wants s.mode)) x.1 in
    let a = leb-true 1 letters w.0 in
    let b = leb-true (1 + letters) (wants s.mode) w.1 in
    let e = z.enough in (
      record {
        sized = record { enough = omega (arith, a, b, e); letters = refl };
        some = omega (arith, a, b, e);
        behind = omega (arith, a, b, e);
        rest =
            omega (arith, a, b, e);
        idle = inr (refl, y.0);
      },
      refl,
      not_open (is_quoting s.mode) (is_quoted TokenKind.Operator) y.1,
    )
acts_measured p s o Action.EndBlob f z = blob (blob_of s.kept)
  where
    blob : (b : Option (List ℕ)) → Measured p s (blob_ends s b)
    blob None = tt
    blob (Some octets) = let e = z.enough in let n = leb-true 1 (wants_next s.mode) f in
        (record { enough = omega (arith, e, n, next_wants s.mode); letters = refl }, refl, n)
acts_measured p s o (Action.Refuse e) f z = tt

-- What comes of an octet.
pub feed_measured : (p : Place) (s : Known) (o : ℕ) → Sized s → Measured p s (feed p s o)
feed_measured p s o z = acts_measured p s o (next p s.colon s.mode o) (table_fits p s.colon s.mode o z.letters) z

-- a token that the end ends has an octet
abbrev EndWants : ℕ → End → Type 0
EndWants n (End.Token kind k) = 1 ≤ n
EndWants n _ = Unit {0}

operator_wants : (n : ℕ) (b : Bool) (k : Keep) → 1 ≤ n → EndWants n (cond b (End.Token TokenKind.Operator k) (End.Refuse Reason.Incomplete))
operator_wants n true k h = h
operator_wants n false k h = tt

end_wants : (p : Place) (m : Mode) → EndWants (wants m) (end_of p m)
end_wants p Mode.Blank = tt
end_wants p Mode.LineComment = tt
end_wants p Mode.Slash = operator_wants 1 (is_sexp p) (Keep.One 47) (omega arith)
end_wants p Mode.OperatorSlash = operator_wants 2 (is_sexp p) (Keep.One 47) (omega arith)
end_wants p (Mode.Operator e) = operator_wants 1 (is_sexp p) Keep.Nothing (omega arith)
end_wants p Mode.Colon = omega arith
end_wants p Mode.Word = omega arith
end_wants p Mode.KindName = omega arith
end_wants p Mode.Number = omega arith
end_wants p Mode.NumberSlash = omega arith
end_wants p Mode.Quotes = omega arith
end_wants p Mode.Brace = omega arith
end_wants p _ = tt

-- where the end ends a token, this has an octet
pub token_wants : (p : Place) (s : Known) (x : Lexeme) → at_end p s ≡ Ok (Some x) → 1 ≤ wants s.mode
token_wants p s x h = by (end_of p s.mode) (end_wants p s.mode) h
  where
    by : (e : End) → EndWants (wants s.mode) e → ends_at s e ≡ Ok (Some x) → 1 ≤ wants s.mode
    by End.Blank w h = absurd (let n : Ok None ≡ Ok (Some x) = h in cc)
    by (End.Token kind k) w h = w
    by (End.Refuse e) w h = absurd cc
