-- An octet that ended a token before it is taken up again, in a blank, a comment or a word, and is left at most twice. Crates above cite
-- these names.
use Rattle.std.proofs.Common.{◌≡◌, ℕ, Bool, true, false, cond, List, [], refl, sym, ap, ◌∙◌, subst, Option, Some, None}
use Rattle.std.specs.Prelude.{◌==◌, ◌&&◌, ◌||◌, not, bytes_eq, codes}
use Rattle.std.proofs.lemmas.Bool.{cond_both}
use Rattle.ion_tokens.specs.Names.{Action, Keep, Known, Left, Lexeme, Mode, Next, Place, TokenKind, acts, add, blob_ends, blob_of, cut, feed, go, go_to, is_operator_octet, is_stop, is_word_octet, past}
use Rattle.ion_tokens.specs.machine.Ahead.{IsUsed, LeavesIn, LeftIn}
use Rattle.ion_tokens.specs.machine.Table.{next}
use Rattle.ion_tokens.specs.laws.ByRows.{by_rows_where}

abbrev used : Action → Bool
used (Action.Go m k) = true
used (Action.Give kind k) = true
used (Action.Refuse e) = true
used _ = false

acts_used : (p : Place) (s : Known) (o : ℕ) (a : Action) → used a ≡ true → IsUsed (acts p s o a)
acts_used p s o (Action.Go m k) h = tt
acts_used p s o (Action.Give kind k) h = tt
acts_used p s o (Action.Refuse e) h = tt
acts_used p s o _ h = absurd cc

abbrev is_blank : Mode → Bool
is_blank Mode.Blank = true
is_blank _ = false

blank_used : (p : Place) (colon : Bool) (m : Mode) (o : ℕ) → is_blank m ≡ true → used (next p colon m o) ≡ true
blank_used = by_rows_where is_blank (λ sexp m. used) (λ c t. refl)

-- In a blank each octet is used.
pub blank_uses : (p : Place) (s : Known) (o : ℕ) → s.mode ≡ Mode.Blank → IsUsed (feed p s o)
blank_uses p s o e = acts_used p s o (next p s.colon s.mode o) (blank_used p s.colon s.mode o (ap is_blank e))

slash_used : (p : Place) (colon : Bool) (m : Mode) (o : ℕ) → m ≡ Mode.Slash → ((o == 47) || (o == 42)) ≡ true → used (next p colon m o) ≡ true
slash_used p colon m o e h = subst (λ n. used (next p colon n o) ≡ true) (sym e) (one_of (o == 47) (o == 42) _ h)
  where
    one_of : (a b : Bool) (x : Action) → (a || b) ≡ true → used (cond a (go Mode.LineComment) (cond b (go Mode.BlockComment) x)) ≡ true
    one_of false false x k = absurd cc
    one_of _ _ x k = refl

-- Behind a `/` one that opens a comment is.
pub slash_uses : (p : Place) (s : Known) (o : ℕ) → s.mode ≡ Mode.Slash → ((o == 47) || (o == 42)) ≡ true → IsUsed (feed p s o)
slash_uses p s o e h = acts_used p s o (next p s.colon s.mode o) (slash_used p s.colon s.mode o e h)

left_there : (d : Bool) (n k t : Known) (l x : Lexeme) → k.mode ≡ Mode.Blank → cond d (Next n) (Left l k) ≡ Left x t → t.mode ≡ Mode.Blank
left_there true n k t l x m e = absurd cc
left_there false n k t l x m e = let same : k ≡ t = cc in subst (λ (y : Known). y.mode ≡ Mode.Blank) same m

ends_word : (p : Place) (s t : Known) (o : ℕ) (x : Lexeme) (b : Bool) → acts p s o (cond b (add Mode.Word o) Action.EndWord) ≡ Left x t → t.mode ≡ Mode.Blank
ends_word p s t o x true e = absurd cc
ends_word p s t o x false e = left_there ((o == 46) && bytes_eq s.kept (codes "null")) (go_to s Mode.KindName [])
    (past p TokenKind.Word Mode.Blank [] s.used s.used) t (cut s TokenKind.Word s.kept s.used) x refl e

-- A word that ends before the octet leaves a blank.
pub word_leaves : (p : Place) (s t : Known) (o : ℕ) (x : Lexeme) → s.mode ≡ Mode.Word → feed p s o ≡ Left x t → t.mode ≡ Mode.Blank
word_leaves p s t o x e h = ends_word p s t o x (is_word_octet o) (sym (ap (λ m. acts p s o (next p s.colon m o)) e) ∙ h)

-- what an action leaves of an octet that it doesn't use
abbrev left_in : ℕ → Action → Bool
left_in o (Action.Before kind k Mode.Blank) = true
left_in o (Action.Before kind k Mode.Slash) = (o == 47) || (o == 42)
left_in o (Action.Before kind k m) = false
left_in o _ = true

-- where the octet decides whether a comment is left
abbrev is_slashed : Mode → Bool
is_slashed Mode.NumberSlash = true
is_slashed Mode.OperatorSlash = true
is_slashed _ = false

rows_leave : (p : Place) (colon : Bool) (m : Mode) (o : ℕ) → not (is_slashed m) ≡ true → left_in o (next p colon m o) ≡ true
rows_leave p colon m o = by_rows_where (λ n. not (is_slashed n)) (λ sexp n. left_in o) (λ c t. refl) p colon m o

comment_leaves : (o : ℕ) (b : Bool) (kind : TokenKind) (x : Action) → ((o == 47) || (o == 42)) ≡ b → left_in o x ≡ true
    → left_in o (cond b (Action.Before kind Keep.Nothing Mode.Slash) x) ≡ true
comment_leaves o true kind x e h = e
comment_leaves o false kind x e h = h

either : (o : ℕ) (x y : Action) (b : Bool) → left_in o x ≡ true → left_in o y ≡ true → left_in o (cond b x y) ≡ true
either o x y true h k = h
either o x y false h k = k

table_leaves : (p : Place) (colon : Bool) (m : Mode) (o : ℕ) → left_in o (next p colon m o) ≡ true
table_leaves p colon Mode.NumberSlash o = comment_leaves o ((o == 47) || (o == 42)) TokenKind.Number _ refl (either o _ _ (is_stop o) refl refl)
table_leaves p colon Mode.OperatorSlash o = comment_leaves o ((o == 47) || (o == 42)) TokenKind.Operator _ refl (either o _ _ (is_operator_octet o) refl refl)
table_leaves p colon m o = rows_leave p colon m o refl

before_leaves : (o : ℕ) (kind : TokenKind) (k : Keep) (m : Mode) → left_in o (Action.Before kind k m) ≡ true → LeftIn o m
before_leaves o kind k Mode.Blank h = tt
before_leaves o kind k Mode.Slash h = h
before_leaves o kind k _ h = absurd cc

blob_leaves : (s : Known) (o : ℕ) (b : Option (List ℕ)) → LeavesIn o (blob_ends s b)
blob_leaves s o None = tt
blob_leaves s o (Some octets) = tt

acts_leave : (p : Place) (s : Known) (o : ℕ) (a : Action) → left_in o a ≡ true → LeavesIn o (acts p s o a)
acts_leave p s o (Action.Before kind k m) h = before_leaves o kind k m h
acts_leave p s o Action.EndWord h = cond_both ((o == 46) && bytes_eq s.kept (codes "null")) _ _ (LeavesIn o) (λ _. tt) (λ _. tt)
acts_leave p s o Action.EndBlob h = blob_leaves s o (blob_of s.kept)
acts_leave p s o _ h = tt

-- An octet before which a token ended is looked at again in a blank, behind the `/` of a comment that it opens, or behind letters of a word.
pub feed_leaves : (p : Place) (s : Known) (o : ℕ) → LeavesIn o (feed p s o)
feed_leaves p s o = acts_leave p s o (next p s.colon s.mode o) (table_leaves p s.colon s.mode o)
