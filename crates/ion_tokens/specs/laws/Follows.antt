-- What the scanner's table promises to who looks one octet ahead, shown for each of its rows. Crates above cite `feed_follows`.
use Rattle.std.proofs.Common.{◌≡◌, ℕ, Bool, true, false, List, refl, sym, ◌∙◌, Option, Some, None}
use Rattle.std.specs.Prelude.{◌==◌, ◌&&◌, ◌||◌, not, bytes_eq, codes}
use Rattle.std.proofs.lemmas.Bool.{and_parts, cond_both, not-true}
use Rattle.ion_tokens.specs.Names.{Action, Known, Mode, Place, acts, blob_ends, blob_of, feed, is_idle, is_segment, is_sexp}
use Rattle.ion_tokens.specs.machine.Ahead.{Follows, is_closing, is_mark, is_quoting, is_sane}
use Rattle.ion_tokens.specs.machine.Table.{next}
use Rattle.ion_tokens.specs.laws.ByRows.{by_rows_where, modes_imply}

-- the mode in which the octet behind a token is taken up again
abbrev is_left : Mode → Bool
is_left Mode.Blank = true
is_left Mode.Slash = true
is_left _ = false

-- in an s-expression or not, from a mode that is idle, or quoting
abbrev action_follows : Bool → Bool → Bool → Action → Bool
action_follows sexp idle quoting (Action.Go n k) = is_sane n && (idle || (not (is_idle n) && (not (is_quoting n) || quoting)))
action_follows sexp idle quoting (Action.Give kind k) = idle || (not (is_mark kind) && (not (is_segment kind) || quoting))
action_follows sexp idle quoting (Action.Before kind k n) = is_left n && (idle || not (is_closing kind))
action_follows sexp idle quoting Action.EndWord = not idle
action_follows sexp idle quoting (Action.Split n) = sexp && not idle
action_follows sexp idle quoting Action.EndBlob = not idle
action_follows sexp idle quoting (Action.Refuse e) = true

-- What the table does follows.
table_follows : (p : Place) (colon : Bool) (m : Mode) (o : ℕ) → is_sane m ≡ true
    → action_follows (is_sexp p) (is_idle m) (is_quoting m) (next p colon m o) ≡ true
table_follows = by_rows_where is_sane (λ sexp m. action_follows sexp (is_idle m) (is_quoting m)) (λ c t. refl)

went : (i q n z : Bool) → (i || (not n && (not z || q))) ≡ true → (i ≡ false → n ≡ false) × (i ≡ false → q ≡ false → z ≡ false)
went true q n z h = ((λ e. absurd cc), (λ e f. absurd cc))
went false q n z h = let p = and_parts _ _ h in ((λ e. not-true n p.0), (λ e f. or_false z q p.1 f))
  where
    or_false : (z q : Bool) → (not z || q) ≡ true → q ≡ false → z ≡ false
    or_false false q h f = refl
    or_false true true h f = absurd cc
    or_false true false h f = absurd cc

blob_follows : (p : Place) (s : Known) (b : Option (List ℕ)) → is_idle s.mode ≡ false → Follows p s.mode (blob_ends s b)
blob_follows p s None n = tt
blob_follows p s (Some octets) n = (refl, (λ e. refl), (λ e f. refl))

acts_follow : (p : Place) (s : Known) (o : ℕ) (a : Action) → action_follows (is_sexp p) (is_idle s.mode) (is_quoting s.mode) a ≡ true
    → Follows p s.mode (acts p s o a)
acts_follow p s o (Action.Go n k) h =
    let x = and_parts _ _ h in
    let w = went (is_idle s.mode) (is_quoting s.mode) (is_idle n) (is_quoting n) x.1 in
    (x.0, w.0, w.1)
acts_follow p s o (Action.Give kind k) h = went (is_idle s.mode) (is_quoting s.mode) (is_mark kind) (is_segment kind) h
acts_follow p s o (Action.Before kind k n) h =
    let x = and_parts _ _ h in
    ((λ e. modes_imply is_left is_idle (λ c. refl) n x.0), (λ e. or_not (is_idle s.mode) (is_closing kind) x.1 e))
  where
    or_not : (i c : Bool) → (i || not c) ≡ true → i ≡ false → c ≡ false
    or_not true c h e = absurd cc
    or_not false c h e = not-true c h
acts_follow p s o Action.EndWord h =
    cond_both ((o == 46) && bytes_eq s.kept (codes "null")) _ _ (Follows p s.mode) (λ _. (refl, (λ e. refl), (λ e f. refl))) (λ _. ((λ e. refl), (λ e. refl)))
acts_follow p s o (Action.Split n) h = let x = and_parts _ _ h in ((λ e. let never : true ≡ false = sym x.0 ∙ e in absurd cc), (λ e. refl))
acts_follow p s o Action.EndBlob h = blob_follows p s (blob_of s.kept) (not-true (is_idle s.mode) h)
acts_follow p s o (Action.Refuse e) h = tt

-- What comes of an octet where quotes are kept open in long texts alone.
pub feed_follows : (p : Place) (s : Known) (o : ℕ) → is_sane s.mode ≡ true → Follows p s.mode (feed p s o)
feed_follows p s o n = acts_follow p s o (next p s.colon s.mode o) (table_follows p s.colon s.mode o n)
