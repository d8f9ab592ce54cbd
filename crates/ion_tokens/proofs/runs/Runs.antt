-- What one octet does to a run.
use Rattle.std.proofs.Common.{◌≡◌, ℕ, ◌+◌, ◌<◌, ◌≤◌, refl, subst, arith, List, [], ◌∷◌, length, drop, get_or, sym, ap, suc, drop-cons, add-one, Option}
use Rattle.std.specs.Prelude.{◌==◌, ◌&&◌, bytes_eq, codes, Some, None}
use Rattle.std.proofs.lemmas.Bool.{cond_both}
use Rattle.ion_tokens.specs.Names.{Action, Given, Known, Left, Lexeme, Lob, Mode, Next, Outcome, Place, Reason, Refused, acts, blob_ends, blob_of, feed, follow, go_to, run}
use Rattle.ion_tokens.specs.machine.Table.{next}

-- one more octet of the piece
pub run_more : (p : Place) (piece : List ℕ) (i : ℕ) (s s' : Known) → i < length piece → feed p s (get_or piece i 0) ≡ Next s'
    → run p (drop (i + 1) piece) s' ≡ run p (drop i piece) s
run_more p piece i s s' h e = rw (add-one, drop-cons piece i 0) (sym (ap (λ x. follow x (λ t. run p (drop (suc i) piece) t)) e))

-- how many octets were used behind these, of so many: all; some; fewer than all; or some decided
unfoldable pub Between : Outcome → ℕ → ℕ → Type 0
Between (Next s) before n = s.used ≡ before + n
Between (Given l s) before n = (before < s.used) × (s.used ≤ before + n)
Between (Left l s) before n = (before ≤ s.used) × (s.used < before + n)
Between (Refused at r) before n = (before < at) × (at ≤ before + n)

-- what holds where a blob's text decodes and where it doesn't, holds of its end
pub blob_both : (P : Outcome → Type 0) (s : Known) (b : Option (List ℕ)) → P (Refused (s.used + 1) Reason.BadBase64)
    → ((octets : List ℕ) → P (Next (go_to s (Mode.Lob Lob.BlobClose) octets))) → P (blob_ends s b)
blob_both P s None h k = h
blob_both P s (Some octets) h k = k octets

-- of one octet, whatever the action: it is used, or left, or it decides a refusal
pub acts_between : (p : Place) (s : Known) (o : ℕ) (a : Action) → Between (acts p s o a) s.used 1
unfolding Between
acts_between p s o (Action.Go m k) = refl
acts_between p s o Action.EndWord =
    cond_both ((o == 46) && bytes_eq s.kept (codes "null")) _ _ (λ x. Between x s.used 1) (λ _. refl) (λ _. (omega arith, omega arith))
acts_between p s o Action.EndBlob = blob_both (λ x. Between x s.used 1) s (blob_of s.kept) (omega arith, omega arith) (λ _. refl)
acts_between p s o _ = (omega arith, omega arith)

-- where an octet was used, it is one more
pub feed_used : (p : Place) (s s' : Known) (o : ℕ) → feed p s o ≡ Next s' → s'.used ≡ s.used + 1
unfolding Between
feed_used p s s' o e = subst (λ x. Between x s.used 1) e (acts_between p s o (next p s.colon s.mode o))

-- behind one octet more
between_next : (x : Outcome) (before n : ℕ) → Between x (before + 1) n → Between x before (suc n)
unfolding Between
between_next (Next s) before n h = omega arith
between_next _ before n h = (omega arith, omega arith)

between_follow : (x : Outcome) (f : Known → Outcome) (before n : ℕ) → Between x before 1 → ((t : Known) → Between (f t) t.used n)
    → Between (follow x f) before (suc n)
unfolding Between
between_follow (Next s) f before n h k = between_next (f s) before n (subst (λ u. Between (f s) u n) h (k s))
between_follow _ f before n h k = (omega arith, omega arith)

-- a run uses all its octets, unless a token or a refusal comes of one of them
pub run_between : (p : Place) (os : List ℕ) (s : Known) → Between (run p os s) s.used (length os)
unfolding Between
run_between p [] s = omega arith
run_between p (o ∷ os) s = between_follow (feed p s o) _ s.used (length os) (acts_between p s o (next p s.colon s.mode o)) (λ t. run_between p os t)

-- where no token came, all octets of the run were used
pub next_used : (p : Place) (os : List ℕ) (s t : Known) → Next t ≡ run p os s → t.used ≡ s.used + length os
unfolding Between
next_used p os s t e = subst (λ x. Between x s.used (length os)) (sym e) (run_between p os s)

-- a token that its last octet gave used one octet at least, and at most all
pub given_used : (p : Place) (os : List ℕ) (s t : Known) (l : Lexeme) → Given l t ≡ run p os s → (s.used < t.used) × (t.used ≤ s.used + length os)
unfolding Between
given_used p os s t l e = subst (λ x. Between x s.used (length os)) (sym e) (run_between p os s)

-- a token before an octet that was left used fewer octets than there were
pub left_used : (p : Place) (os : List ℕ) (s t : Known) (l : Lexeme) → Left l t ≡ run p os s → (s.used ≤ t.used) × (t.used < s.used + length os)
unfolding Between
left_used p os s t l e = subst (λ x. Between x s.used (length os)) (sym e) (run_between p os s)
