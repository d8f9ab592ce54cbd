-- The reasons for which a scanner refuses.
use Rattle.std.proofs.Common.{◌≡◌, ◌≢◌, ℕ, Bool, true, refl, sym, ap, subst, ◌∙◌, List, [], ◌∷◌, Option, Some, None, Result, Ok, Err, IfErr}
use Rattle.std.specs.Prelude.{◌==◌, ◌&&◌, bytes_eq, codes}
use Rattle.std.proofs.lemmas.Bool.{cond_both}
use Rattle.ion_tokens.specs.Names.{Action, Answers, Given, IsBody, IsWordBody, Kind, Known, Left, Next, Outcome, Place, ReadsNumber, Reason, Refusal, Refused, Scan, TokenKind, acts, answered, blob_of, debt, feed, follow, id_of, is_idle, is_step_reason, kind_named, null_of, run, unkept}
use Rattle.ion_tokens.specs.machine.Table.{next}
use Rattle.ion_tokens.proofs.bounds.Fits.{Fits, is_octet_reason, table_fits}
use Rattle.ion_tokens.proofs.runs.Runs.{blob_both}

-- what octets come to is refused for their own sake
unfoldable pub IsFair : Outcome → Type 0
IsFair (Next s) = Unit {0}
IsFair (Given l s) = Unit {0}
IsFair (Left l s) = Unit {0}
IsFair (Refused at e) = is_octet_reason e ≡ true

not_memory : (e : Reason) → is_octet_reason e ≡ true → e ≢ Reason.Memory
not_memory Reason.Memory h = cc
not_memory _ h = λ i. cc

acts_fair : (p : Place) (s : Known) (o : ℕ) (a : Action) → Fits (unkept s.mode) (debt s.mode) (is_idle s.mode) a → IsFair (acts p s o a)
unfolding IsFair
acts_fair p s o Action.EndWord f = cond_both ((o == 46) && bytes_eq s.kept (codes "null")) _ _ IsFair (λ _. tt) (λ _. tt)
acts_fair p s o Action.EndBlob f = blob_both IsFair s (blob_of s.kept) refl (λ _. tt)
acts_fair p s o (Action.Refuse e) f = f.is
acts_fair p s o _ f = tt

follow_fair : (x : Outcome) (f : Known → Outcome) → IsFair x → ((t : Known) → IsFair (f t)) → IsFair (follow x f)
unfolding IsFair
follow_fair (Next s) f h k = k s
follow_fair (Refused at e) f h k = h
follow_fair _ f h k = tt

-- where a run over octets refuses, it is for a reason that an octet alone may give
pub run_fair : (p : Place) (os : List ℕ) (s : Known) → IsFair (run p os s)
unfolding IsFair
run_fair p [] s = tt
run_fair p (o ∷ os) s = follow_fair (feed p s o) _ (acts_fair p s o (next p s.colon s.mode o) (table_fits p s.colon s.mode o)) (λ t. run_fair p os t)

-- no run over octets refuses for want of memory
pub refused_fair : (p : Place) (os : List ℕ) (s : Known) (at : ℕ) (e : Reason) → Refused at e ≡ run p os s → e ≢ Reason.Memory
unfolding IsFair
refused_fair p os s at e h = not_memory e (subst (λ (x : Outcome). IsFair x) (sym h) (run_fair p os s))

step_reason : (e : Reason) → is_octet_reason e ≡ true → is_step_reason e ≡ true
step_reason Reason.Memory h = refl
step_reason Reason.TooLarge h = refl
step_reason Reason.Malformed h = refl
step_reason _ h = h

unless_memory : (e : Reason) → (e ≢ Reason.Memory → is_step_reason e ≡ true) → is_step_reason e ≡ true
unless_memory Reason.Memory h = refl
unless_memory _ h = h (λ i. cc)

number_reason : (octets : List ℕ) (e : Reason) → ReadsNumber octets (Err e) → is_step_reason e ≡ true
number_reason octets Reason.TooLarge h = refl
number_reason octets Reason.Malformed h = refl
number_reason octets Reason.Float h = refl
number_reason octets _ h = absurd h

word_reason : (octets : List ℕ) (id : Option ℕ) (e : Reason) → IsWordBody octets id (Err e) → is_step_reason e ≡ true
word_reason octets None e h = ap is_step_reason h.0
word_reason octets (Some id) e h = cc

null_reason : (kind : Option Kind) (e : Reason) → Err e ≡ null_of kind → is_step_reason e ≡ true
null_reason None e h = let k : e ≡ Reason.Malformed = cc in ap is_step_reason k
null_reason (Some kind) e h = cc

body_reason : (kind : TokenKind) (octets : List ℕ) (e : Reason) → IsBody kind octets (Err e) → is_step_reason e ≡ true
body_reason TokenKind.Word octets e h = word_reason octets (id_of octets) e h
body_reason TokenKind.KindName octets e h = null_reason (kind_named octets) e h
body_reason TokenKind.Number octets e h = number_reason octets e h
body_reason TokenKind.Clob octets e h = cc
body_reason TokenKind.Blob octets e h = cc
body_reason (TokenKind.Mark m) octets e h = cc
body_reason _ octets e h = ap is_step_reason h.0

-- a step refuses for one of its reasons
pub answer_reason : (x : Outcome) (r : Result Scan Refusal) (left : Bool) (before : ℕ) (now : Known) → IsFair x → Answers before x (answered r left) now
    → IfErr r (λ refusal. is_step_reason refusal.reason ≡ true)
unfolding IsFair
answer_reason (Next s) (Err r) left before now f a = unless_memory r.reason (λ n. absurd (a n))
answer_reason (Given l s) (Err r) left before now f a = unless_memory r.reason (λ n. let t = a n in body_reason l.kind l.octets r.reason t.says)
answer_reason (Left l s) (Err r) left before now f a = unless_memory r.reason (λ n. let t = a n in body_reason l.kind l.octets r.reason t.says)
answer_reason (Refused at e) (Err r) left before now f a = unless_memory r.reason (λ n. ap (λ (q : Refusal). is_step_reason q.reason) (a n) ∙ step_reason e f)
answer_reason x (Ok scan) left before now f a = tt
