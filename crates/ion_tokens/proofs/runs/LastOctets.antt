-- Where something comes of octets: the last one that was looked at, and what the scanner knew before it. Crates above cite these names.
use Rattle.std.proofs.Common.{◌≡◌, ℕ, ◌+◌, List, [], ◌∷◌, ◌++◌, length, refl, sym, ap, ◌∙◌, subst, arith, append_assoc, length-append}
use Rattle.ion_tokens.specs.Names.{Known, Next, Outcome, Place, Reason, Refused, feed, follow, run}
use Rattle.ion_tokens.specs.machine.Table.{next}
use Rattle.ion_tokens.proofs.runs.Cutting.{run-append}
use Rattle.ion_tokens.proofs.runs.Runs.{Between, acts_between, feed_used}

-- the octet at which a run came to this, those before and behind it, and what was known before it
pub record LastOctet (p : Place) (piece : List ℕ) (s : Known) (y : Outcome) : Type 0 where
  pub before : List ℕ
  pub octet : ℕ
  pub rest : List ℕ
  pub known : Known
  pub cut : piece ≡ before ++ octet ∷ rest
  pub ran : run p before s ≡ Next known
  pub fed : feed p known octet ≡ y
  pub counted : known.used ≡ s.used + length before

-- the octets up to that one
abbrev pub shown : {p : Place} {piece : List ℕ} {s : Known} {y : Outcome} → LastOctet p piece s y → List ℕ
shown d = d.before ++ d.octet ∷ []

pub size_shown : {p : Place} {piece : List ℕ} {s : Known} {y : Outcome} (d : LastOctet p piece s y) → length (shown d) ≡ length d.before + 1
size_shown d = length-append d.before (d.octet ∷ [])

pub cut_behind : {p : Place} {piece : List ℕ} {s : Known} {y : Outcome} (d : LastOctet p piece s y) → piece ≡ shown d ++ d.rest
cut_behind d = d.cut ∙ sym (append_assoc d.before (d.octet ∷ []) d.rest)

-- a run over them comes to this
pub ran_shown : {p : Place} {piece : List ℕ} {s : Known} {y : Outcome} (d : LastOctet p piece s y) → run p (shown d) s ≡ y
ran_shown {p = p} {s = s} {y = y} d =
    run-append p d.before (d.octet ∷ []) s ∙ ap (λ x. follow x (λ t. run p (d.octet ∷ []) t)) d.ran ∙ ap (λ x. follow x (λ t. Next t)) d.fed ∙ alone y
  where
    alone : (y : Outcome) → follow y (λ t. Next t) ≡ y
    alone (Next s) = refl
    alone _ = refl

-- a token or a refusal
abbrev pub IsLast : Outcome → Type 0
IsLast (Next s) = ⊥
IsLast y = Unit {0}

-- a run that came to a token or a refusal came to it at one octet
pub last_octet : (p : Place) (piece : List ℕ) (s : Known) (y : Outcome) → IsLast y → run p piece s ≡ y → LastOctet p piece s y
last_octet p [] s y l e = absurd (subst IsLast (sym e) l)
last_octet p (o ∷ os) s y l e = by (feed p s o) refl e (λ t. last_octet p os t y l) where
  here : feed p s o ≡ y → LastOctet p (o ∷ os) s y
  here f = record { before = []; octet = o; rest = os; known = s; cut = refl; ran = refl; fed = f; counted = omega arith }

  by : (x : Outcome) → feed p s o ≡ x → follow x (λ t. run p os t) ≡ y → ((t : Known) → run p os t ≡ y → LastOctet p os t y) → LastOctet p (o ∷ os) s y
  by (Next t) f g more =
      let r = more t g in
      record {
        before = o ∷ r.before;
        octet = r.octet;
        rest = r.rest;
        known = r.known;
        cut = ap (λ l. o ∷ l) r.cut;
        ran = ap (λ x. follow x (λ t. run p r.before t)) f ∙ r.ran;
        fed = r.fed;
        counted = omega (arith, feed_used p s t o f, r.counted);
      }
  by _ f g more = here (f ∙ g)

-- A refusal counts the octets up to the one that decides it.
pub refused_here : (p : Place) (s : Known) (o n : ℕ) (e : Reason) → feed p s o ≡ Refused n e → n ≡ s.used + 1
unfolding Between
refused_here p s o n e f = let h = subst (λ x. Between x s.used 1) f (acts_between p s o (next p s.colon s.mode o)) in omega (arith, h.0, h.1)
