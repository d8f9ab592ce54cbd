-- Where tokens end in octets, where the blank behind them ends, and what may stand there.
use Rattle.std.proofs.Common.{◌≡◌, ℕ, ◌+◌, Bool, true, false, List, [], ◌∷◌, ◌++◌, length, refl, sym, ap, ◌∙◌, subst, arith, append_assoc, append-nil, length-append, Ok, Err, Option, Some, None, ◌⊎◌, inl, inr}
use Rattle.std.proofs.lemmas.Bool.{cond_both}
use Rattle.std.specs.Prelude.{◌==◌, ◌&&◌, bytes_eq, codes}
use Rattle.ion_text.specs.Names.{Action, BeginsWith, Continues, Given, IsAhead, IsBlank, Known, Left, Lexeme, LexesTo, Mode, Next, Outcome, Place, Placed, Reason, Refused, Scanned, TokenKind, acts, at_end, blob_ends, blob_of, colon_behind, feed, followed, is_idle, is_sane, scan as run, start_of, takes_colon}
use Rattle.ion_tokens.specs.machine.Table.{next}
use Rattle.ion_tokens.proofs.complete.Found.{FindsUpTo, Gives, Last, Leaves, Unclosed}
use Rattle.ion_tokens.proofs.complete.Moves.{at, blank}
use Rattle.ion_tokens.proofs.complete.TakesBlanks.{passes_blank}
use Rattle.ion_tokens.proofs.complete.Wholes.{run_behind}
use Rattle.ion_tokens.proofs.histories.Histories.{begins_completes}
use Rattle.ion_tokens.proofs.sound.Holds.{Holds, InMode, Sound, blank_behind, blank_none}
use Rattle.ion_tokens.proofs.sound.SoundHistories.{stands_tells}
use Rattle.ion_tokens.proofs.sound.Sounds.{RunSound, feed_sound, run_sound}
use Rattle.ion_text.specs.laws.reading.complete.Found.{begun_stays, next_is, run_keeps}

-- tokens in two parts: where the first ones end, and the octets from there
pub record Parted (colon : Bool) (before : ℕ) (octets : List ℕ) (ts us : List Placed) (after : Bool) (end : ℕ) (rest : List ℕ) : Type 0 where
  pub flag : Bool
  pub mid : ℕ
  pub left : List ℕ
  pub first : LexesTo colon before octets ts flag mid left
  pub second : LexesTo flag mid left us after end rest

-- where octets are tokens in two parts, they end in parts where those do
pub parted : (ts us : List Placed) (colon : Bool) (before : ℕ) (octets : List ℕ) (after : Bool) (end : ℕ) (rest : List ℕ)
    → LexesTo colon before octets (ts ++ us) after end rest → Parted colon before octets ts us after end rest
parted [] us colon before octets after end rest h = record { flag = colon; mid = before; left = octets; first = (refl, refl, refl); second = h }
parted (t ∷ ts) us colon before octets after end rest (q, b, h) =
    let p = parted ts us (colon_behind t) t.lexeme.end q after end rest h in
    record { flag = p.flag; mid = p.mid; left = p.left; first = (q, b, p.first); second = p.second }

-- the octets up to where tokens end
pub lexed_front : (ts : List Placed) (colon : Bool) (before : ℕ) (octets : List ℕ) (after : Bool) (end : ℕ) (rest : List ℕ)
    → LexesTo colon before octets ts after end rest → (front : List ℕ) × (octets ≡ front ++ rest) × (end ≡ before + length front)
lexed_front [] colon before octets after end rest (c, b, o) = ([], o, omega (arith, b))
lexed_front (t ∷ ts) colon before octets after end rest (q, b, h) =
    let p = lexed_front ts (colon_behind t) t.lexeme.end q after end rest h in (
      (b.blank ++ b.token) ++ p.0,
      b.cut ∙ (ap (λ x. (b.blank ++ b.token) ++ x) p.1 ∙ sym (append_assoc (b.blank ++ b.token) p.0 rest)),
      omega (arith, p.2, b.end, length-append b.blank b.token, length-append (b.blank ++ b.token) p.0),
    )

-- two ways to part a list
pub parts_meet : (xs ys zs ws : List ℕ) → xs ++ ys ≡ zs ++ ws → ((y : List ℕ) × (xs ≡ zs ++ y) × (y ++ ys ≡ ws))
    ⊎ ((z : List ℕ) × (zs ≡ xs ++ z) × (z ++ ws ≡ ys))
parts_meet [] ys zs ws e = inr (zs, refl, sym e)
parts_meet (x ∷ xs) ys [] ws e = inl (x ∷ xs, refl, e)
parts_meet (x ∷ xs) ys (z ∷ zs) ws e =
    let head : x ≡ z = cc in
    let tail : xs ++ ys ≡ zs ++ ws = cc in
    elim (parts_meet xs ys zs ws tail) [
      | inl (y, f, g) ↦ inl (y, ap (λ l. x ∷ l) f ∙ ap (λ o. o ∷ (zs ++ y)) head, g)
      | inr (y, f, g) ↦ inr (y, ap (λ l. z ∷ l) f ∙ ap (λ o. o ∷ (xs ++ y)) (sym head), g)
    ]

-- octets cut in two ways behind as many of them have the same parts
pub parts_same : (xs ys zs ws : List ℕ) → xs ++ ys ≡ zs ++ ws → length xs ≡ length zs → (xs ≡ zs) × (ys ≡ ws)
parts_same [] ys [] ws e n = (refl, e)
parts_same (x ∷ xs) ys (z ∷ zs) ws e n =
    let head : x ≡ z = cc in
    let tail : xs ++ ys ≡ zs ++ ws = cc in
    let p = parts_same xs ys zs ws tail (omega arith) in
    (ap (λ l. x ∷ l) p.0 ∙ ap (λ o. o ∷ zs) head, p.1)
parts_same _ ys _ ws e n = absurd (omega arith)

-- the blank in front of what is open, which ends where a token begins that is open behind the next octet
pub record BlankInFront (k : ℕ) (m : Mode) (start used : ℕ) (since : List ℕ) : Type 0 where
  pub blank : List ℕ
  pub open' : List ℕ
  pub cut : since ≡ blank ++ open'
  pub is_blank : IsBlank blank
  pub at : start_of m start used ≡ k + length blank

-- the same where it was so before the last octet
record FrontedBefore (k start : ℕ) (since : List ℕ) : Type 0 where
  blank : List ℕ
  open' : List ℕ
  cut : since ≡ blank ++ open'
  is_blank : IsBlank blank
  at : start ≡ k + length blank

-- Where no token ends, its start is kept, and whether a colon may stand there. Where one does, it began where one was open behind the
-- octet, the next one begins where it ended, and a colon may stand there behind what may be a symbol or a name.
abbrev pub Keeps : Place → Known → Outcome → Type 0
Keeps p s (Next t) = (t.start ≡ start_of s.mode s.start s.used) × (t.colon ≡ s.colon)
Keeps p s (Given x t) = (x.start ≡ start_of s.mode s.start s.used) × (t.start ≡ x.end) × (t.colon ≡ takes_colon p x.kind)
Keeps p s (Left x t) = (x.start ≡ start_of s.mode s.start s.used) × (t.start ≡ x.end) × (t.colon ≡ takes_colon p x.kind)
Keeps p s (Refused n e) = Unit {0}

blob_keeps : (p : Place) (s : Known) (b : Option (List ℕ)) → Keeps p s (blob_ends s b)
blob_keeps p s None = tt
blob_keeps p s (Some b) = (refl, refl)

acts_keeps : (p : Place) (s : Known) (o : ℕ) (a : Action) → Keeps p s (acts p s o a)
acts_keeps p s o (Action.Go m k) = (refl, refl)
acts_keeps p s o Action.EndWord = cond_both ((o == 46) && bytes_eq s.kept (codes "null")) _ _ (Keeps p s) (λ e. (refl, refl)) (λ e. (refl, refl, refl))
acts_keeps p s o Action.EndBlob = blob_keeps p s (blob_of s.kept)
acts_keeps p s o (Action.Refuse e) = tt
acts_keeps p s o _ = (refl, refl, refl)

-- an octet keeps where the open token begins, and whether a colon may stand, unless it ends a token
pub feed_keeps : (p : Place) (s : Known) (o : ℕ) → Keeps p s (feed p s o)
feed_keeps p s o = acts_keeps p s o (next p s.colon s.mode o)

pub next_start : (p : Place) (s t : Known) (o : ℕ) → feed p s o ≡ Next t → t.start ≡ start_of s.mode s.start s.used
next_start p s t o e = (subst (Keeps p s) e (feed_keeps p s o)).0

module _ (p : Place) (colon : Bool) (k : ℕ) where
  fronted_mode : (m : Mode) (kept : List ℕ) (start used : ℕ) (since : List ℕ) → InMode p colon k m kept start since → used ≡ k + length since
      → FrontedBefore k start since → BlankInFront k m start used since
  fronted_mode Mode.Blank kept start used since (e, b) u d = record { blank = since; open' = []; cut = sym (append-nil since); is_blank = b; at = u }
  fronted_mode Mode.Slash kept start used since (e, front, b, c) u d =
      record { blank = front; open' = 47 ∷ []; cut = c; is_blank = b; at = omega (arith, u, ap length c, length-append front (47 ∷ [])) }
  fronted_mode _ kept start used since h u d = record { blank = d.blank; open' = d.open'; cut = d.cut; is_blank = d.is_blank; at = d.at }

  pub fronted_run : (os : List ℕ) (s t : Known) (since : List ℕ) → Holds p colon k s since → BlankInFront k s.mode s.start s.used since → run p os s ≡ Next t
      → BlankInFront k t.mode t.start t.used (since ++ os)
  fronted_run [] s t since h f e =
      subst (λ (x : Known). BlankInFront k x.mode x.start x.used (since ++ [])) (next_is s t e)
      (subst (BlankInFront k s.mode s.start s.used) (sym (append-nil since)) f)
  fronted_run (o ∷ os) s t since h f e =
      let x = followed (feed p s o) (λ n. run p os n) t e in
      let there : Holds p colon k x.0 (since ++ o ∷ []) = subst (λ y. Sound p colon k since o y) x.1 (feed_sound p colon k s since o h) in
      let kept : FrontedBefore k (x.0).start (since ++ o ∷ []) = record {
        blank = f.blank;
        open' = f.open' ++ o ∷ [];
        cut = ap (λ l. l ++ o ∷ []) f.cut ∙ append_assoc f.blank f.open' (o ∷ []);
        is_blank = f.is_blank;
        at = next_start p s x.0 o x.1 ∙ f.at;
      } in
      subst (BlankInFront k t.mode t.start t.used) (append_assoc since (o ∷ []) os)
      (fronted_run os x.0 t (since ++ o ∷ []) there (fronted_mode (x.0).mode (x.0).kept (x.0).start (x.0).used (since ++ o ∷ []) there.mode there.used kept)
      x.2)

-- what the scanner holds behind the tokens told, before all that may come next
pub record OpenBehind (p : Place) (s : Known) (u : List ℕ) (ts : List Placed) (ahead : List ℕ) : Type 0 where
  pub colon : Bool
  pub end : ℕ
  pub since : List ℕ
  pub lexes : (r : List ℕ) → Continues r ahead → LexesTo false 0 (u ++ r) ts colon end (since ++ r)
  pub holds : Holds p colon end s since
  pub reached : run p since (at Mode.Blank [] colon end end) ≡ Next s
  pub fronted : BlankInFront end s.mode s.start s.used since

module _ (p : Place) (s : Known) (u : List ℕ) (ts : List Placed) (ahead : List ℕ) (h : Scanned p s u ts ahead) where
  continued : (r : List ℕ) → Continues r ahead → Continues (h.since ++ r) h.left
  continued r (more, c) = by h.next
    where
      by : IsAhead h.since h.left ahead → Continues (h.since ++ r) h.left
      by (inl (none, same)) = (more, ap (λ l. l ++ r) none ∙ c ∙ ap (λ l. l ++ more) same)
      by (inr (front, since, none)) = (front ++ r, ap (λ l. l ++ r) since ∙ append_assoc h.left front r)

  -- octets that the scanner was told of are the tokens told, and behind them what is open
  pub behind_tokens : OpenBehind p s u ts ahead
  behind_tokens =
      let tells = stands_tells h.behind h.front ts h.left h.told h.pass in
      let reached : run p (tells.since ++ h.since) (at Mode.Blank [] tells.colon tells.end tells.end) ≡ Next s =
      run_behind p tells.since h.since (at Mode.Blank [] tells.colon tells.end tells.end) h.behind (tells.again p) ∙ h.ran in
      let none : Holds p tells.colon tells.end (at Mode.Blank [] tells.colon tells.end tells.end) [] = blank_behind p tells.colon tells.end in
      record {
        colon = tells.colon;
        end = tells.end;
        since = tells.since ++ h.since;
        lexes = λ r c.
            let w = continued r c in
            subst (λ o. LexesTo false 0 o ts tells.colon tells.end ((tells.since ++ h.since) ++ r))
            (sym (ap (λ l. l ++ r) h.cut ∙ append_assoc h.front h.since r))
            (subst (λ o. LexesTo false 0 (h.front ++ (h.since ++ r)) ts tells.colon tells.end o) (sym (append_assoc tells.since h.since r))
            (tells.lexes (h.since ++ r) w.0 w.1));
        holds = subst (λ x. RunSound p tells.colon tells.end tells.since h.since x) h.ran
            (run_sound p tells.colon tells.end h.since tells.since h.behind (tells.holds p));
        reached = reached;
        fronted = fronted_run p tells.colon tells.end (tells.since ++ h.since) (at Mode.Blank [] tells.colon tells.end tells.end) s [] none
            (record { blank = []; open' = []; cut = refl; is_blank = blank_none; at = omega arith }) reached;
      }

-- what an outcome says of the token that is looked for
abbrev pub Is : Place → Lexeme → Outcome → Type 0
Is p x (Given l s) = l ≡ x
Is p x (Left l s) = l ≡ x
Is p x (Next s) = (at_end p s ≡ Ok (Some x)) ⊎ ((at_end p s ≡ Err Reason.Incomplete) × (x.kind ≡ TokenKind.Operator))
Is p x (Refused n e) = ⊥

-- the first token that the scanner finds in octets is the one that a run over them shows
pub finds_is : (R : Known → List ℕ → Type 0) (B : Type 0) (s : Known) (octets : List ℕ) (t : Placed) (ts : List Placed) → FindsUpTo R B s octets (t ∷ ts)
    → Is t.place t.lexeme (run t.place octets s)
finds_is R B _ _ _ _ (Last s octets t s' e f) = subst (Is t.place t.lexeme) (sym e) (inl f)
finds_is R B _ _ _ _ (Gives s octets t ts s' e f) = subst (Is t.place t.lexeme) (sym e) refl
finds_is R B _ _ _ _ (Leaves s octets t ts s' e f) = subst (Is t.place t.lexeme) (sym e) refl
finds_is R B _ _ _ _ (Unclosed s octets t ts s' colon letters bare e f first operator rest) = subst (Is t.place t.lexeme) (sym e) (inr (f, operator))

is_once : (p : Place) (x y : Lexeme) (o : Outcome) → Is p x o → Is p y o → (y.kind ≡ TokenKind.Operator → ⊥) → x ≡ y
is_once p x y (Next s) (inl a) (inl b) n = cc
is_once p x y (Next s) (inr a) (inl b) n = absurd (let k : Err Reason.Incomplete ≡ Ok (Some y) = sym a.0 ∙ b in cc)
is_once p x y (Next s) a (inr b) n = absurd (n b.1)
is_once p x y (Refused n e) a b m = absurd a
is_once p x y _ a b n = sym a ∙ b

-- the token with which octets begin, behind a blank, is the one that a run over them shows
pub one_found : (colon : Bool) (k : ℕ) (octets : List ℕ) (t : Placed) (r : List ℕ) → BeginsWith colon k octets t r
    → Is t.place t.lexeme (run t.place octets (at Mode.Blank [] colon k k))
one_found colon k octets t r b = finds_is (λ s octets. Unit {0}) (Unit {0}) (at Mode.Blank [] colon k k) octets t []
    (begins_completes (t ∷ []) colon k octets [] octets (at Mode.Blank [] colon k k) (r, b, tt) refl (λ p. refl))

-- Octets begin with one token that is looked for in a place.
pub begins_once : (colon : Bool) (k : ℕ) (octets : List ℕ) (t t' : Placed) (r r' : List ℕ) → BeginsWith colon k octets t r → BeginsWith colon k octets t' r'
    → t.place ≡ t'.place → (t'.lexeme.kind ≡ TokenKind.Operator → ⊥) → t.lexeme ≡ t'.lexeme
begins_once colon k octets t t' r r' a b e n =
    is_once t'.place t.lexeme t'.lexeme (run t'.place octets (at Mode.Blank [] colon k k))
    (subst (λ p. Is p t.lexeme (run p octets (at Mode.Blank [] colon k k))) e (one_found colon k octets t r a)) (one_found colon k octets t' r' b) n

-- a token that has begun isn't forgotten
pub begun_kept : (p : Place) (os : List ℕ) (s t : Known) → is_sane s.mode ≡ true → is_idle s.mode ≡ false → run p os s ≡ Next t → is_idle t.mode ≡ false
begun_kept = run_keeps (λ m. is_idle m ≡ false) begun_stays

-- what is left of octets behind a blank at their front, where a token has begun in them
pub record PastBlank (p : Place) (colon : Bool) (used : ℕ) (s : Known) (r more : List ℕ) : Type 0 where
  pub now : ℕ
  pub token : List ℕ
  pub same : token ++ r ≡ more
  pub ran : run p token (blank colon now used) ≡ Next s

-- where a token is open behind octets, a run over those behind the blank leads there too
pub past_blank : (p : Place) (colon : Bool) (k : ℕ) (since r w more : List ℕ) (s : Known) → run p since (at Mode.Blank [] colon k k) ≡ Next s
    → is_sane s.mode ≡ true → is_idle s.mode ≡ false → IsBlank w → since ++ r ≡ w ++ more → PastBlank p colon (k + length w) s r more
past_blank p colon k since r w more s ran sane idle b e = by (parts_meet since r w more e)
  where
    passed : (now : ℕ) × ((r : List ℕ) → run p (w ++ r) (blank colon k k) ≡ run p r (blank colon now (k + length w)))
    passed = passes_blank p colon w b k k

    by : ((y : List ℕ) × (since ≡ w ++ y) × (y ++ r ≡ more)) ⊎ ((z : List ℕ) × (w ≡ since ++ z) × (z ++ more ≡ r)) → PastBlank p colon (k + length w) s r more
    by (inl (y, f, g)) = record { now = passed.0; token = y; same = g; ran = sym (ap (λ l. run p l (at Mode.Blank [] colon k k)) f ∙ passed.1 y) ∙ ran }
    by (inr (z, f, g)) =
        let t = blank colon passed.0 (k + length w) in
        let all : run p z s ≡ Next t = sym (run_behind p since z (at Mode.Blank [] colon k k) s ran)
        ∙ (ap (λ l. run p l (at Mode.Blank [] colon k k)) (sym f ∙ sym (append-nil w)) ∙ passed.1 []) in
        absurd (let n : false ≡ true = sym (begun_kept p z s t sane idle all) in cc)
