-- The tokens told so far are those of the octets taken up, whatever follows.
use Rattle.std.proofs.Common.{◌≡◌, ℕ, ◌+◌, Bool, false, List, [], ◌∷◌, ◌++◌, length, refl, sym, ap, ◌∙◌, subst, arith, append_assoc, append-nil, length-append}
use Rattle.std.specs.Prelude.{Option, Some, None, Result, Ok, Err}
use Rattle.std.specs.List.{AllByRecursion}
use Rattle.ion_tokens.specs.Names.{AllPass, BeginsWith, Gave, Given, Known, Leaved, Left, Lexeme, LexesTo, Mode, Next, Passes, Place, Placed, Stands, colon_behind, run}
use Rattle.ion_tokens.specs.machine.Told.{Begun}
use Rattle.ion_tokens.proofs.complete.Moves.{at}
use Rattle.ion_tokens.proofs.sound.Holds.{Holds, IsTold, blank_behind}
use Rattle.ion_tokens.proofs.sound.Sounds.{RunSound, run_sound}

-- one token more
pub lexes_more : (ts : List Placed) (colon : Bool) (before : ℕ) (octets : List ℕ) (after : Bool) (end : ℕ) (rest : List ℕ) (t : Placed) (r : List ℕ)
    → LexesTo colon before octets ts after end rest → BeginsWith after end rest t r
    → LexesTo colon before octets (ts ++ t ∷ []) (colon_behind t) t.lexeme.end r
lexes_more [] colon before octets after end rest t r (c, b, o) h = (
  r,
  subst (λ x. BeginsWith x before octets t r) (sym c)
      (subst (λ (x : ℕ). BeginsWith after x octets t r) (sym b) (subst (λ x. BeginsWith after end x t r) (sym o) h)),
  (refl, refl, refl),
)
lexes_more (x ∷ ts) colon before octets after end rest t r (q, b, l) h = (q, b, lexes_more ts (colon_behind x) x.lexeme.end q after end rest t r l h)

pass_front : (ts : List Placed) (t : Placed) → AllPass (ts ++ t ∷ []) → AllPass ts × Passes t.lexeme.kind t.lexeme.octets
pass_front [] t h = (tt, h.0)
pass_front (x ∷ ts) t h = let rest = pass_front ts t h.1 in ((h.0, rest.0), rest.1)

-- The octets taken up are the tokens told, with blanks between, and then these, of which the scanner knows what they are, in
-- whatever place comes next; that is so before all octets that begin with the one that was left, if one was.
pub record HasTold (s : Known) (u : List ℕ) (ts : List Placed) (ahead : List ℕ) : Type 0 where
  pub colon : Bool
  pub end : ℕ
  pub since : List ℕ
  pub holds : (q : Place) → Holds q colon end s since
  pub again : (q : Place) → run q since (at Mode.Blank [] colon end end) ≡ Next s
  pub lexes : (r more : List ℕ) → r ≡ ahead ++ more → LexesTo false 0 (u ++ r) ts colon end (since ++ r)

-- how many octets a told token leaves ahead
told_used : (p : Place) (colon : Bool) (k : ℕ) (octets ahead after : List ℕ) (l : Lexeme) (s : Known) → IsTold p colon k octets ahead after l s
    → s.used ≡ k + length octets
told_used p colon k octets ahead after l s t =
    let h = (t.rest p).used in omega (arith, h, t.end, ap length t.cut, length-append (t.front ++ t.token) ahead, length-append t.front t.token)

no_rest : (xs ys zs : List ℕ) → xs ≡ ys ++ zs → length xs ≡ length ys → zs ≡ []
no_rest xs ys [] e f = refl
no_rest xs ys (z ∷ zs) e f = absurd (omega (arith, ap length e, length-append ys (z ∷ zs)))

begins_with : (p : Place) (colon : Bool) (k : ℕ) (octets ahead after : List ℕ) (l : Lexeme) (s : Known) (r : List ℕ) → IsTold p colon k octets ahead after l s
    → Passes l.kind l.octets → BeginsWith colon k (octets ++ (after ++ r)) (record { place = p; lexeme = l }) (ahead ++ (after ++ r))
begins_with p colon k octets ahead after l s r t j = record {
  blank = t.front;
  token = t.token;
  is_blank = t.blank;
  cut =
      ap (λ x. x ++ (after ++ r)) t.cut ∙ append_assoc (t.front ++ t.token) ahead (after ++ r);
  start = t.start;
  end = t.end;
  is = t.found r j;
}

-- What was told of octets so far is so.
pub stands_tells : (s : Known) (u : List ℕ) (ts : List Placed) (ahead : List ℕ) → Stands s u ts ahead → AllPass ts → HasTold s u ts ahead
stands_tells s u ts ahead Begun pass =
    record { colon = false; end = 0; since = []; holds = λ q. blank_behind q false 0; again = λ q. refl; lexes = λ r more e. (refl, refl, refl) }
stands_tells s u ts ahead (Gave s0 u0 ts0 ahead0 t octets more0 s' h e f n) pass =
    by (stands_tells s0 u0 ts0 ahead0 h (pass_front ts0 t pass).0)
  where
    by : HasTold s0 u0 ts0 ahead0 → HasTold s (u0 ++ octets) (ts0 ++ t ∷ []) []
    by b = told (subst (λ x. RunSound t.place b.colon b.end b.since octets x) f (run_sound t.place b.colon b.end octets b.since s0 (b.holds t.place))) where
      told : RunSound t.place b.colon b.end b.since octets (Given t.lexeme s) → HasTold s (u0 ++ octets) (ts0 ++ t ∷ []) []
      told (front, rest, cut, is) =
          let size = told_used t.place b.colon b.end (b.since ++ front) [] [] t.lexeme s is in
          let all : length octets ≡ length front = omega (arith, n, size, (b.holds t.place).used, length-append b.since front) in
          let whole : octets ≡ front = cut ∙ ap (λ l. front ++ l) (no_rest octets front rest cut all) ∙ append-nil front in
          record {
            colon = colon_behind t;
            end = t.lexeme.end;
            since = [];
            holds = is.rest;
            again = is.again;
            lexes = λ r more g. lexes_more ts0 false 0 ((u0 ++ octets) ++ r) b.colon b.end ((b.since ++ front) ++ r) t r
                (subst (λ l. LexesTo false 0 l ts0 b.colon b.end ((b.since ++ front) ++ r)) (sym (append_assoc u0 octets r))
                (subst (λ l. LexesTo false 0 (u0 ++ (octets ++ r)) ts0 b.colon b.end l)
                (ap (λ l. b.since ++ (l ++ r)) whole ∙ sym (append_assoc b.since front r))
                (b.lexes (octets ++ r) (more0 ++ r) (ap (λ l. l ++ r) e ∙ append_assoc ahead0 more0 r))))
                (begins_with t.place b.colon b.end (b.since ++ front) [] [] t.lexeme s r is (pass_front ts0 t pass).1);
          }
stands_tells s u ts ahead (Leaved s0 u0 ts0 ahead0 t octets more0 x s' h e f n) pass =
    by (stands_tells s0 u0 ts0 ahead0 h (pass_front ts0 t pass).0)
  where
    by : HasTold s0 u0 ts0 ahead0 → HasTold s (u0 ++ octets) (ts0 ++ t ∷ []) (x ∷ [])
    by b = told (subst (λ y. RunSound t.place b.colon b.end b.since (octets ++ x ∷ []) y) f
        (run_sound t.place b.colon b.end (octets ++ x ∷ []) b.since s0 (b.holds t.place))) where
          told : RunSound t.place b.colon b.end b.since (octets ++ x ∷ []) (Left t.lexeme s) → HasTold s (u0 ++ octets) (ts0 ++ t ∷ []) (x ∷ [])
          told (front, y, rest, over, cut, is) =
              let size = told_used t.place b.colon b.end (b.since ++ front) over (y ∷ []) t.lexeme s is in
              let all : length octets ≡ length front = omega (arith, n, size, (b.holds t.place).used, length-append b.since front) in
              let same : (octets ≡ front) × (x ≡ y) = last_same octets front x y rest cut all in
              record {
                colon = colon_behind t;
                end = t.lexeme.end;
                since = over;
                holds = is.rest;
                again = is.again;
                lexes = λ r more g. lexes_more ts0 false 0 ((u0 ++ octets) ++ r) b.colon b.end ((b.since ++ front) ++ r) t (over ++ r)
                    (subst (λ l. LexesTo false 0 l ts0 b.colon b.end ((b.since ++ front) ++ r)) (sym (append_assoc u0 octets r))
                    (subst (λ l. LexesTo false 0 (u0 ++ (octets ++ r)) ts0 b.colon b.end l)
                    (ap (λ l. b.since ++ (l ++ r)) same.0 ∙ sym (append_assoc b.since front r))
                    (b.lexes (octets ++ r) (more0 ++ more) (ap (λ l. octets ++ l) g ∙ sym (append_assoc octets (x ∷ []) more) ∙ ap (λ l. l ++ more) e
                    ∙ append_assoc ahead0 more0 more))))
                    (subst (λ l. BeginsWith b.colon b.end ((b.since ++ front) ++ l) t (over ++ l)) (ap (λ (z : ℕ). z ∷ more) (sym same.1) ∙ sym g)
                    (begins_with t.place b.colon b.end (b.since ++ front) over (y ∷ []) t.lexeme s more is (pass_front ts0 t pass).1));
              }
            where
              last_same : (xs ys : List ℕ) (x y : ℕ) (rest : List ℕ) → xs ++ x ∷ [] ≡ ys ++ y ∷ rest → length xs ≡ length ys → (xs ≡ ys) × (x ≡ y)
              last_same [] [] x y rest e f = (refl, ap (λ l. Rattle.std.specs.Prelude.slice_index l 0) e)
              last_same (a ∷ xs) (b ∷ ys) x y rest e f =
                  let heads : a ≡ b = ap (λ l. Rattle.std.specs.Prelude.slice_index l 0) e in
                  let rests = last_same xs ys x y rest (ap (λ l. Rattle.std.specs.Prelude.drop 1 l) e) (omega arith) in
                  ((λ i. heads i ∷ rests.0 i), rests.1)
              last_same _ _ x y rest e f = absurd (omega arith)
