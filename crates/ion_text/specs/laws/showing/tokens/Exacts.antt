-- What the octets since the last token say of the scanner: of open quotes, and of what may stand behind a long string.
use Rattle.std.proofs.Common.{◌≡◌, ℕ, Bool, true, false, List, [], ◌∷◌, ◌++◌, length, refl, sym, ap, ◌∙◌, subst, arith, append_assoc, length-append}
use Rattle.ion_text.specs.Names.{Catalog, Frame, Known, Limits, Mode, Place, Placed, Reading, Scanned, Stage, TokenKind, Value, is_top, place, takes_colon}
use Rattle.ion_tokens.proofs.sound.Holds.{Holds, InMode}
use Rattle.ion_text.specs.laws.reading.complete.Exact.{Exact, exact}
use Rattle.ion_text.specs.laws.reading.sound.Held.{Behind}
use Rattle.ion_text.specs.laws.reading.sound.StandsOpen.{LongFor, NowStands}
use Rattle.ion_text.specs.laws.showing.shown.Opened.{colon_last, segments_last}
use Rattle.ion_text.specs.laws.showing.tokens.Cuts.{behind_tokens, lexed_front}

-- open quotes have their octets
pub exact_at : (p : Place) (colon : Bool) (k : ℕ) (s : Known) (since : List ℕ) → Holds p colon k s since → Exact s
exact_at p colon k s since h = record { is = go s.mode h.mode }
  where
    go : (m : Mode) → InMode p colon k m s.kept s.start since → exact m s.start s.used
    go Mode.Quote i = omega (arith, h.used, i.begins, ap length i.cut, length-append i.front i.token, ap length (i.is).0)
    go Mode.Quotes i = omega (arith, h.used, i.begins, ap length i.cut, length-append i.front i.token, ap length (i.is).0)
    go _ i = tt

-- behind a long string that waits at the top level no colon may stand
pub long_colon : (g : Catalog) (l : Limits) (u : List ℕ) (vs : List Value) (s : Known) (r : Reading) (ahead : List ℕ) (A : Type 0)
    (b : Behind g l Scanned u vs s r ahead A) → s.used ≡ length u → (w : List ℕ) (end : ℕ) → r.now ≡ Stage.Long w end → r.frames ≡ [] → s.colon ≡ false
long_colon g l u vs s r ahead A b used w end e top = go b.item refl
  where
    d : LongFor r.context [] r.notes w b.item
    d = subst (λ n. NowStands r.context [] r.notes b.item n) e (subst (λ fs. NowStands r.context fs r.notes b.item r.now) top b.stands)

    last : (front : List Placed) × (y : Placed) × (d.segments ≡ front ++ y ∷ []) × (y.place ≡ Place.Top) × (y.lexeme.kind ≡ TokenKind.LongString)
    last = segments_last Place.Top d.segments w d.are

    whole : b.item ≡ (d.before ++ last.0) ++ last.1 ∷ []
    whole = d.whole ∙ (ap (λ y. d.before ++ y) last.2 ∙ sym (append_assoc d.before last.0 (last.1 ∷ [])))

    go : (item : List Placed) → b.item ≡ item → s.colon ≡ false
    go [] f = absurd (none (d.before ++ last.0) (sym f ∙ whole))
      where
        none : (xs : List Placed) → [] ≡ xs ++ last.1 ∷ [] → ⊥
        none [] h = cc
        none (x ∷ xs) h = cc
    go (x ∷ xs) f =
        let k = behind_tokens (place r) s u (b.front ++ b.item) ahead b.scanned in
        k.holds.flag
        ∙ (sym (colon_last g l u vs s r ahead A b used x xs f (b.front ++ (d.before ++ last.0)) last.1
        (ap (λ y. b.front ++ y) whole ∙ sym (append_assoc b.front (d.before ++ last.0) (last.1 ∷ []))))
        ∙ (ap (λ q. takes_colon q (last.1).lexeme.kind) last.3 ∙ ap (takes_colon Place.Top) last.4))

-- the octets used are those before
pub behind_used : (g : Catalog) (l : Limits) (u : List ℕ) (vs : List Value) (s : Known) (r : Reading) (ahead : List ℕ) (A : Type 0)
    → Behind g l Scanned u vs s r ahead A → s.used ≡ length u
behind_used g l u vs s r ahead A b =
    let k = behind_tokens (place r) s u (b.front ++ b.item) ahead b.scanned in
    let x = lexed_front (b.front ++ b.item) false 0 (u ++ (ahead ++ [])) k.colon k.end (k.since ++ (ahead ++ [])) (k.lexes (ahead ++ []) ([], refl)) in
    omega (
      arith,
      k.holds.used,
      x.2,
      ap length x.1,
      length-append u (ahead ++ []),
      length-append x.0 (k.since ++ (ahead ++ [])),
      length-append k.since (ahead ++ []),
    )

-- no container is open
pub top_none : (fs : List Frame) → is_top fs ≡ true → fs ≡ []
top_none [] e = refl
top_none (f ∷ fs) e = absurd cc
