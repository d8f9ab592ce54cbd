-- Where an octet is refused and no item is open, no whole pieces go on behind the tokens told before it.
use Rattle.std.proofs.Common.{◌≡◌, ℕ, Bool, true, false, ◌&&◌, List, [], ◌∷◌, ◌++◌, Ok, refl, sym, ap, ◌∙◌, subst, append-nil, ◌⊎◌, inl, inr}
use Rattle.std.proofs.lemmas.Bool.{false_from_ne_true}
use Rattle.ion_text.specs.Names.{Catalog, Content, IsBody, Known, Left, Limits, Long, Mark, Mark', Place, Placed, Quoted, Slot, Stage, Turn, Value, Whole, at, continues, done, ends_long, feed, fresh, gives, goes, is_colons, is_fresh, is_quoted, is_segment, is_top, late, on_turn, place, reads, refuses, said, said_body, settle, system_slots, token_of, turn, unsettled}
use Rattle.ion_text.specs.machine.TokenLists.{walked}
use Rattle.ion_text.specs.laws.reading.complete.Complete.{segment_kind}
use Rattle.ion_text.specs.laws.reading.complete.Going.{Going, TurnGoes, going_said, going_settle, going_turn, mark_kind}
use Rattle.ion_text.specs.laws.reading.complete.Meets.{finely_as}
use Rattle.ion_text.specs.laws.reading.complete.Pieces.{GoesOn, ReadSoFar, pieces_read, quoted_kind, walked_now}
use Rattle.ion_text.specs.laws.reading.complete.Segments.{never}
use Rattle.ion_text.specs.laws.reading.complete.Tokens.{left_colons}
use Rattle.ion_text.specs.laws.reading.sound.Held.{ApartAt, IsLongNow, NoSegment}
use Rattle.ion_text.specs.laws.showing.refused.Halts.{Halted, ScanRefused, TurnRefuses}
use Rattle.ion_text.specs.laws.showing.shown.Fronts.{no_tokens}
use Rattle.ion_text.specs.laws.showing.tokens.Froms.{fresh_parts}
use Rattle.ion_text.specs.laws.showing.tokens.Once.{whole_going}
use Rattle.ion_text.specs.laws.showing.tokens.Walks.{behind_read}

module _ (g : Catalog) (l : Limits) where
  -- what refuses leads nowhere
  pub ends_goes : (x : Turn) (ts : List Placed) (all : List Value) → TurnRefuses g l x → TurnGoes g l x ts all → ⊥
  ends_goes (refuses z) ts all e d = d
  ends_goes (late z r) ts all e d = d
  ends_goes _ ts all e d = e

  -- what settles to a fresh reading goes on from there
  settled_fresh : (x : Turn) (later : List Value) (c : List Slot) (ts : List Placed) (all : List Value) → on_turn x done ≡ walked later (fresh c)
      → TurnGoes g l x ts all → (rest : List Value) × Going g l (fresh c) ts rest
  settled_fresh (goes r) later c ts all e d = (all, subst (λ n. Going g l n ts all) (walked_now g l [] later r (fresh c) e).1 d)
  settled_fresh (gives v r) later c ts all e d = (d.0, subst (λ n. Going g l n ts d.0) (walked_now g l (v ∷ []) later r (fresh c) e).1 d.2)
  settled_fresh _ later c ts all e d = absurd d

  module _ (u : List ℕ) (o : ℕ) (vs : List Value) (h : Halted g l u o vs) where
    open h use {s, r}

    abbrev p : Place
    p = place h.r

    -- a token that was left goes on with nothing that was settled
    pub left_plain : (z : Placed) (t : Known) (c : Content) → feed p s o ≡ Left z.lexeme t → said z.lexeme.kind z.lexeme.octets ≡ Ok c
        → (c ≡ Mark' Mark.Colons → ⊥) × ((w : List ℕ) → c ≡ Long w → ⊥)
    left_plain z t c e i =
        let body = said_body z.lexeme.kind z.lexeme.octets c i in (
          λ f. never (is_colons z.lexeme.kind) (left_colons p s t o z.lexeme h.b.sane e)
              (ap is_colons (mark_kind z.lexeme.kind z.lexeme.octets Mark.Colons (subst (λ y. IsBody z.lexeme.kind z.lexeme.octets (Ok y)) f body))),
          λ w f. never (is_segment z.lexeme.kind) (finely_as p s o (Left z.lexeme t) h.b.fine e).1
              (segment_kind z.lexeme.kind z.lexeme.octets w (subst (λ y. IsBody z.lexeme.kind z.lexeme.octets (Ok y)) f body)),
        )

    -- where nothing is open, a token that is left before the octet is the first of no piece
    module _ (none : h.b.item ≡ []) (v rest following : List ℕ) (t : List Value) (w : Whole g l v (rest ++ following) t) (z : Placed) (zs : List Placed)
        (e : w.tokens ≡ h.b.front ++ z ∷ zs) (k : Known) (left : feed p s o ≡ Left z.lexeme k) where
      new : is_fresh r ≡ true
      new = (no_tokens g l u vs s r h.ahead (o ∷ []) (ApartAt o s r) h.b h.next none).0

      parts : (r.frames ≡ []) × (r.notes ≡ []) × (r.now ≡ Stage.Ready)
      parts = fresh_parts r.start r.context r.frames r.notes r.now new

      d : ReadSoFar g l h.b.front vs r.context
      d = pieces_read g l h.b.front vs r.context h.b.pieces

      whole : Going g l (fresh system_slots) w.tokens t
      whole = whole_going g l v (rest ++ following) t w

      read : (ws : List Value) × (reads g l d.now (z ∷ zs) ≡ walked ws whole.n)
      read = behind_read g l h.b.front (z ∷ zs) (fresh system_slots) d.now whole.n d.given whole.vs d.read
          (ap (reads g l (fresh system_slots)) (sym e) ∙ whole.read)

      abbrev all : List Value
      all = read.0 ++ whole.later

      going : Going g l d.now (z ∷ zs) all
      going = record { vs = read.0; later = whole.later; n = whole.n; c = whole.c; read = read.1; ends = whole.ends; whole = refl }

      abbrev c : Content
      c = (going_said g l d.now z zs all going).1

      says : said z.lexeme.kind z.lexeme.octets ≡ Ok c
      says = (going_said g l d.now z zs all going).2

      plain : (c ≡ Mark' Mark.Colons → ⊥) × ((w : List ℕ) → c ≡ Long w → ⊥)
      plain = left_plain z k c left says

      -- behind a long string it is no `''`
      unquoted : ends_long h.b.front ≡ true → (x : List ℕ) → c ≡ Quoted x → ⊥
      unquoted long x f = by (h.b.apart (ap ends_long (ap (λ y. h.b.front ++ y) none ∙ append-nil h.b.front) ∙ long))
        where
          kind : is_quoted z.lexeme.kind ≡ true
          kind = ap is_quoted (quoted_kind z.lexeme.kind z.lexeme.octets x
              (subst (λ y. IsBody z.lexeme.kind z.lexeme.octets (Ok y)) f (said_body z.lexeme.kind z.lexeme.octets c says)))

          both : (a b : Bool) → a ≡ true → b ≡ true → (a && b) ≡ false → ⊥
          both true true i j q = cc
          both _ _ i j q = cc

          by : IsLongNow r.now ⊎ ApartAt o s r → ⊥
          by (inl i) = subst IsLongNow parts.2 i
          by (inr i) = both (is_top r.frames) (is_quoted z.lexeme.kind) (ap is_top parts.0) kind (subst (λ x. NoSegment (is_top r.frames) x) left i)

      settles : continues d.now (token_of z.lexeme c) ≡ false
      settles = false_from_ne_true (continues d.now (token_of z.lexeme c)) (λ f. none' (d.shuts (token_of z.lexeme c) f))
        where
          none' : (c ≡ Mark' Mark.Colons) ⊎ ((ends_long h.b.front ≡ true) × GoesOn (token_of z.lexeme c)) → ⊥
          none' (inl f) = plain.0 f
          none' (inr (long, inl (x, f))) = plain.1 x f
          none' (inr (long, inr (x, f, n))) = unquoted long x f

      on : (others : List Value) × Going g l (fresh r.context) (z ∷ zs) others
      on = settled_fresh (settle g l d.now) d.later r.context (z ∷ zs) all d.settles (going_settle g l d.now z zs all c going says settles)

      turned : TurnGoes g l (turn g l (fresh r.context) (token_of z.lexeme c)) zs on.0
      turned = going_turn g l (fresh r.context) z zs on.0 c on.1 says (inr refl)

      whole_reading : r ≡ at r.start r.context [] [] Stage.Ready
      whole_reading = ap (λ x. at r.start r.context x r.notes r.now) parts.0
          ∙ (ap (λ x. at r.start r.context [] x r.now) parts.1 ∙ ap (λ x. at r.start r.context [] [] x) parts.2)

      same : turn g l r (token_of z.lexeme c) ≡ turn g l (fresh r.context) (token_of z.lexeme c)
      same = ap (λ x. turn g l x (token_of z.lexeme c)) whole_reading

      still : settle g l r ≡ goes r
      still = ap (settle g l) whole_reading ∙ ap goes (sym whole_reading)

      -- where no item is open and the octet is refused, a token that it leaves begins no piece
      pub fresh_left : ⊥
      fresh_left = by h.stops
        where
          by : (((unsettled s r (feed p s o) ≡ true) ⊎ (settle g l r ≡ goes r)) × ScanRefused g l r (feed p s o))
              ⊎ ((unsettled s r (feed p s o) ≡ false) × TurnRefuses g l (settle g l r)) → ⊥
          by (inl (direct, i)) = ends_goes (turn g l (fresh r.context) (token_of z.lexeme c)) zs on.0
              (subst (TurnRefuses g l) same (subst (ScanRefused g l r) left i c says)) turned
          by (inr (shut, i)) = subst (TurnRefuses g l) still i
