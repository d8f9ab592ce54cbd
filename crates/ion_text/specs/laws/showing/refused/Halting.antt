-- Where an octet is refused: the whole pieces in front of it and of what follows, and octets behind it that show what has ended.
use Rattle.std.proofs.Common.{◌≡◌, ℕ, ◌≤◌, Bool, List, [], ◌∷◌, ◌++◌, refl, ap, ◌∙◌, subst, arith, append-nil, ◌⊎◌, inl, inr}
use Rattle.ion_text.specs.Names.{AreOctets, Catalog, Continues, Given, Known, Left, Lexeme, Limits, Mode, Next, Outcome, Place, Refused, Scanned, Value, ends_long, feed, follow, is_top, place, scan as run}
use Rattle.ion_tokens.proofs.complete.Moves.{at}
use Rattle.ion_tokens.proofs.histories.Escapes.{escape}
use Rattle.ion_tokens.proofs.runs.Runs.{feed_used}
use Rattle.ion_tokens.proofs.sound.Holds.{Sound}
use Rattle.ion_tokens.proofs.sound.Sounds.{feed_sound}
use Rattle.ion_text.specs.laws.reading.complete.Meets.{finely_as, one_given}
use Rattle.ion_text.specs.laws.reading.sound.Admits.{no_item}
use Rattle.ion_text.specs.laws.reading.sound.Held.{ApartAt, IsLongNow, NoSegment}
use Rattle.ion_text.specs.laws.showing.refused.Ahead.{octet_colons, octet_quotes}
use Rattle.ion_text.specs.laws.showing.refused.Halts.{Halted}
use Rattle.ion_text.specs.laws.showing.shown.Fronts.{Fronted, NoColonsFollow, NoQuotesFollow, continues, front_before}
use Rattle.ion_text.specs.laws.showing.shown.Longest.{escaped}
use Rattle.ion_text.specs.laws.showing.tokens.Cuts.{Is, OpenBehind, behind_tokens}
use Rattle.ion_text.specs.laws.showing.tokens.Froms.{fresh_parts}

module _ (g : Catalog) (l : Limits) (u : List ℕ) (o : ℕ) (vs : List Value) (h : Halted g l u o vs) where
  open h use {s, r}

  abbrev p : Place
  p = place h.r

  abbrev pub k : OpenBehind p s u (h.b.front ++ h.b.item) h.ahead
  k = behind_tokens p s u (h.b.front ++ h.b.item) h.ahead h.b.scanned

  no_colons : NoColonsFollow g l u vs s r h.ahead (o ∷ []) (ApartAt o s r) h.b h.next
  no_colons fresh c following b =
      octet_colons p k.end k.since s o h.b.sane (subst (λ (x : Bool). run p k.since (at Mode.Blank [] x k.end k.end) ≡ Next s) c k.reached)
      (h.kept.colons fresh (k.holds.flag ∙ c)) following b

  no_quotes : NoQuotesFollow g l u vs s r h.ahead (o ∷ []) (ApartAt o s r) h.b h.next
  no_quotes fresh c following b = by (h.b.apart (ap ends_long (ap (λ x. h.b.front ++ x) (no_item g l Scanned u vs s r h.ahead (ApartAt o s r) h.b fresh)
      ∙ append-nil h.b.front) ∙ c))
    where
      by : IsLongNow r.now ⊎ ApartAt o s r → ⊥
      by (inl i) = subst IsLongNow (fresh_parts r.start r.context r.frames r.notes r.now fresh).2 i
      by (inr i) =
          octet_quotes p k.end k.since s o h.b.sane k.colon k.reached
          (subst (λ x. NoSegment x (feed p s o)) (ap is_top (fresh_parts r.start r.context r.frames r.notes r.now fresh).0) i) (h.kept.bare fresh c) following b

  -- Whole pieces stand in front of the octet, whatever follows it.
  pub halted_front : Fronted g l (u ++ o ∷ []) vs s r
  halted_front = front_before g l u vs s r h.ahead (o ∷ []) (ApartAt o s r) h.b h.next no_colons no_quotes

  -- what stands in front of the octet goes on with it, and with what follows
  pub follows : (following : List ℕ) → Continues (o ∷ following) h.ahead
  follows following = continues g l u vs s r h.ahead (o ∷ []) (ApartAt o s r) h.b h.next following

  -- octets behind it that end no token that had ended in front of it, but one that it leaves
  pub record Chosen : Type 0 where
    pub octets : List ℕ
    pub are : AreOctets octets
    pub ends : (z : Lexeme) → Is p z (run p (o ∷ octets) s) → z.end ≤ s.used → (t : Known) × (feed p s o ≡ Left z t)

  -- there are octets behind a refused one that end no token which ended in front, but one that it leaves
  pub chosen : Chosen
  chosen = go (feed p s o) refl
    where
      go : (x : Outcome) → feed p s o ≡ x → Chosen
      go (Next t) e =
          let f = escape p k.colon k.end t (k.since ++ o ∷ []) (subst (λ y. Sound p k.colon k.end k.since o y) e
          (feed_sound p k.colon k.end s k.since o k.holds)) in
          record {
            octets = f.octets;
            are = f.are;
            ends = λ z i n.
                absurd (escaped p t f.octets z f.escapes (subst (λ y. Is p z (follow y (λ t. run p f.octets t))) e i) (let used = feed_used p s t o e in
                omega (arith, n, used)));
          }
      go (Given y t) e = record {
        octets = [];
        are = tt;
        ends = λ z i n.
            let same : y ≡ z = subst (λ x. Is p z (follow x (λ t. run p [] t))) e i in
            absurd (omega (arith, n, ap (λ (x : Lexeme). x.end) same, (finely_as p s o (Given y t) h.b.fine e).4, one_given p s t o y e));
      }
      go (Left y t) e = record {
        octets = [];
        are = tt;
        ends = λ z i n. (t, subst (λ x. feed p s o ≡ Left x t) (subst (λ x. Is p z (follow x (λ t. run p [] t))) e i) e);
      }
      go (Refused n q) e = record { octets = []; are = tt; ends = λ z i n. absurd (subst (λ x. Is p z (follow x (λ t. run p [] t))) e i) }
