-- Octets behind which `::`, or `''`, stands behind what waits at the top level.
use Rattle.std.proofs.Common.{◌≡◌, ℕ, true, false, ◌||◌, List, [], ◌∷◌, ◌++◌, refl, sym, ap, ◌∙◌, arith, append_assoc, append-nil, codes, Bool}
use Rattle.ion_text.specs.Names.{AreOctets, BlankPiece, BlankThen, BlockComment, IsBlank, IsBlankPiece, Known, LineComment, Mode, Place, Style, blank_spelling, is_idle, is_quoting}
use Rattle.ion_tokens.proofs.complete.Moves.{at}
use Rattle.ion_tokens.proofs.histories.Escapes.{Escape, Escapes, Goes, Grows, are_octets}
use Rattle.ion_tokens.proofs.sound.Holds.{InMode, IsOpenBlock, blank_more}

-- octets that show that no token has ended, and behind which these stand behind a blank
pub record Closing (s : Known) (since more : List ℕ) : Type 0 where
  pub octets : List ℕ
  pub are : AreOctets octets
  pub escapes : Escapes Place.Top s octets
  pub shows : BlankThen more (since ++ octets)

-- a piece of a blank ends, and then these octets stand
then_piece : (since front x octets more : List ℕ) (b : BlankPiece) → IsBlank front → IsBlankPiece b → since ≡ front ++ x → x ++ octets ≡ blank_spelling b
    ++ more → BlankThen more (since ++ octets)
then_piece since front x octets more b h i cut e = (
  front ++ blank_spelling b,
  [],
  blank_more front b h i,
  ap (λ l. l ++ octets) cut ∙ (append_assoc front x octets
      ∙ (ap (λ l. front ++ l) e ∙ (sym (append_assoc front (blank_spelling b) more) ∙ sym (append-nil ((front ++ blank_spelling b) ++ more))))),
)

-- where they begin with what stands behind a blank
then_front : (since front token octets more rest : List ℕ) → IsBlank front → since ≡ front ++ token → token ++ octets ≡ more ++ rest
    → BlankThen more (since ++ octets)
then_front since front token octets more rest h cut e = (
  front,
  rest,
  h,
  ap (λ l. l ++ octets) cut
      ∙ (append_assoc front token octets ∙ (ap (λ l. front ++ l) e ∙ sym (append_assoc front more rest))),
)

line_then : (c more : List ℕ) → (codes "//" ++ c) ++ (10 ∷ more) ≡ blank_spelling (LineComment c 10) ++ more
line_then c more = ap (λ l. 47 ∷ 47 ∷ l) (sym (append_assoc c (10 ∷ []) more))

block_then : (c more : List ℕ) → (codes "/*" ++ c) ++ (42 ∷ 47 ∷ more) ≡ blank_spelling (BlockComment c) ++ more
block_then c more = ap (λ l. 47 ∷ 42 ∷ l) (sym (append_assoc c (42 ∷ 47 ∷ []) more))

-- what ends a blank that is open
abbrev ends_blank : Mode → List ℕ
ends_blank Mode.Slash = codes "**/"
ends_blank Mode.LineComment = 10 ∷ []
ends_blank Mode.BlockComment = codes "*/"
ends_blank Mode.BlockCommentStar = codes "*/"
ends_blank _ = []

module _ (k : ℕ) (kept : List ℕ) (start used : ℕ) (since : List ℕ) where
  module _ (colon : Bool) (more : List ℕ) where
    -- octets that end the blank, and then these
    abbrev ClosesBlank : Mode → Type 0
    ClosesBlank m = InMode Place.Top colon k m kept start since → AreOctets (ends_blank m ++ more)
        → Escapes Place.Top (at m kept colon start used) (ends_blank m ++ more) → Closing (at m kept colon start used) since more

    closes : (m : Mode) → (InMode Place.Top colon k m kept start since → BlankThen more (since ++ (ends_blank m ++ more))) → ClosesBlank m
    closes m shows h are escapes = record { octets = ends_blank m ++ more; are = are; escapes = escapes; shows = shows h }

    after_blank : ClosesBlank Mode.Blank
    after_blank = closes Mode.Blank (λ h. then_front since since [] more more [] h.1 (sym (append-nil since)) (sym (append-nil more)))

    after_slash : ClosesBlank Mode.Slash
    after_slash = closes Mode.Slash (λ h. then_piece since h.1 (47 ∷ []) (codes "**/" ++ more) more (BlockComment []) h.2 tt h.3 refl)

    after_line : ClosesBlank Mode.LineComment
    after_line = closes Mode.LineComment (λ h. let c = h.1 in then_piece since c.front (codes "//" ++ c.octets) (10 ∷ more) more (LineComment c.octets 10)
        c.blank (c.one_line, refl) (c.cut ∙ append_assoc c.front (codes "//") c.octets) (line_then c.octets more))

    block_shows : (star : Bool) → IsOpenBlock since star → BlankThen more (since ++ (codes "*/" ++ more))
    block_shows star c = then_piece since c.front (codes "/*" ++ c.octets) (codes "*/" ++ more) more (BlockComment c.octets) c.blank c.no_close
        (c.cut ∙ append_assoc c.front (codes "/*") c.octets) (block_then c.octets more)

  -- Behind a symbol `::` comes.
  pub colons_close : (m : Mode) → is_idle m ≡ true → InMode Place.Top true k m kept start since → Closing (at m kept true start used) since (codes "::")
  colons_close Mode.Blank i h = after_blank true (codes "::") h (are_octets (codes "::") (refl, (refl, tt))) (Grows _ _ refl (omega arith))
  colons_close Mode.Slash i h =
      after_slash true (codes "::") h (are_octets (codes "**/::") (refl, (refl, (refl, (refl, (refl, tt)))))) (Grows _ _ refl (omega arith))
  colons_close Mode.LineComment i h =
      after_line true (codes "::") h (are_octets (10 ∷ codes "::") (refl, (refl, (refl, tt)))) (Grows _ _ refl (omega arith))
  colons_close Mode.BlockComment i h =
      closes true (codes "::") Mode.BlockComment (λ c. block_shows true (codes "::") false c.1) h
      (are_octets (codes "*/::") (refl, (refl, (refl, (refl, tt))))) (Grows _ _ refl (omega arith))
  colons_close Mode.BlockCommentStar i h =
      closes true (codes "::") Mode.BlockCommentStar (λ c. block_shows true (codes "::") true c.1) h
      (are_octets (codes "*/::") (refl, (refl, (refl, (refl, tt))))) (Grows _ _ refl (omega arith))
  colons_close Mode.Colon i h = record {
    octets = 58 ∷ [];
    are = are_octets (58 ∷ []) (refl, tt);
    escapes = Grows _ _ refl (omega arith);
    shows = then_front since h.front h.token (58 ∷ []) (codes "::") [] h.blank h.cut (ap (λ l. l ++ 58 ∷ []) (h.is.0));
  }
  colons_close Mode.Word i h = absurd cc
  colons_close _ i h = absurd cc

  -- where quotes are open already, any octets do that show that no token has ended
  open_quotes : (m : Mode) (rest : List ℕ) → (e : Escape Place.Top (at m kept false start used)) → (front token : List ℕ) → IsBlank front
      → since ≡ front ++ token → token ≡ 39 ∷ 39 ∷ rest → Closing (at m kept false start used) since (codes "''")
  open_quotes m rest e front token b cut f = record {
    octets = e.octets;
    are = e.are;
    escapes = e.escapes;
    shows = then_front since front token e.octets (codes "''") (rest ++ e.octets) b cut (ap (λ l. l ++ e.octets) f);
  }

  -- Behind a long string `''` comes.
  pub quotes_close : (m : Mode) → (is_idle m || is_quoting m) ≡ true → Escape Place.Top (at m kept false start used)
      → InMode Place.Top false k m kept start since → Closing (at m kept false start used) since (codes "''")
  quotes_close Mode.Blank i x h = after_blank false (codes "''") h (are_octets (codes "''") (refl, (refl, tt))) (Goes _ refl (omega arith) (λ x. cc))
  quotes_close Mode.Slash i x h =
      after_slash false (codes "''") h (are_octets (codes "**/''") (refl, (refl, (refl, (refl, (refl, tt)))))) (Goes _ refl (omega arith) (λ x. cc))
  quotes_close Mode.LineComment i x h =
      after_line false (codes "''") h (are_octets (10 ∷ codes "''") (refl, (refl, (refl, tt)))) (Goes _ refl (omega arith) (λ x. cc))
  quotes_close Mode.BlockComment i x h =
      closes false (codes "''") Mode.BlockComment (λ c. block_shows false (codes "''") false c.1) h
      (are_octets (codes "*/''") (refl, (refl, (refl, (refl, tt))))) (Goes _ refl (omega arith) (λ x. cc))
  quotes_close Mode.BlockCommentStar i x h =
      closes false (codes "''") Mode.BlockCommentStar (λ c. block_shows false (codes "''") true c.1) h
      (are_octets (codes "*/''") (refl, (refl, (refl, (refl, tt))))) (Goes _ refl (omega arith) (λ x. cc))
  quotes_close Mode.Colon i x h = absurd (let never : false ≡ true = (h.is).2 in cc)
  quotes_close Mode.Quote i x h = record {
    octets = 39 ∷ [];
    are = are_octets (39 ∷ []) (refl, tt);
    escapes = Goes _ refl (omega arith) (λ x. cc);
    shows = then_front since h.front h.token (39 ∷ []) (codes "''") [] h.blank h.cut (ap (λ l. l ++ 39 ∷ []) (h.is.0));
  }
  quotes_close Mode.Quotes i e h = open_quotes Mode.Quotes [] e h.front h.token h.blank h.cut (h.is.0)
  quotes_close (Mode.Text Style.LongString w) i e h = open_quotes (Mode.Text Style.LongString w) (39 ∷ (h.is).0) e h.front h.token h.blank h.cut (h.is).2
  quotes_close _ i e h = absurd cc
