-- What the scanner tells of octets is so.
use Rattle.std.proofs.Common.{◌≡◌, ℕ, ◌+◌, Bool, List, [], ◌∷◌, ◌++◌, length, refl, sym, ap, ◌∙◌, subst, append_assoc, append-nil}
use Rattle.ion_tokens.specs.Names.{Given, Known, Left, Mode, Next, Outcome, Place, Refused, feed, follow, in_blank, in_slash, run}
use Rattle.ion_tokens.specs.machine.Table.{next}
use Rattle.ion_tokens.proofs.complete.Moves.{Stays, at}
use Rattle.ion_tokens.proofs.sound.Holds.{Holds, InMode, IsBegun, IsTold, Sound}
use Rattle.ion_tokens.proofs.sound.HoldsBlank.{blank_turned, block_turned, line_turned, slash_turned, star_turned}
use Rattle.ion_tokens.proofs.sound.HoldsStep.{turned}
use Rattle.ion_tokens.proofs.sound.Opens.{IsOpen, Turns}
use Rattle.ion_tokens.proofs.sound.TurnsBlanks.{blank_first, slash_second}
use Rattle.ion_tokens.proofs.sound.TurnsLobs.{lob_turns}
use Rattle.ion_tokens.proofs.sound.TurnsOperators.{infinity_turns, operator_slash_turns, operator_turns}
use Rattle.ion_tokens.proofs.sound.TurnsTexts.{quote_turns, quotes_turns, text_turns}
use Rattle.ion_tokens.proofs.sound.TurnsWords.{brace_turns, colon_turns, kind_turns, number_slash_turns, number_turns, word_turns}

module _ (p : Place) (colon : Bool) (k : ℕ) (start used : ℕ) (since : List ℕ) (o : ℕ) (uses : used ≡ k + length since) where
  in_token : (m : Mode) (kept : List ℕ) → Stays m → IsBegun p colon k m kept start since
      → ((w : List ℕ) → IsOpen p colon m w kept → Turns p colon w kept o (next p colon m o)) → Sound p colon k since o (feed p (at m kept colon start used) o)
  in_token m kept stays b f = subst (λ l. Sound p colon k l o (feed p (at m kept colon start used) o)) (sym b.cut)
      (turned p colon k m kept start used b.front b.token o b.blank stays b.begins (uses ∙ ap (λ l. k + length l) b.cut) (next p colon m o) (f b.token b.is))

  none_kept : (m : Mode) (kept : List ℕ) → kept ≡ [] → Sound p colon k since o (feed p (at m [] colon start used) o)
      → Sound p colon k since o (feed p (at m kept colon start used) o)
  none_kept m kept e h = subst (λ l. Sound p colon k since o (feed p (at m l colon start used) o)) (sym e) h

  mode_sound : (m : Mode) (kept : List ℕ) → InMode p colon k m kept start since → Sound p colon k since o (feed p (at m kept colon start used) o)
  mode_sound Mode.Blank kept (e, b) = none_kept Mode.Blank kept e
      (blank_turned p colon k start used since o uses (in_blank p colon o) b (blank_first p colon o))
  mode_sound Mode.Slash kept (e, front, b, c) = none_kept Mode.Slash kept e
      (slash_turned p colon k start used since o uses (in_slash p o) front b c (slash_second p colon o))
  mode_sound Mode.LineComment kept (e, c) = none_kept Mode.LineComment kept e (line_turned p colon k start used since o uses c)
  mode_sound Mode.BlockComment kept (e, c) = none_kept Mode.BlockComment kept e (block_turned p colon k start used since o uses c)
  mode_sound Mode.BlockCommentStar kept (e, c) = none_kept Mode.BlockCommentStar kept e (star_turned p colon k start used since o uses c)
  mode_sound Mode.Colon kept b = in_token Mode.Colon kept (λ s u. refl) b (λ w h. colon_turns p colon w kept o h)
  mode_sound Mode.Word kept b = in_token Mode.Word kept (λ s u. refl) b (λ w h. word_turns p colon w kept o h)
  mode_sound Mode.KindName kept b = in_token Mode.KindName kept (λ s u. refl) b (λ w h. kind_turns p colon w kept o h)
  mode_sound Mode.Number kept b = in_token Mode.Number kept (λ s u. refl) b (λ w h. number_turns p colon w kept o h)
  mode_sound Mode.NumberSlash kept b = in_token Mode.NumberSlash kept (λ s u. refl) b (λ w h. number_slash_turns p colon w kept o h)
  mode_sound (Mode.Operator e) kept b = in_token (Mode.Operator e) kept (λ s u. refl) b (λ w h. operator_turns p colon e w kept o h)
  mode_sound Mode.OperatorSlash kept b = in_token Mode.OperatorSlash kept (λ s u. refl) b (λ w h. operator_slash_turns p colon w kept o h)
  mode_sound (Mode.Infinity n) kept b = in_token (Mode.Infinity n) kept (λ s u. refl) b (λ w h. infinity_turns p colon n w kept o h)
  mode_sound Mode.Quote kept b = in_token Mode.Quote kept (λ s u. refl) b (λ w h. quote_turns p colon w kept o h)
  mode_sound Mode.Quotes kept b = in_token Mode.Quotes kept (λ s u. refl) b (λ w h. quotes_turns p colon w kept o h)
  mode_sound (Mode.Text s v) kept b = in_token (Mode.Text s v) kept (λ s u. refl) b (λ w h. text_turns p colon s v w kept o h)
  mode_sound Mode.Brace kept b = in_token Mode.Brace kept (λ s u. refl) b (λ w h. brace_turns p colon w kept o h)
  mode_sound (Mode.Lob l) kept b = in_token (Mode.Lob l) kept (λ s u. refl) b (λ w h. lob_turns p colon l w kept o h)

-- What comes of one octet is so.
pub feed_sound : (p : Place) (colon : Bool) (k : ℕ) (s : Known) (since : List ℕ) (o : ℕ) → Holds p colon k s since → Sound p colon k since o (feed p s o)
feed_sound p colon k s since o h = subst (λ c. Sound p colon k since o (feed p (at s.mode s.kept c s.start s.used) o)) (sym h.flag)
    (mode_sound p colon k s.start s.used since o h.used s.mode s.kept h.mode)

-- what comes of octets is so
abbrev pub RunSound : Place → Bool → ℕ → List ℕ → List ℕ → Outcome → Type 0
RunSound p colon k since octets (Next s) = Holds p colon k s (since ++ octets)
RunSound p colon k since octets (Given l s) = (front rest : List ℕ) × (octets ≡ front ++ rest) × IsTold p colon k (since ++ front) [] [] l s
RunSound p colon k since octets (Left l s) = (front : List ℕ) × (x : ℕ) × (rest ahead : List ℕ) × (octets ≡ front ++ x ∷ rest)
    × IsTold p colon k (since ++ front) ahead (x ∷ []) l s
RunSound p colon k since octets (Refused n r) = Unit {0}

one_before : (p : Place) (colon : Bool) (k : ℕ) (since octets : List ℕ) (o : ℕ) (x : Outcome) → RunSound p colon k (since ++ o ∷ []) octets x
    → RunSound p colon k since (o ∷ octets) x
one_before p colon k since octets o (Next s) h = subst (λ l. Holds p colon k s l) (append_assoc since (o ∷ []) octets) h
one_before p colon k since octets o (Given l s) (front, rest, e, h) =
    (o ∷ front, rest, ap (λ l. o ∷ l) e, subst (λ x. IsTold p colon k x [] [] l s) (append_assoc since (o ∷ []) front) h)
one_before p colon k since octets o (Left l s) (front, x, rest, ahead, e, h) =
    (o ∷ front, x, rest, ahead, ap (λ l. o ∷ l) e, subst (λ y. IsTold p colon k y ahead (x ∷ []) l s) (append_assoc since (o ∷ []) front) h)
one_before p colon k since octets o (Refused n r) h = tt

followed : (p : Place) (colon : Bool) (k : ℕ) (since octets : List ℕ) (o : ℕ) (x : Outcome) → Sound p colon k since o x
    → ((s : Known) → Holds p colon k s (since ++ o ∷ []) → RunSound p colon k (since ++ o ∷ []) octets (run p octets s))
    → RunSound p colon k since (o ∷ octets) (follow x (λ s. run p octets s))
followed p colon k since octets o (Next s) h f = one_before p colon k since octets o (run p octets s) (f s h)
followed p colon k since octets o (Given l s) h f = (o ∷ [], octets, refl, h)
followed p colon k since octets o (Left l s) (ahead, h) f =
    ([], o, octets, ahead, refl, subst (λ x. IsTold p colon k x ahead (o ∷ []) l s) (sym (append-nil since)) h)
followed p colon k since octets o (Refused n r) h f = tt

-- What comes of octets is so.
pub run_sound : (p : Place) (colon : Bool) (k : ℕ) (octets since : List ℕ) (s : Known) → Holds p colon k s since
    → RunSound p colon k since octets (run p octets s)
run_sound p colon k [] since s h = subst (λ l. Holds p colon k s l) (sym (append-nil since)) h
run_sound p colon k (o ∷ octets) since s h = followed p colon k since octets o (feed p s o) (feed_sound p colon k s since o h)
    (λ t g. run_sound p colon k octets (since ++ o ∷ []) t g)
