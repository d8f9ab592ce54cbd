-- Clobs and blobs are read as they are spelled.
use Rattle.std.proofs.Common.{◌≡◌, ◌≢◌, ℕ, ◌+◌, Bool, true, false, List, [], ◌∷◌, ◌++◌, refl, sym, ap, ◌∙◌, subst, arith, append_assoc, append-nil, cond}
use Rattle.std.specs.Prelude.{◌||◌, not, codes, Some}
use Rattle.std.specs.List.{flat_map, filter, AllByRecursion}
use Rattle.std.proofs.lemmas.Bool.Decides.{nat_tests}
use Rattle.base64.specs.Engines.{standard}
use Rattle.base64.specs.GeneralPurpose.{decode_of, decoded_of}
use Rattle.std.specs.Result.{result_ok}
use Rattle.base64.proofs.EngineFacts.{decode_of-encode_of}
use Rattle.ion_tokens.specs.Names.{Action, BeginsSegment, Each, IsBase64, IsBlobContent, IsClobContent, IsQuoted, IsSegment, Keep, Lob, LongTexts, Mode, Place, Segment, ShortText, Style, TokenKind, Within, blob_ends, blob_of, follow, in_text, is_base64, is_name, is_white, lob_start, run, segment_spelling}
use Rattle.ion_tokens.specs.laws.Blobs.{octet_at}
use Rattle.ion_tokens.proofs.complete.Moves.{Moves, Opens, Takes, at, moves_none, moves_one, moves_past, moves_then, moves_to, opens_then, takes_now}
use Rattle.ion_tokens.proofs.complete.TakesTexts.{drops_two, long_quotes}
use Rattle.ion_tokens.proofs.complete.TakesWords.{opens_brace}
use Rattle.ion_tokens.proofs.texts.TextsComplete.{Ended, read_content}

abbrev lob : Lob → Mode
lob l = Mode.Lob l

pub opens_lob : (p : Place) (colon : Bool) → is_name p ≡ false → Opens p colon (123 ∷ 123 ∷ []) (lob Lob.Start) []
opens_lob p colon n = opens_then (opens_brace p colon n) (moves_one p Mode.Brace 123 [] (lob Lob.Start) Keep.Nothing (λ s u. refl) (λ c. refl))

start_white : (o : ℕ) → is_white o ≡ true → lob_start o ≡ Action.Go (lob Lob.Start) Keep.Nothing
start_white o h = rw h

-- white space behind the braces is passed
pub white_moves : (p : Place) (before : List ℕ) → Each is_white before → Moves p (lob Lob.Start) [] before (lob Lob.Start) []
white_moves p before b = moves_past p (lob Lob.Start) is_white before [] (λ s u. refl) (λ o h c. start_white o h) b

short_closes : (v : Within) → Ended v → in_text Style.ShortClob v 34 ≡ Action.Go (lob Lob.AfterShort) Keep.Nothing
short_closes Within.Plain h = refl
short_closes Within.AfterReturn h = refl
short_closes _ h = absurd h

-- a short clob's content up to the first brace of its close, where its text leads from between two characters to between two
pub short_leads : (p : Place) (before text after octets : List ℕ) (v : Within) → Each is_white before → Ended v
    → Moves p (Mode.Text Style.ShortClob Within.Plain) [] text (Mode.Text Style.ShortClob v) octets → Each is_white after
    → Moves p (lob Lob.Start) [] ((before ++ (34 ∷ text) ++ 34 ∷ after) ++ 125 ∷ []) (lob Lob.ClobClose) octets
short_leads p before text after octets v b ended leads a =
    moves_then (moves_then (moves_then (white_moves p before b) (moves_then
    (moves_one p (lob Lob.Start) 34 [] (Mode.Text Style.ShortClob Within.Plain) Keep.Nothing (λ s u. refl) (λ c. refl)) leads)) (moves_then
    (moves_one p (Mode.Text Style.ShortClob v) 34 octets (lob Lob.AfterShort) Keep.Nothing (λ s u. refl) (λ c. short_closes v ended))
    (moves_past p (lob Lob.AfterShort) is_white after octets (λ s u. refl) (λ o h c. rw h) a)))
    (moves_one p (lob Lob.AfterShort) 125 octets (lob Lob.ClobClose) Keep.Nothing (λ s u. refl) (λ c. refl))

short_moves : (p : Place) (before text after octets : List ℕ) → Each is_white before → IsQuoted Style.ShortClob text octets → Each is_white after
    → Moves p (lob Lob.Start) [] ((before ++ (34 ∷ text) ++ 34 ∷ after) ++ 125 ∷ []) (lob Lob.ClobClose) octets
short_moves p before text after octets b q a =
    let c = read_content p Style.ShortClob text octets [] q in
    short_leads p before text after octets c.0 b c.1 c.2 a

-- the quotes that open a segment
three_quotes : (p : Place) (l : Lob) (kept : List ℕ) → BeginsSegment l → Moves p (lob l) kept (39 ∷ 39 ∷ 39 ∷ []) (Mode.Text Style.LongClob Within.Plain) kept
three_quotes p Lob.Start kept b = record {
  on = λ colon start used r. let three : ((used + 1) + 1) + 1 ≡ used + 3 = omega arith in
      ap (λ (n : ℕ). run p r (at (Mode.Text Style.LongClob Within.Plain) kept colon start n)) three;
}
three_quotes p Lob.AfterLong kept b = record {
  on = λ colon start used r. let three : ((used + 1) + 1) + 1 ≡ used + 3 = omega arith in
      ap (λ (n : ℕ). run p r (at (Mode.Text Style.LongClob Within.Plain) kept colon start n)) three;
}
three_quotes p _ kept b = absurd b

segment_cut : (text white : List ℕ) → (39 ∷ 39 ∷ 39 ∷ []) ++ (((text ++ 39 ∷ 39 ∷ []) ++ 39 ∷ []) ++ white) ≡ codes "'''" ++ text ++ codes "'''" ++ white
segment_cut text white = ap (λ l. 39 ∷ 39 ∷ 39 ∷ (l ++ white)) (append_assoc text (39 ∷ 39 ∷ []) (39 ∷ []))

-- a segment of a long clob and white space behind it, where its text leads from between two characters to where it may end
pub segment_leads : (p : Place) (l : Lob) (v : Within) (text white kept kept' : List ℕ) → BeginsSegment l → Ended v
    → Moves p (Mode.Text Style.LongClob Within.Plain) kept text (Mode.Text Style.LongClob v) kept' → Each is_white white
    → Moves p (lob l) kept (codes "'''" ++ text ++ codes "'''" ++ white) (lob Lob.AfterLong) kept'
segment_leads p l v text white kept kept' b ended leads w =
    let open_end : List ℕ = (kept' ++ 39 ∷ []) ++ 39 ∷ [] in
    subst (λ os. Moves p (lob l) kept os (lob Lob.AfterLong) kept') (segment_cut text white) (moves_then (three_quotes p l kept b) (moves_then
    (moves_then (long_quotes p Style.LongClob v text kept kept' refl ended leads) (moves_to (drops_two kept' 39 39)
    (moves_one p (Mode.Text Style.LongClob Within.TwoQuotes) 39 open_end (lob Lob.AfterLong) Keep.DropQuotes (λ s u. refl) (λ c. refl))))
    (moves_past p (lob Lob.AfterLong) is_white white kept' (λ s u. refl) (λ o h c. rw h) w)))

segment_moves : (p : Place) (l : Lob) (kept : List ℕ) (g : Segment) → BeginsSegment l → IsSegment g
    → Moves p (lob l) kept (segment_spelling g) (lob Lob.AfterLong) (kept ++ g.octets)
segment_moves p l kept g b (q, w) =
    let c = read_content p Style.LongClob g.content g.octets kept q in
    segment_leads p l c.0 g.content g.white kept (kept ++ g.octets) b c.1 c.2 w

segments_move : (p : Place) (l : Lob) (kept : List ℕ) (g : Segment) (gs : List Segment) → BeginsSegment l → IsSegment g → AllByRecursion IsSegment gs
    → Moves p (lob l) kept (flat_map segment_spelling (g ∷ gs)) (lob Lob.AfterLong) (kept ++ flat_map (λ (s : Segment). s.octets) (g ∷ gs))
segments_move p l kept g [] b h hs =
    subst (λ os. Moves p (lob l) kept os (lob Lob.AfterLong) (kept ++ (g.octets ++ []))) (sym (append-nil (segment_spelling g))) (moves_to
    (ap (λ x. kept ++ x) (sym (append-nil g.octets))) (segment_moves p l kept g b h))
segments_move p l kept g (g' ∷ gs) b h hs =
    let octets : Segment → List ℕ = λ (s : Segment). s.octets in
    moves_to (append_assoc kept g.octets (flat_map octets (g' ∷ gs))) (moves_then
    (segment_moves p l kept g b h) (segments_move p Lob.AfterLong (kept ++ g.octets) g' gs tt hs.0 hs.1))

long_moves : (p : Place) (before : List ℕ) (gs : List Segment) → Each is_white before → gs ≢ [] → AllByRecursion IsSegment gs
    → Moves p (lob Lob.Start) [] ((before ++ flat_map segment_spelling gs) ++ 125 ∷ []) (lob Lob.ClobClose) (flat_map (λ (s : Segment). s.octets) gs)
long_moves p before [] b some h = absurd (some refl)
long_moves p before (g ∷ gs) b some h =
    let octets : List ℕ = flat_map (λ (s : Segment). s.octets) (g ∷ gs) in
    moves_then (moves_then (white_moves p before b) (segments_move p Lob.Start [] g gs tt h.0 h.1))
    (moves_one p (lob Lob.AfterLong) 125 octets (lob Lob.ClobClose) Keep.Nothing (λ s u. refl) (λ c. refl))

clob_moves : (p : Place) (content octets : List ℕ) → IsClobContent content octets
    → Moves p (lob Lob.Start) [] (content ++ 125 ∷ []) (lob Lob.ClobClose) octets
clob_moves p content octets (ShortText before text after b q a e) =
    subst (λ l. Moves p (lob Lob.Start) [] (l ++ 125 ∷ []) (lob Lob.ClobClose) octets) (sym e) (short_moves p before text after octets b q a)
clob_moves p content octets (LongTexts before gs b some h e m) =
    subst (λ l. Moves p (lob Lob.Start) [] (l ++ 125 ∷ []) (lob Lob.ClobClose) octets) (sym e)
    (subst (λ x. Moves p (lob Lob.Start) [] ((before ++ flat_map segment_spelling gs) ++ 125 ∷ []) (lob Lob.ClobClose) x) (sym m)
    (long_moves p before gs b some h))

lob_cut : (content : List ℕ) → (123 ∷ 123 ∷ (content ++ 125 ∷ [])) ++ 125 ∷ [] ≡ codes "{{" ++ content ++ codes "}}"
lob_cut content = ap (λ l. 123 ∷ 123 ∷ l) (append_assoc content (125 ∷ []) (125 ∷ []))

-- a clob is read as the octets that its content means
pub takes_clob : (p : Place) (colon : Bool) (content octets r : List ℕ) → is_name p ≡ false → IsClobContent content octets
    → Takes p colon (codes "{{" ++ content ++ codes "}}") r TokenKind.Clob octets
takes_clob p colon content octets r n h =
    subst (λ l. Takes p colon l r TokenKind.Clob octets) (lob_cut content) (takes_now 125 Keep.Nothing (λ s u. refl)
    (opens_then (opens_lob p colon n) (clob_moves p content octets h)) (λ c. refl))

-- blobs
abbrev AnyBlob : ℕ → Bool
AnyBlob o = is_white o || is_base64 o

solid : List ℕ → List ℕ
solid os = filter (λ o. not (is_white o)) os

base_moves : (p : Place) (os kept : List ℕ) → Each AnyBlob os → Moves p (lob Lob.Base64) kept os (lob Lob.Base64) (kept ++ solid os)
unfolding solid
base_moves p [] kept h = moves_to (sym (append-nil kept)) (moves_none)
base_moves p (o ∷ os) kept h = by (is_white o) refl h.0 (λ k. base_moves p os k h.1) where
  by : (b : Bool) → is_white o ≡ b → (b || is_base64 o) ≡ true → ((k : List ℕ) → Moves p (lob Lob.Base64) k os (lob Lob.Base64) (k ++ solid os))
      → Moves p (lob Lob.Base64) kept (o ∷ os) (lob Lob.Base64) (kept ++ cond (not b) (o ∷ solid os) (solid os))
  by true e g f = moves_then (moves_one p (lob Lob.Base64) o kept (lob Lob.Base64) Keep.Nothing (λ s u. refl) (λ c. rw e)) (f kept)
  by false e g f = moves_to (append_assoc kept (o ∷ []) (solid os)) (moves_then
      (moves_one p (lob Lob.Base64) o kept (lob Lob.Base64) (Keep.One o) (λ s u. refl) (λ c. grind (arith, nat_tests))) (f (kept ++ o ∷ [])))

-- where a blob may end
abbrev LobEnds : Lob → Type 0
LobEnds Lob.Start = Unit {0}
LobEnds Lob.Base64 = Unit {0}
LobEnds _ = ⊥

abbrev ToEnd : Place → List ℕ → List ℕ → Type 0
ToEnd p os kept = (l : Lob) × LobEnds l × Moves p (lob Lob.Start) [] os (lob l) kept

start_moves : (p : Place) (os : List ℕ) → Each AnyBlob os → ToEnd p os (solid os)
unfolding solid
start_moves p [] h = (Lob.Start, tt, moves_none)
start_moves p (o ∷ os) h = by (is_white o) refl h.0 (start_moves p os h.1) where
  by : (b : Bool) → is_white o ≡ b → (b || is_base64 o) ≡ true → ToEnd p os (solid os) → ToEnd p (o ∷ os) (cond (not b) (o ∷ solid os) (solid os))
  by true e g m = (
    m.0,
    m.1,
    moves_then (moves_one p (lob Lob.Start) o [] (lob Lob.Start) Keep.Nothing (λ s u. refl) (λ c. start_white o e)) m.2,
  )
  by false e g m = (
    Lob.Base64,
    tt,
    moves_then
        (moves_one p (lob Lob.Start) o [] (lob Lob.Base64) (Keep.One o) (λ s u. refl) (λ c. grind (arith, nat_tests))) (base_moves p os (o ∷ []) h.1),
  )

blob_closes : (p : Place) (l : Lob) (kept octets : List ℕ) → LobEnds l → blob_of kept ≡ Some octets
    → Moves p (lob l) kept (125 ∷ []) (lob Lob.BlobClose) octets
blob_closes p Lob.Start kept octets h e =
    record { on = λ colon start used r. ap (λ x. follow (blob_ends (at (lob Lob.Start) kept colon start used) x) (λ t. run p r t)) e }
blob_closes p Lob.Base64 kept octets h e =
    record { on = λ colon start used r. ap (λ x. follow (blob_ends (at (lob Lob.Base64) kept colon start used) x) (λ t. run p r t)) e }
blob_closes p _ kept octets h e = absurd h

-- RFC 4648's text of octets decodes to them
pub blob_known : (text octets : List ℕ) → IsBase64 text octets → blob_of text ≡ Some octets
unfolding blob_of decoded_of
blob_known text octets h = ap result_ok (ap (decode_of standard) h.spelled ∙ decode_of-encode_of standard octets refl (octet_at octets h.octets_are))

-- two braces and a blob's content, up to the first brace of its close
pub opens_blob : (p : Place) (colon : Bool) (content octets : List ℕ) → is_name p ≡ false → Each (λ o. is_white o || is_base64 o) content
    → blob_of (filter (λ o. not (is_white o)) content) ≡ Some octets → Opens p colon (123 ∷ 123 ∷ (content ++ 125 ∷ [])) (lob Lob.BlobClose) octets
unfolding solid
opens_blob p colon content octets n h e =
    let m = start_moves p content h in
    opens_then (opens_lob p colon n) (moves_then m.2 (blob_closes p m.0 (solid content) octets m.1 e))

-- a blob is read as the octets for which its base64 stands
pub takes_blob : (p : Place) (colon : Bool) (content octets r : List ℕ) → is_name p ≡ false → IsBlobContent content octets
    → Takes p colon (codes "{{" ++ content ++ codes "}}") r TokenKind.Blob octets
takes_blob p colon content octets r n h =
    subst (λ l. Takes p colon l r TokenKind.Blob octets) (lob_cut content) (takes_now 125 Keep.Nothing (λ s u. refl)
    (opens_blob p colon content octets n h.0 (blob_known (filter (λ o. not (is_white o)) content) octets h.1)) (λ c. refl))
