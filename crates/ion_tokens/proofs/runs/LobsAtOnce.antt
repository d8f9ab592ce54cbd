-- How octets in memory show that a blob or a clob stands whole at their front.
use Rattle.std.proofs.Common.{◌≡◌, ℕ, ◌+◌, ◌<◌, suc, false, List, [], ◌∷◌, ◌++◌, length, length-append, length-drop, take, drop, drop-cons, add-one, refl, sym, ap, ◌∙◌, subst, arith, append_assoc, append-nil, cond, take-append-drop}
use Rattle.std.specs.Prelude.{not, slice_index, codes, Some}
use Rattle.std.specs.List.{take_while}
use Rattle.std.proofs.Math.Seq.{take-add, take-append_seam}
use Rattle.std.proofs.lemmas.List.{get_or-drop, length-take-le}
use Rattle.std.proofs.lemmas.List.Elements.{filter-append}
use Rattle.ion_tokens.specs.Names.{AddsBase64, AddsSegments, BeginsSegment, Each, IsFound, Keep, LeadsOn, Lob, Mode, Place, Rest, Style, TokenKind, Within, blob_of, is_base64, is_name, is_white}
use Rattle.ion_tokens.specs.machine.Table.{next}
use Rattle.ion_tokens.specs.laws.Each.{each_append}
use Rattle.ion_tokens.proofs.complete.Moves.{Moves, Opens, moves_one, moves_then, opens_then}
use Rattle.ion_tokens.proofs.complete.TakesLobs.{opens_blob, opens_lob, segment_leads, short_leads, white_moves}
use Rattle.ion_tokens.proofs.runs.WholeTokens.{front_each, front_within, given_behind, opened_given}
use Rattle.ion_tokens.proofs.sound.Opens.{AnyBlob, solid}
use Rattle.ion_tokens.proofs.sound.TurnsLobs.{base_any, solid_none, white_any}
use Rattle.ion_tokens.proofs.texts.TextElements.{led}

base64_in : (os : List ℕ) → Each is_base64 os → Each AnyBlob os × (solid os ≡ os)
base64_in [] h = (tt, refl)
base64_in (o ∷ os) h =
    let more = base64_in os h.1 in
    let is = base_any o h.0 in
    ((is.0, more.0), ap (λ b. cond (not b) (o ∷ solid os) (solid os)) is.1 ∙ ap (λ l. o ∷ l) more.1)

-- nothing adds nothing
pub none_adds : (kept : List ℕ) → AddsBase64 [] kept kept
none_adds kept = (tt, sym (append-nil kept))

-- of white octets nothing is kept
pub white_adds : (octets kept : List ℕ) (n : ℕ) → n ≡ length (take_while is_white octets) → AddsBase64 (take n octets) kept kept
white_adds octets kept n e =
    let all = front_each is_white octets n e in
    (white_any (take n octets) all, sym (append-nil kept) ∙ ap (λ l. kept ++ l) (sym (solid_none (take n octets) all)))

-- base64 without white space is kept as it is
pub solid_adds : (octets kept : List ℕ) → Each is_base64 octets → AddsBase64 octets kept (kept ++ octets)
solid_adds octets kept h = let all = base64_in octets h in (all.0, ap (λ l. kept ++ l) (sym all.1))

-- so is that at the front
pub base64_adds : (octets kept kept' : List ℕ) (n : ℕ) → n ≡ length (take_while is_base64 octets) → kept' ≡ kept ++ take n octets
    → AddsBase64 (take n octets) kept kept'
base64_adds octets kept kept' n e is = subst (AddsBase64 (take n octets) kept) (sym is) (solid_adds (take n octets) kept (front_each is_base64 octets n e))

-- more content behind some
pub adds_then : (octets rest kept kept' kept'' : List ℕ) (at n : ℕ) → rest ≡ drop at octets → AddsBase64 (take at octets) kept kept'
    → AddsBase64 (take n rest) kept' kept'' → AddsBase64 (take (at + n) octets) kept kept''
adds_then octets rest kept kept' kept'' at n is f g =
    subst (λ w. AddsBase64 w kept kept'') (ap (λ w. take at octets ++ take n w) is ∙ sym (take-add at n octets)) (
      each_append AnyBlob (take at octets) (take n rest) f.0 g.0,
      g.1 ∙ ap (λ l. l ++ solid (take n rest)) f.1 ∙ append_assoc kept (solid (take at octets)) (solid (take n rest))
          ∙ ap (λ l. kept ++ l) (sym (filter-append (λ o. not (is_white o)) (take at octets) (take n rest))),
    )

-- content of which the base64 is that of octets stands whole between two braces and two as a blob
pub blob_stands : (content text octets us : List ℕ) (n : ℕ) → n < length content → drop n content ≡ 125 ∷ 125 ∷ us
    → AddsBase64 (take n content) [] text → blob_of text ≡ Some octets → (p : Place) → is_name p ≡ false
    → (r : Rest) → IsFound p r (123 ∷ 123 ∷ content) TokenKind.Blob octets (n + 4) false
blob_stands content text octets us n more shuts adds says p name r =
    let all : List ℕ = 123 ∷ 123 ∷ content in
    let three : n + 3 ≡ suc (suc (n + 1)) = omega arith in
    let size : n + 3 + 1 ≡ n + 4 = omega arith in
    let front : take (n + 3) all ≡ 123 ∷ 123 ∷ (take n content ++ 125 ∷ []) =
    ap (λ (i : ℕ). take i all) three ∙ ap (λ w. 123 ∷ 123 ∷ w) (take-add n 1 content ∙ ap (λ w. take n content ++ take 1 w) shuts) in
    let last : slice_index all (n + 3) ≡ 125 =
    ap (λ (i : ℕ). slice_index all i) three ∙ sym (get_or-drop n content 1 0) ∙ ap (λ w. slice_index w 1) shuts in
    let fits : n + 3 < length all = let k = ap (λ (w : List ℕ). length w) shuts in let l = length-drop n content in omega arith in
    subst (λ (i : ℕ). IsFound p r all TokenKind.Blob octets i false) size
    (opened_given p r all (n + 3) TokenKind.Blob (Mode.Lob Lob.BlobClose) octets Keep.Nothing
    (subst (λ w. Opens p r.colon w (Mode.Lob Lob.BlobClose) octets) (sym front)
    (opens_blob p r.colon (take n content) octets name adds.0 (ap blob_of (sym adds.1) ∙ says)))
    (λ s u. refl) fits (ap (λ (x : ℕ). next p r.colon (Mode.Lob Lob.BlobClose) x) last))

-- so does content that is base64 alone
pub solid_stands : (content octets us : List ℕ) (n : ℕ) → n ≡ length (take_while is_base64 content) → drop n content ≡ 125 ∷ 125 ∷ us
    → blob_of (take n content) ≡ Some octets → (p : Place) → is_name p ≡ false
    → (r : Rest) → IsFound p r (123 ∷ 123 ∷ content) TokenKind.Blob octets (n + 4) false
solid_stands content octets us n e shuts says =
    let size = ap (λ (w : List ℕ). length w) shuts in
    let fits : n < length content = let l = length-drop n content in omega arith in
    blob_stands content (take n content) octets us n fits shuts (base64_adds content [] (take n content) n e refl) says

-- Clobs.

-- content that leads from the braces to the first of the close stands whole between them as a clob
clob_closes : (content us kept : List ℕ) (p : Place) → is_name p ≡ false
    → Moves p (Mode.Lob Lob.Start) [] (content ++ 125 ∷ []) (Mode.Lob Lob.ClobClose) kept
    → (r : Rest) → IsFound p r (123 ∷ 123 ∷ (content ++ 125 ∷ 125 ∷ us)) TokenKind.Clob kept (length content + 4) false
clob_closes content us kept p name moves r =
    let front : List ℕ = 123 ∷ 123 ∷ (content ++ 125 ∷ []) in
    let size : length front + 1 ≡ length content + 4 = omega (arith, length-append content (125 ∷ [])) in
    let whole : front ++ 125 ∷ us ≡ 123 ∷ 123 ∷ (content ++ 125 ∷ 125 ∷ us) = ap (λ l. 123 ∷ 123 ∷ l) (append_assoc content (125 ∷ []) (125 ∷ us)) in
    subst (λ (i : ℕ). IsFound p r (123 ∷ 123 ∷ (content ++ 125 ∷ 125 ∷ us)) TokenKind.Clob kept i false) size
    (subst (λ l. IsFound p r l TokenKind.Clob kept (length front + 1) false) whole
    (given_behind p r front us 125 TokenKind.Clob (Mode.Lob Lob.ClobClose) kept Keep.Nothing (opens_then (opens_lob p r.colon name) moves)
    (λ s u. refl) refl))

short_closes : (before text after us kept : List ℕ) → Each is_white before → LeadsOn Style.ShortClob text [] kept → Each is_white after
    → (p : Place) → is_name p ≡ false
    → (r : Rest) → IsFound p r (123 ∷ 123 ∷ (before ++ 34 ∷ (text ++ 34 ∷ (after ++ 125 ∷ 125 ∷ us)))) TokenKind.Clob kept
    (length before + length text + length after + 6) false
short_closes before text after us kept b leads a p name r =
    let content : List ℕ = before ++ (34 ∷ text) ++ 34 ∷ after in
    let size : length content + 4 ≡ length before + length text + length after + 6 =
    omega (arith, length-append (before ++ (34 ∷ text)) (34 ∷ after), length-append before (34 ∷ text)) in
    let whole : content ++ 125 ∷ 125 ∷ us ≡ before ++ 34 ∷ (text ++ 34 ∷ (after ++ 125 ∷ 125 ∷ us)) =
    append_assoc (before ++ (34 ∷ text)) (34 ∷ after) (125 ∷ 125 ∷ us) ∙ append_assoc before (34 ∷ text) (34 ∷ (after ++ 125 ∷ 125 ∷ us)) in
    subst (λ (i : ℕ). IsFound p r (123 ∷ 123 ∷ (before ++ 34 ∷ (text ++ 34 ∷ (after ++ 125 ∷ 125 ∷ us)))) TokenKind.Clob kept i false) size
    (subst (λ l. IsFound p r (123 ∷ 123 ∷ l) TokenKind.Clob kept (length content + 4) false) whole
    (clob_closes content us kept p name (short_leads p before text after kept Within.Plain b tt (led Style.ShortClob text [] kept leads p) a) r))

-- a text that leads on up to its quote, with white space around, stands whole between two braces and two as a clob
pub clob_stands : (content text rest us kept : List ℕ) (b n a : ℕ) → b ≡ length (take_while is_white content) → drop b content ≡ 34 ∷ text
    → n < length text → slice_index text n ≡ 34 → LeadsOn Style.ShortClob (take n text) [] kept
    → rest ≡ drop (n + 1) text → a ≡ length (take_while is_white rest) → drop a rest ≡ 125 ∷ 125 ∷ us → (p : Place) → is_name p ≡ false
    → (r : Rest) → IsFound p r (123 ∷ 123 ∷ content) TokenKind.Clob kept (b + n + a + 6) false
clob_stands content text rest us kept b n a before opens more quote leads is after shuts p name r =
    let inner : take n text ++ 34 ∷ rest ≡ text =
    ap (λ l. take n text ++ 34 ∷ l) (is ∙ ap (λ (i : ℕ). drop i text) (add-one n)) ∙ ap (λ (o : ℕ). take n text ++ o ∷ drop (suc n) text) (sym quote)
    ∙ ap (λ l. take n text ++ l) (sym (drop-cons text n 0 more)) ∙ take-append-drop n text in
    let last : take a rest ++ 125 ∷ 125 ∷ us ≡ rest = ap (λ l. take a rest ++ l) (sym shuts) ∙ take-append-drop a rest in
    let whole : take b content ++ 34 ∷ (take n text ++ 34 ∷ (take a rest ++ 125 ∷ 125 ∷ us)) ≡ content =
    ap (λ l. take b content ++ 34 ∷ (take n text ++ 34 ∷ l)) last ∙ ap (λ l. take b content ++ 34 ∷ l) inner
    ∙ ap (λ l. take b content ++ l) (sym opens) ∙ take-append-drop b content in
    let size : length (take b content) + length (take n text) + length (take a rest) + 6 ≡ b + n + a + 6 =
    omega (
      arith,
      length-take-le b content (front_within is_white content b before),
      length-take-le n text (omega arith),
      length-take-le a rest (front_within is_white rest a after),
    ) in
    subst (λ (i : ℕ). IsFound p r (123 ∷ 123 ∷ content) TokenKind.Clob kept i false) size
    (subst (λ l. IsFound p r (123 ∷ 123 ∷ l) TokenKind.Clob kept (length (take b content) + length (take n text) + length (take a rest) + 6) false) whole
    (short_closes (take b content) (take n text) (take a rest) us kept (front_each is_white content b before) leads
    (front_each is_white rest a after) p name r))

-- octets that add segments do so from each place
added : (l : Lob) (octets kept kept' : List ℕ) → BeginsSegment l → AddsSegments octets kept kept' → (p : Place)
    → Moves p (Mode.Lob l) kept octets (Mode.Lob Lob.AfterLong) kept'
added l octets kept kept' b f p = record { on = f l b p }

-- a segment, with white space behind it, adds what its text means
pub segment_adds : (octets text rest kept kept' : List ℕ) (n w : ℕ) → octets ≡ 39 ∷ 39 ∷ 39 ∷ text → n < length text → drop n text ≡ 39 ∷ 39 ∷ 39 ∷ rest
    → w ≡ length (take_while is_white rest) → LeadsOn Style.LongClob (take n text) kept kept' → AddsSegments (take (n + 6 + w) octets) kept kept'
segment_adds octets text rest kept kept' n w opens more shuts white leads =
    let spelled : List ℕ = codes "'''" ++ take n text ++ codes "'''" ++ take w rest in
    let inner : take n text ++ 39 ∷ 39 ∷ 39 ∷ rest ≡ text = ap (λ l. take n text ++ l) (sym shuts) ∙ take-append-drop n text in
    let whole : spelled ++ drop w rest ≡ octets =
    append_assoc (codes "'''" ++ take n text ++ codes "'''") (take w rest) (drop w rest)
    ∙ ap (λ l. (codes "'''" ++ take n text ++ codes "'''") ++ l) (take-append-drop w rest)
    ∙ append_assoc (codes "'''" ++ take n text) (codes "'''") rest ∙ ap (λ l. 39 ∷ 39 ∷ 39 ∷ l) inner ∙ sym opens in
    let size : length spelled ≡ n + 6 + w =
    omega (
      arith,
      length-append (codes "'''" ++ take n text ++ codes "'''") (take w rest),
      length-append (codes "'''" ++ take n text) (codes "'''"),
      length-take-le n text (omega arith),
      length-take-le w rest (front_within is_white rest w white),
    ) in
    let cut : spelled ≡ take (n + 6 + w) octets =
    sym (take-append_seam spelled (drop w rest)) ∙ ap (λ l. take (length spelled) l) whole ∙ ap (λ (i : ℕ). take i octets) size in
    subst (λ l. AddsSegments l kept kept') cut
    (λ l b p. (segment_leads p l Within.Plain (take n text) (take w rest) kept kept' b tt (led Style.LongClob (take n text) kept kept' leads p)
    (front_each is_white rest w white)).on)

-- more segments behind some
pub segments_then : (octets rest kept kept' kept'' : List ℕ) (at n : ℕ) → rest ≡ drop at octets → AddsSegments (take at octets) kept kept'
    → AddsSegments (take n rest) kept' kept'' → AddsSegments (take (at + n) octets) kept kept''
segments_then octets rest kept kept' kept'' at n is f g =
    subst (λ w. AddsSegments w kept kept'') (ap (λ w. take at octets ++ take n w) is ∙ sym (take-add at n octets))
    (λ l b p. (moves_then (added l (take at octets) kept kept' b f p) (added Lob.AfterLong (take n rest) kept' kept'' tt g p)).on)

-- segments with white space before them stand whole between two braces and two as a clob
pub long_clob_stands : (behind content us kept : List ℕ) (b n : ℕ) → b ≡ length (take_while is_white behind) → content ≡ drop b behind
    → n < length content → drop n content ≡ 125 ∷ 125 ∷ us → AddsSegments (take n content) [] kept → (p : Place) → is_name p ≡ false
    → (r : Rest) → IsFound p r (123 ∷ 123 ∷ behind) TokenKind.Clob kept (b + n + 4) false
long_clob_stands behind content us kept b n before is more shuts adds p name r =
    let front : List ℕ = take b behind ++ take n content in
    let size : length front + 4 ≡ b + n + 4 =
    omega (
      arith,
      length-append (take b behind) (take n content),
      length-take-le b behind (front_within is_white behind b before),
      length-take-le n content (omega arith),
    ) in
    let whole : front ++ 125 ∷ 125 ∷ us ≡ behind =
    append_assoc (take b behind) (take n content) (125 ∷ 125 ∷ us) ∙ ap (λ l. take b behind ++ (take n content ++ l)) (sym shuts)
    ∙ ap (λ l. take b behind ++ l) (take-append-drop n content ∙ is) ∙ take-append-drop b behind in
    subst (λ (i : ℕ). IsFound p r (123 ∷ 123 ∷ behind) TokenKind.Clob kept i false) size
    (subst (λ l. IsFound p r (123 ∷ 123 ∷ l) TokenKind.Clob kept (length front + 4) false) whole (clob_closes front us kept p name (moves_then
    (moves_then (white_moves p (take b behind) (front_each is_white behind b before)) (added Lob.Start (take n content) [] kept tt adds p))
    (moves_one p (Mode.Lob Lob.AfterLong) 125 kept (Mode.Lob Lob.ClobClose) Keep.Nothing (λ s u. refl) (λ c. refl))) r))
