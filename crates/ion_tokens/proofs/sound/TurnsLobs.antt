-- What an octet says of an open lob.
use Rattle.std.proofs.Common.{◌≡◌, ℕ, Bool, true, false, List, [], ◌∷◌, ◌++◌, refl, sym, ap, ◌∙◌, subst, arith, append_assoc, append-nil, cond}
use Rattle.std.specs.Prelude.{◌==◌, ◌||◌, not, codes}
use Rattle.std.specs.List.{flat_map}
use Rattle.std.proofs.lemmas.Bool.Decides.{nat_tests}
use Rattle.std.proofs.lemmas.Bool.{cond_both, eqb-true, or_right}
use Rattle.ion_tokens.specs.Names.{Action, Each, IsSegment, Lob, LongTexts, Mode, Place, Segment, ShortText, Style, Within, in_blob, in_lob, is_base64, is_name, is_white, segment_spelling}
use Rattle.ion_tokens.specs.laws.Each.{each_last, all_last, flat_last, not_empty}
use Rattle.ion_tokens.proofs.sound.Opens.{AnyBlob, InLob, IsLongText, IsOpen, Turns, solid}
use Rattle.ion_tokens.proofs.texts.TextsRead.{reads_none}
use Rattle.std.proofs.lemmas.List.Elements.{filter-append}

solid_more : (os : List ℕ) (o : ℕ) → is_white o ≡ false → solid (os ++ o ∷ []) ≡ solid os ++ o ∷ []
solid_more os o h = filter-append (λ o. not (is_white o)) os (o ∷ []) ∙ ap (λ b. solid os ++ cond (not b) (o ∷ []) []) h

solid_white : (os : List ℕ) (o : ℕ) → is_white o ≡ true → solid (os ++ o ∷ []) ≡ solid os
solid_white os o h = filter-append (λ o. not (is_white o)) os (o ∷ []) ∙ ap (λ b. solid os ++ cond (not b) (o ∷ []) []) h ∙ append-nil (solid os)

-- white space is content of a blob, of which nothing is kept
pub solid_none : (os : List ℕ) → Each is_white os → solid os ≡ []
solid_none [] h = refl
solid_none (o ∷ os) h = ap (λ b. cond (not b) (o ∷ solid os) (solid os)) h.0 ∙ solid_none os h.1

pub white_any : (os : List ℕ) → Each is_white os → Each AnyBlob os
white_any [] h = tt
white_any (o ∷ os) h = (ap (λ b. b || is_base64 o) h.0, white_any os h.1)

-- base64 is content that is kept
pub base_any : (o : ℕ) → is_base64 o ≡ true → (AnyBlob o ≡ true) × (is_white o ≡ false)
base_any o h = (or_right (is_white o) (is_base64 o) h, grind (arith, nat_tests))

any_white : (o : ℕ) → is_white o ≡ true → AnyBlob o ≡ true
any_white o h = ap (λ b. b || is_base64 o) h

two_braces : (content inside : List ℕ) (o : ℕ) → inside ≡ content ++ 125 ∷ [] → o ≡ 125 → 123 ∷ 123 ∷ inside ++ o ∷ [] ≡ codes "{{" ++ content ++ codes "}}"
two_braces content inside o e is = ap (λ l. 123 ∷ 123 ∷ l) ((λ i. e i ++ is i ∷ []) ∙ append_assoc content (125 ∷ []) (125 ∷ []))

-- white space behind the last segment
more_white : (inside kept : List ℕ) (o : ℕ) → IsLongText inside kept → is_white o ≡ true → IsLongText (inside ++ o ∷ []) kept
more_white inside kept o h f =
    let g : Segment = record { content = h.last.content; octets = h.last.octets; white = h.last.white ++ o ∷ [] } in
    let front : List ℕ = flat_map segment_spelling h.segments in
    let text : List ℕ = codes "'''" ++ h.last.content ++ codes "'''" in
    record {
      before = h.before;
      segments = h.segments;
      last = g;
      white = h.white;
      each = h.each;
      is_last = (h.is_last.0, each_last is_white h.last.white o h.is_last.1 f);
      spelled = ap (λ l. l ++ o ∷ []) (h.spelled ∙ ap (λ l. h.before ++ l) (flat_last segment_spelling h.segments h.last))
          ∙ append_assoc h.before (front ++ (text ++ h.last.white)) (o ∷ [])
          ∙ ap (λ l. h.before ++ l) (append_assoc front (text ++ h.last.white) (o ∷ []) ∙ ap (λ l. front ++ l) (append_assoc text h.last.white (o ∷ []))
          ∙ sym (flat_last segment_spelling h.segments g));
      means = h.means ∙ flat_last (λ (s : Segment). s.octets) h.segments h.last ∙ sym (flat_last (λ (s : Segment). s.octets) h.segments g);
    }

module _ (p : Place) (colon : Bool) (inside kept : List ℕ) (o : ℕ) (n : is_name p ≡ false) where
  -- an action behind {{ and more
  abbrev At : Action → Type 0
  At a = Turns p colon (123 ∷ 123 ∷ inside) kept o a

  -- whichever way a test of the table goes
  on : (test : Bool) (x y : Action) → (test ≡ true → At x) → (test ≡ false → At y) → At (cond test x y)
  on test x y = cond_both test x y At

  -- in the content of a blob
  blob_turns : Each AnyBlob inside → kept ≡ solid inside → At (in_blob o)
  blob_turns h e =
      on (o == 125) _ _ (λ f. (n, inside, refl, h, e, eqb-true o 125 f)) (λ _.
      on (is_base64 o) _ _ (λ f. let b = base_any o f in
      (n, inside ++ o ∷ [], refl, (each_last AnyBlob inside o h b.0, ap (λ l. l ++ o ∷ []) e ∙ sym (solid_more inside o b.1)))) (λ _. tt))

  -- one quote more behind some
  quote_more : (front quotes : List ℕ) → inside ≡ front ++ quotes → (o == 39) ≡ true → inside ++ o ∷ [] ≡ front ++ (quotes ++ 39 ∷ [])
  quote_more front quotes e f = (λ i. e i ++ eqb-true o 39 f i ∷ []) ∙ append_assoc front quotes (39 ∷ [])

  turns : (l : Lob) → InLob l inside kept → At (in_lob l o)
  turns Lob.Start (k, w) =
      on (is_white o) _ _ (λ f. (n, inside ++ o ∷ [], refl, (k, each_last is_white inside o w f))) (λ _.
      on (o == 34) _ _ (λ f. (
        n,
        inside,
        [],
        w,
        subst (λ l. Rattle.ion_tokens.proofs.texts.TextsSound.Reads Style.ShortClob Within.Plain [] l) (sym k) (reads_none Style.ShortClob),
        (λ i. 123 ∷ 123 ∷ (inside ++ eqb-true o 34 f i ∷ [])),
      )) (λ _.
      on (o == 39) _ _ (λ f. (n, inside ++ o ∷ [], refl, (k, inside, w, (λ i. inside ++ eqb-true o 39 f i ∷ []))))
      (λ _. blob_turns (white_any inside w) (k ∙ sym (solid_none inside w)))))
  turns Lob.StartQuote (k, b, w, e) = on (o == 39) _ _ (λ f. (n, inside ++ o ∷ [], refl, (k, b, w, quote_more b (39 ∷ []) e f))) (λ _. tt)
  turns Lob.StartQuotes (k, b, w, e) = on (o == 39) _ _ (λ f. (
    n,
    b,
    [],
    [],
    [],
    record { before = b; segments = []; white = w; each = tt; spelled = sym (append-nil b); means = refl },
    reads_none Style.LongClob,
    ap (λ l. 123 ∷ 123 ∷ l) (quote_more b (39 ∷ 39 ∷ []) e f),
    k,
  )) (λ _. tt)
  turns Lob.Base64 (h, e) = on (is_white o) _ _
      (λ f. (n, inside ++ o ∷ [], refl, (each_last AnyBlob inside o h (any_white o f), e ∙ sym (solid_white inside o f)))) (λ _. blob_turns h e)
  turns Lob.BlobClose (content, h, e) = on (o == 125) _ _ (λ f r j. (n, content, h, two_braces content inside o e (eqb-true o 125 f))) (λ _. tt)
  turns Lob.AfterShort (b, t, a, bw, q, aw, e) =
      on (is_white o) _ _ (λ f. let longer = ap (λ l. l ++ o ∷ []) e ∙ append_assoc (b ++ (34 ∷ t)) (34 ∷ a) (o ∷ []) in
      (n, inside ++ o ∷ [], refl, (b, t, a ++ o ∷ [], bw, q, each_last is_white a o aw f, longer))) (λ _.
      on (o == 125) _ _ (λ f. (n, inside ++ o ∷ [], refl, (inside, ShortText b t a bw q aw e, (λ i. inside ++ eqb-true o 125 f i ∷ [])))) (λ _. tt))
  turns Lob.AfterLong h =
      on (is_white o) _ _ (λ f. (n, inside ++ o ∷ [], refl, more_white inside kept o h f)) (λ _.
      on (o == 125) _ _ (λ f. let each = all_last IsSegment h.segments h.last h.each h.is_last in
      let texts = LongTexts h.before (h.segments ++ h.last ∷ []) h.white (not_empty h.segments h.last) each h.spelled h.means in
      (n, inside ++ o ∷ [], refl, (inside, texts, (λ i. inside ++ eqb-true o 125 f i ∷ [])))) (λ _.
      on (o == 39) _ _ (λ f. (n, inside ++ o ∷ [], refl, (inside, h, (λ i. inside ++ eqb-true o 39 f i ∷ [])))) (λ _. tt)))
  turns Lob.AfterQuote (front, h, e) = on (o == 39) _ _ (λ f. (n, inside ++ o ∷ [], refl, (front, h, quote_more front (39 ∷ []) e f))) (λ _. tt)
  turns Lob.AfterQuotes (front, h, e) = on (o == 39) _ _ (λ f. (
    n,
    front,
    kept,
    [],
    [],
    record {
      before = h.before;
      segments = h.segments ++ h.last ∷ [];
      white = h.white;
      each = all_last IsSegment h.segments h.last h.each h.is_last;
      spelled = h.spelled;
      means = h.means;
    },
    reads_none Style.LongClob,
    ap (λ l. 123 ∷ 123 ∷ l) (quote_more front (39 ∷ 39 ∷ []) e f),
    sym (append-nil kept),
  )) (λ _. tt)
  turns Lob.ClobClose (content, h, e) = on (o == 125) _ _ (λ f r j. (n, content, h, two_braces content inside o e (eqb-true o 125 f))) (λ _. tt)

-- what the table does with an octet of an open lob fits the lob
pub lob_turns : (p : Place) (colon : Bool) (l : Lob) (w kept : List ℕ) (o : ℕ) → IsOpen p colon (Mode.Lob l) w kept → Turns p colon w kept o (in_lob l o)
lob_turns p colon l w kept o (n, inside, e, h) = subst (λ x. Turns p colon x kept o (in_lob l o)) (sym e) (turns p colon inside kept o n l h)
