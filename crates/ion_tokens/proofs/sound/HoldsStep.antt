-- One octet more behind the last token.
use Rattle.std.proofs.Common.{◌≡◌, ℕ, ◌+◌, ◌-◌, ◌≤◌, Bool, false, List, [], ◌∷◌, ◌++◌, length, refl, sym, ap, ◌∙◌, subst, arith, append_assoc, append-nil, length-append, ◌⊎◌, inl, inr}
use Rattle.std.specs.Prelude.{◌==◌, ◌&&◌, codes, take, Option, Some, None}
use Rattle.std.specs.Str.{bytes_eq}
use Rattle.std.proofs.lemmas.Bool.{and_cases, and_parts, cond_both, eqb-true, true≢false}
use Rattle.std.proofs.lemmas.Slice.Eq.{bytes_eq-Decides}
use Rattle.ion_tokens.specs.Names.{Action, Given, IsBlank, IsWord, Known, Left, Lob, Mode, Next, Place, TokenKind, acts, blob_ends, blob_of, cut, go_to, is_word_octet, kept_after, past, start_of, takes_colon}
use Rattle.ion_tokens.proofs.complete.Moves.{Stays, at}
use Rattle.ion_tokens.proofs.sound.Holds.{Holds, InMode, Sound, blank_behind, blank_none, blob_sound, in_mode, inf_again, inf_word}
use Rattle.ion_tokens.proofs.sound.Opens.{IsOpen, IsUnjudgedToken, Turns}

-- an open token behind a blank, where the scanner stands
module _ (p : Place) (colon : Bool) (k : ℕ) (m : Mode) (kept : List ℕ) (start used : ℕ) (front w : List ℕ) (o : ℕ)
    (blank : IsBlank front) (stays : Stays m) (starts : start ≡ k + length front) (uses : used ≡ k + length (front ++ w)) where
  now : Known
  now = at m kept colon start used

  begins_there : start_of m start used ≡ k + length front
  begins_there = stays start used ∙ starts

  used_more : used + 1 ≡ k + length ((front ++ w) ++ o ∷ [])
  used_more = omega (arith, uses, length-append (front ++ w) (o ∷ []))

  end_is : used ≡ (k + length front) + length w
  end_is = omega (arith, uses, length-append front w)

  end_more : used + 1 ≡ (k + length front) + length (w ++ o ∷ [])
  end_more = omega (arith, uses, length-append front w, length-append w (o ∷ []))

  goes : (m' : Mode) (kept' : List ℕ) → IsOpen p colon m' (w ++ o ∷ []) kept'
      → Holds p colon k (go_to (at m kept colon start used) m' kept') ((front ++ w) ++ o ∷ [])
  goes m' kept' h = record {
    flag = refl;
    used = used_more;
    mode = subst (λ l. InMode p colon k m' kept' (start_of m start used) l) (sym (append_assoc front w (o ∷ [])))
        (in_mode p colon k m' kept' (start_of m start used) front (w ++ o ∷ []) blank begins_there h);
  }

  gives : (kind : TokenKind) (kept' : List ℕ) → ((r : List ℕ) → IsUnjudgedToken p colon (w ++ o ∷ []) r kind kept')
      → Sound p colon k (front ++ w) o (Given (cut (at m kept colon start used) kind kept' (used + 1)) (past p kind Mode.Blank [] (used + 1) (used + 1)))
  gives kind kept' h = record {
    front = front;
    token = w ++ o ∷ [];
    blank = blank;
    cut = append_assoc front w (o ∷ []) ∙ sym (append-nil (front ++ (w ++ o ∷ [])));
    start = begins_there;
    end = end_more;
    found = h;
    rest = λ q. blank_behind q (takes_colon p kind) (used + 1);
    again = λ q. refl;
  }

  leaves_blank : (kind : TokenKind) (kept' : List ℕ) (end : ℕ) → end ≡ used → ((r : List ℕ) → IsUnjudgedToken p colon w (o ∷ r) kind kept')
      → Sound p colon k (front ++ w) o (Left (cut (at m kept colon start used) kind kept' end) (past p kind Mode.Blank [] end used))
  leaves_blank kind kept' end e h = (
    [],
    record {
      front = front;
      token = w;
      blank = blank;
      cut = sym (append-nil (front ++ w));
      start = begins_there;
      end = e ∙ end_is;
      found = h;
      rest = λ q. record { flag = refl; used = omega (arith, e); mode = (refl, blank_none) };
      again = λ q. ap (λ (n : ℕ). Next (at Mode.Blank [] (takes_colon p kind) end n)) e;
    },
  )

  leaves_slash : (kind : TokenKind) (kept' token : List ℕ) → w ≡ token ++ 47 ∷ [] → ((r : List ℕ) → IsUnjudgedToken p colon token (47 ∷ o ∷ r) kind kept')
      → Sound p colon k (front ++ w) o (Left (cut (at m kept colon start used) kind kept' (used - 1)) (past p kind Mode.Slash [] (used - 1) used))
  leaves_slash kind kept' token e h =
      let longer : length w ≡ length token + 1 = ap length e ∙ length-append token (47 ∷ []) in
      let size : used - 1 ≡ (k + length front) + length token = omega (arith, end_is, longer) in
      let back : used ≡ (used - 1) + 1 = omega (arith, end_is, longer) in (
        47 ∷ [],
        record {
          front = front;
          token = token;
          blank = blank;
          cut = ap (λ l. front ++ l) e ∙ sym (append_assoc front token (47 ∷ []));
          start = begins_there;
          end = size;
          found = h;
          rest = λ q. record { flag = refl; used = back; mode = (refl, [], blank_none, refl) };
          again = λ q. ap (λ (n : ℕ). Next (at Mode.Slash [] (takes_colon p kind) (used - 1) n)) (sym back);
        },
      )

  splits : (n : ℕ) (kept' token : List ℕ) → 1 ≤ n → n ≤ 3 → w ≡ token ++ take n (codes "inf")
      → ((r : List ℕ) → IsUnjudgedToken p colon token (take n (codes "inf") ++ o ∷ r) TokenKind.Operator kept')
      → Sound p colon k (front ++ w) o (Left (cut (at m kept colon start used) TokenKind.Operator kept' (used - n))
      (past p TokenKind.Operator Mode.Word (take n (codes "inf")) (used - n) used))
  splits n kept' token low high e h =
      let word : IsWord (take n (codes "inf")) × (length (take n (codes "inf")) ≡ n) = inf_word n low high in
      let longer : length w ≡ length token + n = ap length e ∙ length-append token (take n (codes "inf")) ∙ ap (λ (i : ℕ). length token + i) word.1 in
      let size : used - n ≡ (k + length front) + length token = omega (arith, end_is, longer) in
      let back : used ≡ (used - n) + length (take n (codes "inf")) = omega (arith, end_is, longer, word.1) in (
        take n (codes "inf"),
        record {
          front = front;
          token = token;
          blank = blank;
          cut = ap (λ l. front ++ l) e ∙ sym (append_assoc front token (take n (codes "inf")));
          start = begins_there;
          end = size;
          found = h;
          rest = λ q. record {
            flag = refl;
            used = back;
            mode =
                record { front = []; token = take n (codes "inf"); blank = blank_none; cut = refl; begins = omega arith; is = (refl, word.0) };
          };
          again = λ q. inf_again q (takes_colon p TokenKind.Operator) (used - n) n used low high (omega (arith, back, word.1));
        },
      )

  -- a word ends, unless it is `null` before a dot
  ends_word : kept ≡ w → IsWord w → is_word_octet o ≡ false → Sound p colon k (front ++ w) o (acts p (at m kept colon start used) o Action.EndWord)
  ends_word e h n = cond_both ((o == 46) && bytes_eq kept (codes "null")) _ _ (Sound p colon k (front ++ w) o)
      (λ f. let both = and_parts (o == 46) (bytes_eq kept (codes "null")) f in
      let null : w ≡ codes "null" = sym e ∙ (bytes_eq-Decides kept (codes "null")).0 both.1 in
      goes Mode.KindName [] ((λ j. null j ++ eqb-true o 46 both.0 j ∷ []), tt))
      (λ f. leaves_blank TokenKind.Word kept used refl (λ r j. (e, h, n, no_dot (and_cases (o == 46) (bytes_eq kept (codes "null")) f))))
    where
      no_dot : ((o == 46) ≡ false) ⊎ (bytes_eq kept (codes "null") ≡ false) → w ≡ codes "null" → (o == 46) ≡ false
      no_dot (inl f) null = f
      no_dot (inr g) null = absurd (true≢false (sym ((bytes_eq-Decides kept (codes "null")).1 (e ∙ null)) ∙ g))

  -- the content of a blob is decoded
  ends_blob : Turns p colon w kept o Action.EndBlob → Sound p colon k (front ++ w) o (blob_ends (at m kept colon start used) (blob_of kept))
  ends_blob (n, inside, e, h, s, is) = by (blob_of kept) refl where
    by : (b : Option (List ℕ)) → blob_of kept ≡ b → Sound p colon k (front ++ w) o (blob_ends (at m kept colon start used) b)
    by None f = tt
    by (Some octets) f = goes (Mode.Lob Lob.BlobClose) octets
        (n, inside ++ o ∷ [], ap (λ l. l ++ o ∷ []) e, (inside, blob_sound inside octets h (ap blob_of (sym s) ∙ f), (λ i. inside ++ is i ∷ [])))

  -- what an action makes of an octet behind an open token is so, if the action fits the token
  pub turned : (a : Action) → Turns p colon w kept o a → Sound p colon k (front ++ w) o (acts p (at m kept colon start used) o a)
  turned (Action.Go m' k') h = goes m' (kept_after k' kept) h
  turned (Action.Give kind k') h = gives kind (kept_after k' kept) h
  turned (Action.Before kind k' Mode.Blank) h = leaves_blank kind (kept_after k' kept) (used - 0) (omega arith) h
  turned (Action.Before kind k' Mode.Slash) (token, e, h) = leaves_slash kind (kept_after k' kept) token e h
  turned (Action.Before kind k' m') h = absurd h
  turned Action.EndWord (e, h, n) = ends_word e h n
  turned (Action.Split n) (low, high, token, e, h) = splits n kept token low high e (λ r j. h r)
  turned Action.EndBlob h = ends_blob h
  turned (Action.Refuse e) h = tt
