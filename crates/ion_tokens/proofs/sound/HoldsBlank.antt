-- One octet more behind a blank, or in a comment.
use Rattle.std.proofs.Common.{◌≡◌, ℕ, ◌+◌, ◌-◌, Bool, true, false, List, [], ◌∷◌, ◌++◌, length, refl, sym, ap, ◌∙◌, subst, arith, append_assoc, append-nil, length-append}
use Rattle.std.specs.Prelude.{◌==◌, ◌&&◌, codes}
use Rattle.std.proofs.lemmas.Bool.{cond_both, eqb-true, false≢true}
use Rattle.ion_tokens.specs.Names.{Action, BlockComment, HasNoClose, HasNoLineEnd, IsBlank, IsOpenComment, LineComment, Mode, Next, Place, White, acts, feed, go, is_line_end, kept_after, takes_colon}
use Rattle.ion_tokens.specs.Lexemes.{ends}
use Rattle.ion_tokens.proofs.complete.Moves.{at}
use Rattle.ion_tokens.proofs.sound.Holds.{InMode, IsOpenBlock, Sound, blank_behind, blank_more, blank_none, in_mode}
use Rattle.ion_tokens.proofs.sound.TurnsBlanks.{First, Second}
use Rattle.ion_tokens.proofs.complete.TakesOperators.{ends_last}

no_line_end_more : (os : List ℕ) (o : ℕ) → HasNoLineEnd os → is_line_end o ≡ false → HasNoLineEnd (os ++ o ∷ [])
no_line_end_more [] o h e = (e, tt)
no_line_end_more (x ∷ os) o h e = (h.0, no_line_end_more os o h.1 e)

-- a character more, which doesn't close the comment
no_close_more : (os : List ℕ) (o : ℕ) → HasNoClose os → (ends (λ o. o == 42) os && (o == 47)) ≡ false → HasNoClose (os ++ o ∷ [])
no_close_more [] o h e = tt
no_close_more (x ∷ []) o h e = (e, tt)
no_close_more (x ∷ y ∷ os) o h e = (h.0, no_close_more (y ∷ os) o h.1 e)

no_close_front : (os : List ℕ) (o : ℕ) → HasNoClose (os ++ o ∷ []) → HasNoClose os
no_close_front [] o h = tt
no_close_front (x ∷ []) o h = tt
no_close_front (x ∷ y ∷ os) o h = (h.0, no_close_front (y ∷ os) o h.1)

-- what ends in a star
but_star : (os : List ℕ) → ends (λ o. o == 42) os ≡ true → (front : List ℕ) × (os ≡ front ++ 42 ∷ [])
but_star [] h = absurd (false≢true h)
but_star (x ∷ []) h = let is : x ≡ 42 = eqb-true x 42 h in ([], ap (λ (y : ℕ). y ∷ []) is)
but_star (x ∷ y ∷ os) h = let rest = but_star (y ∷ os) h in (x ∷ rest.0, ap (λ l. x ∷ l) rest.1)

module _ (p : Place) (colon : Bool) (k : ℕ) (start used : ℕ) (since : List ℕ) (o : ℕ) (uses : used ≡ k + length since) where
  used_more : used + 1 ≡ k + length (since ++ o ∷ [])
  used_more = omega (arith, uses, length-append since (o ∷ []))

  -- what an action makes of an octet behind a blank is so, if the action fits the octet
  pub blank_turned : (a : Action) → IsBlank since → First p colon o a → Sound p colon k since o (acts p (at Mode.Blank [] colon start used) o a)
  blank_turned (Action.Go Mode.Blank k') b (w, e) = record { flag = refl; used = used_more; mode = (e, blank_more since (White o) b w) }
  blank_turned (Action.Go Mode.Slash k') b (i, e) = record { flag = refl; used = used_more; mode = (e, since, b, ap (λ (x : ℕ). since ++ x ∷ []) i) }
  blank_turned (Action.Go m k') b h = record { flag = refl; used = used_more; mode = in_mode p colon k m (kept_after k' []) used since (o ∷ []) b uses h }
  blank_turned (Action.Give kind k') b h = record {
    front = since;
    token = o ∷ [];
    blank = b;
    cut = sym (append-nil (since ++ o ∷ []));
    start = uses;
    end =
        omega (arith, uses);
    found = h;
    rest = λ q. blank_behind q (takes_colon p kind) (used + 1);
    again = λ q. refl;
  }
  blank_turned (Action.Refuse e) b h = tt
  blank_turned a b h = absurd h

  -- a comment that this octet opened has no content yet
  opened : (front : List ℕ) (x : ℕ) → since ≡ front ++ 47 ∷ [] → o ≡ x → since ++ o ∷ [] ≡ (front ++ 47 ∷ x ∷ []) ++ []
  opened front x e i = (λ j. e j ++ i j ∷ []) ∙ append_assoc front (47 ∷ []) (x ∷ []) ∙ sym (append-nil (front ++ 47 ∷ x ∷ []))

  -- what an action makes of an octet behind a blank and a `/` is so, if the action fits both
  pub slash_turned : (a : Action) (front : List ℕ) → IsBlank front → since ≡ front ++ 47 ∷ [] → Second p colon o a
      → Sound p colon k since o (acts p (at Mode.Slash [] colon start used) o a)
  slash_turned (Action.Go Mode.LineComment k') front b e (i, n) =
      record { flag = refl; used = used_more; mode = (n, record { front = front; octets = []; blank = b; one_line = tt; cut = opened front 47 e i }) }
  slash_turned (Action.Go Mode.BlockComment k') front b e (i, n) =
      record { flag = refl; used = used_more; mode = (n, record { front = front; octets = []; blank = b; no_close = tt; last = refl; cut = opened front 42 e i }) }
  slash_turned (Action.Go m k') front b e h =
      let size : used - 1 ≡ k + length front = omega (arith, uses, ap length e, length-append front (47 ∷ [])) in
      record {
        flag = refl;
        used = used_more;
        mode = subst (λ l. InMode p colon k m (kept_after k' []) (used - 1) l)
            (sym (ap (λ l. l ++ o ∷ []) e ∙ append_assoc front (47 ∷ []) (o ∷ [])))
            (in_mode p colon k m (kept_after k' []) (used - 1) front (47 ∷ o ∷ []) b size h);
      }
  slash_turned (Action.Before kind k' Mode.Blank) front b e h =
      let size : used - 1 ≡ k + length front = omega (arith, uses, ap length e, length-append front (47 ∷ [])) in
      let whole : used - 0 ≡ (k + length front) + 1 = omega (arith, uses, ap length e, length-append front (47 ∷ [])) in (
        [],
        record {
          front = front;
          token = 47 ∷ [];
          blank = b;
          cut = e ∙ sym (append-nil (front ++ 47 ∷ []));
          start = size;
          end = whole;
          found = h;
          rest = λ q. record { flag = refl; used = omega arith; mode = (refl, blank_none) };
          again = λ q. let same : used - 0 ≡ used = omega arith in ap (λ (n : ℕ). Next (at Mode.Blank [] (takes_colon p kind) (used - 0) n)) same;
        },
      )
  slash_turned (Action.Refuse r) front b e h = tt
  slash_turned a front b e h = absurd h

  -- what comes of an octet in a line comment is so
  pub line_turned : IsOpenComment since → Sound p colon k since o (feed p (at Mode.LineComment [] colon start used) o)
  line_turned c = cond_both (is_line_end o) _ _ (λ m. Sound p colon k since o (acts p (at Mode.LineComment [] colon start used) o (go m)))
      (λ e. record {
        flag = refl;
        used = used_more;
        mode = (refl, subst IsBlank (sym (ap (λ l. l ++ o ∷ []) c.cut ∙ over)) (blank_more c.front (LineComment c.octets o) c.blank (c.one_line, e)));
      })
      (λ e. record {
        flag = refl;
        used = used_more;
        mode = (
          refl,
          record {
            front = c.front;
            octets = c.octets ++ o ∷ [];
            blank = c.blank;
            one_line = no_line_end_more c.octets o c.one_line e;
            cut = ap (λ l. l ++ o ∷ []) c.cut ∙ append_assoc (c.front ++ codes "//") c.octets (o ∷ []);
          },
        );
      })
    where
      over : (c.front ++ codes "//" ++ c.octets) ++ o ∷ [] ≡ c.front ++ (codes "//" ++ c.octets ++ o ∷ [])
      over = ap (λ l. l ++ o ∷ []) (append_assoc c.front (codes "//") c.octets) ∙ append_assoc c.front (codes "//" ++ c.octets) (o ∷ [])

  block_more : (star star' : Bool) (c : IsOpenBlock since star) → (star && (o == 47)) ≡ false → (o == 42) ≡ star' → IsOpenBlock (since ++ o ∷ []) star'
  block_more star star' c n e = record {
    front = c.front;
    octets = c.octets ++ o ∷ [];
    blank = c.blank;
    no_close = no_close_more c.octets o c.no_close (ap (λ b. b && (o == 47)) c.last ∙ n);
    last = ends_last (λ o. o == 42) c.octets o ∙ e;
    cut = ap (λ l. l ++ o ∷ []) c.cut ∙ append_assoc (c.front ++ codes "/*") c.octets (o ∷ []);
  }

  -- what comes of an octet in a block comment, behind no `*`, is so
  pub block_turned : IsOpenBlock since false → Sound p colon k since o (feed p (at Mode.BlockComment [] colon start used) o)
  block_turned c = cond_both (o == 42) _ _ (λ m. Sound p colon k since o (acts p (at Mode.BlockComment [] colon start used) o (go m)))
      (λ e. record { flag = refl; used = used_more; mode = (refl, block_more false true c refl e) })
      (λ e. record { flag = refl; used = used_more; mode = (refl, block_more false false c refl e) })

  abbrev Starred : Action → Type 0
  Starred a = Sound p colon k since o (acts p (at Mode.BlockCommentStar [] colon start used) o a)

  -- what comes of an octet in a block comment, behind a `*`, is so
  pub star_turned : IsOpenBlock since true → Sound p colon k since o (feed p (at Mode.BlockCommentStar [] colon start used) o)
  star_turned c = cond_both (o == 47) _ _ Starred (λ e. record { flag = refl; used = used_more; mode = (refl, closed (eqb-true o 47 e)) })
      (λ n. cond_both (o == 42) _ _ Starred (λ e. record { flag = refl; used = used_more; mode = (refl, block_more true true c n e) })
      (λ e. record { flag = refl; used = used_more; mode = (refl, block_more true false c n e) }))
    where
      closed : o ≡ 47 → IsBlank (since ++ o ∷ [])
      closed i =
          let star = but_star c.octets c.last in
          let cut : since ++ o ∷ [] ≡ c.front ++ (codes "/*" ++ star.0 ++ codes "*/") =
          (λ j. c.cut j ++ i j ∷ []) ∙ ap (λ l. (c.front ++ codes "/*" ++ l) ++ 47 ∷ []) star.1 ∙ shape star.0 in
          subst IsBlank (sym cut) (blank_more c.front (BlockComment star.0) c.blank (no_close_front star.0 42 (subst HasNoClose star.1 c.no_close)))
        where
          shape : (os : List ℕ) → (c.front ++ codes "/*" ++ (os ++ 42 ∷ [])) ++ 47 ∷ [] ≡ c.front ++ (codes "/*" ++ os ++ codes "*/")
          shape os = append_assoc (c.front ++ codes "/*") (os ++ 42 ∷ []) (47 ∷ [])
              ∙ ap (λ l. (c.front ++ codes "/*") ++ l) (append_assoc os (42 ∷ []) (47 ∷ []))
              ∙ append_assoc c.front (codes "/*") (os ++ codes "*/")
