-- How a document ends.
use Rattle.std.proofs.Common.{◌≡◌, ℕ, List, [], ◌++◌, length, take, drop, refl, ap, sym, subst, ◌∙◌, arith, inl, inr, Option, Some, None, Err, append_assoc, append-nil, length-append, IsSome}
use Rattle.std.proofs.lemmas.List.{take-append-drop, take-append-le}
use Rattle.std.proofs.Math.Seq.{take-length}
use Rattle.ion_streams.specs.Names.{BeginsNone, EndsRefused, Format, Grows, HasReasons, IsRefused, Refusal, Refuses, Shown, Shows, Streams, Trace, Value, given_all, given_last, plain}

take_front : (w more : List ℕ) (n : ℕ) → take n w ++ (drop n w ++ more) ≡ w ++ more
take_front w more n = sym (append_assoc (take n w) (drop n w) more) ∙ ap (λ x. x ++ more) (take-append-drop n w)

module _ (F : Format) (reasons : (u : List ℕ) → HasReasons (F.trace u)) where
  behind : (w more : List ℕ) (given : List (Value × ℕ)) (r : Refusal) → (F.trace w).given ≡ given → (F.trace (w ++ more)).refused ≡ Some r
      → Refuses F.denotes F.pieces w (F.trace w) r → IsRefused F (w ++ more) (plain given) r
  behind w more given r e still h =
      let front = take-append-le r.offset w more h.within in
      let within = h.within in
      record {
        within = omega (arith, within, length-append w more);
        decided = inl (subst (λ (x : List ℕ). BeginsNone F.denotes x) (sym front) h.none);
        none = λ s d. h.none (drop r.offset w ++ more) s (subst (λ (x : List ℕ). F.denotes x s) (sym (take_front w more r.offset)) d);
        shown = subst (λ (x : List ℕ). Shown F.pieces x (plain given)) (sym front)
            (subst (λ (x : List (Value × ℕ)). Shown F.pieces (take r.offset w) (plain x)) e h.shown);
        reason = (reasons (w ++ more)).step r still;
        incomplete = λ incomplete. absurd (h.before_end incomplete);
        by_octets = inl still;
      }

  -- a refused one gives no value at the end
  all_given : (w : List ℕ) (given : List (Value × ℕ)) (r : Refusal) → (F.trace w).given ≡ given → (F.trace w).ends ≡ Err r → given_all F w ≡ given
  all_given w given r e ends = ap (λ x. (F.trace w).given ++ given_last x (length w)) ends ∙ (append-nil (F.trace w).given ∙ e)

  -- a step refused, whatever octets follow
  pub refused_early : (w more : List ℕ) (given : List (Value × ℕ)) (r : Refusal) → (F.trace w).given ≡ given → (F.trace w).refused ≡ Some r
      → Refuses F.denotes F.pieces w (F.trace w) r → Grows (F.trace w) (F.trace (w ++ more)) → EndsRefused F (w ++ more) given r
  refused_early w more given r e is h grows =
      let some : IsSome (F.trace w).refused = subst (λ (o : Option Refusal). IsSome o) (sym is) refl in
      let same = grows.refused some in
      record {
        refused = behind w more given r e (ap (λ (t : Trace). t.refused) same ∙ is) h;
        all = all_given (w ++ more) given r (ap (λ (t : Trace). t.given) same ∙ e) (ap (λ (t : Trace). t.ends) same ∙ h.ends);
      }

  refused_by : (w : List ℕ) (given : List (Value × ℕ)) (r : Refusal) (open_after : List ℕ → List ℕ → Type 0) (o : Option Refusal) → (F.trace w).refused ≡ o
      → (F.trace w).given ≡ given → (F.trace w).ends ≡ Err r →
      ((q : Refusal) → (F.trace w).refused ≡ Some q → Refuses F.denotes F.pieces w (F.trace w) q)
      → ((F.trace w).refused ≡ None → Shows F.pieces open_after w (plain (F.trace w).given)) →
      ((F.trace w).refused ≡ None → (F.trace w).ends ≡ Err r → r.offset ≡ length w) → ((s : List Value) → F.denotes w s → Streams (F.trace w) s)
      → IsRefused F w (plain given) r
  refused_by w given r open_after None is e ends refused shown unfinished exact =
      let all = unfinished is ends in
      record {
        within = omega arith;
        decided = inr all;
        none = λ s d. let h = (exact s d).ends in cc;
        shown = subst (λ (x : List ℕ). Shown F.pieces x (plain given)) (sym (ap (λ n. take n w) all ∙ take-length w))
            (subst (λ (x : List (Value × ℕ)). Shown F.pieces w (plain x)) e (shown is).shown);
        reason = (reasons w).end r ends;
        incomplete = λ _. all;
        by_octets = inr (is, ends);
      }
  refused_by w given r open_after (Some q) is e ends refused shown unfinished exact =
      let h = refused q is in
      let same : q ≡ r = let k = h.ends in cc in
      let still : (F.trace (w ++ [])).refused ≡ Some r = ap (λ x. (F.trace x).refused) (append-nil w) ∙ (is ∙ ap Some same) in
      subst (λ (x : List ℕ). IsRefused F x (plain given) r) (append-nil w)
      (behind w [] given r e still (subst (λ (x : Refusal). Refuses F.denotes F.pieces w (F.trace w) x) same h))

  -- the end refused: by itself, or as a step would have
  pub refused_late : (w : List ℕ) (given : List (Value × ℕ)) (r : Refusal) (open_after : List ℕ → List ℕ → Type 0) → (F.trace w).given ≡ given
      → (F.trace w).ends ≡ Err r →
      ((q : Refusal) → (F.trace w).refused ≡ Some q → Refuses F.denotes F.pieces w (F.trace w) q)
      → ((F.trace w).refused ≡ None → Shows F.pieces open_after w (plain (F.trace w).given)) →
      ((F.trace w).refused ≡ None → (F.trace w).ends ≡ Err r → r.offset ≡ length w) → ((s : List Value) → F.denotes w s → Streams (F.trace w) s)
      → EndsRefused F w given r
  refused_late w given r open_after e ends refused shown unfinished exact =
      record { refused = refused_by w given r open_after (F.trace w).refused refl e ends refused shown unfinished exact; all = all_given w given r e ends }
