-- How two streams compare, value by value.
use Rattle.std.proofs.Common.{◌≡◌, ℕ, ◌+◌, ◌-◌, ◌<◌, ◌⊎◌, inl, inr, MatchBool, List, [], ◌∷◌, ◌++◌, length, slice_get, refl, ap, subst, ◌∙◌, arith, Bool, true, false, Option, Some, None, option_map, option_to_list, append_assoc, append-nil}
use Rattle.std.proofs.lemmas.Option.{gets}
use Rattle.std.proofs.lemmas.Grind.{common_steps}
use lib.Pointwise.{pointwise}
use Rattle.ion_streams.specs.Names.{Alike, Catalog, Course, Ended, Format, Heard, IfAlike, IfClosed, IfOpen, Inlet, IsMet, IsOpen, Items, Left, Limits, MayFollow, Open, Parted, ReadState, Refusal, Refused, Stood, ToldRefused, Value, Verdict, format_of, same, verdict_of, verdict_on, work_of}
use Rattle.ion_streams.specs.Compared.{IsCompared, IsVerdict, PartAt, parts}

-- what a course says of the streams whole, of which the second two are still to come
abbrev pub Onward : Course → List Value → List Value → List Value → List Value → Type 0
Onward (Alike values) s t later_s later_t = parts s t ≡ option_map (λ n. n + values) (parts later_s later_t)
Onward (Parted index path) s t later_s later_t = PartAt index path s t

-- s and t compared so, and nothing follows behind a document that is closed
pub record Meets {X Y : Type 0} (course : Course) (left : ReadState X) (right : ReadState Y) (s t : List Value) : Type 0 where
  pub onward : (s' t' : List Value) → IfClosed left (s' ≡ []) → IfClosed right (t' ≡ []) → Onward course (s ++ s') (t ++ t') s' t'
  pub counted : IfAlike course (λ values. (length s ≡ values) × (length t ≡ values))

-- the streams are behind as many values
abbrev Counted : Course → List Value → List Value → Type 0
Counted course s t = IfAlike course (λ values. (length s ≡ values) × (length t ≡ values))

map_more : (n : ℕ) (p : Option ℕ) → option_map (λ k. k + n) (option_map (λ k. k + 1) p) ≡ option_map (λ k. k + (n + 1)) p
map_more n None = refl
map_more n (Some k) = ap Some (omega arith)

-- behind the next value of each, or the end of one
met_onward : (course : Course) (v w : Option Value) (after : Course) (s t s' t' : List Value) → Counted course s t → IsMet course v w after
    → (v ≡ None → s' ≡ []) → (w ≡ None → t' ≡ [])
    → let l = option_to_list v ++ s' in let r = option_to_list w ++ t' in Onward course (s ++ l) (t ++ r) l r → Onward after (s ++ l) (t ++ r) s' t'
met_onward (Alike n) (Some v) (Some w) (Alike m) s t s' t' counted met h k onward = rw met.1 (rw met.0 at onward ∙ map_more n (parts s' t'))
met_onward (Alike n) (Some v) (Some w) (Parted index path) s t s' t' counted met h k onward =
    let first : slice_get (s ++ v ∷ s') (index - 1) ≡ Some v = grind (arith, common_steps, gets, counted.0, met.1) in
    let second : slice_get (t ++ w ∷ t') (index - 1) ≡ Some w = grind (arith, common_steps, gets, counted.1, met.1) in
    record { first = rw met.0 at onward ∙ ap Some (omega (arith, met.1)); within = rw (first, second) met.2 }
met_onward (Alike n) None (Some w) after s t s' t' counted met h k onward =
    let past : slice_get (s ++ s') ((n + 1) - 1) ≡ None = grind (arith, common_steps, gets, counted.0, h refl) in
    rw met (record { first = rw (h refl) (rw (h refl) at onward ∙ ap Some (omega arith)); within = rw past refl })
met_onward (Alike n) (Some v) None after s t s' t' counted met h k onward =
    let there : slice_get (s ++ v ∷ s') ((n + 1) - 1) ≡ Some v = grind (arith, common_steps, gets, counted.0) in
    let past : slice_get (t ++ t') ((n + 1) - 1) ≡ None = grind (arith, common_steps, gets, counted.1, k refl) in
    rw met (record { first = rw (k refl) (rw (k refl) at onward ∙ ap Some (omega arith)); within = rw (there, past) refl })
met_onward _ _ _ after s t s' t' counted met h k onward = rw met onward

counted_more : (course after : Course) (v w : Option Value) (s t : List Value) → Counted course s t → IsMet course v w after
    → Counted after (s ++ option_to_list v) (t ++ option_to_list w)
counted_more (Alike n) (Alike m) None None s t h met = let same : m ≡ n = cc in rw (same, append-nil s, append-nil t) h
counted_more (Alike n) (Alike m) (Some v) (Some w) s t h met = (grind (arith, common_steps, h.0, met.1), grind (arith, common_steps, h.1, met.1))
counted_more _ (Alike m) _ _ s t h met = absurd cc
counted_more _ (Parted index path) _ _ s t h met = tt

-- nothing follows where no value came, nor did anything follow behind a document that was closed
closed_on : {X : Type 0} (before after : ReadState X) (v : Option Value) (s : List Value) → IfClosed before ((after ≡ before) × (v ≡ None))
    → (v ≡ None → IfOpen after (λ source. ⊥)) → IfClosed after (s ≡ []) → (v ≡ None → s ≡ []) × IfClosed before (option_to_list v ++ s ≡ [])
closed_on (Open source) (Open other) v s h ends k = (λ none. absurd (ends none), tt)
closed_on (Open source) _ v s h ends k = (λ none. k, tt)
closed_on _ after v s h ends k = let none = subst (λ x. IfClosed x (s ≡ [])) h.0 k in (λ _. none, rw h.1 none)

-- with the next value of each, or its end, two streams compare as the course behind it says
pub meets_more : {X Y : Type 0} (course after : Course) (left left' : ReadState X) (right right' : ReadState Y) (s t : List Value) (v w : Option Value)
    → IsMet course v w after → Meets course left right s t → IfClosed left ((left' ≡ left) × (v ≡ None)) → IfClosed right ((right' ≡ right) × (w ≡ None))
    → (v ≡ None → IfOpen left' (λ source. ⊥)) → (w ≡ None → IfOpen right' (λ source. ⊥))
    → Meets after left' right' (s ++ option_to_list v) (t ++ option_to_list w)
meets_more course after left left' right right' s t v w met h was_left was_right left_ends right_ends = record {
  onward = λ s' t' a b.
      let l = closed_on left left' v s' was_left left_ends a in
      let r = closed_on right right' w t' was_right right_ends b in
      rw (append_assoc s (option_to_list v) s', append_assoc t (option_to_list w) t')
      (met_onward course v w after s t s' t' h.counted met l.0 r.0 (h.onward _ _ l.1 r.1));
  counted = counted_more course after v w s t h.counted met;
}

pub parts_none : (s t : List Value) → parts s t ≡ None → pointwise same s t ≡ true
parts_none [] [] e = refl
parts_none (v ∷ s) (w ∷ t) e = grind (arith, common_steps, e, parts_none s t)
parts_none _ _ e = absurd cc

both_ended : (F G : Format) (course : Course) (s t : List Value) (l r : List ℕ) → F.denotes l s → G.denotes r t → Onward course s t [] [] → Counted course s t
    → IsVerdict F G l r (verdict_on course)
both_ended F G (Alike n) s t l r h k e counted = record { s = s; t = t; left = h; right = k; streams = (parts_none s t e, counted.0) }
both_ended F G (Parted i path) s t l r h k e counted = record { s = s; t = t; left = h; right = k; streams = e }

module _ {S X T Y : Type 0} (L : Inlet S) (I : Items X) (R : Inlet T) (J : Items Y) (g h : Catalog) (k l : Limits) where
  -- what was heard of both decides
  heard_both : {left left_now : S} {right right_now : T} {u w : List ℕ} {p q : Bool} {verdict : Verdict} → Heard L left left_now u p
      → Heard R right right_now w q → ((m n : List ℕ) → MayFollow p m → MayFollow q n → IsVerdict (format_of I g k) (format_of J h l) (u ++ m) (w ++ n) verdict)
      → IsCompared L R (format_of I g k) (format_of J h l) left left_now right right_now verdict
  heard_both a b decided = record { l = _; left_ended = _; heard_left = a; r = _; right_ended = _; heard_right = b; decided = decided }

  -- both are closed and the left is no refused one
  pub closed_verdict : (left left_now : S) (right right_now : T) (left_place : ReadState X) (right_place : ReadState Y) (course : Course) (s t : List Value)
      → Stood L I g k left left_now left_place s → Stood R J h l right right_now right_place t → Meets course left_place right_place s t
      → ((refusal : Refusal) → left_place ≡ ReadState.Refused refusal → ⊥) → IfOpen left_place (λ source. ⊥) → IfOpen right_place (λ source. ⊥)
      → IsCompared L R (format_of I g k) (format_of J h l) left left_now right right_now (verdict_of right_place course)
  closed_verdict left left_now right right_now Ended (Refused refusal) course s t a b meets kept closed_left closed_right =
      heard_both a.heard b.heard (λ m n none may. ((s, rw (none refl, append-nil a.octets) a.denoted), (t, b.refused n may)))
  closed_verdict left left_now right right_now Ended Ended course s t a b meets kept closed_left closed_right =
      let onward = rw (append-nil s, append-nil t) at (meets.onward [] [] refl refl) in
      heard_both a.heard b.heard (λ m n none may. rw (none refl, may refl, append-nil a.octets, append-nil b.octets)
      (both_ended _ _ course s t a.octets b.octets a.denoted b.denoted onward meets.counted))
  closed_verdict left left_now right right_now (Open source) right_place course s t a b meets kept closed_left closed_right = absurd closed_left
  closed_verdict left left_now right right_now (Refused refusal) right_place course s t a b meets kept closed_left closed_right = absurd (kept refusal refl)
  closed_verdict left left_now right right_now _ (Open source) course s t a b meets kept closed_left closed_right = absurd closed_right

  -- the left is refused, wherever the right stands
  pub left_refused : (left left_now : S) (right right_now : T) (right_place : ReadState Y) (s t : List Value) (refusal : Refusal)
      → ToldRefused L (format_of I g k) left left_now s refusal → Stood R J h l right right_now right_place t
      → IsCompared L R (format_of I g k) (format_of J h l) left left_now right right_now (Verdict.Refused Left refusal)
  left_refused left left_now right right_now (Open source) s t refusal a b = heard_both a.heard b.each.heard (λ m n may _. (s, a.refused m may))
  left_refused left left_now right right_now _ s t refusal a b = heard_both a.heard b.heard (λ m n may _. (s, a.refused m may))

-- where one document at least is still being read, a step of both leaves less work
pub works_less : {X Y : Type 0} (I : Items X) (J : Items Y) (left left' : ReadState X) (right right' : ReadState Y) (P Q : Type 0) → IsOpen left ⊎ IsOpen right
    → IfOpen left (λ source. work_of I left' < work_of I left) → IfClosed left ((left' ≡ left) × P)
    → IfOpen right (λ source. work_of J right' < work_of J right) → IfClosed right ((right' ≡ right) × Q)
    → work_of I left' + work_of J right' < work_of I left + work_of J right
works_less I J (Open source) left' (Open other) right' P Q open_still a b c d = omega (arith, a, c)
works_less I J (Open source) left' right right' P Q open_still a b c d = let kept = ap (λ x. work_of J x) d.0 in omega (arith, a, kept)
works_less I J left left' (Open other) right' P Q open_still a b c d = let kept = ap (λ x. work_of I x) b.0 in omega (arith, c, kept)
works_less I J _ left' _ right' P Q (inl opened) a b c d = absurd opened
works_less I J _ left' _ right' P Q (inr opened) a b c d = absurd opened

-- where the test holds, what is so in that case
pub true_case : (b : Bool) (P Q : Type 0) → MatchBool b P Q → b ≡ true → P
true_case b P Q h e = rw e at h

-- where the test fails, what is so in that case
pub false_case : (b : Bool) (P Q : Type 0) → MatchBool b P Q → b ≡ false → Q
false_case b P Q h e = rw e at h
