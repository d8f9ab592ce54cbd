-- Behind a long string that waits: while a segment of it is open, each octet goes on with it, or is refused.
use Rattle.std.proofs.Common.{◌≡◌, ℕ, Bool, true, false, ◌||◌, refl, sym, ap, subst, Some, None, if◌then◌else◌, ◌-◌, inl, inr}
use Rattle.std.proofs.lemmas.Bool.{both_ways, false_from_ne_true, or_cases, or_from, or_right}
use Rattle.ion_text.specs.Names.{Given, Known, Left, Mode, Next, Outcome, Place, Reading, Refused, Stage, Style, behind, feed, form_of, has_segment, in_segment, is_idle, is_quoting, is_top, unsettled, waits, waits_now}
use Rattle.ion_text.specs.laws.reading.complete.Meets.{LongOn, is_long_text, long_feed}

-- no test holds and fails
pub never : (b : Bool) → b ≡ false → b ≡ true → ⊥
never true e f = cc
never false e f = cc

-- in the text of a long string quotes are open
pub long_quoting : (m : Mode) → is_long_text m ≡ true → is_quoting m ≡ true
long_quoting (Mode.Text Style.LongString w) h = refl
long_quoting Mode.Quote h = refl
long_quoting Mode.Quotes h = refl
long_quoting _ h = absurd cc

quoting_goes : (m : Mode) → is_quoting m ≡ true → (is_idle m || is_quoting m) ≡ true
quoting_goes m h = or_right (is_idle m) (is_quoting m) h

segment_text : (m : Mode) (start used : ℕ) (b : Bool) → has_segment (if b then None else Some (record { start = start; end = used; form = form_of m })) ≡ true
    → is_long_text m ≡ true
segment_text m start used true h = absurd cc
segment_text (Mode.Text Style.LongString w) start used false h = refl
segment_text _ start used _ h = absurd cc

-- where a segment is open, a long text is
pub in_text : (s : Known) (w : _) (end : ℕ) → in_segment (Stage.Long w end) s ≡ true → is_long_text s.mode ≡ true
in_text s w end h = segment_text s.mode s.start (s.used - behind s.mode) (is_idle s.mode) h

-- and where none is, none is
pub no_text : (s : Known) (w : _) (end : ℕ) → in_segment (Stage.Long w end) s ≡ false → is_long_text s.mode ≡ false
no_text s w end h = go s.mode h
  where
    go : (m : Mode) → has_segment (if is_idle m then None else Some (record { start = s.start; end = s.used - behind m; form = form_of m })) ≡ false
        → is_long_text m ≡ false
    go (Mode.Text Style.LongString w) h = absurd cc
    go _ h = refl

-- it is used, or left
abbrev pub NotRefused : Outcome → Type 0
NotRefused (Refused n e) = ⊥
NotRefused _ = Unit {0}

long_text_goes : (top : Bool) (x : Outcome) → LongOn x → NotRefused x → (w : _) (end : ℕ) → waits_now top (Stage.Long w end) x ≡ true
long_text_goes top (Next t) h n w end = quoting_goes t.mode (long_quoting t.mode h)
long_text_goes top (Given x t) h n w end = h
long_text_goes top (Left x t) h n w end = absurd h
long_text_goes top (Refused i e) h n w end = absurd n

segment_goes : (p : Place) (s : Known) (top : Bool) (now : Stage) (o : ℕ) → in_segment now s ≡ true → NotRefused (feed p s o) → waits_now top now (feed p s o)
    ≡ true
segment_goes p s top (Stage.Long w end) o h n = long_text_goes top (feed p s o)
    (long_feed p s o (segment_text s.mode s.start (s.used - behind s.mode) (is_idle s.mode) h)) n w end
segment_goes p s top _ o h n = absurd cc

-- What stays at an octet that isn't refused waits for more.
pub unsettled_waits : (p : Place) (s : Known) (r : Reading) (o : ℕ) → NotRefused (feed p s o) → unsettled s r (feed p s o) ≡ true → waits r (feed p s o) ≡ true
unsettled_waits p s r o n h =
    elim (or_cases (waits r (feed p s o)) (in_segment r.now s) h) [ inl e ↦ e | inr f ↦ segment_goes p s (is_top r.frames) r.now o f n ]

-- what doesn't wait for more is settled before it
pub settles_then : (p : Place) (s : Known) (r : Reading) (o : ℕ) (x : Outcome) → feed p s o ≡ x → NotRefused x → waits r x ≡ false → unsettled s r x ≡ false
settles_then p s r o x e n w =
    let goes = λ (f : in_segment r.now s ≡ true). segment_goes p s (is_top r.frames) r.now o f (subst NotRefused (sym e) n) in
    or_from (waits r x) (in_segment r.now s) w (false_from_ne_true (in_segment r.now s)
    (λ f. both_ways (waits r x) w (subst (λ y. waits_now (is_top r.frames) r.now y ≡ true) e (goes f))))

-- what waits for more stays
pub waits_unsettled : (s : Known) (r : Reading) (x : Outcome) → waits r x ≡ true → unsettled s r x ≡ true
waits_unsettled s r x w = ap (λ a. a || in_segment r.now s) w
