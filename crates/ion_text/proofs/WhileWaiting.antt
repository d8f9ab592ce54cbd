-- Octets over which what waits goes on to wait.
use Rattle.std.proofs.Common.{◌≡◌, ℕ, ◌+◌, ◌-◌, ◌≤◌, Bool, true, false, List, [], ◌∷◌, length, Option, Some, None, refl, ap, sym, ◌∙◌, subst, arith, ◌⊎◌, inl, inr}
use Rattle.std.proofs.lemmas.Bool.{le-leb}
use Rattle.std.specs.Prelude.{◌==◌, ◌&&◌, ◌||◌, not, nat_le, if◌then◌else◌}
use Rattle.ion_text.specs.Names.{AtEach, Begun, Catalog, Each, Frame, GoesOver, Known, Limits, MayWaitOver, Mode, Next, OnNext, Place, Quiet, Reading, Reason, Slot, Stage, Stays, Style, Symbols, Waiting, Within, at, begun_in, behind, drive, ended_so_far, fails, feed, form_of, goes, goes_on, gone_on, is_idle, is_long_begun, is_long_form, is_quoting, is_top, led, longest_top, noticed, place, reaches, run, settle, settled, shut, under, uses, waits, waits_now, waits_over, with_scan}
use Rattle.ion_tokens.specs.machine.Scanning as scanning
use Rattle.ion_tokens.proofs.runs.GoesOn.{one_on, through}
use Rattle.ion_tokens.proofs.runs.Runs.{feed_used, next_used}
use Rattle.ion_text.specs.laws.reading.complete.Meets.{LongOn, is_long_text, long_feed}

-- no token has begun that may not
open_mode : (n : Stage) (m : Mode) → waits_over n m ≡ true → (shut n && not (is_idle m)) ≡ false
open_mode Stage.Ready m h = absurd cc
open_mode Stage.Name m h = absurd cc
open_mode Stage.After m h = ap not h
open_mode (Stage.Keyed s) m h = ap not h
open_mode _ m h = refl

end_if : ℕ → Option Begun → ℕ
end_if d None = d
end_if d (Some b) = b.end

long_within : (start used bound : ℕ) (end : ℕ) (w : List ℕ) (ss : Symbols) (b : Option Begun) (n : ℕ) → end ≤ start + bound → end_if 0 b ≤ used
    → used ≤ start + bound → longest_top start used (Stage.Long w end) ss b n ≤ bound
unfolding end_if
long_within start used bound end w ss None n h e u = omega arith
long_within start used bound end w ss (Some b) n h e u = let inside : b.end ≤ used = e in by inside (is_long_form b.form && not (n == 0)) where
  by : b.end ≤ used → (c : Bool) → (if c then b.end - start else end - start) ≤ bound
  by inside true = omega arith
  by inside false = omega arith

begun_end : (s : Known) (idle : Bool) → end_if 0 (if idle then None else Some (record { start = s.start; end = s.used - behind s.mode; form = form_of s.mode }))
    ≤ s.used
unfolding end_if
begun_end s true = omega arith
begun_end s false = let inside : s.used - behind s.mode ≤ s.used = omega arith in inside

-- the open item has at most as many octets as the limit
top_within : (start bound : ℕ) (n : Stage) (s : Known) (ss : Symbols) (k : ℕ) → waits_over n s.mode ≡ true → ended_so_far n ≤ start + bound → s.used ≤ start + bound
    → longest_top start s.used n ss (begun_in s) k ≤ bound
top_within start bound Stage.Ready s ss k l e u = absurd cc
top_within start bound Stage.Name s ss k l e u = absurd cc
top_within start bound (Stage.Long w end) s ss k l e u = long_within start s.used bound end w ss (begun_in s) k e (begun_end s (is_idle s.mode)) u
top_within start bound _ s ss k l e u = omega arith

reach_within : (l : Limits) (r : Reading) (s : Known) (fs : List Frame) → waits_over r.now s.mode ≡ true → ended_so_far r.now ≤ r.start + l.item
    → s.used ≤ r.start + l.item → reaches fs r s ≤ l.item
reach_within l r s [] w e u = top_within r.start l.item r.now s r.notes (is_long_begun (begun_in s)) w e u
reach_within l r s (f ∷ fs) w e u = omega arith

-- over them the open item isn't too long, and nothing is refused
pub waiting_noticed : (l : Limits) (r : Reading) (s : Known) → waits_over r.now s.mode ≡ true → ended_so_far r.now ≤ r.start + l.item → s.used ≤ r.start + l.item
    → noticed l r s ≡ uses (with_scan s r)
waiting_noticed l r s w e u =
    ap (λ b. if b then fails Reason.Unexpected else (if nat_le (reaches r.frames r s) l.item then uses (with_scan s r) else fails Reason.ItemTooLong))
    (open_mode r.now s.mode w)
    ∙ ap (λ b. if b then uses (with_scan s r) else fails Reason.ItemTooLong) (le-leb (reaches r.frames r s) l.item (reach_within l r s r.frames w e u))

-- a further segment of a long string goes on to be one
quoting_text : (m : Mode) → is_long_text m ≡ true → (is_idle m || is_quoting m) ≡ true
quoting_text (Mode.Text Style.LongString w) h = refl
quoting_text _ h = absurd cc

no_text : (m : Mode) → is_idle m ≡ true → is_long_text m ≡ true → ⊥
no_text (Mode.Text style w) i h = absurd cc
no_text _ i h = absurd cc

text_lulls : (n : Stage) (m k : Mode) → waits_over n m ≡ true → is_long_text m ≡ true → is_long_text k ≡ true → waits_over n k ≡ true
text_lulls Stage.Ready m k w h i = absurd cc
text_lulls Stage.Name m k w h i = absurd cc
text_lulls (Stage.Long w end) m k w' h i = quoting_text k i
text_lulls (Stage.LongName w) m k w' h i = quoting_text k i
text_lulls _ m k w h i = absurd (no_text m w h)

-- the only text over which it waits
waits_in_text : (n : Stage) (s : Style) → waits_over n (Mode.Text s Within.Plain) ≡ true → is_long_text (Mode.Text s Within.Plain) ≡ true
waits_in_text n Style.LongString h = refl
waits_in_text Stage.Ready _ h = absurd cc
waits_in_text _ _ h = absurd cc

each_or_text : (n : Stage) (m : Mode) (w : List ℕ) → waits_over n m ≡ true → GoesOver m w → Each (goes_on m) w ⊎ (is_long_text m ≡ true)
each_or_text n (Mode.Text s Within.Plain) w h over = inr (waits_in_text n s h)
each_or_text n _ w h over = inl over

module _ (g : Catalog) (l : Limits) (r : Reading) where
  quiet_waiting : (p : Place) (os : List ℕ) (s : Known) → Each (goes_on s.mode) os → MayWaitOver l r s (length os) → Quiet g l r p s os
  quiet_waiting p [] s each waiting_run = tt
  quiet_waiting p (o ∷ os) s each waiting_run =
      let one = one_on p s o each.0 in
      let t = gone_on s (o ∷ []) in
      let w = waiting_run.waits in
      let e = waiting_run.ended in
      let room = waiting_run.room in
      subst (λ x. OnNext x (λ t. (noticed l r t ≡ uses (with_scan t r)) × Quiet g l r p t os)) (sym one)
      (waiting_noticed l r t w e (omega arith), quiet_waiting p os t each.1 (record { waits = w; ended = e; room = omega arith }))

  waiting_lull : (p : Place) (os : List ℕ) (s : Known) → Each (goes_on s.mode) os → waits_over r.now s.mode ≡ true
      → ((t : Known) → waits_over r.now t.mode ≡ true → waits r (Next t) ≡ true) → Waiting g l r p s os
  waiting_lull p [] s each waiting_run more = tt
  waiting_lull p (o ∷ os) s each waiting_run more =
      let t = gone_on s (o ∷ []) in
      subst (λ x. (waits r x ≡ true) × OnNext x (λ k. AtEach (λ x. waits r x) p os k)) (sym (one_on p s o each.0))
      (more t waiting_run, waiting_lull p os t each.1 waiting_run more)

  -- a mark is awaited, or more of what waits
  waits_or_not : (start : ℕ) (c : List Slot) (fs : List Frame) (ss : Symbols) (top : Bool) (n : Stage) (m : Mode) → waits_over n m ≡ true
      → (settled (under g l) start c fs ss n ≡ goes (at start c fs ss n)) ⊎ ((t : Known) → waits_over n t.mode ≡ true → waits_now top n (Next t) ≡ true)
  waits_or_not start c fs ss top Stage.Ready m h = absurd cc
  waits_or_not start c fs ss top Stage.Name m h = absurd cc
  waits_or_not start c fs ss top Stage.After m h = inl refl
  waits_or_not start c fs ss top (Stage.Keyed s) m h = inl refl
  waits_or_not start c fs ss top _ m h = inr (λ t h. h)

  stays_waiting : (os : List ℕ) (s : Known) → Each (goes_on s.mode) os → waits_over r.now s.mode ≡ true → Stays g l r (place r) s os
  stays_waiting os s each waiting_run = by (waits_or_not r.start r.context r.frames r.notes (is_top r.frames) r.now s.mode waiting_run) where
    by : (settle g l r ≡ goes r) ⊎ ((t : Known) → waits_over r.now t.mode ≡ true → waits r (Next t) ≡ true) → Stays g l r (place r) s os
    by (inl e) = inl e
    by (inr more) = inr (waiting_lull (place r) os s each waiting_run more)

  -- the same over a text's characters, where each octet leads on in the text
  quiet_text : (p : Place) (os : List ℕ) (s t : Known) → is_long_text s.mode ≡ true → scanning.run p os s ≡ Next t → MayWaitOver l r s (length os)
      → Quiet g l r p s os
  quiet_text p [] s t long ran waiting_run = tt
  quiet_text p (o ∷ os) s t long ran waiting_run =
      through (feed p s o) (λ k. scanning.run p os k) t (Quiet g l r p s (o ∷ os)) ran
      (λ k went rest.
      let on : is_long_text k.mode ≡ true = subst LongOn went (long_feed p s o long) in
      let w : waits_over r.now k.mode ≡ true = text_lulls r.now s.mode k.mode waiting_run.waits long on in
      let e = waiting_run.ended in
      let room = waiting_run.room in
      let used = feed_used p s k o went in
      subst (λ x. OnNext x (λ t. (noticed l r t ≡ uses (with_scan t r)) × Quiet g l r p t os)) (sym went)
      (waiting_noticed l r k w e (omega arith), quiet_text p os k t on rest (record { waits = w; ended = e; room = omega arith })))

  waiting_text : (p : Place) (os : List ℕ) (s t : Known) → is_long_text s.mode ≡ true → scanning.run p os s ≡ Next t → waits_over r.now s.mode ≡ true
      → ((t : Known) → waits_over r.now t.mode ≡ true → waits r (Next t) ≡ true) → Waiting g l r p s os
  waiting_text p [] s t long ran waiting_run more = tt
  waiting_text p (o ∷ os) s t long ran waiting_run more =
      through (feed p s o) (λ k. scanning.run p os k) t (Waiting g l r p s (o ∷ os)) ran
      (λ k went rest.
      let on : is_long_text k.mode ≡ true = subst LongOn went (long_feed p s o long) in
      let w : waits_over r.now k.mode ≡ true = text_lulls r.now s.mode k.mode waiting_run long on in
      subst (λ x. (waits r x ≡ true) × OnNext x (λ k. AtEach (λ x. waits r x) p os k)) (sym went) (more k w, waiting_text p os k t on rest w more))

  stays_text : (os : List ℕ) (s t : Known) → is_long_text s.mode ≡ true → scanning.run (place r) os s ≡ Next t → waits_over r.now s.mode ≡ true
      → Stays g l r (place r) s os
  stays_text os s t long ran waiting_run = by (waits_or_not r.start r.context r.frames r.notes (is_top r.frames) r.now s.mode waiting_run) where
    by : (settle g l r ≡ goes r) ⊎ ((t : Known) → waits_over r.now t.mode ≡ true → waits r (Next t) ≡ true) → Stays g l r (place r) s os
    by (inl e) = inl e
    by (inr more) = inr (waiting_text (place r) os s t long ran waiting_run more)

  -- the run over them leads where the scanner is led
  pub led_by_waiting : (os : List ℕ) (s t : Known) → MayWaitOver l r s (length os) → GoesOver s.mode os → ((p : Place) → scanning.run p os s ≡ Next t)
      → run g l s.used (with_scan s r) os ≡ led (with_scan t r)
  led_by_waiting os s t waiting_run over ran = by (each_or_text r.now s.mode os waiting_run.waits over) where
    by : Each (goes_on s.mode) os ⊎ (is_long_text s.mode ≡ true) → run g l s.used (with_scan s r) os ≡ led (with_scan t r)
    by (inl each) = drive g l os s.used r s t (ran (place r)) (quiet_waiting (place r) os s each waiting_run) (stays_waiting os s each waiting_run.waits)
    by (inr long) = drive g l os s.used r s t (ran (place r)) (quiet_text (place r) os s t long (ran (place r)) waiting_run)
        (stays_text os s t long (ran (place r)) waiting_run.waits)

-- which uses them all
pub used_by_waiting : (os : List ℕ) (s t : Known) (p : Place) → scanning.run p os s ≡ Next t → t.used ≡ s.used + length os
used_by_waiting os s t p ran = next_used p os s t (sym ran)
