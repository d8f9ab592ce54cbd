-- Octets with which the scanner's mode goes on, taken up at once.
use Rattle.std.proofs.Common.{◌≡◌, ℕ, ◌+◌, ◌-◌, ◌^◌, ◌<◌, ◌≤◌, min, Bool, true, false, cond, List, [], ◌∷◌, ◌++◌, length, take, drop, refl, sym, ap, ◌∙◌, subst, arith, append_assoc, append-nil, length-drop}
use Rattle.std.specs.Prelude.{◌==◌, ◌||◌, not}
use Rattle.std.specs.List.{prefix_len, take_while}
use Rattle.std.proofs.lemmas.List.{take-append-drop, drop-drop, length-take}
use Rattle.std.proofs.lemmas.List.Folds.{length-prefix_len}
use Rattle.std.proofs.lemmas.Grind.{common_steps}
use Rattle.std.proofs.lemmas.Bool.Decides.{nat_tests}
use Rattle.std.proofs.lemmas.List.Sums.{take_while-cons}
use Rattle.ion_tokens.specs.Names.{Action, Each, GoesOver, IsSteady, Keep, Known, Lob, Mode, Next, Outcome, Place, StaysSteady, Within, acts, feed, follow, go_to, goes_on, gone_on, in_blank, is_line_end, is_stop, is_white, is_word_octet, keeps_them, kept_after, run, start_of}
use Rattle.std.proofs.lemmas.Bool.{cond_both}
use Rattle.ion_tokens.specs.machine.Table.{next}
use Rattle.ion_tokens.proofs.bounds.Steady.{feed_steady}
use Rattle.ion_tokens.proofs.runs.Cutting.{run-append}
use Rattle.ion_tokens.proofs.runs.Runs.{feed_used, next_used}
use Rattle.ion_tokens.proofs.texts.Characters.{kept_goes, plain_stays}

-- what is kept of an octet with which the mode goes on
abbrev keep_of : Mode → ℕ → Keep
keep_of m o = cond (keeps_them m) (Keep.One o) Keep.Nothing

-- what the table says of an octet with which the mode goes on
white_more : (p : Place) (colon : Bool) (o : ℕ) → is_white o ≡ true → in_blank p colon o ≡ Action.Go Mode.Blank Keep.Nothing
white_more p colon o h = grind (arith, nat_tests)

comment_more : (b : Bool) (m n : Mode) → not b ≡ true → Action.Go (cond b m n) Keep.Nothing ≡ Action.Go n Keep.Nothing
comment_more false m n h = refl
comment_more true m n h = cc

word_more : (b : Bool) (a e : Action) → b ≡ true → cond b a e ≡ a
word_more true a e h = refl
word_more false a e h = cc

number_more : (a b : Bool) (x y z : Action) → not (a || b) ≡ true → cond a x (cond b y z) ≡ z
number_more false false x y z h = refl
number_more _ _ x y z h = cc

pub stays : (p : Place) (colon : Bool) (m : Mode) (o : ℕ) → goes_on m o ≡ true → next p colon m o ≡ Action.Go m (keep_of m o)
stays p colon Mode.Blank o h = white_more p colon o h
stays p colon Mode.LineComment o h = comment_more (is_line_end o) Mode.Blank Mode.LineComment h
stays p colon Mode.BlockComment o h = comment_more (o == 42) Mode.BlockCommentStar Mode.BlockComment h
stays p colon Mode.Word o h = word_more (is_word_octet o) _ _ h
stays p colon Mode.Number o h = number_more (is_stop o) (o == 47) _ _ _ h
stays p colon (Mode.Text s Within.Plain) o h = plain_stays s o h
stays p colon (Mode.Lob Lob.Base64) o h = grind (arith, nat_tests)
stays p colon _ o h = cc h

kept_one : (b : Bool) (o : ℕ) (k : List ℕ) → kept_after (cond b (Keep.One o) Keep.Nothing) k ≡ cond b (k ++ o ∷ []) k
kept_one true o k = refl
kept_one false o k = refl

-- what the scanner knows behind one octet with which its mode goes on
pub one_on : (p : Place) (s : Known) (o : ℕ) → goes_on s.mode o ≡ true → feed p s o ≡ Next (gone_on s (o ∷ []))
one_on p s o h =
    let none : s.used ≡ s.used + (length (o ∷ []) - 1) = omega arith in
    ap (λ a. acts p s o a) (stays p s.colon s.mode o h)
    ∙ ap (λ k. Next (go_to s s.mode k)) (kept_one (keeps_them s.mode) o s.kept)
    ∙ ap (λ (u : ℕ). Next (record (gone_on s (o ∷ [])) { start = start_of s.mode s.start u })) none

kept_more : (b : Bool) (k : List ℕ) (o : ℕ) (os : List ℕ) → cond b (cond b (k ++ o ∷ []) k ++ os) (cond b (k ++ o ∷ []) k) ≡ cond b (k ++ o ∷ os) k
kept_more true k o os = append_assoc k (o ∷ []) os
kept_more false k o os = refl

start_later : (m : Mode) (o : ℕ) (start u v w : ℕ) → goes_on m o ≡ true → v ≡ w → start_of m (start_of m start u) v ≡ start_of m start w
start_later Mode.Blank o start u v w h e = e
start_later Mode.Slash o start u v w h e = cc
start_later _ o start u v w h e = refl

-- behind one octet and more it is what it is behind all of them
more_on : (s : Known) (o q : ℕ) (os : List ℕ) → goes_on s.mode o ≡ true → gone_on (gone_on s (o ∷ [])) (q ∷ os) ≡ gone_on s (o ∷ q ∷ os)
more_on s o q os h =
    let later : (s.used + length (o ∷ [])) + (length (q ∷ os) - 1) ≡ s.used + (length (o ∷ q ∷ os) - 1) = omega arith in
    let used : (s.used + length (o ∷ [])) + length (q ∷ os) ≡ s.used + length (o ∷ q ∷ os) = omega arith in
    let kept = kept_more (keeps_them s.mode) s.kept o (q ∷ os) in
    let start = start_later s.mode o s.start (s.used + (length (o ∷ []) - 1)) _ _ h later in
    cc

-- Octets with which the mode goes on are taken up at once.
pub run_on : (p : Place) (s : Known) (w : List ℕ) → 0 < length w → Each (goes_on s.mode) w → run p w s ≡ Next (gone_on s w)
run_on p s [] some h = absurd (omega arith)
run_on p s (o ∷ []) some h = ap (λ x. follow x (λ t. Next t)) (one_on p s o h.0)
run_on p s (o ∷ q ∷ os) some h =
    ap (λ x. follow x (λ t. run p (q ∷ os) t)) (one_on p s o h.0)
    ∙ run_on p (gone_on s (o ∷ [])) (q ∷ os) (omega arith) h.1
    ∙ ap Next (more_on s o q os h.0)

-- Octets over which the mode goes on, too.
pub run_over : (p : Place) (s : Known) (w : List ℕ) → 0 < length w → GoesOver s.mode w → run p w s ≡ Next (gone_on s w)
run_over p s w some h = by s.mode s.kept s.colon s.start s.used h where
  by : (m : Mode) (kept : List ℕ) (colon : Bool) (start used : ℕ) → GoesOver m w
      → run p w (record { mode = m; kept = kept; colon = colon; start = start; used = used })
      ≡ Next (gone_on (record { mode = m; kept = kept; colon = colon; start = start; used = used }) w)
  by (Mode.Text style Within.Plain) kept colon start used h =
      ap (λ l. run p l (record { mode = Mode.Text style Within.Plain; kept = kept; colon = colon; start = start; used = used })) (sym (append-nil w))
      ∙ (kept_goes p style w kept h).on colon start used []
  by m kept colon start used h = run_on p (record { mode = m; kept = kept; colon = colon; start = start; used = used }) w some h

-- where all octets are used, the first one is
pub through : (x : Outcome) (f : Known → Outcome) (t : Known) (Q : Type 0) → follow x f ≡ Next t → ((s : Known) → x ≡ Next s → f s ≡ Next t → Q) → Q
through (Next s) f t Q e h = h s refl e
through _ f t Q e h = cc

-- Octets that are all used keep a scanner steady.
run_steady : (p : Place) (w : List ℕ) (s t : Known) (n : ℕ) → run p w s ≡ Next t → IsSteady s n → s.used + length w < 2 ^ 63 → IsSteady t (n + length w)
run_steady p [] s t n e h room = subst (λ x. StaysSteady x (n + 0)) e (subst (λ k. IsSteady s k) (let none : n ≡ n + 0 = omega arith in none) h)
run_steady p (o ∷ os) s t n e h room =
    through (feed p s o) (λ s'. run p os s') t (IsSteady t (n + length (o ∷ os))) e
    (λ s' went rest.
    let used = feed_used p s s' o went in
    let one : IsSteady s' (n + 1) = subst (λ x. StaysSteady x (n + 1)) went (feed_steady p s o n h (omega arith)) in
    let far : (n + 1) + length os ≡ n + length (o ∷ os) = omega arith in
    subst (λ k. IsSteady t k) far (run_steady p os s' t (n + 1) rest one (omega arith)))

-- the octets at the front of a class are of the class
pub each_front : (class : ℕ → Bool) (w : List ℕ) → Each class (take_while class w)
each_front class [] = tt
each_front class (o ∷ os) = subst (λ l. Each class l) (sym (take_while-cons class o os))
    (cond_both (class o) _ _ (Each class) (λ e. (e, each_front class os)) (λ _. tt))

-- as many octets as there are at the front of a class
fronts : (class : ℕ → Bool) (w : List ℕ) → take (length (take_while class w)) w ≡ take_while class w
fronts class w = ap (λ k. take k w) (length-prefix_len class w)

-- The octets at the front of what is left of a piece, over which the mode goes on, and what the scanner knows behind them.
pub record TakesFront (piece : List ℕ) (at k : ℕ) (s t : Known) (n m : ℕ) : Type 0 where
  pub some : 0 < k
  pub within : k ≤ length (take (length piece - at) (drop at piece))
  pub over : GoesOver s.mode (take k (take (length piece - at) (drop at piece)))
  pub taken : t ≡ gone_on s (take k (take (length piece - at) (drop at piece)))
  pub looked : m ≡ min (n + length (take k (take (length piece - at) (drop at piece)))) (2 ^ 64 - 1)

-- as many octets as are left of a piece are all that are left
pub rest_is : (piece : List ℕ) (at : ℕ) → take (length piece - at) (drop at piece) ≡ drop at piece
rest_is piece at = grind (arith, common_steps)

-- so many octets as a class has at the front are that front
pub front_all : (class : ℕ → Bool) (w : List ℕ) (k : ℕ) → k ≡ length (take_while class w) → take k w ≡ take_while class w
front_all class w k e = ap (λ i. take i w) e ∙ fronts class w

-- the octets at the front with which the mode goes on are taken up at once
pub front_on : (p : Place) (w : List ℕ) (k : ℕ) (s : Known) → k ≡ length (take_while (goes_on s.mode) w) → 0 < k
    → run p (take k w) s ≡ Next (gone_on s (take k w))
front_on p w k s e some =
    let is = front_all (goes_on s.mode) w k e in
    run_on p s (take k w) (let n = ap (λ (l : List ℕ). length l) is in omega arith)
    (subst (λ l. Each (goes_on s.mode) l) (sym is) (each_front (goes_on s.mode) w))

-- what is left behind octets that are all used
run_past : (p : Place) (w : List ℕ) (k : ℕ) (s t : Known) → run p (take k w) s ≡ Next t → run p (drop k w) t ≡ run p w s
run_past p w k s t e =
    sym (ap (λ x. follow x (λ u. run p (drop k w) u)) e)
    ∙ sym (run-append p (take k w) (drop k w) s)
    ∙ ap (λ l. run p l s) (take-append-drop k w)

-- the mode went on over them
went : (p : Place) (piece : List ℕ) (at k : ℕ) (s t : Known) (n m : ℕ) → TakesFront piece at k s t n m → run p (take k (drop at piece)) s ≡ Next t
went p piece at k s t n m h =
    let rest = take (length piece - at) (drop at piece) in
    let some : 0 < length (take k rest) = let a = h.some in let b = h.within in let l = length-take k rest in omega arith in
    subst (λ w. run p (take k w) s ≡ Next t) (rest_is piece at) (run_over p s (take k rest) some h.over ∙ ap Next (sym h.taken))

-- What is left behind them leads where what was left before them leads.
pub leads_on : (p : Place) (piece : List ℕ) (at k : ℕ) (s t : Known) (n m : ℕ) → TakesFront piece at k s t n m → run p (drop (at + k) piece) t
    ≡ run p (drop at piece) s
leads_on p piece at k s t n m h = ap (λ w. run p w t) (sym (drop-drop k at piece)) ∙ run_past p (drop at piece) k s t (went p piece at k s t n m h)

pub steady_from : (p : Place) (w : List ℕ) (s t : Known) (n m : ℕ) → run p w s ≡ Next t → IsSteady s n → s.used + length w < 2 ^ 63
    → m ≡ min (n + length w) (2 ^ 64 - 1) → IsSteady t m
steady_from p w s t n m e h room looked =
    let now = run_steady p w s t n e h room in
    let used = next_used p w s t (sym e) in
    let d = now.twice in
    let is : n + length w ≡ m = omega arith in
    subst (λ k. IsSteady t k) is now

-- They keep a scanner steady, whose count of octets taken up stays below 2^64.
pub stays_steady : (p : Place) (piece : List ℕ) (at k : ℕ) (s t : Known) (n m : ℕ) → TakesFront piece at k s t n m → s.used + length (drop at piece) < 2 ^ 63
    → IsSteady s n → IsSteady t m
stays_steady p piece at k s t n m h room steady =
    let is = rest_is piece at in
    let looked = subst (λ w. m ≡ min (n + length (take k w)) (2 ^ 64 - 1)) is h.looked in
    let fits : s.used + length (take k (drop at piece)) < 2 ^ 63 = let l = length-take k (drop at piece) in omega arith in
    steady_from p (take k (drop at piece)) s t n m (went p piece at k s t n m h) steady fits looked

pub front_within : (class : ℕ → Bool) (w : List ℕ) → length (take_while class w) ≤ length w
front_within class w = let l = length-take (prefix_len class w) w in omega arith

-- They are part of the piece.
pub within_piece : (piece : List ℕ) (at k : ℕ) (s t : Known) (n m : ℕ) → TakesFront piece at k s t n m → at ≤ length piece → at + k ≤ length piece
within_piece piece at k s t n m h le =
    let l = subst (λ (w : List ℕ). k ≤ length w) (rest_is piece at) h.within in
    let d = length-drop at piece in
    omega arith

-- Each of them is counted.
pub counts : (piece : List ℕ) (at k : ℕ) (s t : Known) (n m : ℕ) → TakesFront piece at k s t n m → t.used ≡ s.used + k
counts piece at k s t n m h =
    let rest = take (length piece - at) (drop at piece) in
    let u : t.used ≡ s.used + length (take k rest) = ap (λ (x : Known). x.used) h.taken in
    let l = length-take k rest in
    let f = h.within in
    omega arith

-- So each is looked at once.
pub looks_on : (piece : List ℕ) (at k : ℕ) (s t : Known) (n m : ℕ) → TakesFront piece at k s t n m → m ≡ min (n + k) (2 ^ 64 - 1)
looks_on piece at k s t n m h =
    let rest = take (length piece - at) (drop at piece) in
    let l = length-take k rest in
    let f = h.within in
    let looked = h.looked in
    omega arith

-- Octets over which the mode goes on keep a scanner steady.
pub going_steady : (w : List ℕ) (s t : Known) (n m : ℕ) → 0 < length w → GoesOver s.mode w → t ≡ gone_on s w → s.used + length w < 2 ^ 63
    → m ≡ min (n + length w) (2 ^ 64 - 1) → IsSteady s n → IsSteady t m
going_steady w s t n m some over is room looked steady =
    steady_from Place.Top w s t n m (run_over Place.Top s w some over ∙ ap Next (sym is)) steady room looked

-- They lead on.
pub going_led : (w : List ℕ) (s t : Known) → 0 < length w → GoesOver s.mode w → t ≡ gone_on s w → (p : Place) → run p w s ≡ Next t
going_led w s t some over is p = run_over p s w some over ∙ ap Next (sym is)
