-- What stands open behind the whole pieces, where no octet is refused: an item within the limit, a blank's prefix, or what may go on.
use Rattle.std.proofs.Common.{◌≡◌, ℕ, ◌+◌, ◌-◌, ◌≤◌, Bool, true, false, List, [], ◌∷◌, ◌++◌, length, Option, Some, None, refl, sym, ap, ◌∙◌, subst, arith, append_assoc, append-nil, length-append, ◌⊎◌, inl, inr, if◌then◌else◌}
use Rattle.std.proofs.lemmas.Bool.{false_from_ne_true}
use Rattle.std.specs.Prelude.{codes, ◌||◌}
use Rattle.ion_text.specs.Names.{Begun, BegunSo, Catalog, Form, Frame, HasBegun, IsBlank, IsFirstColon, LexesTo, Limits, LineComment, MayComment, Next, OpenRest, Place, Placed, Scanned, ShowsBegun, Stage, State, Symbols, Value, begun_in, behind, colon_behind, form_of, is_fresh, is_idle, is_long_begun, is_long_form, is_top, longest_top, place, reaches, scan as run, start_of}
use Rattle.ion_tokens.proofs.complete.Moves.{blank}
use Rattle.ion_tokens.proofs.complete.TakesBlanks.{passes_blank}
use Rattle.ion_tokens.proofs.foreseen.Begins.{begun_right}
use Rattle.ion_tokens.proofs.foreseen.Reaches.{begun_stays}
use Rattle.ion_tokens.proofs.sound.Holds.{blank_none}
use Rattle.ion_tokens.proofs.sound.Sounds.{RunSound, run_sound}
use Rattle.ion_text.specs.Grammar.{end_of}
use Rattle.ion_text.specs.laws.reading.Stops.{stood_used}
use Rattle.ion_text.specs.laws.reading.complete.Complete.{last_end}
use Rattle.ion_text.specs.laws.reading.complete.Quiet.{CalmNow}
use Rattle.ion_text.specs.laws.reading.sound.Admits.{no_item}
use Rattle.ion_text.specs.laws.reading.sound.Held.{IsFirst, NoLongText, none_open}
use Rattle.ion_text.specs.laws.reading.sound.StandsOpen.{EndsAt, NowStands}
use Rattle.ion_text.specs.laws.reading.sound.Steps.{Stood}
use Rattle.ion_text.specs.laws.showing.shown.Fronts.{fresh_is, front_end}
use Rattle.ion_text.specs.laws.showing.shown.Within.{Within}
use Rattle.ion_text.specs.laws.showing.tokens.Cuts.{BlankInFront, OpenBehind, behind_tokens, lexed_front, parts_meet, parts_same}

-- what follows a blank in a blank is one
pub blank_follows : (w x : List ℕ) → IsBlank w → IsBlank (w ++ x) → IsBlank x
blank_follows w x a b =
    let f = passes_blank Place.Top false w a 0 0 in
    let h = passes_blank Place.Top false (w ++ x) b 0 0 in
    let ran : run Place.Top x (blank false f.0 (0 + length w)) ≡ Next (blank false h.0 (0 + length (w ++ x))) =
    sym (f.1 x) ∙ (ap (λ y. run Place.Top y (blank false 0 0)) (sym (append-nil (w ++ x))) ∙ h.1 []) in
    let k = subst (λ y. RunSound Place.Top false (0 + length w) [] x y) ran
    (run_sound Place.Top false (0 + length w) x [] (blank false f.0 (0 + length w)) (record { flag = refl; used = omega arith; mode = (refl, blank_none) })) in
    k.mode.1

-- tokens end where the last one does
pub lexed_end : (ts : List Placed) (colon : Bool) (before : ℕ) (octets : List ℕ) (after : Bool) (end : ℕ) (rest : List ℕ)
    → LexesTo colon before octets ts after end rest → end ≡ end_of before ts
lexed_end [] colon before octets after end rest (c, b, o) = sym b
lexed_end (t ∷ ts) colon before octets after end rest (q, b, h) = lexed_end ts (colon_behind t) t.lexeme.end q after end rest h

-- and none begins behind that
pub start_before : (front : List Placed) (t : Placed) (ts : List Placed) (colon : Bool) (before : ℕ) (octets : List ℕ) (after : Bool) (end : ℕ) (rest : List ℕ)
    → LexesTo colon before octets (front ++ t ∷ ts) after end rest → t.lexeme.start ≤ end
start_before [] t ts colon before octets after end rest (q, b, h) =
    let p = lexed_front ts (colon_behind t) t.lexeme.end q after end rest h in omega (arith, p.2, b.end, b.start)
start_before (x ∷ xs) t ts colon before octets after end rest (q, b, h) = start_before xs t ts (colon_behind x) x.lexeme.end q after end rest h

nothing_left : (z rest : List ℕ) → z ++ rest ≡ [] → rest ≡ []
nothing_left [] rest e = e
nothing_left (o ∷ z) rest e = absurd cc

module _ (l : Limits) where
  -- octets of an item alone
  item_rest : (rest : List ℕ) → length rest ≤ l.item → OpenRest l rest
  item_rest rest h = record {
    before = [];
    item = rest;
    blank = [];
    behind = [];
    parts = sym (append-nil rest);
    is_before = blank_none;
    fits =
        h;
    is_blank = ([], blank_none);
    shut = inl refl;
  }

  empty_rest : (rest : List ℕ) → rest ≡ [] → OpenRest l rest
  empty_rest rest e = item_rest rest (omega (arith, ap length e))

  -- an item's octets, and a blank's prefix or a blank and a colon
  blank_rest : (colon : Bool) (y x : List ℕ) → length y ≤ l.item → ((more : List ℕ) × IsBlank (x ++ more)) ⊎ IsFirstColon colon x → OpenRest l (y ++ x)
  blank_rest colon y x h (inl (more, b)) = record {
    before = [];
    item = y;
    blank = x;
    behind = [];
    parts = ap (λ z. y ++ z) (sym (append-nil x));
    is_before =
        blank_none;
    fits = h;
    is_blank = (more, b);
    shut = inl refl;
  }
  blank_rest colon y x h (inr (flag, w, b, e)) = record {
    before = [];
    item = y;
    blank = w;
    behind = codes ":";
    parts = ap (λ z. y ++ z) e;
    is_before = blank_none;
    fits = h;
    is_blank = ([], subst IsBlank (sym (append-nil w)) b);
    shut = inr (b, inl refl);
  }

  -- an item's octets, a blank, and what may begin a segment
  quote_rest : (y x w token : List ℕ) → length y ≤ l.item → x ≡ w ++ token → IsBlank w → (token ≡ codes "'") ⊎ (token ≡ codes "''") → OpenRest l (y ++ x)
  quote_rest y x w token h e b q = record {
    before = [];
    item = y;
    blank = w;
    behind = token;
    parts = ap (λ z. y ++ z) e;
    is_before = blank_none;
    fits = h;
    is_blank = ([], subst IsBlank (sym (append-nil w)) b);
    shut = inr (b, inr q);
  }

  -- an item's octets, and a `/` that may begin a comment
  slash_rest : (y rest : List ℕ) → length y ≤ l.item → y ++ codes "/" ≡ rest → OpenRest l rest
  slash_rest y rest h e = subst (OpenRest l) e (blank_rest false y (codes "/") h
      (inl (codes "/\n", record { pieces = LineComment [] 10 ∷ []; each = ((tt, refl), tt); spelled = refl })))

  last_slash : (z rest : List ℕ) → z ++ rest ≡ codes "/" → OpenRest l rest
  last_slash [] rest e = slash_rest [] rest (omega arith) (sym e)
  last_slash (o ∷ z) rest e = empty_rest rest (nothing_left z rest (let n : z ++ rest ≡ [] = cc in n))

  last_colon : (z rest : List ℕ) → z ++ rest ≡ codes ":" → OpenRest l rest
  last_colon [] rest e = blank_rest true [] rest (omega arith) (inr (refl, [], blank_none, e))
  last_colon (o ∷ z) rest e = empty_rest rest (nothing_left z rest (let n : z ++ rest ≡ [] = cc in n))

  -- a token has begun, and its octets are counted
  counted : (p : Place) (u front rest token octets : List ℕ) (ts : List Placed) (colon : Bool) (end : ℕ) (b : Begun) → u ≡ front ++ rest → u ≡ token ++ octets
      → end ≡ 0 + length token → HasBegun p u ts colon end octets b → b.end - length front ≤ l.item → OpenRest l rest
  counted p u front rest T octets ts colon end b parts cut at' h fits = by h.reaches
    where
      sizes : (length front + length rest ≡ length u) × (length T + length octets ≡ length u)
      sizes = (sym (ap length parts ∙ length-append front rest), sym (ap length cut ∙ length-append T octets))

      slashed : (x : List ℕ) → b.end + 1 ≡ end + length octets → h.token ≡ x ++ codes "/" → OpenRest l rest
      slashed x last e = meets (parts_meet ((T ++ h.blank) ++ x) (codes "/") front rest (sym whole ∙ parts))
        where
          whole : u ≡ ((T ++ h.blank) ++ x) ++ codes "/"
          whole = cut ∙ (ap (λ z. T ++ z) (h.cut ∙ ap (λ z. h.blank ++ z) e)
              ∙ (sym (append_assoc T h.blank (x ++ codes "/")) ∙ sym (append_assoc (T ++ h.blank) x (codes "/"))))

          meets : ((y : List ℕ) × ((T ++ h.blank) ++ x ≡ front ++ y) × (y ++ codes "/" ≡ rest))
              ⊎ ((z : List ℕ) × (front ≡ ((T ++ h.blank) ++ x) ++ z) × (z ++ rest ≡ codes "/")) → OpenRest l rest
          meets (inl (y, f, k)) = slash_rest y rest (omega (arith, fits, last, at', sizes.0, sizes.1, ap length k, length-append y (codes "/"))) k
          meets (inr (z, f, k)) = last_slash z rest k

      by : (b.end ≡ end + length octets) ⊎ ((b.end + 1 ≡ end + length octets) × (x : List ℕ) × (h.token ≡ x ++ codes "/") × MayComment p u ts b)
          → OpenRest l rest
      by (inl last) = item_rest rest (omega (arith, fits, last, at', sizes.0, sizes.1))
      by (inr (last, x, e, m)) = slashed x last e

  -- the item's octets, up to where its last token ended
  record ItemSoFar (T octets rest : List ℕ) : Type 0 where
    item : List ℕ
    fits : length item ≤ l.item
    same : item ++ octets ≡ rest

  waits : (front rest T octets : List ℕ) → T ++ octets ≡ front ++ rest → length front ≤ length T → length T - length front ≤ l.item → ItemSoFar T octets rest
  waits front rest T octets e before fits = by (parts_meet T octets front rest e)
    where
      by : ((y : List ℕ) × (T ≡ front ++ y) × (y ++ octets ≡ rest)) ⊎ ((z : List ℕ) × (front ≡ T ++ z) × (z ++ rest ≡ octets)) → ItemSoFar T octets rest
      by (inl (y, f, k)) = record { item = y; fits = omega (arith, fits, ap length f, length-append front y); same = k }
      by (inr ([], f, k)) = record { item = []; fits = omega arith; same = sym k }
      by (inr (o ∷ z, f, k)) = absurd (let n = ap length f ∙ length-append T (o ∷ z) in omega (arith, n, before))

module _ (g : Catalog) (l : Limits) (u : List ℕ) (vs : List Value) (m : State) (b : Stood g l u vs m) (within : Within g l m) (front rest : List ℕ)
    (parts : u ≡ front ++ rest) (ends : length front ≡ front_end m.scan m.reading) where
  open m use {scan as s, reading as r}

  abbrev p : Place
  p = place m.reading

  abbrev ts : List Placed
  ts = b.front ++ b.item

  shown : ShowsBegun p u ts (begun_in s)
  shown = begun_right p s u ts b.scanned

  abbrev colon : Bool
  colon = shown.0

  abbrev end : ℕ
  end = shown.1

  abbrev octets : List ℕ
  octets = shown.2

  cut : (T : List ℕ) × (u ≡ T ++ octets) × (end ≡ 0 + length T)
  cut = lexed_front ts false 0 u colon end octets shown.3

  abbrev T : List ℕ
  T = cut.0

  used : s.used ≡ length front + length rest
  used = stood_used g l u vs m b ∙ (ap length parts ∙ length-append front rest)

  abbrev token : Form → Begun
  token f = record { start = s.start; end = s.used - behind s.mode; form = f }

  so_idle : is_idle s.mode ≡ true → BegunSo p u ts colon end octets None
  so_idle i = subst (λ k. BegunSo p u ts colon end octets (if k then None else Some (token (form_of s.mode)))) i shown.4

  so_begun : is_idle s.mode ≡ false → HasBegun p u ts colon end octets (token (form_of s.mode))
  so_begun i = subst (λ k. BegunSo p u ts colon end octets (if k then None else Some (token (form_of s.mode)))) i shown.4

  -- where no item is open
  module _ (none : b.item ≡ []) where
    o : (r.frames ≡ []) × (r.notes ≡ []) × (r.now ≡ Stage.Ready)
    o = none_open r.context r.frames r.notes r.now (subst (λ x. NowStands r.context r.frames r.notes x r.now) none b.stands)

    fresh : is_fresh r ≡ true
    fresh = fresh_is r.start r.context r.frames r.notes r.now o.0 o.1 o.2

    size : length front ≡ start_of s.mode s.start s.used
    size = ends ∙ ap (λ (x : Bool). if x then start_of s.mode s.start s.used else r.start) fresh

    reach : longest_top r.start s.used Stage.Ready [] (begun_in s) (is_long_begun (begun_in s)) ≤ l.item
    reach =
        subst (λ n. longest_top r.start s.used n [] (begun_in s) (is_long_begun (begun_in s)) ≤ l.item) o.2
        (subst (λ n. longest_top r.start s.used r.now n (begun_in s) (is_long_begun (begun_in s)) ≤ l.item) o.1
        (subst (λ fs. reaches fs r s ≤ l.item) o.0 within.0))

    token_open : is_idle s.mode ≡ false → OpenRest l rest
    token_open i =
        let h = subst (λ k. longest_top r.start s.used Stage.Ready [] (if k then None else Some (token (form_of s.mode))) (is_long_begun (begun_in s)) ≤ l.item)
        i reach in
        counted l p u front rest T octets ts colon end (token (form_of s.mode)) parts cut.1 cut.2 (so_begun i)
        (omega (arith, h, size, begun_stays s.mode s.start s.used i))

    k : OpenBehind p s u ts []
    k = behind_tokens p s u ts [] b.scanned

    f : BlankInFront k.end s.mode s.start s.used k.since
    f = k.fronted

    cut' : (T : List ℕ) × (u ++ [] ≡ T ++ (k.since ++ [])) × (k.end ≡ 0 + length T)
    cut' = lexed_front ts false 0 (u ++ []) k.colon k.end (k.since ++ []) (k.lexes [] ([], refl))

    same_end : k.end ≡ end
    same_end = lexed_end ts false 0 (u ++ []) k.colon k.end (k.since ++ []) (k.lexes [] ([], refl)) ∙ sym (lexed_end ts false 0 u colon end octets shown.3)

    -- both are what stands behind the last token
    same : k.since ≡ octets
    same = (parts_same (cut'.0) k.since T octets (ap (λ x. cut'.0 ++ x) (sym (append-nil k.since)) ∙ (sym cut'.1 ∙ (append-nil u ∙ cut.1)))
        (omega (arith, cut'.2, cut.2, same_end))).1

    blank_open : rest ≡ f.open'
    blank_open =
        (parts_same front rest (T ++ f.blank) f.open' (sym parts ∙ (cut.1 ∙ (ap (λ x. T ++ x) (sym same ∙ f.cut) ∙ sym (append_assoc T f.blank f.open'))))
        (omega (arith, size, f.at, same_end, cut.2, length-append T f.blank))).1

    left : f.blank ++ rest ≡ octets
    left = ap (λ x. f.blank ++ x) blank_open ∙ (sym f.cut ∙ same)

    idle_open : is_idle s.mode ≡ true → OpenRest l rest
    idle_open i = by (so_idle i)
      where
        colons : (w : List ℕ) → IsBlank w → ((y : List ℕ) × (f.blank ≡ w ++ y) × (y ++ rest ≡ codes ":"))
            ⊎ ((z : List ℕ) × (w ≡ f.blank ++ z) × (z ++ codes ":" ≡ rest)) → OpenRest l rest
        colons w is (inl (y, e, h)) = last_colon l y rest h
        colons w is (inr (z, e, h)) = blank_rest l true [] rest (omega arith) (inr (refl, z, blank_follows f.blank z f.is_blank (subst IsBlank e is), sym h))

        by : BegunSo p u ts colon end octets None → OpenRest l rest
        by (inl (more, is)) =
            blank_rest l true [] rest (omega arith)
            (inl (more, blank_follows f.blank (rest ++ more) f.is_blank (subst IsBlank (ap (λ x. x ++ more) (sym left) ∙ append_assoc f.blank rest more) is)))
        by (inr (flag, w, is, e)) = colons w is (parts_meet f.blank rest w (codes ":") (left ∙ e))

    none_rest : OpenRest l rest
    none_rest = go (is_idle s.mode) refl
      where
        go : (i : Bool) → is_idle s.mode ≡ i → OpenRest l rest
        go true i = idle_open i
        go false i = token_open i

  -- where an item is open
  module _ (t : Placed) (us : List Placed) (some : b.item ≡ t ∷ us) where
    unfresh : is_fresh r ≡ false
    unfresh = false_from_ne_true (is_fresh r) (λ e. let n : [] ≡ t ∷ us = sym (no_item g l Scanned u vs s r [] (NoLongText s.mode) b e) ∙ some in cc)

    open_size : length front ≡ r.start
    open_size = ends ∙ ap (λ (x : Bool). if x then start_of s.mode s.start s.used else r.start) unfresh

    lexes : LexesTo false 0 u (b.front ++ t ∷ us) colon end octets
    lexes = subst (λ x. LexesTo false 0 u (b.front ++ x) colon end octets) some shown.3

    -- the item begins before its last token ends
    begins : length front ≤ length T
    begins = let n = start_before b.front t us false 0 u colon end octets lexes in
        omega (arith, n, open_size, subst (λ x. IsFirst x r.start) some b.begins, cut.2)

    item_end : end_of 0 b.item ≡ length T
    item_end =
        let e = ap (end_of 0) some ∙ (sym (last_end b.front t us 0 0) ∙ (sym (lexed_end (b.front ++ t ∷ us) false 0 u colon end octets lexes) ∙ cut.2)) in
        omega (arith, e)

    all_counted : s.used - r.start ≤ l.item → OpenRest l rest
    all_counted h = item_rest l rest (omega (arith, h, used, open_size))

    token_counted : is_idle s.mode ≡ false → (s.used - behind s.mode) - r.start ≤ l.item → OpenRest l rest
    token_counted i h = counted l p u front rest T octets ts colon end (token (form_of s.mode)) parts cut.1 cut.2 (so_begun i) (omega (arith, h, open_size))

    waiting : (last : ℕ) → last ≡ end_of 0 b.item → last - r.start ≤ l.item → ItemSoFar l T octets rest
    waiting last e h = waits l front rest T octets (sym cut.1 ∙ parts) begins (omega (arith, h, e, item_end, open_size))

    wait_idle : (last : ℕ) → last ≡ end_of 0 b.item → last - r.start ≤ l.item → is_idle s.mode ≡ true → OpenRest l rest
    wait_idle last e h i = let w = waiting last e h in subst (OpenRest l) w.same (blank_rest l colon w.item octets w.fits (so_idle i))

    -- behind a long string
    wait_begun : (v : List ℕ) (last : ℕ) → last ≡ end_of 0 b.item → is_idle s.mode ≡ false → (f : Form) → form_of s.mode ≡ f → is_long_form f ≡ true
        → longest_top r.start s.used (Stage.Long v last) r.notes (Some (token f)) (is_long_begun (Some (token f))) ≤ l.item → OpenRest l rest
    wait_begun v last e i Form.Quote q k h =
        let w = waiting last e h in
        let n = subst (λ y. HasBegun p u ts colon end octets (token y)) q (so_begun i) in
        subst (OpenRest l) w.same (quote_rest l w.item octets n.blank n.token w.fits n.cut n.is_blank n.form)
    wait_begun v last e i Form.Long q k h = token_counted i h
    wait_begun v last e i Form.Other q k h = absurd cc

    module _ (top : r.frames ≡ []) where
      reach_top : longest_top r.start s.used r.now r.notes (begun_in s) (is_long_begun (begun_in s)) ≤ l.item
      reach_top = subst (λ fs. reaches fs r s ≤ l.item) top within.0

      calm : CalmNow r.now s.mode
      calm = within.1 (ap is_top top)

      abbrev seen : Bool → Option Begun
      seen i = if i then None else Some (token (form_of s.mode))

      ready_rest : (ss : Symbols) → r.notes ≡ ss → r.now ≡ Stage.Ready → (i : Bool) → is_idle s.mode ≡ i
          → longest_top r.start s.used Stage.Ready ss (seen i) (is_long_begun (seen i)) ≤ l.item → OpenRest l rest
      ready_rest [] e n i j h = absurd (let k : false ≡ true = sym unfresh ∙ fresh_is r.start r.context r.frames r.notes r.now top e n in
          cc)
      ready_rest (x ∷ ss) e n true j h = all_counted h
      ready_rest (x ∷ ss) e n false j h = token_counted j h

      long_rest : (v : List ℕ) (last : ℕ) → last ≡ end_of 0 b.item → (is_idle s.mode || is_long_form (form_of s.mode)) ≡ true → (i : Bool) → is_idle s.mode ≡ i
          → longest_top r.start s.used (Stage.Long v last) r.notes (seen i) (is_long_begun (seen i)) ≤ l.item → OpenRest l rest
      long_rest v last e c true j h = wait_idle last e h j
      long_rest v last e c false j h = wait_begun v last e j (form_of s.mode) refl (sym (ap (λ k. k || is_long_form (form_of s.mode)) j) ∙ c) h

      top_rest : (n : Stage) → r.now ≡ n → EndsAt n (end_of 0 b.item) → CalmNow n s.mode
          → longest_top r.start s.used n r.notes (begun_in s) (is_long_begun (begun_in s)) ≤ l.item → OpenRest l rest
      top_rest Stage.Ready e at' c h = ready_rest r.notes refl e (is_idle s.mode) refl h
      top_rest (Stage.Pending k last) e at' c h = wait_idle last at' h c
      top_rest (Stage.Long v last) e at' c h = long_rest v last at' c (is_idle s.mode) refl h
      top_rest _ e at' c h = absurd c

    some_rest : (fs : List Frame) → r.frames ≡ fs → OpenRest l rest
    some_rest [] e = top_rest e r.now refl b.ends (calm e) (reach_top e)
    some_rest (f ∷ fs) e = all_counted (subst (λ x. reaches x r s ≤ l.item) e within.0)

  -- What stands behind the whole pieces is an open rest.
  pub open_rest : OpenRest l rest
  open_rest = go b.item refl
    where
      go : (us : List Placed) → b.item ≡ us → OpenRest l rest
      go [] e = none_rest e
      go (t ∷ us) e = some_rest t us e r.frames refl
