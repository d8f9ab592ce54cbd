-- Between whole pieces with the values before a value and whole pieces with it stand at least as many octets as it has nodes.
use Rattle.std.proofs.Common.{◌≡◌, ℕ, ◌+◌, ◌≤◌, ◌==◌, ◌&&◌, Bool, true, false, List, [], ◌∷◌, ◌++◌, length, Ok, refl, sym, ap, ◌∙◌, subst, arith, append_assoc, append-nil, length-append, inl, inr, codes}
use Rattle.std.proofs.lemmas.Bool.{and_parts, false_from_ne_true, or_cases}
use Rattle.std.proofs.lemmas.List.{append_cancel_left}
use Rattle.std.proofs.lemmas.Bool.Decides.{nat_tests}
use Rattle.ion_text.specs.Names.{BeginsWith, Catalog, Content, IsBody, Leading, LexesTo, Limits, Mark, Mark', Place, Placed, Reading, TokenKind, Turn, Value, Whole, adds_values, begins_as_long, colon_behind, continues, done, ends_long, fresh, gives, goes, initial, is_long, is_sexp, is_two_quotes, nodes, on_turn, place, reads, said, said_body, settle, settle_still, system_slots, token_of, turn}
use Rattle.ion_text.specs.machine.TokenLists.{walked}
use Rattle.ion_text.specs.laws.reading.complete.Complete.{Begins}
use Rattle.ion_text.specs.laws.reading.complete.Going.{Going, TurnGoes, added, going_said, going_settle, going_turn, mark_kind}
use Rattle.ion_text.specs.laws.reading.complete.Pieces.{ReadSoFar, more_read, pieces_read, walked_now}
use Rattle.ion_text.specs.laws.reading.small.Nodes.{tokens_far}
use Rattle.ion_text.specs.laws.reading.small.Sizes.{Weighs, open_nodes, settle_weighs, turn_weighs, wait_end}
use Rattle.ion_text.specs.laws.showing.shown.OpenRests.{lexed_end}
use Rattle.ion_text.specs.laws.showing.shown.Opened.{blank_token, colons_token, long_token, quoted_token, segment_is}
use Rattle.ion_text.specs.laws.showing.tokens.Compare.{Compared, Found', begins_after, compare, lexes_once}
use Rattle.ion_text.specs.laws.showing.tokens.Cuts.{Parted, parted}
use Rattle.ion_text.specs.laws.showing.tokens.Once.{going_once, operator_inside, some_token, whole_ends, whole_found, whole_going, whole_operators}
use Rattle.ion_text.specs.laws.showing.tokens.Walks.{behind_read, walking_said}

-- 1. Tokens that give one value: it has at most as many nodes as they are, and as are open before them.

module _ (g : Catalog) (l : Limits) where
  -- what waited at the end
  last_value : (k item start end : ℕ) (top : Bool) (x : Turn) (later : List Value) (m : Reading) (v : Value) → Weighs k item start end top x
      → on_turn x done ≡ walked later m → later ≡ v ∷ [] → nodes v ≤ k
  last_value k item start end top (goes r) later m v h e f = let w = walked_now g l [] later r m e in absurd (let never : [] ≡ v ∷ [] = w.0 ∙ f in cc)
  last_value k item start end top (gives x r) later m v h e f =
      let w = walked_now g l (x ∷ []) later r m e in
      let both : x ∷ [] ≡ v ∷ [] = w.0 ∙ f in
      let same : x ≡ v = cc in
      subst (λ z. nodes z ≤ k) same h.0
  last_value k item start end top _ later m v h e f = absurd cc

  ended_value : (r : Reading) (v : Value) → Going g l r [] (v ∷ []) → nodes v ≤ open_nodes r
  ended_value r v d =
      let w = walked_now g l [] d.vs r d.n d.read in
      let later : d.later ≡ v ∷ [] = sym (d.whole ∙ ap (λ x. x ++ d.later) (sym w.0)) in
      last_value (open_nodes r) _ _ _ _ (settle g l r) d.later (fresh d.c) v (settle_weighs g l r) (ap (λ x. on_turn (settle g l x) done) w.1 ∙ d.ends) later

  -- what a turn leads to
  turned_value : (k more item start end : ℕ) (top : Bool) (x : Turn) (ts : List Placed) (v : Value)
      → ((r : Reading) → Going g l r ts (v ∷ []) → nodes v ≤ open_nodes r + more) → Weighs k item start end top x → TurnGoes g l x ts (v ∷ [])
      → nodes v ≤ k + more
  turned_value k more item start end top (goes r) ts v rest h d = omega (arith, rest r d, h.0)
  turned_value k more item start end top (gives x r) ts v rest h d =
      let both : v ∷ [] ≡ x ∷ d.0 = d.1 in
      let same : x ≡ v = cc in
      let k' : nodes v ≤ k = subst (λ z. nodes z ≤ k) same h.0 in
      omega arith
  turned_value k more item start end top _ ts v rest h d = absurd d

  -- behind one more token
  token_value : (t : Placed) (ts : List Placed) (v : Value) → ((r : Reading) → Going g l r ts (v ∷ []) → nodes v ≤ open_nodes r + length ts) → (r : Reading)
      → Going g l r (t ∷ ts) (v ∷ []) → nodes v ≤ open_nodes r + length (t ∷ ts)
  token_value t ts v rest r d = go (continues r (token_of t.lexeme c)) refl
    where
      c : Content
      c = (going_said g l r t ts (v ∷ []) d).1

      is : said t.lexeme.kind t.lexeme.octets ≡ Ok c
      is = (going_said g l r t ts (v ∷ []) d).2

      direct : (n : Reading) → TurnGoes g l (turn g l n (token_of t.lexeme c)) ts (v ∷ []) → nodes v ≤ open_nodes n + (length ts + 1)
      direct n e = omega (
        arith,
        turned_value (open_nodes n + 1) (length ts) _ _ _ _ (turn g l n (token_of t.lexeme c)) ts v rest
            (turn_weighs g l n (token_of t.lexeme c)) e,
      )

      settled : (x : Turn) → Weighs (open_nodes r) l.item r.start (wait_end r.now) false x → Leading g l (λ n. settle g l n ≡ goes n) x
          → TurnGoes g l x (t ∷ ts) (v ∷ []) → nodes v ≤ open_nodes r + (length ts + 1)
      settled (goes n) h s e = omega (arith, h.0, direct n (going_turn g l n t ts (v ∷ []) c e is (inr s)))
      settled (gives x n) h s e =
          let both : v ∷ [] ≡ x ∷ e.0 = e.1 in
          let same : x ≡ v = cc in
          let k : nodes v ≤ open_nodes r = subst (λ z. nodes z ≤ open_nodes r) same h.0 in
          omega arith
      settled _ h s e = absurd e

      go : (b : Bool) → continues r (token_of t.lexeme c) ≡ b → nodes v ≤ open_nodes r + length (t ∷ ts)
      go true w = omega (arith, direct r (going_turn g l r t ts (v ∷ []) c d is (inl w)))
      go false w = omega (
        arith,
        settled (settle g l r) (settle_weighs g l r) (settle_still g l r.start r.context r.frames r.notes r.now)
            (going_settle g l r t ts (v ∷ []) c d is w),
      )

  one_value : (ts : List Placed) (v : Value) (r : Reading) → Going g l r ts (v ∷ []) → nodes v ≤ open_nodes r + length ts
  one_value [] v r d = omega (arith, ended_value r v d)
  one_value (t ∷ ts) v r d = token_value t ts v (one_value ts v) r d

-- 2. More tokens behind whole pieces.

module _ (g : Catalog) (l : Limits) (front following : List ℕ) (s : List Value) (w : Whole g l front following s) (y : Placed) (ys : List Placed) (after : Bool)
    (end : ℕ) (rest : List ℕ) (lexed : LexesTo false 0 (front ++ following) (w.tokens ++ y ∷ ys) after end rest) (top : y.place ≡ Place.Top) where
  parts : Parted false 0 (front ++ following) w.tokens (y ∷ ys) after end rest
  parts = parted w.tokens (y ∷ ys) false 0 (front ++ following) after end rest lexed

  one : (parts.flag ≡ w.colon) × (parts.mid ≡ w.end) × (parts.left ≡ w.blank ++ following)
  one = lexes_once w.tokens false 0 (front ++ following) parts.flag w.colon parts.mid w.end parts.left (w.blank ++ following) parts.first w.lexed

  token : BeginsWith parts.flag parts.mid parts.left y (parts.second).0
  token = (parts.second).1

  -- they stand behind the pieces' last octet
  pub ends_past : length front + length (y ∷ ys) ≤ end
  ends_past =
      let plain = operator_inside y.place parts.flag token.token (parts.second).0 y.lexeme.kind y.lexeme.octets token.is (ap is_sexp top) in
      let starts = begins_after parts.flag parts.mid parts.left y (parts.second).0 w.blank following token plain w.is_blank one.2 in
      let some = some_token y.place parts.flag token.token (parts.second).0 y.lexeme.kind y.lexeme.octets token.is in
      let far = tokens_far ys (colon_behind y) y.lexeme.end (parts.second).0 after end rest (parts.second).2 in
      let last = lexed_end ys (colon_behind y) y.lexeme.end (parts.second).0 after end rest (parts.second).2 in
      omega (arith, starts, one.1, whole_ends g l front following s w, some, token.start, token.end, far.0, last)

  -- they don't go on with the last of the pieces
  module _ (all : List Value) (d : Going g l (fresh system_slots) (w.tokens ++ y ∷ ys) all) where
    so_far : ReadSoFar g l w.tokens s w.context
    so_far = pieces_read g l w.tokens s w.context w.pieces

    others : (ws : List Value) × (reads g l so_far.now (y ∷ ys) ≡ walked ws d.n)
    others = behind_read g l w.tokens (y ∷ ys) (fresh system_slots) so_far.now d.n so_far.given d.vs so_far.read d.read

    is : (y.place ≡ place so_far.now) × (c : Content) × (said y.lexeme.kind y.lexeme.octets ≡ Ok c)
    is = walking_said g l so_far.now y ys (record { vs = others.0; n = d.n; read = others.1 })

    content : Content
    content = is.1

    body : IsBody y.lexeme.kind y.lexeme.octets (Ok content)
    unfolding content is
    body = said_body y.lexeme.kind y.lexeme.octets content is.2

    no_colons : content ≡ Mark' Mark.Colons → ⊥
    no_colons h =
        let kind = mark_kind y.lexeme.kind y.lexeme.octets Mark.Colons (subst (λ z. IsBody y.lexeme.kind y.lexeme.octets (Ok z)) h body) in
        let i = colons_token y.place parts.flag token.token (parts.second).0 y.lexeme.kind y.lexeme.octets token.is kind in
        w.no_annotation (sym one.0 ∙ i.1) (blank_token (codes "::") [] parts.left (w.blank ++ following) (parts.second).0 parts.flag parts.mid y token
        (i.0 ∙ sym (append-nil (codes "::"))) one.2)

    quotes : ends_long w.tokens ≡ true → (z : List ℕ) → token.token ≡ codes "''" ++ z → ⊥
    quotes h z i = w.no_segment h (blank_token (codes "''") z parts.left (w.blank ++ following) (parts.second).0 parts.flag parts.mid y token i one.2)

    two_quotes : (k : TokenKind) → y.lexeme.kind ≡ k → is_two_quotes k y.lexeme.start y.lexeme.end ≡ true → token.token ≡ codes "''" ++ []
    two_quotes TokenKind.QuotedSymbol e h = quoted_token y.place parts.flag token.token (parts.second).0 y.lexeme.kind y.lexeme.octets token.is e
        (wide y.lexeme.start y.lexeme.end h (omega (arith, token.start, token.end)))
      where
        wide : (start end : ℕ) → (end == start + 2) ≡ true → end ≡ start + length token.token → length token.token ≡ 2
        wide start end h i = grind (arith, nat_tests)
    two_quotes _ e h = absurd cc

    no_long : ends_long w.tokens ≡ true → begins_as_long (y ∷ ys) ≡ true → ⊥
    no_long h i = elim (or_cases (is_long y) (is_two_quotes y.lexeme.kind y.lexeme.start y.lexeme.end) i) [
      | inl e ↦ let j = long_token y.place parts.flag token.token (parts.second).0 y.lexeme.kind y.lexeme.octets token.is (segment_is y.lexeme.kind e) in
          quotes h j.0 j.1
      | inr two ↦ quotes h [] (two_quotes y.lexeme.kind refl two)
    ]

    shut : (ends_long w.tokens && begins_as_long (y ∷ ys)) ≡ false
    shut = false_from_ne_true (ends_long w.tokens && begins_as_long (y ∷ ys))
        (λ h. let p = and_parts (ends_long w.tokens) (begins_as_long (y ∷ ys)) h in no_long p.0 p.1)

    -- they are read where nothing is open, and give the values behind
    pub goes_behind : (more : List Value) × (all ≡ s ++ more) × Going g l (fresh w.context) (y ∷ ys) more
    goes_behind =
        let first : Begins g l Place.Top (y ∷ ys) = record {
          first = y;
          later = ys;
          said = content;
          cut = refl;
          says =
              record { place = top; body = body };
          no_colons = no_colons;
        } in
        let read : adds_values s (reads g l (fresh w.context) (y ∷ ys)) ≡ walked d.vs d.n = sym (more_read g l w.tokens (y ∷ ys) s w.context so_far first shut)
        ∙ d.read in
        let there = added g l s d.vs d.n (reads g l (fresh w.context) (y ∷ ys)) read in
        let same = walked_now g l (s ++ there.0) d.vs d.n d.n (sym (ap (adds_values s) there.1) ∙ read) in (
          there.0 ++ d.later,
          d.whole ∙ (ap (λ x. x ++ d.later) (sym same.0) ∙ append_assoc s there.0 d.later),
          record { vs = there.0; later = d.later; n = d.n; c = d.c; read = there.1; ends = d.ends; whole = refl },
        )

-- 3. The item.

module _ (g : Catalog) (l : Limits) (front span behind : List ℕ) (before : List Value) (v : Value) (a : Whole g l front (span ++ behind) before)
    (b : Whole g l (front ++ span) behind (before ++ v ∷ [])) where
  seam : (front ++ span) ++ behind ≡ front ++ (span ++ behind)
  seam = append_assoc front span behind

  met : Compared a.tokens b.tokens
  met =
      compare (λ s octets. Unit {0}) g l initial (front ++ (span ++ behind)) a.tokens (whole_found g l front (span ++ behind) before a)
      b.tokens (subst (λ x. Found' (λ s octets. Unit {0}) initial x b.tokens) seam (whole_found g l (front ++ span) behind (before ++ v ∷ []) b))
      (whole_operators g l front (span ++ behind) before a) (whole_operators g l (front ++ span) behind (before ++ v ∷ []) b)
      (fresh system_slots) before (before ++ v ∷ []) (whole_going g l front (span ++ behind) before a)
      (whole_going g l (front ++ span) behind (before ++ v ∷ []) b)

  never_same : a.tokens ≡ b.tokens → ⊥
  never_same e =
      let ours = subst (λ z. Going g l (fresh system_slots) z before) e (whole_going g l front (span ++ behind) before a) in
      let same = going_once g l (fresh system_slots) b.tokens before (before ++ v ∷ []) ours (whole_going g l (front ++ span) behind (before ++ v ∷ []) b) in
      omega (arith, ap length same, length-append before (v ∷ []))

  -- Between whole pieces with the values before a value and whole pieces with it stand at least as many octets as it has nodes.
  pub nodes_between : nodes v ≤ length span
  nodes_between = by met
    where
      by : Compared a.tokens b.tokens → nodes v ≤ length span
      by (inl ([], e, h)) = absurd (never_same (sym (e ∙ append-nil a.tokens)))
      by (inl (y ∷ ys, e, h)) =
          let lexed = subst (λ z. LexesTo false 0 (front ++ (span ++ behind)) z b.colon b.end (b.blank ++ behind)) e
          (subst (λ x. LexesTo false 0 x b.tokens b.colon b.end (b.blank ++ behind)) seam b.lexed) in
          let far = ends_past g l front (span ++ behind) before a y ys b.colon b.end (b.blank ++ behind) lexed h in
          let going = subst (λ z. Going g l (fresh system_slots) z (before ++ v ∷ [])) e (whole_going g l (front ++ span) behind (before ++ v ∷ []) b) in
          let more = goes_behind g l front (span ++ behind) before a y ys b.colon b.end (b.blank ++ behind) lexed h (before ++ v ∷ []) going in
          let one = append_cancel_left before (v ∷ []) more.0 more.1 in
          let few = one_value g l (y ∷ ys) v (fresh a.context) (subst (Going g l (fresh a.context) (y ∷ ys)) (sym one) more.2) in
          omega (arith, far, few, whole_ends g l (front ++ span) behind (before ++ v ∷ []) b, length-append front span)
      by (inr ([], e, h)) = absurd (never_same (e ∙ append-nil b.tokens))
      by (inr (y ∷ ys, e, h)) =
          let lexed = subst (λ z. LexesTo false 0 ((front ++ span) ++ behind) z a.colon a.end (a.blank ++ (span ++ behind))) e
          (subst (λ x. LexesTo false 0 x a.tokens a.colon a.end (a.blank ++ (span ++ behind))) (sym seam) a.lexed) in
          let far = ends_past g l (front ++ span) behind (before ++ v ∷ []) b y ys a.colon a.end (a.blank ++ (span ++ behind)) lexed h in
          absurd (omega (arith, far, whole_ends g l front (span ++ behind) before a, length-append front span))
