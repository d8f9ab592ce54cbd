-- Rows of the table exclude each other: octets begin with those of a row up to one octet at most, and for one reason.
use Rattle.std.proofs.Common.{◌≡◌, ℕ, ◌+◌, ◌<◌, ◌≤◌, Bool, true, false, List, [], ◌∷◌, ◌++◌, length, take, drop, refl, sym, ap, ◌∙◌, subst, append_assoc, append-nil, arith, ◌⊎◌, inl, inr, codes}
use Rattle.std.proofs.Math.Nat.{eq-zero-or-pos}
use Rattle.std.proofs.lemmas.Bool.{cases_lt}
use Rattle.std.proofs.lemmas.List.{length-append, length-drop, take-append-drop, take-append-le, length-take-le}
use Rattle.ion_refusals.specs.Names.{Are, BeginsLexed, BlankThen, Bracket, Catalog, Comes, Container, Content, Decides, Depth, Id, InStruct, IsKeyword, KeywordAsName, LexesTo, Limits, Mark, Mark', NoColons, Place, Placed, Reason, Says, Slot, TokenKind, TypedNull, Word, bad_table, close_place, done, is_closing, keyword_as_annotation, keyword_as_name, no_symbol, null_table, other_version, place_of, reads, reads-append, settle, stopped, struct_too_deep, then_walk, too_deep}
use Rattle.ion_text.specs.machine.TokenLists.{walked}
use Rattle.ion_refusals.proofs.deciding.Agree.{one_list}
use Rattle.ion_refusals.proofs.deciding.AtEnd.{last_ends}
use Rattle.ion_refusals.proofs.deciding.Fronts.{Came, HasEnded, origin, split}
use Rattle.ion_refusals.proofs.deciding.Shows.{BareSaid, IsBare, said_bare}
use Rattle.ion_refusals.proofs.deciding.Tokens.{Refusing, Stops, Why, as_colons, bare_ended, bare_plain, by_itself, ended_by_rest, id_stops, keyword_note_stops, keyword_stops, mark_ended, one_refusing, open_stops, table_stops, why_once}
use Rattle.ion_refusals.proofs.deciding.Waiting.{Pends, colons_next, colons_shown, null_pends, pend, settling_stops, version_pends}
use Rattle.ion_text.specs.laws.reading.complete.Going.{mark_kind}
use Rattle.ion_text.specs.laws.reading.complete.Pieces.{walked_now}
use Rattle.ion_text.specs.laws.showing.tokens.Cuts.{lexed_front, parted, parts_meet, parts_same}
use Rattle.ion_text.specs.laws.showing.tokens.Once.{begins_lexed}

-- 1. What octets show, where a row stands.

-- how many octets behind a token show it
abbrev pub behind_kind : TokenKind → ℕ
behind_kind TokenKind.Word = 1
behind_kind TokenKind.KindName = 1
behind_kind (TokenKind.Mark Mark.FieldsOpen) = 1
behind_kind _ = 0

-- one octet behind a word, a typed null or the `{` of a struct shows it
pub bare_behind : (k : TokenKind) → IsBare k → behind_kind k ≡ 1
bare_behind TokenKind.Word h = refl
bare_behind TokenKind.KindName h = refl
bare_behind (TokenKind.Mark Mark.FieldsOpen) h = refl
bare_behind _ h = absurd h

-- the last token is refused, or it waits for `::`, which doesn't follow
pub data Seen (g : Catalog) (l : Limits) (u : List ℕ) (e : Reason) : Type 0 where
  refused : (ts : List Placed) (t : Placed) (rest : List ℕ) → (s : Stops g l ts t e) → Are u (s.front ++ t ∷ []) rest → HasEnded g l u t
      → length rest ≡ behind_kind t.lexeme.kind → Seen g l u e
  unfollowed : (ts : List Placed) → Pends g l ts e → NoColons u ts → Seen g l u e

-- a keyword is a token that the octet behind it shows
pub keyword_bare : (said : Content) → IsKeyword said → BareSaid said
keyword_bare (Word w) k = tt
keyword_bare (TypedNull k) i = tt
keyword_bare _ k = absurd k

module _ (g : Catalog) (l : Limits) (u : List ℕ) where
  token_seen : (ts : List Placed) (t : Placed) (e : Reason) (rest : List ℕ) → Are u ts rest → Stops g l ts t e
      → ((front : List Placed) → Are u (front ++ t ∷ []) rest → HasEnded g l u t) → length rest ≡ behind_kind t.lexeme.kind → Seen g l u e
  token_seen ts t e rest are s ended size =
      let all = subst (λ y. Are u y rest) s.is are in
      refused ts t rest s all (ended s.front all) size

  -- a word, or the brace of a struct, with the octet behind it
  bare_seen : (ts : List Placed) (c : List Slot) (ks : List Container) (said : Content) (e : Reason) → (o : ℕ) × Are u ts (o ∷ [])
      → (h : Comes g l c ks said ts) → BareSaid said → Stops g l ts h.token e → Seen g l u e
  bare_seen ts c ks said e (o, are) h bare s =
      token_seen ts h.token e (o ∷ []) are s (λ front all. bare_ended g l u front h.token (place_of ks) said o [] h.says bare all)
      (sym (bare_behind h.token.lexeme.kind (said_bare h.token.lexeme.kind h.token.lexeme.octets said h.says.body bare)))

  -- a mark
  mark_seen : (ts : List Placed) (t : Placed) (p : Place) (x : Mark) (e : Reason) → Are u ts [] → Says p t (Mark' x) → is_closing (TokenKind.Mark x) ≡ true
      → (x ≡ Mark.Colon → ⊥) → behind_kind (TokenKind.Mark x) ≡ 0 → Stops g l ts t e → Seen g l u e
  mark_seen ts t p x e are says closing n none s =
      token_seen ts t e [] are s (λ front all. mark_ended g l u p t x says closing n)
      (sym (ap behind_kind (mark_kind t.lexeme.kind t.lexeme.octets x says.body) ∙ none))

  -- where a row decides, its last token is refused, or waits for `::`, which doesn't follow
  pub seen : (e : Reason) → Decides g l u e → Seen g l u e
  seen _ (no_symbol ts c ks id e shown h fails) = bare_seen ts c ks (Id id) e shown h tt (id_stops g l ts c ks id e h fails)
  seen _ (keyword_as_name ts c ks said shown h k) = bare_seen ts c (InStruct ∷ ks) said KeywordAsName shown h (keyword_bare said k)
      (keyword_stops g l ts c ks said h k)
  seen _ (keyword_as_annotation ts colons c ks said shown h takes k says) =
      mark_seen (ts ++ colons ∷ []) colons (place_of ks) Mark.Colons KeywordAsName shown says refl (λ e. cc) refl
      (keyword_note_stops g l ts colons c ks said h takes k says)
  seen _ (other_version ts c w shown h none version other) = unfollowed ts (version_pends g l ts c w h none version other) shown
  seen _ (null_table ts c ss k e shown h table fails) = unfollowed ts (null_pends g l ts c ss k e h table fails) shown
  seen _ (too_deep ts c ks said shown h takes (inl i) deep) =
      mark_seen ts h.token (place_of ks) Mark.ListOpen Depth shown (subst (Says (place_of ks) h.token) i h.says) refl (λ e. cc) refl
      (open_stops g l c ks said ts h takes Bracket.List i deep)
  seen _ (too_deep ts c ks said shown h takes (inr i) deep) =
      mark_seen ts h.token (place_of ks) Mark.SexpOpen Depth shown (subst (Says (place_of ks) h.token) i h.says) refl (λ e. cc) refl
      (open_stops g l c ks said ts h takes Bracket.Sexp i deep)
  seen _ (struct_too_deep ts c ks shown h takes deep) = bare_seen ts c ks (Mark' Mark.FieldsOpen) Depth shown h tt
      (open_stops g l c ks (Mark' Mark.FieldsOpen) ts h takes Bracket.Fields refl deep)
  seen _ (bad_table ts c ss ms e shown h table fails) =
      let s = table_stops g l ts c ss ms e h table fails in
      mark_seen ts s.close (close_place s.more) Mark.FieldsClose e shown s.closes refl (λ e. cc) refl s.at_close

-- 2. Octets behind tokens.

-- what is left behind the same tokens
pub left_same : (ts : List Placed) (t : Placed) (u v : List ℕ) (c d : Bool) (e f : ℕ) (rest left : List ℕ) → LexesTo false 0 u (ts ++ t ∷ []) c e rest
    → LexesTo false 0 (u ++ v) (ts ++ t ∷ []) d f left → rest ++ v ≡ left
left_same ts t u v c d e f rest left a b =
    let x = lexed_front (ts ++ t ∷ []) false 0 u c e rest a in
    let y = lexed_front (ts ++ t ∷ []) false 0 (u ++ v) d f left b in
    let size : length x.0 ≡ length y.0 = omega (arith, x.2, y.2, last_ends ts t false 0 u c e rest a, last_ends ts t false 0 (u ++ v) d f left b) in
    (parts_same x.0 (rest ++ v) y.0 left (sym (append_assoc x.0 rest v) ∙ (ap (λ z. z ++ v) (sym x.1) ∙ y.1)) size).1

-- `::` still follows
pub colons_on : (r v : List ℕ) → BlankThen (codes "::") r → BlankThen (codes "::") (r ++ v)
colons_on r v (blank, more, b, e) = (blank, more ++ v, b, ap (λ z. z ++ v) e ∙ append_assoc (blank ++ codes "::") more v)

pub lexes_front : (ts : List Placed) (w : List ℕ) (rest : List ℕ) → Are w ts rest → BeginsLexed false 0 w ts
lexes_front ts w rest (c, e, a) = begins_lexed ts false 0 w c e rest a

module _ (g : Catalog) (l : Limits) where
  -- 3. Tokens behind those of a row.

  -- behind a token that is refused none is read
  beyond : (ts : List Placed) → reads g l (origin g l) ts ≡ stopped → (front : List Placed) (p : Place) → Came g l front p → (more : List Placed)
      → front ≡ ts ++ more → ⊥
  beyond ts stops front p came more e =
      let never : walked came.values came.now ≡ stopped = sym came.read
      ∙ (ap (reads g l (origin g l)) e ∙ (reads-append g l ts more (origin g l) ∙ ap (λ y. then_walk y (λ k. reads g l k more)) stops)) in
      cc

  pub stops_beyond : (ts : List Placed) → reads g l (origin g l) ts ≡ stopped → (front : List Placed) (t : Placed) → Came g l front t.place
      → (x : Placed) (xs : List Placed) → front ++ t ∷ [] ≡ ts ++ x ∷ xs → ⊥
  stops_beyond ts stops front t came x xs e = by (split front t ts x xs e)
    where
      by : ((front ≡ ts) × (t ≡ x)) ⊎ ((more : List Placed) × (front ≡ ts ++ x ∷ more)) → ⊥
      by (inl (same, i)) = beyond ts stops front t.place came [] (same ∙ sym (append-nil ts))
      by (inr (more, i)) = beyond ts stops front t.place came (x ∷ more) i

  -- behind one that waits `::` is
  pub pends_beyond : (ts : List Placed) (e f : Reason) (p : Pends g l ts e) (front : List Placed) (t x : Placed) (xs : List Placed) → Came g l front t.place
      → Why g l front t f → front ++ t ∷ [] ≡ ts ++ x ∷ xs → x.lexeme.kind ≡ TokenKind.Mark Mark.Colons
  pends_beyond ts e f p front t x xs came why cut = by (split front t ts x xs cut) why
    where
      by : ((front ≡ ts) × (t ≡ x)) ⊎ ((more : List Placed) × (front ≡ ts ++ x ∷ more)) → Why g l front t f → x.lexeme.kind ≡ TokenKind.Mark Mark.Colons
      by (inl (same, i)) (by_itself m c settles k n h a) =
          absurd
          (let s = settles p.values (pend g l ts e p) (ap (reads g l (origin g l)) same ∙ p.read) in
          let never : walked s.0 m ≡ stopped = sym s.1 ∙ settling_stops g l ts e p done in
          cc)
      by (inl (same, i)) (as_colons n vs r k h says on) = ap (λ (y : Placed). y.lexeme.kind) (sym i) ∙ k
      by (inr (more, i)) w = colons_next g l ts e p x more came.values came.now (ap (reads g l (origin g l)) (sym i) ∙ came.read)

  -- for one reason
  pub pends_once : (ts ws : List Placed) (e f : Reason) → Pends g l ts e → Pends g l ws f → ts ≡ ws → e ≡ f
  pends_once ts ws e f p q i =
      let one = walked_now g l p.values q.values (pend g l ts e p) (pend g l ws f q) (sym p.read ∙ (ap (reads g l (origin g l)) i ∙ q.read)) in
      one_refusing e f (settle g l (pend g l ws f q)) (subst (λ k. Refusing e (settle g l k)) one.1 p.why) q.why

  pub stops_so : (ts : List Placed) (t : Placed) (e : Reason) (s : Stops g l ts t e) → reads g l (origin g l) (s.front ++ t ∷ []) ≡ stopped
  stops_so ts t e s = ap (reads g l (origin g l)) (sym s.is) ∙ s.stops

  -- tokens that are read are none of which one is refused
  pub read_on : (ts : List Placed) (e : Reason) (p : Pends g l ts e) (ws : List Placed) → reads g l (origin g l) ws ≡ stopped → ws ≡ ts → ⊥
  read_on ts e p ws stops same =
      let never : walked p.values (pend g l ts e p) ≡ stopped = sym p.read ∙ (ap (reads g l (origin g l)) (sym same) ∙ stops) in
      cc

  -- 4. Two rows.

  module _ (u v : List ℕ) where
    -- where `::` doesn't follow it doesn't in more octets
    pub none_later : (ts : List Placed) (e : Reason) (p : Pends g l ts e) → NoColons u ts → (x : Placed) (xs ws : List Placed) (left : List ℕ)
        → Are (u ++ v) ws left → ws ≡ ts ++ x ∷ xs → x.lexeme.kind ≡ TokenKind.Mark Mark.Colons → ⊥
    none_later ts e p none x xs ws left are i k =
        let lexes = subst (λ z. LexesTo false 0 (u ++ v) z are.0 are.1 left) i are.2 in
        let y = parted ts (x ∷ xs) false 0 (u ++ v) are.0 are.1 left lexes in
        let same = left_same p.front p.token u v none.are.0 y.flag none.are.1 y.mid (none.rest ++ none.o ∷ []) y.left
        (subst (λ z. LexesTo false 0 u z none.are.0 none.are.1 (none.rest ++ none.o ∷ [])) p.is none.are.2)
        (subst (λ z. LexesTo false 0 (u ++ v) z y.flag y.mid y.left) p.is y.first) in
        none.after v
        (subst (BlankThen (codes "::")) (sym same ∙ append_assoc none.rest (none.o ∷ []) v)
        (colons_shown (u ++ v) ts x xs y.flag are.0 y.mid are.1 y.left left y.first lexes k))

    -- nor did it in fewer
    none_before : (ts : List Placed) (e : Reason) (p : Pends g l ts e) → NoColons (u ++ v) ts → (x : Placed) (xs ws : List Placed) (left : List ℕ)
        → Are u ws left → ws ≡ ts ++ x ∷ xs → x.lexeme.kind ≡ TokenKind.Mark Mark.Colons → ⊥
    none_before ts e p none x xs ws left are i k =
        let lexes = subst (λ z. LexesTo false 0 u z are.0 are.1 left) i are.2 in
        let y = parted ts (x ∷ xs) false 0 u are.0 are.1 left lexes in
        let same = left_same p.front p.token u v y.flag none.are.0 y.mid none.are.1 y.left (none.rest ++ none.o ∷ [])
        (subst (λ z. LexesTo false 0 u z y.flag y.mid y.left) p.is y.first)
        (subst (λ z. LexesTo false 0 (u ++ v) z none.are.0 none.are.1 (none.rest ++ none.o ∷ [])) p.is none.are.2) in
        none.after [] (subst (BlankThen (codes "::")) same (colons_on y.left v (colons_shown u ts x xs y.flag are.0 y.mid are.1 y.left left y.first lexes k)))

    -- the same octets, for one reason
    abbrev AtOneOctet : Reason → Reason → Type 0
    AtOneOctet e f = (length v ≡ 0) × (e ≡ f)

    -- one octet shows that `::` doesn't follow
    shown_once : (ts : List Placed) (e : Reason) → Pends g l ts e → NoColons u ts → NoColons (u ++ v) ts → length v ≡ 0
    shown_once ts e p a b = go (eq-zero-or-pos (length v))
      where
        same : (a.rest ++ a.o ∷ []) ++ v ≡ b.rest ++ b.o ∷ []
        same = left_same p.front p.token u v a.are.0 b.are.0 a.are.1 b.are.1 (a.rest ++ a.o ∷ []) (b.rest ++ b.o ∷ [])
            (subst (λ z. LexesTo false 0 u z a.are.0 a.are.1 (a.rest ++ a.o ∷ [])) p.is a.are.2)
            (subst (λ z. LexesTo false 0 (u ++ v) z b.are.0 b.are.1 (b.rest ++ b.o ∷ [])) p.is b.are.2)

        behind_it : (y : List ℕ) → b.rest ≡ (a.rest ++ a.o ∷ []) ++ y → ⊥
        behind_it y e =
            a.after (y ++ b.before.0)
            (subst (BlankThen (codes "::")) (ap (λ z. z ++ b.before.0) e
            ∙ (append_assoc (a.rest ++ a.o ∷ []) y b.before.0 ∙ append_assoc a.rest (a.o ∷ []) (y ++ b.before.0))) b.before.1)

        none : 0 < length v → (z : List ℕ) → length z + length v ≡ 1 → z ≡ []
        none some [] e = refl
        none some (x ∷ z) e = absurd (omega (arith, e, some))

        by : 0 < length v → ((y : List ℕ) × (b.rest ≡ (a.rest ++ a.o ∷ []) ++ y) × (y ++ b.o ∷ [] ≡ v))
            ⊎ ((z : List ℕ) × (a.rest ++ a.o ∷ [] ≡ b.rest ++ z) × (z ++ v ≡ b.o ∷ [])) → ⊥
        by some (inl (y, e, f)) = behind_it y e
        by some (inr (z, e, f)) =
            let n = none some z (omega (arith, ap length f, length-append z v)) in
            behind_it [] (sym (e ∙ (ap (λ y. b.rest ++ y) n ∙ append-nil b.rest)) ∙ sym (append-nil (a.rest ++ a.o ∷ [])))

        go : (length v ≡ 0) ⊎ (0 < length v) → length v ≡ 0
        go (inl n) = n
        go (inr some) = absurd (by some (parts_meet b.rest (b.o ∷ []) (a.rest ++ a.o ∷ []) v (sym same)))

    -- the same tokens, of which the last one is refused
    refused_once : (front back : List Placed) (t w : Placed) (e f : Reason) (rest left : List ℕ) → Are u (front ++ t ∷ []) rest
        → Are (u ++ v) (back ++ w ∷ []) left → length rest ≡ behind_kind t.lexeme.kind → length left ≡ behind_kind w.lexeme.kind
        → Came g l front t.place → Why g l front t e → Why g l back w f → front ++ t ∷ [] ≡ back ++ w ∷ [] → AtOneOctet e f
    refused_once front back t w e f rest left (c, i, a) (d, j, b) m n came why why' same = by (split front t back w [] same)
      where
        longer : (more : List Placed) → front ≡ back ++ w ∷ more → ⊥
        longer more h = omega (arith, ap length same, ap length h, length-append front (t ∷ []), length-append back (w ∷ []), length-append back (w ∷ more))

        by : ((front ≡ back) × (t ≡ w)) ⊎ ((more : List Placed) × (front ≡ back ++ w ∷ more)) → AtOneOctet e f
        by (inl (h, k)) =
            let x = lexed_front (front ++ t ∷ []) false 0 u c i rest a in
            let y = lexed_front (back ++ w ∷ []) false 0 (u ++ v) d j left b in (
              omega (
                arith,
                x.2,
                y.2,
                last_ends front t false 0 u c i rest a,
                last_ends back w false 0 (u ++ v) d j left b,
                m,
                n,
                ap (λ (z : Placed). z.lexeme.end) k,
                ap (λ (z : Placed). behind_kind z.lexeme.kind) k,
                ap length x.1,
                ap length y.1,
                length-append x.0 rest,
                length-append y.0 left,
                length-append u v,
              ),
              why_once g l front t e f t.place came why (subst (λ z. Why g l front z f) (sym k) (subst (λ z. Why g l z w f) (sym h) why')),
            )
        by (inr (more, h)) = absurd (longer more h)

    -- what waits for `::` has ended where an octet shows that it doesn't follow
    pub waited_ended : (ts : List Placed) (e : Reason) (p : Pends g l ts e) → NoColons u ts → HasEnded g l u p.token
    waited_ended ts e p n = ended_by_rest g l u p.front p.token n.o n.rest (bare_plain p.token.lexeme.kind p.bare) (subst (λ z. Are u z (n.rest ++ n.o ∷ [])) p.is n.are)

    -- where two rows decide and the one's octets begin with the other's, they are the same, for one reason
    pub met : (e f : Reason) → Seen g l u e → Seen g l (u ++ v) f → AtOneOctet e f
    met e f (refused ts t rest s are ended size) (refused ws w left s' are' ended' size') =
        refused_once s.front s'.front t w e f rest left are are' size size' s.came s.why s'.why
        (one_list g l u v (s.front ++ t ∷ []) (s'.front ++ w ∷ []) s.front s'.front t w refl refl ended s.came s'.came
        (lexes_front (s.front ++ t ∷ []) u rest are) (lexes_front (s'.front ++ w ∷ []) (u ++ v) left are')
        (stops_beyond (s.front ++ t ∷ []) (stops_so ts t e s) s'.front w s'.came)
        (stops_beyond (s'.front ++ w ∷ []) (stops_so ws w f s') s.front t s.came))
    met e f (refused ts t rest s are ended size) (unfollowed ws p none) =
        absurd (read_on ws f p (s.front ++ t ∷ []) (stops_so ts t e s)
        (one_list g l u v (s.front ++ t ∷ []) ws s.front p.front t p.token refl p.is ended s.came p.came
        (lexes_front (s.front ++ t ∷ []) u rest are) (lexes_front ws (u ++ v) (none.rest ++ none.o ∷ []) none.are)
        (λ x xs i. stops_beyond (s.front ++ t ∷ []) (stops_so ts t e s) p.front p.token p.came x xs (sym p.is ∙ i))
        (λ x xs i. none_before ws f p none x xs (s.front ++ t ∷ []) rest are i (pends_beyond ws f e p s.front t x xs s.came s.why i))))
    met e f (unfollowed ts p none) (refused ws w left s are ended size) =
        absurd (read_on ts e p (s.front ++ w ∷ []) (stops_so ws w f s)
        (sym (one_list g l u v ts (s.front ++ w ∷ []) p.front s.front p.token w p.is refl (waited_ended ts e p none) p.came s.came
        (lexes_front ts u (none.rest ++ none.o ∷ []) none.are) (lexes_front (s.front ++ w ∷ []) (u ++ v) left are)
        (λ x xs i. none_later ts e p none x xs (s.front ++ w ∷ []) left are i (pends_beyond ts e f p s.front w x xs s.came s.why i))
        (λ x xs i. stops_beyond (s.front ++ w ∷ []) (stops_so ws w f s) p.front p.token p.came x xs (sym p.is ∙ i)))))
    met e f (unfollowed ts p none) (unfollowed ws q none') =
        (shown_once ts e p none (subst (NoColons (u ++ v)) (sym same) none'), pends_once ts ws e f p q same)
      where
        same : ts ≡ ws
        same =
            one_list g l u v ts ws p.front q.front p.token q.token p.is q.is (waited_ended ts e p none) p.came q.came
            (lexes_front ts u (none.rest ++ none.o ∷ []) none.are) (lexes_front ws (u ++ v) (none'.rest ++ none'.o ∷ []) none'.are)
            (λ x xs i. none_later ts e p none x xs ws (none'.rest ++ none'.o ∷ []) none'.are i
            (colons_next g l ts e p x xs q.values (pend g l ws f q) (ap (reads g l (origin g l)) (sym i) ∙ q.read)))
            (λ x xs i. none_before ws f q none' x xs ts (none.rest ++ none.o ∷ []) none.are i
            (colons_next g l ws f q x xs p.values (pend g l ts e p) (ap (reads g l (origin g l)) (sym i) ∙ p.read)))

  -- in octets and in more of them
  within : (u : List ℕ) (j k : ℕ) (e f : Reason) → j ≤ k → k ≤ length u → Decides g l (take j u) e → Decides g l (take k u) f → (j ≡ k) × (e ≡ f)
  within u j k e f less inside d d' = let m = met (take j u) (drop j (take k u)) e f (seen g l (take j u) e d)
      (subst (λ y. Seen g l y f) cut (seen g l (take k u) f d')) in (omega (arith, m.0, less, size, length-drop j (take k u)), m.1)
    where
      size : length (take k u) ≡ k
      size = length-take-le k u inside

      front : take j (take k u) ≡ take j u
      front = sym (take-append-le j (take k u) (drop k u) (omega (arith, less, size))) ∙ ap (take j) (take-append-drop k u)

      cut : take k u ≡ take j u ++ drop j (take k u)
      cut = sym (take-append-drop j (take k u)) ∙ ap (λ z. z ++ drop j (take k u)) front

  -- Octets begin with those of rows up to one octet, and for one reason.
  pub one_octet : (u : List ℕ) (j k : ℕ) (e f : Reason) → j ≤ length u → k ≤ length u → Decides g l (take j u) e → Decides g l (take k u) f → (j ≡ k) × (e ≡ f)
  one_octet u j k e f m n d d' = by (cases_lt j k)
    where
      by : (j < k) ⊎ (k ≤ j) → (j ≡ k) × (e ≡ f)
      by (inl less) = within u j k e f (omega (arith, less)) n d d'
      by (inr more) = let h = within u k j f e more m d' d in (sym h.0, sym h.1)
