-- The end shows one row of the table, and where it shows one no octet before does.
use Rattle.std.proofs.Common.{◌≡◌, ℕ, false, List, [], ◌∷◌, ◌++◌, take, drop, refl, sym, ap, ◌∙◌, subst, append_assoc, append-nil, arith, codes}
use Rattle.std.proofs.lemmas.Bool.{or_left}
use Rattle.std.proofs.lemmas.List.{length-append, take-append-drop}
use Rattle.ion_refusals.specs.Names.{Are, AwaitsColons, BeginsLexed, BlankThen, Catalog, Comes, Container, Content, Decides, EndDecides, Id, InStruct, IsKeyword, KeywordAsName, LexesTo, Limits, Mark, Placed, Reason, Slot, TokenKind, TypedNull, Word, bad_table, is_keyword, is_version, keyword_as_annotation, keyword_as_name, line_feed, no_symbol, null_table, other_version, reads, struct_too_deep, too_deep}
use Rattle.ion_refusals.proofs.deciding.Agree.{one_list}
use Rattle.ion_refusals.proofs.deciding.Fronts.{HasEnded, origin}
use Rattle.ion_refusals.proofs.deciding.Lines.{lexes_line, line}
use Rattle.ion_refusals.proofs.deciding.OneOctet.{Seen, bare_behind, colons_on, left_same, lexes_front, met, none_later, pends_beyond, pends_once, read_on, refused, seen, stops_beyond, stops_so, unfollowed, waited_ended}
use Rattle.ion_refusals.proofs.deciding.Shows.{EndSaid, IsBare, NoLetters, end_bare, no_letters, said_bare}
use Rattle.ion_refusals.proofs.deciding.Tokens.{Stops, bare_plain, ended_by_rest, id_stops, keyword_stops}
use Rattle.ion_refusals.proofs.deciding.Waiting.{Pends, colons_next, colons_shown, null_pends, pend, version_pends}
use Rattle.ion_text.specs.laws.showing.tokens.Cuts.{parted}

-- the last token is a word that is refused, or waits for `::`, which doesn't follow
pub data SeenEnd (g : Catalog) (l : Limits) (u : List ℕ) (e : Reason) : Type 0 where
  by_word : (ts : List Placed) (t : Placed) → (s : Stops g l ts t e) → Are u (s.front ++ t ∷ []) [] → IsBare t.lexeme.kind → NoLetters t.lexeme
      → SeenEnd g l u e
  by_waiting : (ts : List Placed) → Pends g l ts e → AwaitsColons u ts → SeenEnd g l u e

keyword_ends : (said : Content) → IsKeyword said → EndSaid said
keyword_ends (Word w) k = or_left (is_keyword w) (is_version w) k
keyword_ends (TypedNull k) i = tt
keyword_ends _ k = absurd k

module _ (g : Catalog) (l : Limits) where
  word_seen : (u : List ℕ) (ts : List Placed) (c : List Slot) (ks : List Container) (said : Content) (e : Reason) → Are u ts [] → (h : Comes g l c ks said ts)
      → EndSaid said → Stops g l ts h.token e → SeenEnd g l u e
  word_seen u ts c ks said e are h ends s = by_word ts h.token s (subst (λ y. Are u y []) s.is are)
      (said_bare h.token.lexeme.kind h.token.lexeme.octets said h.says.body (end_bare said ends)) (no_letters h.token.lexeme said h.says.body ends)

  pub end_seen : (u : List ℕ) (e : Reason) → EndDecides g l u e → SeenEnd g l u e
  end_seen u _ (no_symbol ts c ks id e shown h fails) = word_seen u ts c ks (Id id) e shown h tt (id_stops g l ts c ks id e h fails)
  end_seen u _ (keyword_as_name ts c ks said shown h k) = word_seen u ts c (InStruct ∷ ks) said KeywordAsName shown h (keyword_ends said k)
      (keyword_stops g l ts c ks said h k)
  end_seen u _ (keyword_as_annotation ts colons c ks said shown h takes k says) = absurd shown
  end_seen u _ (other_version ts c w shown h none version other) = by_waiting ts (version_pends g l ts c w h none version other) shown
  end_seen u _ (null_table ts c ss k e shown h table fails) = by_waiting ts (null_pends g l ts c ss k e h table fails) shown
  end_seen u _ (too_deep ts c ks said shown h takes opens deep) = absurd shown
  end_seen u _ (struct_too_deep ts c ks shown h takes deep) = absurd shown
  end_seen u _ (bad_table ts c ss ms e shown h table fails) = absurd shown

  -- before a line's end the word has ended
  pub word_ended : (u : List ℕ) (front : List Placed) (t : Placed) → Are u (front ++ t ∷ []) [] → IsBare t.lexeme.kind
      → (Are (u ++ line) (front ++ t ∷ []) line) × HasEnded g l (u ++ line) t
  word_ended u front t (c, i, a) bare =
      let are : Are (u ++ line) (front ++ t ∷ []) line = (c, i, lexes_line (front ++ t ∷ []) false 0 u c i [] a) in
      (are, ended_by_rest g l (u ++ line) front t line_feed [] (bare_plain t.lexeme.kind bare) are)

  -- a line's end shows it
  word_line : (u : List ℕ) (ts : List Placed) (t : Placed) (e : Reason) (s : Stops g l ts t e) → Are u (s.front ++ t ∷ []) [] → IsBare t.lexeme.kind
      → Seen g l (u ++ line) e
  word_line u ts t e s are bare = let h = word_ended u s.front t are bare in refused ts t line s h.0 h.1 (sym (bare_behind t.lexeme.kind bare))

  -- what waits has ended
  waits_lexed : (u : List ℕ) (ts : List Placed) (a : AwaitsColons u ts) → Are (u ++ line) ts (a.rest ++ line)
  waits_lexed u ts a = (a.are.0, a.are.1, lexes_line ts false 0 u a.are.0 a.are.1 a.rest a.are.2)

  pub waits_ended : (u : List ℕ) (ts : List Placed) (e : Reason) (p : Pends g l ts e) (a : AwaitsColons u ts)
      → (Are (u ++ line) (p.front ++ p.token ∷ []) (a.rest ++ line)) × HasEnded g l (u ++ line) p.token
  waits_ended u ts e p a =
      let are = subst (λ z. Are (u ++ line) z (a.rest ++ line)) p.is (waits_lexed u ts a) in
      (are, ended_by_rest g l (u ++ line) p.front p.token line_feed a.rest (bare_plain p.token.lexeme.kind p.bare) are)

  -- `::` doesn't stand behind it
  none_behind : (u : List ℕ) (ts : List Placed) → AwaitsColons u ts → (x : Placed) (xs ws : List Placed) (rest : List ℕ) → Are u ws rest → ws ≡ ts ++ x ∷ xs
      → x.lexeme.kind ≡ TokenKind.Mark Mark.Colons → ⊥
  none_behind u ts a x xs ws rest are i k = a.after (colons_shown u ts x xs a.are.0 are.0 a.are.1 are.1 a.rest rest a.are.2
      (subst (λ z. LexesTo false 0 u z are.0 are.1 rest) i are.2) k)

  -- 2. Two rows that the end shows.

  word_waits : (u : List ℕ) (ts ws : List Placed) (t : Placed) (e f : Reason) (s : Stops g l ts t e) → Are u (s.front ++ t ∷ []) [] → IsBare t.lexeme.kind
      → (p : Pends g l ws f) → AwaitsColons u ws → ⊥
  word_waits u ts ws t e f s are bare p a =
      read_on g l ws f p (s.front ++ t ∷ []) (stops_so g l ts t e s)
      (one_list g l (u ++ line) [] (s.front ++ t ∷ []) ws s.front p.front t p.token refl p.is here.1 s.came p.came
      (lexes_front (s.front ++ t ∷ []) (u ++ line) line here.0)
      (subst (λ z. BeginsLexed false 0 z ws) (sym (append-nil (u ++ line))) (lexes_front ws (u ++ line) (a.rest ++ line) (waits_lexed u ws a)))
      (λ x xs i. stops_beyond g l (s.front ++ t ∷ []) (stops_so g l ts t e s) p.front p.token p.came x xs (sym p.is ∙ i))
      (λ x xs i. none_behind u ws a x xs (s.front ++ t ∷ []) [] are i (pends_beyond g l ws f e p s.front t x xs s.came s.why i)))
    where
      here : (Are (u ++ line) (s.front ++ t ∷ []) line) × HasEnded g l (u ++ line) t
      here = word_ended u s.front t are bare

  both_wait : (u : List ℕ) (ts ws : List Placed) (e f : Reason) (p : Pends g l ts e) → AwaitsColons u ts → (q : Pends g l ws f) → AwaitsColons u ws → e ≡ f
  both_wait u ts ws e f p a q b =
      pends_once g l ts ws e f p q
      (one_list g l (u ++ line) [] ts ws p.front q.front p.token q.token p.is q.is (waits_ended u ts e p a).1 p.came q.came
      (lexes_front ts (u ++ line) (a.rest ++ line) (waits_lexed u ts a))
      (subst (λ z. BeginsLexed false 0 z ws) (sym (append-nil (u ++ line))) (lexes_front ws (u ++ line) (b.rest ++ line) (waits_lexed u ws b)))
      (λ x xs i. none_behind u ts a x xs ws b.rest b.are i
      (colons_next g l ts e p x xs q.values (pend g l ws f q) (ap (reads g l (origin g l)) (sym i) ∙ q.read)))
      (λ x xs i. none_behind u ws b x xs ts a.rest a.are i
      (colons_next g l ws f q x xs p.values (pend g l ts e p) (ap (reads g l (origin g l)) (sym i) ∙ p.read))))

  ends_met : (u : List ℕ) (e f : Reason) → SeenEnd g l u e → SeenEnd g l u f → e ≡ f
  ends_met u e f (by_word ts t s are bare n) (by_word ws w s' are' bare' n') =
      (met g l (u ++ line) [] e f (word_line u ts t e s are bare)
      (subst (λ z. Seen g l z f) (sym (append-nil (u ++ line))) (word_line u ws w f s' are' bare'))).1
  ends_met u e f (by_word ts t s are bare n) (by_waiting ws p a) = absurd (word_waits u ts ws t e f s are bare p a)
  ends_met u e f (by_waiting ws p a) (by_word ts t s are bare n) = absurd (word_waits u ts ws t f e s are bare p a)
  ends_met u e f (by_waiting ts p a) (by_waiting ws q b) = both_wait u ts ws e f p a q b

  -- The end shows one row.
  pub one_end : (u : List ℕ) (e f : Reason) → EndDecides g l u e → EndDecides g l u f → e ≡ f
  one_end u e f d d' = ends_met u e f (end_seen u e d) (end_seen u f d')

  -- 3. A row that an octet shows, and one that the end shows.

  -- `::` didn't stand in fewer octets
  none_fewer : (u v : List ℕ) (ts : List Placed) (e : Reason) → Pends g l ts e → AwaitsColons (u ++ v) ts → (x : Placed) (xs ws : List Placed) (rest : List ℕ)
      → Are u ws rest → ws ≡ ts ++ x ∷ xs → x.lexeme.kind ≡ TokenKind.Mark Mark.Colons → ⊥
  none_fewer u v ts e p a x xs ws rest are i k =
      let lexes = subst (λ z. LexesTo false 0 u z are.0 are.1 rest) i are.2 in
      let y = parted ts (x ∷ xs) false 0 u are.0 are.1 rest lexes in
      let same = left_same p.front p.token u v y.flag a.are.0 y.mid a.are.1 y.left a.rest (subst (λ z. LexesTo false 0 u z y.flag y.mid y.left) p.is y.first)
      (subst (λ z. LexesTo false 0 (u ++ v) z a.are.0 a.are.1 a.rest) p.is a.are.2) in
      a.after (subst (BlankThen (codes "::")) same (colons_on y.left v (colons_shown u ts x xs y.flag are.0 y.mid are.1 y.left rest y.first lexes k)))

  octet_waits : (u v : List ℕ) (e f : Reason) → Seen g l u f → (ts : List Placed) (p : Pends g l ts e) → AwaitsColons (u ++ v) ts → ⊥
  octet_waits u v e f (refused ws w left s are ended size) ts p a =
      read_on g l ts e p (s.front ++ w ∷ []) (stops_so g l ws w f s)
      (one_list g l u (v ++ line) (s.front ++ w ∷ []) ts s.front p.front w p.token refl p.is ended s.came p.came
      (lexes_front (s.front ++ w ∷ []) u left are)
      (subst (λ z. BeginsLexed false 0 z ts) (append_assoc u v line) (lexes_front ts ((u ++ v) ++ line) (a.rest ++ line) (waits_lexed (u ++ v) ts a)))
      (λ x xs i. stops_beyond g l (s.front ++ w ∷ []) (stops_so g l ws w f s) p.front p.token p.came x xs (sym p.is ∙ i))
      (λ x xs i. none_fewer u v ts e p a x xs (s.front ++ w ∷ []) left are i (pends_beyond g l ts e f p s.front w x xs s.came s.why i)))
  octet_waits u v e f (unfollowed ws q none) ts p a = apart (one_list g l u (v ++ line) ws ts q.front p.front q.token p.token q.is p.is
      (waited_ended g l u v ws f q none) q.came p.came (lexes_front ws u (none.rest ++ none.o ∷ []) none.are)
      (subst (λ z. BeginsLexed false 0 z ts) (append_assoc u v line) (lexes_front ts ((u ++ v) ++ line) (a.rest ++ line) (waits_lexed (u ++ v) ts a)))
      (λ x xs i. none_later g l u v ws f q none x xs ts a.rest a.are i
      (colons_next g l ws f q x xs p.values (pend g l ts e p) (ap (reads g l (origin g l)) (sym i) ∙ p.read)))
      (λ x xs i. none_fewer u v ts e p a x xs ws (none.rest ++ none.o ∷ []) none.are i
      (colons_next g l ts e p x xs q.values (pend g l ws f q) (ap (reads g l (origin g l)) (sym i) ∙ q.read))))
    where
      apart : ws ≡ ts → ⊥
      apart i =
          let left = left_same q.front q.token u v none.are.0 a.are.0 none.are.1 a.are.1 (none.rest ++ none.o ∷ []) a.rest
          (subst (λ z. LexesTo false 0 u z none.are.0 none.are.1 (none.rest ++ none.o ∷ [])) q.is none.are.2)
          (subst (λ z. LexesTo false 0 (u ++ v) z a.are.0 a.are.1 a.rest) (sym i ∙ q.is) a.are.2) in
          none.after (v ++ a.before.0)
          (subst (BlankThen (codes "::")) (ap (λ z. z ++ a.before.0) (sym left)
          ∙ (append_assoc (none.rest ++ none.o ∷ []) v a.before.0 ∙ append_assoc none.rest (none.o ∷ []) (v ++ a.before.0))) a.before.1)

  octet_ends : (u v : List ℕ) (e f : Reason) → Seen g l u f → SeenEnd g l (u ++ v) e → ⊥
  octet_ends u v e f h (by_word ts t s are bare n) =
      let m = met g l u (v ++ line) f e h (subst (λ z. Seen g l z e) (append_assoc u v line) (word_line (u ++ v) ts t e s are bare)) in
      omega (arith, m.0, length-append v line)
  octet_ends u v e f h (by_waiting ts p a) = octet_waits u v e f h ts p a

  -- No octet shows one where the end does.
  pub no_octet : (u : List ℕ) (k : ℕ) (e f : Reason) → Decides g l (take k u) f → EndDecides g l u e → ⊥
  no_octet u k e f d d' = octet_ends (take k u) (drop k u) e f (seen g l (take k u) f d)
      (subst (λ z. SeenEnd g l z e) (sym (take-append-drop k u)) (end_seen u e d'))
