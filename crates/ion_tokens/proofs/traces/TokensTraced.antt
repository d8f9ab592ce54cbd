-- Octets that are tokens have a trace that tells them.
use Rattle.std.proofs.Common.{◌≡◌, ℕ, ◌+◌, ◌-◌, ◌⊎◌, inl, inr, Bool, false, List, [], ◌∷◌, ◌++◌, length, drop, refl, sym, ap, ◌∙◌, subst, arith, append_assoc, append-nil, length-append}
use Rattle.std.specs.Prelude.{Option, Some, None, Result, Ok, Err, option_to_list}
use Rattle.ion_tokens.specs.Names.{AllSay, Content, Given, Incomplete, IsBody, Known, Leads, Left, Lexeme, Lexes, Next, Outcome, Place, Placed, Places, Reason, TokenKind, Told, Trace, at_end, end_judged, initial, judged, last_judged, over, run, said, says, trace, traced}
use Rattle.ion_tokens.specs.laws.Tokens.{AreTold, TellsLexeme}
use Rattle.ion_tokens.specs.laws.TokensTraced.{AreSought, EndsInOperand}
use Rattle.ion_tokens.proofs.complete.Found.{Finds, Gives, Last, Leaves, Nothing, Unclosed, in_word}
use Rattle.ion_tokens.proofs.histories.Histories.{behind_front, completes}
use Rattle.ion_tokens.proofs.runs.Cutting.{one_body}
use Rattle.ion_tokens.proofs.runs.LastOctets.{cut_behind, last_octet, shown, size_shown}
use Rattle.ion_tokens.proofs.runs.Runs.{next_used}
use Rattle.ion_tokens.proofs.runs.Splits.{given_one, left_one}
use Rattle.ion_tokens.proofs.traces.Traced.{over_given, over_left, over_next}

-- a token says something
abbrev Says : Placed → Type 0
Says t = (c : Content) × IsBody t.lexeme.kind t.lexeme.octets (Ok c)

-- Behind tokens told before, a trace tells these tokens up to the end of all octets; or it lacks octets at an operator and a word.
TellsOn : Places → List Told → Trace → List Placed → ℕ → Type 0
TellsOn places before x ts all =
    ((xs : List Told) × (last : Option Told) × (x ≡ record { told = before ++ xs; refused = None; ends = Ok last })
    × AreTold places before ts (xs ++ option_to_list last))
    ⊎ ((e : EndsInOperand ts) × (xs : List Told)
    × (x ≡ record { told = before ++ xs; refused = None; ends = Err (record { offset = all; reason = Incomplete }) })
    × AreTold places before e.front xs)

-- one token more in front
one_more : (places : Places) (before : List Told) (t : Placed) (ts : List Placed) (x : Told) (y : Trace) (all : ℕ) → t.place ≡ places before
    → TellsLexeme t.lexeme x → TellsOn places (before ++ x ∷ []) y ts all
    → TellsOn places before y (t ∷ ts) all
unfolding TellsOn
one_more places before t ts x y all p i (inl (xs, last, e, h)) =
    inl (x ∷ xs, last, e ∙ (λ j. record { told = append_assoc before (x ∷ []) xs j; refused = None; ends = Ok last }), (p, i, h))
one_more places before t ts x y all p i (inr (o, xs, e, h)) = inr (
  record {
    front = t ∷ o.front;
    operator = o.operator;
    word = o.word;
    are = ap (λ l. t ∷ l) o.are;
    is_operator = o.is_operator;
    is_word = o.is_word;
    directly = o.directly;
  },
  x ∷ xs,
  e ∙ (λ j. record { told = append_assoc before (x ∷ []) xs j; refused = None; ends = Err (record { offset = all; reason = Incomplete }) }),
  (p, i, h),
)

said_so : (t : Placed) (c : Content) → IsBody t.lexeme.kind t.lexeme.octets (Ok c) → said t.lexeme.kind t.lexeme.octets ≡ Ok c
said_so t c b = one_body t.lexeme.kind t.lexeme.octets (said t.lexeme.kind t.lexeme.octets) (Ok c) (says t.lexeme.kind t.lexeme.octets) b

abbrev told_at : Placed → Content → ℕ → Told
told_at t c total = record { start = t.lexeme.start; end = t.lexeme.end; says = c; total = total }

is_told : (t : Placed) (c : Content) (total : ℕ) → IsBody t.lexeme.kind t.lexeme.octets (Ok c) → TellsLexeme t.lexeme (told_at t c total)
is_told t c total b = record { start = refl; end = refl; says = b }

lexeme_last : Result (Option Lexeme) Reason → Lexeme → Lexeme
lexeme_last (Ok (Some l)) m = l
lexeme_last _ m = m

-- letters up to the end of the octets are one word
one_word : (letters : List ℕ) (colon : Bool) (start used : ℕ) (ts : List Placed) → (ts ≡ [] → ⊥) → Finds (in_word letters colon start used) [] ts
    → (w : Placed) × (ts ≡ w ∷ []) × (w.lexeme.kind ≡ TokenKind.Word) × (w.lexeme.start ≡ start)
unfolding lexeme_last
one_word letters colon start used _ some (Nothing _ _ f) = absurd (some refl)
one_word letters colon start used _ some (Last _ _ t s e f) =
    let same : Ok (Some (record { start = start; end = used; kind = TokenKind.Word; octets = letters })) ≡ Ok (Some t.lexeme) = ap (λ x. at_the_end x t) e ∙ f in
    (t, refl, sym (ap (λ x. (lexeme_last x t.lexeme).kind) same), sym (ap (λ x. (lexeme_last x t.lexeme).start) same))
  where
    at_the_end : Outcome → Placed → Result (Option Lexeme) Reason
    at_the_end (Next k) t = at_end t.place k
    at_the_end _ t = Ok None
one_word letters colon start used _ some (Gives _ _ t ts s e more) = cc
one_word letters colon start used _ some (Leaves _ _ t ts s e more) = cc
one_word letters colon start used _ some (Unclosed _ _ t ts s _ _ m e f g h more) = cc

module _ (places : Places) where
  -- octets that are all used
  all_used : (before : List Told) (p : Place) (octets : List ℕ) (s t : Known) → places before ≡ p → run p octets s ≡ Next t
      → over places octets before s ≡ Leads before t
  all_used before p octets s t place e = ap (λ l. over places l before s) (sym (append-nil octets)) ∙ over_next places before p octets [] s t place e

  module _ (before : List Told) (s : Known) (octets : List ℕ) (t : Placed) (ts : List Placed) (s' : Known) (all : ℕ) (say : Says t)
      (place : t.place ≡ places before) (size : s.used + length octets ≡ all) where
    abbrev x : Told
    x = told_at t say.0 s'.used

    -- what comes of the octets behind the token
    abbrev TracedBehind : Type 0
    TracedBehind = s'.used + length (drop (s'.used - s.used) octets) ≡ all
        → TellsOn places (before ++ x ∷ []) (traced places (over places (drop (s'.used - s.used) octets) (before ++ x ∷ []) s')) ts all

    joined : (rest : List ℕ) → drop (s'.used - s.used) octets ≡ rest → s'.used + length rest ≡ all
        → over places octets before s ≡ over places rest (before ++ x ∷ []) s' → TracedBehind
        → TellsOn places before (traced places (over places octets before s)) (t ∷ ts) all
    joined rest back left same more =
        one_more places before t ts x (traced places (over places octets before s)) all place (is_told t say.0 s'.used say.1)
        (subst (λ y. TellsOn places (before ++ x ∷ []) (traced places y) ts all) (ap (λ l. over places l (before ++ x ∷ []) s') back ∙ sym same)
        (more (ap (λ l. s'.used + length l) back ∙ left)))

    judged_so : (decided : ℕ) → judged before t.lexeme decided s' (said t.lexeme.kind t.lexeme.octets) ≡ Leads (before ++ x ∷ []) s'
    judged_so decided = ap (λ r. judged before t.lexeme decided s' r) (said_so t say.0 say.1)

    -- behind a token that was given
    given : run t.place octets s ≡ Given t.lexeme s' → TracedBehind → TellsOn places before (traced places (over places octets before s)) (t ∷ ts) all
    given e more =
        let d = last_octet t.place octets s (Given t.lexeme s') tt e in
        let one = given_one t.place d.octet d.known s' t.lexeme d.fed in
        let used : s'.used ≡ s.used + length (shown d) = omega (arith, one, d.counted, size_shown d) in
        let back : drop (s'.used - s.used) octets ≡ d.rest =
        ap (λ l. drop (s'.used - s.used) l) (cut_behind d) ∙ behind_front (shown d) d.rest s.used s'.used used in
        joined d.rest back (omega (arith, used, size, ap length (cut_behind d), length-append (shown d) d.rest))
        (ap (λ l. over places l before s) d.cut
        ∙ over_given places before (before ++ x ∷ []) t.place octets d.rest s s' t.lexeme (sym place) d (judged_so s'.used)) more

    -- and of one before which an octet is left
    left : run t.place octets s ≡ Left t.lexeme s' → TracedBehind → TellsOn places before (traced places (over places octets before s)) (t ∷ ts) all
    left e more =
        let d = last_octet t.place octets s (Left t.lexeme s') tt e in
        let one = left_one t.place d.octet d.known s' t.lexeme d.fed in
        let counted = d.counted in
        let used : s'.used ≡ s.used + length d.before = omega (arith, one, counted) in
        let back : drop (s'.used - s.used) octets ≡ d.octet ∷ d.rest =
        ap (λ l. drop (s'.used - s.used) l) d.cut ∙ behind_front d.before (d.octet ∷ d.rest) s.used s'.used used in
        joined (d.octet ∷ d.rest) back (omega (arith, used, size, ap length d.cut, length-append d.before (d.octet ∷ d.rest)))
        (ap (λ l. over places l before s) d.cut
        ∙ over_left places before (before ++ x ∷ []) t.place octets d.rest s s' t.lexeme (sym place) d (judged_so (s'.used + 1))) more

  -- what is found is told
  found_told : (before : List Told) (s : Known) (octets : List ℕ) (ts : List Placed) (all : ℕ) → Finds s octets ts → AllSay ts → AreSought places before ts
      → s.used + length octets ≡ all
      → TellsOn places before (traced places (over places octets before s)) ts all
  unfolding TellsOn
  found_told before s octets _ all (Nothing _ _ f) say sought size =
      let (s', e, none) = f (places before) in
      inl (
        [],
        None,
        ap (λ y. traced places y) (all_used before (places before) octets s s' refl e)
            ∙ (λ i. record { told = sym (append-nil before) i; refused = None; ends = end_judged s'.used (none i) }),
        tt,
      )
  found_told before s octets _ all (Last _ _ t s' e f) say sought size =
      let end : at_end (places before) s' ≡ Ok (Some t.lexeme) = ap (λ q. at_end q s') (sym sought.0) ∙ f in
      inl (
        [],
        Some (told_at t say.0.0 s'.used),
        ap (λ y. traced places y) (all_used before t.place octets s s' (sym sought.0) e)
            ∙ (λ i. record { told = sym (append-nil before) i; refused = None; ends = end_judged s'.used (end i) })
            ∙ (λ i. record { told = before ++ []; refused = None; ends = last_judged t.lexeme s'.used (said_so t say.0.0 say.0.1 i) }),
        (sought.0, is_told t say.0.0 s'.used say.0.1, tt),
      )
  found_told before s octets _ all (Gives _ _ t ts s' e more) say sought size =
      given before s octets t ts s' all say.0 sought.0 size e
      (λ left. found_told (before ++ told_at t say.0.0 s'.used ∷ []) s' (drop (s'.used - s.used) octets) ts all more say.1
      (sought.1 (told_at t say.0.0 s'.used) (is_told t say.0.0 s'.used say.0.1)) left)
  found_told before s octets _ all (Leaves _ _ t ts s' e more) say sought size =
      left before s octets t ts s' all say.0 sought.0 size e
      (λ now. found_told (before ++ told_at t say.0.0 s'.used ∷ []) s' (drop (s'.used - s.used) octets) ts all more say.1
      (sought.1 (told_at t say.0.0 s'.used) (is_told t say.0.0 s'.used say.0.1)) now)
  found_told before s octets _ all (Unclosed _ _ t ts s' colon letters some e f first operator more) say sought size =
      let end : at_end (places before) s' ≡ Err Incomplete = ap (λ q. at_end q s') (sym sought.0) ∙ f in
      let (w, only, is, from) = one_word letters colon t.lexeme.end s'.used ts some more in
      let used : s'.used ≡ all = next_used t.place octets s s' (sym e) ∙ size in
      inr (
        record { front = []; operator = t; word = w; are = ap (λ l. t ∷ l) only; is_operator = operator; is_word = is; directly = from },
        [],
        ap (λ y. traced places y) (all_used before t.place octets s s' (sym sought.0) e)
            ∙ (λ i. record { told = sym (append-nil before) i; refused = None; ends = end_judged s'.used (end i) })
            ∙ (λ i. record { told = before ++ []; refused = None; ends = Err (record { offset = used i; reason = Incomplete }) }),
        tt,
      )

-- Octets that are tokens which say something, each looked for where those before it lead, are traced as these.
pub tokens_traced : (places : Places) (u : List ℕ) (ts : List Placed) → Lexes false 0 u ts → AllSay ts → AreSought places [] ts
    → ((last : Option Told) × ((trace places u).ends ≡ Ok last) × AreTold places [] ts ((trace places u).told ++ option_to_list last))
    ⊎ ((e : EndsInOperand ts) × ((trace places u).ends ≡ Err (record { offset = length u; reason = Incomplete }))
    × AreTold places [] e.front (trace places u).told)
unfolding TellsOn
tokens_traced places u ts lexes say sought = by (found_told places [] initial u ts (length u)
    (completes ts false 0 u [] u initial lexes refl (λ p. refl)) say sought (omega arith)) where
      by : TellsOn places [] (trace places u) ts (length u)
          → ((last : Option Told) × ((trace places u).ends ≡ Ok last) × AreTold places [] ts ((trace places u).told ++ option_to_list last))
          ⊎ ((e : EndsInOperand ts) × ((trace places u).ends ≡ Err (record { offset = length u; reason = Incomplete }))
          × AreTold places [] e.front (trace places u).told)
      by (inl (xs, last, e, h)) = inl (
        last,
        ap (λ (x : Trace). x.ends) e,
        subst (λ l. AreTold places [] ts (l ++ option_to_list last)) (sym (ap (λ (x : Trace). x.told) e)) h,
      )
      by (inr (o, xs, e, h)) = inr (o, ap (λ (x : Trace). x.ends) e, subst (λ l. AreTold places [] o.front l) (sym (ap (λ (x : Trace). x.told) e)) h)
