-- What the calls of the scanner say of the octets so far and the tokens told.
use Rattle.std.proofs.Common.{◌≡◌, ◌≢◌, ℕ, ◌+◌, ◌≤◌, inl, inr, Bool, true, false, List, [], ◌∷◌, ◌++◌, length, take, drop, refl, sym, ap, ◌∙◌, subst, arith, append_assoc, append-nil, length-append}
use Rattle.std.specs.Prelude.{Option, Some, None, Result, Ok, Err}
use Rattle.std.proofs.Math.Seq.{drop-append_seam, take-append_seam}
use Rattle.ion_tokens.specs.Names.{AllPass, AllSay, Answers, AreOctets, BeginsLexed, Continues, EndsSo, Gave, Given, GivesToken, GoesWith, IsAhead, IsBody, IsNext, IsToken, Known, Leaved, Left, Lexeme, Lexes, LexesTo, Next, NoDocument, NoEnd, Outcome, Passes, Place, Placed, Reason, Refusal, Refused, Scanned, Stands, Stepped, Tells, Token, at_end, deciding, initial, run}
use Rattle.ion_tokens.specs.machine.Steps.{Ends}
use Rattle.ion_tokens.specs.machine.Told.{Begun}
use Rattle.ion_tokens.proofs.complete.Wholes.{run_behind}
use Rattle.ion_tokens.proofs.histories.Ended.{stands_used, told_all}
use Rattle.ion_tokens.proofs.histories.Histories.{end_blank, end_token, given_next, left_next, refusal_right}
use Rattle.ion_tokens.proofs.runs.Cutting.{one_body}
use Rattle.ion_tokens.proofs.runs.LastOctets.{LastOctet, cut_behind, last_octet, ran_shown, refused_here, shown, size_shown}
use Rattle.ion_tokens.proofs.runs.Runs.{next_used}
use Rattle.ion_tokens.proofs.runs.Splits.{given_one, left_one}
use Rattle.ion_tokens.proofs.sound.Told.{ends_in_blank, ends_in_token, told_right}
use Rattle.ion_tokens.specs.laws.Each.{all_last}

-- at most one octet is left
pub at_most_one : (s : Known) (u : List ℕ) (ts : List Placed) (ahead : List ℕ) → Stands s u ts ahead → length ahead ≤ 1
at_most_one s u ts ahead Begun = omega arith
at_most_one s u ts ahead _ = omega arith

-- the front of octets that begin with at most one
pub begins_front : (left octets rest more : List ℕ) → length left ≤ 1 → 1 ≤ length octets → octets ++ rest ≡ left ++ more → Continues octets left
begins_front [] octets rest more h k e = (octets, refl)
begins_front (y ∷ []) (z ∷ zs) rest more h k e = let same : z ≡ y = ap (λ l. Rattle.std.specs.Prelude.slice_index l 0) e in (zs, ap (λ (x : ℕ). x ∷ zs) same)
begins_front _ _ rest more h k e = absurd (omega arith)

-- where tokens aren't refused when they are judged, nor is one more, none of them all is
pub pass_more : (ts : List Placed) (t : Placed) → AllPass ts → Passes t.lexeme.kind t.lexeme.octets → AllPass (ts ++ t ∷ [])
pass_more ts t h k = all_last (λ (x : Placed). Passes x.lexeme.kind x.lexeme.octets) ts t h k

-- so many octets of a piece are its front
pub front_is : (piece octets rest : List ℕ) (n : ℕ) → piece ≡ octets ++ rest → n ≡ length octets → take n piece ≡ octets
front_is piece octets rest n cut size = ap (λ l. take n l) cut ∙ ap (λ (i : ℕ). take i (octets ++ rest)) size ∙ take-append_seam octets rest

-- before any octet
pub begun_scanned : (p : Place) (s : Known) → s ≡ initial → Scanned p s [] [] []
begun_scanned p s e = record {
  behind = initial;
  front = [];
  left = [];
  since = [];
  told = Begun;
  pass = tt;
  ran =
      ap Next (sym e);
  cut = refl;
  next = inl (refl, refl);
}

module _ (p : Place) (s : Known) (u : List ℕ) (ts : List Placed) (ahead : List ℕ) (h : Scanned p s u ts ahead) where
  -- the octets since the last token and those of a piece begin with what was left
  pub from_left : (piece octets rest : List ℕ) → Continues piece ahead → piece ≡ octets ++ rest → 1 ≤ length octets → Continues (h.since ++ octets) h.left
  from_left piece octets rest (more, c) e some = by h.next where
    by : IsAhead h.since h.left ahead → Continues (h.since ++ octets) h.left
    by (inl (none, same)) =
        let front = begins_front h.left octets rest more (at_most_one h.behind h.front ts h.left h.told) some (sym e ∙ c ∙ ap (λ l. l ++ more) same) in
        (front.0, ap (λ l. l ++ octets) none ∙ front.1)
    by (inr (front, since, none)) = (front ++ octets, ap (λ l. l ++ octets) since ∙ append_assoc h.left front octets)

  whole_piece : (piece : List ℕ) → Continues piece ahead → Continues (h.since ++ piece) h.left
  whole_piece piece (more, c) = by h.next where
    by : IsAhead h.since h.left ahead → Continues (h.since ++ piece) h.left
    by (inl (none, same)) = (more, ap (λ l. l ++ piece) none ∙ c ∙ ap (λ l. l ++ more) same)
    by (inr (front, since, none)) = (front ++ piece, ap (λ l. l ++ piece) since ∙ append_assoc h.left front piece)

  -- a run from where the scanner stands is one from behind the last token over all octets since
  pub behind_since : (piece : List ℕ) (x : Outcome) → run p piece s ≡ x → run p (h.since ++ piece) h.behind ≡ x
  behind_since piece x e = run_behind p h.since piece h.behind s h.ran ∙ e

  cut_there : (piece rest : List ℕ) → u ++ (piece ++ rest) ≡ h.front ++ ((h.since ++ piece) ++ rest)
  cut_there piece rest = ap (λ l. l ++ (piece ++ rest)) h.cut ∙ append_assoc h.front h.since (piece ++ rest)
      ∙ ap (λ l. h.front ++ l) (sym (append_assoc h.since piece rest))

  -- octets behind those used, as octets behind those up to the last token
  pub there : (octets rest : List ℕ) → (u ++ octets) ++ rest ≡ h.front ++ ((h.since ++ octets) ++ rest)
  there octets rest = append_assoc u octets rest ∙ cut_there octets rest

  -- behind a piece that is used and ends no token, the same tokens are told
  pub goes_on : (piece : List ℕ) (s' : Known) → Continues piece ahead → run p piece s ≡ Next s' → Scanned p s' (u ++ piece) ts []
  goes_on piece s' c e = record {
    behind = h.behind;
    front = h.front;
    left = h.left;
    since = h.since ++ piece;
    told = h.told;
    pass = h.pass;
    ran = behind_since piece (Next s') e;
    cut = ap (λ l. l ++ piece) h.cut ∙ append_assoc h.front h.since piece;
    next = let w = whole_piece piece c in inr (w.0, w.1, refl);
  }

  -- so many octets were used: those up to the last token, and those since
  pub since_used : s.used ≡ h.behind.used + length h.since
  since_used = next_used p h.since h.behind s (sym h.ran)

  -- behind a token
  pub told_more : (octets : List ℕ) (t : Placed) (now : Known) (next : List ℕ) → Stands now (h.front ++ (h.since ++ octets)) (ts ++ t ∷ []) next
      → Passes t.lexeme.kind t.lexeme.octets → (q : Place) → Scanned q now (u ++ octets) (ts ++ t ∷ []) next
  told_more octets t now next stands pass q = record {
    behind = now;
    front = u ++ octets;
    left = next;
    since = [];
    told = subst (λ l. Stands now l (ts ++ t ∷ []) next) (sym (ap (λ l. l ++ octets) h.cut ∙ append_assoc h.front h.since octets)) stands;
    pass = pass_more ts t h.pass pass;
    ran = refl;
    cut = sym (append-nil (u ++ octets));
    next = inl (refl, refl);
  }

  -- the octets used are those that the scanner stands for
  pub scanned_used : s.used ≡ length u
  scanned_used = let stood = stands_used h.behind h.front ts h.left h.told in omega (arith, stood, since_used, ap length h.cut, length-append h.front h.since)

  -- where something came of an octet of a piece: the octets up to that one behind those since the last token
  module _ (piece : List ℕ) (x : Outcome) (d : LastOctet p piece s x) (c : Continues piece ahead) where
    from_shown : Continues (h.since ++ shown d) h.left
    from_shown = from_left piece (shown d) d.rest c (cut_behind d) (omega (arith, size_shown d))

    since_ran : run p (h.since ++ shown d) h.behind ≡ x
    since_ran = behind_since (shown d) x (ran_shown d)

    lexes_there : (octets rest : List ℕ) (others : List Placed) → octets ≡ u ++ shown d → Lexes false 0 (octets ++ rest) (ts ++ others)
        → Lexes false 0 (h.front ++ ((h.since ++ shown d) ++ rest)) (ts ++ others)
    lexes_there octets rest others e lexes = subst (λ o. Lexes false 0 o (ts ++ others)) (ap (λ l. l ++ rest) e ∙ there (shown d) rest) lexes

    -- those up to a refusal's offset
    at_offset : (offset : ℕ) → offset ≡ d.known.used + 1 → take offset (u ++ piece) ≡ u ++ shown d
    at_offset offset at =
        front_is (u ++ piece) (u ++ shown d) d.rest offset (ap (λ l. u ++ l) (cut_behind d) ∙ sym (append_assoc u (shown d) d.rest))
        (omega (arith, at, d.counted, size_shown d, scanned_used, length-append u (shown d)))

  gave : (piece : List ℕ) (s' : Known) (l : Lexeme) (scan : Stepped) (t : Token) → scan.left ≡ false → Continues piece ahead → run p piece s ≡ Given l s'
      → s'.used ≡ s.used + scan.used → IsToken l t → Tells p u piece ts scan t s'
  gave piece s' l scan t used_all c e n is =
      let x = Given l s' in
      let d = last_octet p piece s x tt e in
      let from = from_shown piece x d c in
      let one = given_one p d.octet d.known s' l d.fed in
      let front : take scan.used piece ≡ shown d =
      front_is piece (shown d) d.rest scan.used (cut_behind d) (omega (arith, n, one, d.counted, size_shown d)) in
      let whole = ap (λ b. deciding scan.used b) used_all in
      let token : Placed = record { place = p; lexeme = l } in
      record {
        lexeme = l;
        is = is;
        longest = λ rest others looks lexes.
            given_next h.behind s' h.front ts h.left (h.since ++ shown d) from.0 p l h.told from.1 (since_ran piece x d c) rest others looks
            (lexes_there piece x d c _ rest others (ap (λ (i : ℕ). u ++ take i piece) whole ∙ ap (λ o. u ++ o) front) lexes);
        ahead = [];
        left = omega (arith, whole);
        again = (drop scan.used piece, refl);
        scanned = λ q. subst (λ o. Scanned q s' (u ++ o) (ts ++ token ∷ []) []) (sym front)
            (told_more (shown d) token s' []
            (Gave h.behind h.front ts h.left token (h.since ++ shown d) from.0 s' h.told from.1 (since_ran piece x d c)
            (omega (arith, one, d.counted, size_shown d, since_used, length-append h.since (shown d)))) is.passes q);
      }

  left : (piece : List ℕ) (s' : Known) (l : Lexeme) (scan : Stepped) (t : Token) → scan.left ≡ true → Continues piece ahead → run p piece s ≡ Left l s'
      → s'.used ≡ s.used + scan.used → IsToken l t → Tells p u piece ts scan t s'
  left piece s' l scan t one_left c e n is =
      let x = Left l s' in
      let d = last_octet p piece s x tt e in
      let from = from_shown piece x d c in
      let one = left_one p d.octet d.known s' l d.fed in
      let size : scan.used ≡ length d.before = omega (arith, n, one, d.counted) in
      let front : take scan.used piece ≡ d.before = front_is piece d.before (d.octet ∷ d.rest) scan.used d.cut size in
      let back : drop scan.used piece ≡ d.octet ∷ d.rest = ap (λ l. drop scan.used l) d.cut ∙ ap (λ (n : ℕ). drop n (d.before ++ d.octet ∷ d.rest)) size
      ∙ drop-append_seam d.before (d.octet ∷ d.rest) in
      let whole = ap (λ b. deciding scan.used b) one_left in
      let decide : take (scan.used + 1) piece ≡ shown d = front_is piece (shown d) d.rest (scan.used + 1) (cut_behind d) (omega (arith, size, size_shown d)) in
      let token : Placed = record { place = p; lexeme = l } in
      record {
        lexeme = l;
        is = is;
        longest = λ rest others looks lexes.
            left_next h.behind s' h.front ts h.left (h.since ++ shown d) from.0 p l h.told from.1 (since_ran piece x d c) rest others looks
            (lexes_there piece x d c _ rest others (ap (λ (i : ℕ). u ++ take i piece) whole ∙ ap (λ o. u ++ o) decide) lexes);
        ahead = d.octet ∷ [];
        left = omega (arith, whole);
        again = (d.rest, back);
        scanned = λ q. subst (λ o. Scanned q s' (u ++ o) (ts ++ token ∷ []) (d.octet ∷ [])) (sym front)
            (told_more d.before token s' (d.octet ∷ [])
            (Leaved h.behind h.front ts h.left token (h.since ++ d.before) from.0 d.octet s' h.told (append_assoc h.since d.before (d.octet ∷ []) ∙ from.1)
            (ap (λ o. run p o h.behind) (append_assoc h.since d.before (d.octet ∷ [])) ∙ since_ran piece x d c)
            (omega (arith, one, d.counted, since_used, length-append h.since d.before))) is.passes q);
      }

  -- what a step that answers `Ok` says of the octets
  pub step_goes : (piece : List ℕ) (x : Outcome) (scan : Stepped) (now : Known) → Continues piece ahead → run p piece s ≡ x → Answers s.used x (Ok scan) now
      → GoesWith p u piece ts scan now scan.token
  step_goes piece (Next s') scan now c e (uses, none, flag) =
      subst (λ t. GoesWith p u piece ts scan now t) (sym none) (subst (λ k. Scanned p k (u ++ piece) ts []) (sym uses.known) (goes_on piece s' c e))
  step_goes piece (Given l s') scan now c e (uses, gives, flag) =
      subst (λ k. GoesWith p u piece ts scan k scan.token) (sym uses.known) (by scan.token gives) where
        by : (t : Option Token) → GivesToken l t → GoesWith p u piece ts scan s' t
        by None h = absurd h
        by (Some t) h = gave piece s' l scan t flag c e (sym (ap (λ (k : Known). k.used) uses.known) ∙ uses.counted) h
  step_goes piece (Left l s') scan now c e (uses, gives, flag) =
      subst (λ k. GoesWith p u piece ts scan k scan.token) (sym uses.known) (by scan.token gives) where
        by : (t : Option Token) → GivesToken l t → GoesWith p u piece ts scan s' t
        by None h = absurd h
        by (Some t) h = left piece s' l scan t flag c e (sym (ap (λ (k : Known). k.used) uses.known) ∙ uses.counted) h
  step_goes piece (Refused n r) scan now c e a = absurd a

  -- a token that says nothing isn't the next one
  says_none : (l : Lexeme) (e : Reason) (others : List Placed) → IsBody l.kind l.octets (Err e) → AllSay others → IsNext l others → ⊥
  says_none l e [] b say next = next
  says_none l e (t ∷ others) b say next = let same = one_body l.kind l.octets (Ok say.0.0) (Err e)
      (subst (λ (m : Lexeme). IsBody m.kind m.octets (Ok say.0.0)) next say.0.1) b in cc

  -- where a step refuses, no document goes on with the octets up to its offset
  pub step_refuses : (piece : List ℕ) (x : Outcome) (r : Refusal) (now : Known) → r.reason ≢ Reason.Memory → Continues piece ahead → run p piece s ≡ x
      → Answers s.used x (Err r) now → NoDocument p (take r.offset (u ++ piece)) ts
  step_refuses piece (Next s') r now n c e a = absurd (a n)
  step_refuses piece (Given l s') r now n c e a = λ rest others looks say lexes.
      let x = Given l s' in
      let d = last_octet p piece s x tt e in
      let from = from_shown piece x d c in
      says_none l r.reason others (a n).says say
      (given_next h.behind s' h.front ts h.left (h.since ++ shown d) from.0 p l h.told from.1 (since_ran piece x d c) rest others looks
      (lexes_there piece x d c _ rest others (at_offset piece x d c r.offset ((a n).offset ∙ given_one p d.octet d.known s' l d.fed)) lexes))
  step_refuses piece (Left l s') r now n c e a = λ rest others looks say lexes.
      let x = Left l s' in
      let d = last_octet p piece s x tt e in
      let from = from_shown piece x d c in
      let one = left_one p d.octet d.known s' l d.fed in
      says_none l r.reason others (a n).says say
      (left_next h.behind s' h.front ts h.left (h.since ++ shown d) from.0 p l h.told from.1 (since_ran piece x d c) rest others looks
      (lexes_there piece x d c _ rest others (at_offset piece x d c r.offset ((a n).offset ∙ ap (λ (k : ℕ). k + 1) one)) lexes))
  step_refuses piece (Refused k reason) r now n c e a = λ rest others looks say lexes.
      let x = Refused k reason in
      let d = last_octet p piece s x tt e in
      let from = from_shown piece x d c in
      let at : r.offset ≡ k = ap (λ (q : Refusal). q.offset) (a n) in
      refusal_right h.behind h.front ts h.left (h.since ++ shown d) from.0 p k reason h.told from.1 (since_ran piece x d c) rest others looks
      (lexes_there piece x d c _ rest others (at_offset piece x d c r.offset (at ∙ refused_here p d.known d.octet k reason d.fed)) lexes)

module _ (p : Place) (s : Known) (u : List ℕ) (ts : List Placed) (h : Scanned p s u ts []) where
  -- where no octet must come next, those since the last token begin with the one it left
  pub all_since : Continues h.since h.left
  all_since = by h.next where
    by : IsAhead h.since h.left [] → Continues h.since h.left
    by (inl (none, same)) = ([], none ∙ same ∙ sym (append-nil h.left))
    by (inr (more, since, none)) = (more, since)

  -- what an end that answers `Ok` says of the octets
  pub end_goes : (x : Result (Option Lexeme) Reason) (token : Option Token) → at_end p s ≡ x → Ends s.used x (Ok token) → EndsSo p u ts token
  end_goes (Ok None) token e a =
      let c = all_since in
      subst (λ t. EndsSo p u ts t) (sym a) (subst (λ o. Lexes false 0 o ts) (sym h.cut)
      (ends_in_blank h.behind s h.front ts h.left h.since c.0 p h.told h.pass c.1 h.ran e))
  end_goes (Ok (Some l)) token e a = by token a where
    by : (t : Option Token) → GivesToken l t → EndsSo p u ts t
    by None k = absurd k
    by (Some t) k =
        let c = all_since in (
          l,
          k,
          subst (λ o. Lexes false 0 o (ts ++ record { place = p; lexeme = l } ∷ [])) (sym h.cut)
              (ends_in_token h.behind s h.front ts h.left h.since c.0 p l h.told h.pass c.1 h.ran e k.passes),
        )
  end_goes (Err r) token e a = absurd a

  at_cut : (others : List Placed) → Lexes false 0 u (ts ++ others) → Lexes false 0 (h.front ++ h.since) (ts ++ others)
  at_cut others lexes = subst (λ o. Lexes false 0 o (ts ++ others)) h.cut lexes

  -- where an end refuses, the octets are neither the tokens told nor those and one more
  pub end_refuses : (x : Result (Option Lexeme) Reason) (r : Refusal) → r.reason ≢ Reason.Memory → at_end p s ≡ x → Ends s.used x (Err r) → NoEnd p u ts
  end_refuses x r n e a [] short looks say lexes =
      let c = all_since in
      let none : at_end p s ≡ Ok None = end_blank h.behind s h.front ts h.left h.since c.0 p h.told c.1 h.ran
      (subst (λ l. Lexes false 0 (h.front ++ h.since) l) (append-nil ts) (at_cut [] lexes)) in
      by x (sym e ∙ none) a where
        by : (x : Result (Option Lexeme) Reason) → x ≡ Ok None → Ends s.used x (Err r) → ⊥
        by (Ok None) f b = b n
        by _ f b = cc
  end_refuses x r n e a (t ∷ []) short looks say lexes =
      let c = all_since in
      let some : at_end p s ≡ Ok (Some t.lexeme) = end_token h.behind s h.front ts t h.left h.since c.0 p h.told c.1 h.ran looks (at_cut (t ∷ []) lexes) in
      by x (sym e ∙ some) a where
        lexeme_in : Result (Option Lexeme) Reason → Lexeme
        lexeme_in (Ok (Some l)) = l
        lexeme_in _ = t.lexeme

        by : (x : Result (Option Lexeme) Reason) → x ≡ Ok (Some t.lexeme) → Ends s.used x (Err r) → ⊥
        by (Ok None) f b = cc
        by (Ok (Some l)) f b = let same : l ≡ t.lexeme = ap lexeme_in f in let says =
            subst (λ (m : Lexeme). IsBody m.kind m.octets (Err r.reason)) same (b n).says in
            let one = one_body t.lexeme.kind t.lexeme.octets (Ok say.0.0) (Err r.reason) say.0.1 says in cc
        by (Err q) f b = cc
  end_refuses x r n e a (t ∷ o ∷ others) short looks say lexes = absurd (omega arith)

-- the octets used begin with the tokens told
pub begins_told : (p : Place) (s : Known) (u : List ℕ) (ts : List Placed) (ahead : List ℕ) → Scanned p s u ts ahead → (rest : List ℕ) → Continues rest ahead
    → BeginsLexed false 0 (u ++ rest) ts
begins_told p s u ts ahead h rest c =
    let w = whole_piece p s u ts ahead h rest c in
    let t = told_right h.behind h.front ts h.left h.told h.pass (h.since ++ rest) w.0 w.1 in
    subst (λ o. BeginsLexed false 0 o ts) (sym (ap (λ l. l ++ rest) h.cut ∙ append_assoc h.front h.since rest))
    (begins_lexed ts false 0 (h.front ++ (h.since ++ rest)) t.0 t.1 t.2 t.3)
  where
    begins_lexed : (ts : List Placed) (colon : Bool) (before : ℕ) (octets : List ℕ) (after : Bool) (end : ℕ) (rest : List ℕ)
        → LexesTo colon before octets ts after end rest → BeginsLexed colon before octets ts
    begins_lexed [] colon before octets after end rest h = tt
    begins_lexed (t ∷ ts) colon before octets after end rest (others, b, l) = (others, b, begins_lexed ts _ t.lexeme.end others after end rest l)

-- none but the tokens told has ended whatever follows
pub all_told : (p : Place) (s : Known) (u : List ℕ) (ts : List Placed) → Scanned p s u ts [] → (t : Placed) → t.place ≡ p
    → ((rest : List ℕ) → AreOctets rest → BeginsLexed false 0 (u ++ rest) (ts ++ t ∷ [])) → ⊥
all_told p s u ts h t place lexes =
    let c = all_since p s u ts h in
    told_all h.behind s h.front ts h.left h.since c.0 p h.told h.pass c.1 h.ran t place
    (λ r are. subst (λ o. BeginsLexed false 0 o (ts ++ t ∷ [])) (ap (λ l. l ++ r) h.cut ∙ append_assoc h.front h.since r) (lexes r are))
