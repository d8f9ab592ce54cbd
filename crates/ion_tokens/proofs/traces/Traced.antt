-- The calls of a scanner answer what the trace says.
use Rattle.std.proofs.Common.{◌≡◌, ℕ, zero, suc, ◌+◌, ◌<◌, ◌≤◌, List, [], ◌∷◌, ◌++◌, length, take, drop, refl, sym, ap, ◌∙◌, subst, arith, append_assoc, append-nil, length-append}
use Rattle.std.specs.Prelude.{Option, Some, None, Result, Ok, Err}
use Rattle.std.specs.List.{flat_map}
use Rattle.std.proofs.Math.Seq.{drop-append_seam}
use Rattle.ion_tokens.specs.Names.{Answers, AnswersTrace, Content, Continues, EndsTrace, Given, GivesToken, IsToken, IsTraced, Known, Leads, Left, Lexeme, Mode, Next, Outcome, Place, Places, Reason, Refusal, Refused, RefusesToken, Stepped, Stops, Token, Told, Trail, at_end, comes, debt, deciding, end_judged, feed, follow, initial, judged, last_judged, last_of, left_by, over, over_pieces, run, said, says, takes, then_by, told_as, told_by, trace, traced}
use Rattle.ion_tokens.specs.Bodies.{content}
use Rattle.ion_tokens.specs.machine.Steps.{Ends}
use Rattle.ion_tokens.specs.machine.Table.{next}
use Rattle.ion_tokens.proofs.bounds.Fits.{table_fits}
use Rattle.ion_tokens.proofs.bounds.Pending.{Owes, acts_owes}
use Rattle.ion_tokens.proofs.histories.Stepped.{begins_front, front_is}
use Rattle.ion_tokens.proofs.runs.Cutting.{one_body}
use Rattle.ion_tokens.proofs.runs.LastOctets.{LastOctet, cut_behind, last_octet, refused_here, shown, size_shown}
use Rattle.ion_tokens.proofs.runs.Runs.{next_used}
use Rattle.ion_tokens.proofs.runs.Splits.{given_one, left_one}

-- no more than two octets may be taken up again before another is used
pub debt_small : (m : Mode) → debt m < 3
debt_small Mode.Blank = omega arith
debt_small _ = omega arith

-- an octet that is left leaves fewer to be taken up again
pub left_owes : (p : Place) (s t : Known) (o : ℕ) (l : Lexeme) → feed p s o ≡ Left l t → debt t.mode < debt s.mode
unfolding Owes
left_owes p s t o l e =
    let owes = subst (Owes (debt s.mode) s.used) e (acts_owes p s o (next p s.colon s.mode o) (table_fits p s.colon s.mode o)) in
    omega (arith, owes, left_one p o s t l e)

-- one time more changes nothing
pub settles : (n : ℕ) (places : Places) (o : ℕ) (ts : List Told) (s : Known) → debt s.mode < n → takes n places o ts s ≡ takes (suc n) places o ts s
settles zero places o ts s h = absurd (omega arith)
settles (suc n) places o ts s h = by (feed (places ts) s o) refl (λ us t less. settles n places o us t less) where
  again : (r : Result Content Reason) (l : Lexeme) (t : Known) (f g : List Told → Known → Trail) → ((us : List Told) → f us t ≡ g us t)
      → then_by (judged ts l (t.used + 1) t r) f ≡ then_by (judged ts l (t.used + 1) t r) g
  again (Ok c) l t f g same = same _
  again (Err e) l t f g same = refl

  by : (x : Outcome) → feed (places ts) s o ≡ x → ((us : List Told) (t : Known) → debt t.mode < n → takes n places o us t ≡ takes (suc n) places o us t)
      → comes (takes n places o) ts x ≡ comes (takes (suc n) places o) ts x
  by (Left l t) e more = let less = left_owes (places ts) s t o l e in again (said l.kind l.octets) l t _ _ (λ us. more us t (omega (arith, less, h)))
  by _ e more = refl

abbrev state_in : Outcome → Known → Known
state_in (Next s) t = s
state_in _ t = t

-- octets that are all used lead on from what the scanner knows behind them
pub over_next : (places : Places) (ts : List Told) (p : Place) (octets rest : List ℕ) (s t : Known) → places ts ≡ p → run p octets s ≡ Next t
    → over places (octets ++ rest) ts s ≡ over places rest ts t
over_next places ts p [] rest s t place e = ap (λ x. over places rest ts (state_in x s)) e
over_next places ts p (o ∷ os) rest s t place e = by (feed p s o) refl e (λ s'. over_next places ts p os rest s' t place) where
  by : (x : Outcome) → feed p s o ≡ x → follow x (λ s'. run p os s') ≡ Next t
      → ((s' : Known) → run p os s' ≡ Next t → over places (os ++ rest) ts s' ≡ over places rest ts t) → over places (o ∷ os ++ rest) ts s
      ≡ over places rest ts t
  by (Next s') f g more =
      ap (λ q. then_by (comes (takes 2 places o) ts (feed q s o)) (over places (os ++ rest))) place
      ∙ ap (λ x. then_by (comes (takes 2 places o) ts x) (over places (os ++ rest))) f
      ∙ more s' g
  by _ f g more = cc

-- and up to a token or a refusal
pub over_end : (places : Places) (ts : List Told) (p : Place) (piece rest : List ℕ) (s : Known) (x : Outcome) → places ts ≡ p → (d : LastOctet p piece s x)
    → over places (d.before ++ d.octet ∷ rest) ts s ≡ then_by (comes (takes 2 places d.octet) ts x) (over places rest)
over_end places ts p piece rest s x place d =
    over_next places ts p d.before (d.octet ∷ rest) s d.known place d.ran
    ∙ ap (λ q. then_by (comes (takes 2 places d.octet) ts (feed q d.known d.octet)) (over places rest)) place
    ∙ ap (λ y. then_by (comes (takes 2 places d.octet) ts y) (over places rest)) d.fed

-- up to a token that is given and told
pub over_given : (places : Places) (ts us : List Told) (p : Place) (piece rest : List ℕ) (s t : Known) (l : Lexeme) → places ts ≡ p
    → (d : LastOctet p piece s (Given l t)) → judged ts l t.used t (said l.kind l.octets) ≡ Leads us t
    → over places (d.before ++ d.octet ∷ rest) ts s ≡ over places rest us t
over_given places ts us p piece rest s t l place d is =
    over_end places ts p piece rest s (Given l t) place d ∙ ap (λ y. then_by y (over places rest)) is

-- and to one before an octet that is left
pub over_left : (places : Places) (ts us : List Told) (p : Place) (piece rest : List ℕ) (s t : Known) (l : Lexeme) → places ts ≡ p
    → (d : LastOctet p piece s (Left l t)) → judged ts l (t.used + 1) t (said l.kind l.octets) ≡ Leads us t
    → over places (d.before ++ d.octet ∷ rest) ts s ≡ over places (d.octet ∷ rest) us t
over_left places ts us p piece rest s t l place d is =
    let owes = left_owes p d.known t d.octet l d.fed in
    let small = debt_small d.known.mode in
    over_end places ts p piece rest s (Left l t) place d
    ∙ ap (λ y. then_by (then_by y (takes 2 places d.octet)) (over places rest)) is
    ∙ ap (λ y. then_by y (over places rest)) (settles 2 places d.octet us t (omega (arith, owes, small)))

-- what a token in memory says
said_so : (l : Lexeme) (t : Token) → IsToken l t → said l.kind l.octets ≡ Ok (content t.body)
said_so l t h = one_body l.kind l.octets (said l.kind l.octets) (Ok (content t.body)) (says l.kind l.octets) h.says

refused_so : (l : Lexeme) (at : ℕ) (r : Refusal) → RefusesToken l at r → said l.kind l.octets ≡ Err r.reason
refused_so l at r h = one_body l.kind l.octets (said l.kind l.octets) (Err r.reason) (says l.kind l.octets) h.says

told_is : (l : Lexeme) (t : Token) (total : ℕ) → IsToken l t → record { start = l.start; end = l.end; says = content t.body; total = total } ≡ told_as t total
told_is l t total h = λ i. record { start = sym h.start i; end = sym h.end i; says = content t.body; total = total }

judged_so : (ts : List Told) (l : Lexeme) (decided : ℕ) (s : Known) (t : Token) → IsToken l t → judged ts l decided s (said l.kind l.octets)
    ≡ Leads (ts ++ told_as t s.used ∷ []) s
judged_so ts l decided s t h = ap (λ r. judged ts l decided s r) (said_so l t h) ∙ ap (λ (x : Told). Leads (ts ++ x ∷ []) s) (told_is l t s.used h)

stopped_so : (ts : List Told) (l : Lexeme) (decided : ℕ) (s : Known) (r : Refusal) → RefusesToken l decided r → judged ts l decided s (said l.kind l.octets)
    ≡ Stops ts r
stopped_so ts l decided s r h = ap (λ x. judged ts l decided s x) (refused_so l decided r h)
    ∙ (λ i. Stops ts (record { offset = sym h.offset i; reason = r.reason }))

continues_more : (w rest ahead : List ℕ) → Continues w ahead → Continues (w ++ rest) ahead
continues_more w rest ahead (more, e) = (more ++ rest, ap (λ l. l ++ rest) e ∙ append_assoc ahead more rest)

module _ (p : Place) (s : Known) (piece : List ℕ) where
  -- behind these octets of a piece
  stands_on : (places : Places) (u : List ℕ) (ts us : List Told) (ahead left w : List ℕ) (now : Known) → IsTraced places s u ts ahead → length left ≤ 1
      → now.used ≡ s.used + length w
      → ((rest : List ℕ) → Continues rest left → Continues (w ++ rest) ahead)
      → ((rest : List ℕ) → Continues rest left → over places (w ++ rest) ts s ≡ over places rest us now)
      → IsTraced places now (u ++ w) us left
  stands_on places u ts us ahead left w now h one n goes f = record {
    used = let size = h.used in omega (arith, n, size, length-append u w);
    one = one;
    leads = λ rest c. ap (λ l. over places l [] initial) (append_assoc u w rest) ∙ h.leads (w ++ rest) (goes rest c) ∙ f rest c;
  }

  module _ (x : Outcome) (d : LastOctet p piece s x) where
    -- the octets shown begin with those ahead
    begins : (ahead : List ℕ) → length ahead ≤ 1 → Continues piece ahead → Continues (shown d) ahead
    begins ahead one (more, c) = begins_front ahead (shown d) d.rest more one (omega (arith, size_shown d)) (sym (cut_behind d) ∙ c)

    over_shown : (places : Places) (ts : List Told) (rest : List ℕ) → places ts ≡ p → over places (shown d ++ rest) ts s
        ≡ then_by (comes (takes 2 places d.octet) ts x) (over places rest)
    over_shown places ts rest place = ap (λ l. over places l ts s) (append_assoc d.before (d.octet ∷ []) rest) ∙ over_end places ts p piece rest s x place d

    -- a refusal at the last octet shown
    refuses : (places : Places) (u : List ℕ) (ts : List Told) (ahead : List ℕ) (r : Refusal) → IsTraced places s u ts ahead → Continues piece ahead
        → places ts ≡ p → r.offset ≡ d.known.used + 1
        → comes (takes 2 places d.octet) ts x ≡ Stops ts r → (rest : List ℕ) → trace places (take r.offset (u ++ piece) ++ rest)
        ≡ record { told = ts; refused = Some r; ends = Err r }
    refuses places u ts ahead r h c place at stops rest =
        let used = h.used in
        let size : r.offset ≡ length (u ++ shown d) = omega (arith, at, used, d.counted, size_shown d, length-append u (shown d)) in
        let front : take r.offset (u ++ piece) ≡ u ++ shown d = front_is (u ++ piece) (u ++ shown d) d.rest r.offset
        (ap (λ l. u ++ l) (cut_behind d) ∙ sym (append_assoc u (shown d) d.rest)) size in
        ap (λ t. traced places t)
        (ap (λ l. over places (l ++ rest) [] initial) front ∙ ap (λ l. over places l [] initial) (append_assoc u (shown d) rest)
        ∙ h.leads (shown d ++ rest) (continues_more (shown d) rest ahead (begins ahead h.one c)) ∙ over_shown places ts rest place
        ∙ ap (λ t. then_by t (over places rest)) stops)

  -- the same by other names
  same_stand : (places : Places) (u w left : List ℕ) (told us : List Told) (scan : Stepped) (now t : Known) → take scan.used piece ≡ w
      → left_by scan piece ≡ left → told ≡ us → now ≡ t
      → IsTraced places t (u ++ w) us left → IsTraced places now (u ++ take scan.used piece) told (left_by scan piece)
  same_stand places u w left told us scan now t a b c d h =
      subst (λ x. IsTraced places x (u ++ take scan.used piece) told (left_by scan piece)) (sym d)
      (subst (λ x. IsTraced places t (u ++ x) told (left_by scan piece)) (sym a)
      (subst (λ x. IsTraced places t (u ++ w) x (left_by scan piece)) (sym c)
      (subst (λ x. IsTraced places t (u ++ w) us x) (sym b) h)))

  -- behind a piece that is used and gives no token
  pub next_stands : (places : Places) (u : List ℕ) (ts : List Told) (ahead : List ℕ) (t : Known) → run p piece s ≡ Next t → IsTraced places s u ts ahead
      → Continues piece ahead → places ts ≡ p → IsTraced places t (u ++ piece) ts []
  next_stands places u ts ahead t e h c place =
      stands_on places u ts ts ahead [] piece t h (omega arith) (next_used p piece s t (sym e)) (λ rest k. continues_more piece rest ahead c)
      (λ rest k. over_next places ts p piece rest s t place e)

  -- behind a token that was given, whatever octet decides it
  pub given_stands : (places : Places) (u : List ℕ) (ts : List Told) (ahead : List ℕ) (l : Lexeme) (t : Known) (x : Told) (d : LastOctet p piece s (Given l t))
      → ((decided : ℕ) → judged ts l decided t (said l.kind l.octets) ≡ Leads (ts ++ x ∷ []) t) → IsTraced places s u ts ahead
      → Continues piece ahead → places ts ≡ p → t.used ≡ d.known.used + 1 → IsTraced places t (u ++ shown d) (ts ++ x ∷ []) []
  given_stands places u ts ahead l t x d is h c place one =
      let y = Given l t in
      stands_on places u ts (ts ++ x ∷ []) ahead [] (shown d) t h (omega arith) (omega (arith, one, d.counted, size_shown d))
      (λ rest k. continues_more (shown d) rest ahead (begins y d ahead h.one c))
      (λ rest k. over_shown y d places ts rest place ∙ ap (λ z. then_by z (over places rest)) (is t.used))

  -- and of one before which an octet is left
  pub left_stands : (places : Places) (u : List ℕ) (ts : List Told) (ahead : List ℕ) (l : Lexeme) (t : Known) (x : Told) (d : LastOctet p piece s (Left l t))
      → ((decided : ℕ) → judged ts l decided t (said l.kind l.octets) ≡ Leads (ts ++ x ∷ []) t) → IsTraced places s u ts ahead
      → Continues piece ahead → places ts ≡ p → t.used ≡ d.known.used → IsTraced places t (u ++ d.before) (ts ++ x ∷ []) (d.octet ∷ [])
  left_stands places u ts ahead l t x d is h c place one =
      stands_on places u ts us ahead (d.octet ∷ []) d.before t h (omega arith) (omega (arith, one, d.counted))
      (λ rest (more, r).
      subst (λ r. Continues (d.before ++ r) ahead) (sym r) (subst (λ w. Continues w ahead) (append_assoc d.before (d.octet ∷ []) more)
      (continues_more (shown d) more ahead (begins (Left l t) d ahead h.one c))))
      (λ rest (more, r). subst (λ r. over places (d.before ++ r) ts s ≡ over places r us t) (sym r) (leads more))
    where
      us : List Told
      us = ts ++ x ∷ []

      leads : (more : List ℕ) → over places (d.before ++ d.octet ∷ more) ts s ≡ over places (d.octet ∷ more) us t
      leads more = over_left places ts us p piece more s t l place d (is (t.used + 1))

  -- A step that answers `Ok` goes on in the trace.
  pub step_traced : (x : Outcome) (scan : Stepped) (now : Known) → run p piece s ≡ x → Answers s.used x (Ok scan) now → AnswersTrace p s piece (Ok scan) now
  step_traced (Next t) scan now e (uses, none, flag) = λ places u ts ahead h c place.
      let used = next_used p piece s t (sym e) in
      let same : now.used ≡ t.used = ap (λ (k : Known). k.used) uses.known in
      let counted = uses.counted in
      let all : take scan.used piece ≡ piece = front_is piece piece [] scan.used (sym (append-nil piece)) (omega (arith, used, same, counted)) in
      same_stand places u piece [] (ts ++ told_by scan.token now.used) ts scan now t all
      (ap (λ b. take (deciding 0 b) (drop scan.used piece)) flag) (ap (λ o. ts ++ told_by o now.used) none ∙ append-nil ts) uses.known
      (next_stands places u ts ahead t e h c place)
  step_traced (Given l t) scan now e (uses, gives, flag) = by scan.token refl gives where
    by : (o : Option Token) → scan.token ≡ o → GivesToken l o → AnswersTrace p s piece (Ok scan) now
    by None f g = absurd g
    by (Some tok) f g = λ places u ts ahead h c place.
        let d = last_octet p piece s (Given l t) tt e in
        let one = given_one p d.octet d.known t l d.fed in
        let same : now.used ≡ t.used = ap (λ (k : Known). k.used) uses.known in
        let counted = uses.counted in
        let size : scan.used ≡ length (shown d) = omega (arith, one, d.counted, size_shown d, same, counted) in
        same_stand places u (shown d) [] (ts ++ told_by scan.token now.used) (ts ++ told_as tok t.used ∷ []) scan now t
        (front_is piece (shown d) d.rest scan.used (cut_behind d) size) (ap (λ b. take (deciding 0 b) (drop scan.used piece)) flag)
        (λ i. ts ++ told_by (f i) (same i)) uses.known (given_stands places u ts ahead l t (told_as tok t.used) d (λ decided. judged_so ts l decided t tok g) h c place one)
  step_traced (Left l t) scan now e (uses, gives, flag) = by scan.token refl gives where
    by : (o : Option Token) → scan.token ≡ o → GivesToken l o → AnswersTrace p s piece (Ok scan) now
    by None f g = absurd g
    by (Some tok) f g = λ places u ts ahead h c place.
        let d = last_octet p piece s (Left l t) tt e in
        let one = left_one p d.octet d.known t l d.fed in
        let same : now.used ≡ t.used = ap (λ (k : Known). k.used) uses.known in
        let counted = uses.counted in
        let size : scan.used ≡ length d.before = omega (arith, one, d.counted, same, counted) in
        let back : drop scan.used piece ≡ d.octet ∷ d.rest = ap (λ l. drop scan.used l) d.cut ∙ ap (λ (n : ℕ). drop n (d.before ++ d.octet ∷ d.rest)) size
        ∙ drop-append_seam d.before (d.octet ∷ d.rest) in
        same_stand places u d.before (d.octet ∷ []) (ts ++ told_by scan.token now.used) (ts ++ told_as tok t.used ∷ []) scan now t
        (front_is piece d.before (d.octet ∷ d.rest) scan.used d.cut size) (ap (λ b. take (deciding 0 b) (drop scan.used piece)) flag ∙ ap (λ l. take 1 l) back)
        (λ i. ts ++ told_by (f i) (same i)) uses.known (left_stands places u ts ahead l t (told_as tok t.used) d (λ decided. judged_so ts l decided t tok g) h c place one)
  step_traced (Refused k q) scan now e a = absurd a

  -- A step that refuses does so as the trace does.
  pub step_stops : (x : Outcome) (r : Refusal) (now : Known) → run p piece s ≡ x → Answers s.used x (Err r) now → AnswersTrace p s piece (Err r) now
  step_stops (Next t) r now e a = λ n. absurd (a n)
  step_stops (Given l t) r now e a = λ n places u ts ahead h c place.
      let d = last_octet p piece s (Given l t) tt e in
      let one = given_one p d.octet d.known t l d.fed in
      refuses (Given l t) d places u ts ahead r h c place ((a n).offset ∙ one) (stopped_so ts l t.used t r (a n))
  step_stops (Left l t) r now e a = λ n places u ts ahead h c place.
      let d = last_octet p piece s (Left l t) tt e in
      let one = left_one p d.octet d.known t l d.fed in
      refuses (Left l t) d places u ts ahead r h c place ((a n).offset ∙ ap (λ (k : ℕ). k + 1) one)
      (ap (λ y. then_by y (takes 2 places d.octet)) (stopped_so ts l (t.used + 1) t r (a n)))
  step_stops (Refused k q) r now e a = λ n places u ts ahead h c place.
      let d = last_octet p piece s (Refused k q) tt e in
      let one = refused_here p d.known d.octet k q d.fed in
      refuses (Refused k q) d places u ts ahead r h c place (ap (λ (z : Refusal). z.offset) (a n) ∙ one) (ap (λ (z : Refusal). Stops ts z) (sym (a n)))

-- behind all octets
stands_at : (places : Places) (s : Known) (u : List ℕ) (ts : List Told) → IsTraced places s u ts [] → over places u [] initial ≡ Leads ts s
stands_at places s u ts h = ap (λ l. over places l [] initial) (sym (append-nil u)) ∙ h.leads [] ([], refl)

module _ (p : Place) (s : Known) where
  ends : (places : Places) (u : List ℕ) (ts : List Told) → IsTraced places s u ts [] → places ts ≡ p → (x : Result (Option Lexeme) Reason) → at_end p s ≡ x
      → trace places u ≡ record { told = ts; refused = None; ends = end_judged s.used x }
  ends places u ts h place x e = ap (λ t. traced places t) (stands_at places s u ts h)
      ∙ (λ i. record { told = ts; refused = None; ends = end_judged s.used ((ap (λ q. at_end q s) place ∙ e) i) })

  -- The end answers what the trace says.
  pub end_traced : (x : Result (Option Lexeme) Reason) (r : Result (Option Token) Refusal) → at_end p s ≡ x → Ends s.used x r → EndsTrace p s r
  end_traced (Ok None) (Ok token) e a = λ places u ts h place. ends places u ts h place (Ok None) e
      ∙ (λ i. record { told = ts; refused = None; ends = Ok (last_of (sym a i) s.used) })
  end_traced (Ok (Some l)) (Ok (Some t)) e a = λ places u ts h place. ends places u ts h place (Ok (Some l)) e
      ∙ (λ i. record { told = ts; refused = None; ends = last_judged l s.used (said_so l t a i) })
      ∙ (λ i. record { told = ts; refused = None; ends = Ok (Some (told_is l t s.used a i)) })
  end_traced (Ok None) (Err r) e a = λ n. absurd (a n)
  end_traced (Ok (Some l)) (Err r) e a = λ n places u ts h place. ends places u ts h place (Ok (Some l)) e
      ∙ (λ i. record { told = ts; refused = None; ends = last_judged l s.used (refused_so l s.used r (a n) i) })
      ∙ (λ i. record { told = ts; refused = None; ends = Err (record { offset = sym (a n).offset i; reason = r.reason }) })
  end_traced (Err reason) (Err r) e a = λ n places u ts h place. ends places u ts h place (Err reason) e
      ∙ (λ i. record { told = ts; refused = None; ends = Err (sym (a n) i) })
  end_traced _ _ e a = absurd a

-- before any octet
pub begins_traced : (places : Places) (s : Known) → s ≡ initial → IsTraced places s [] [] []
begins_traced places s e = record { used = ap (λ (k : Known). k.used) e; one = omega arith; leads = λ rest c. ap (λ k. over places rest [] k) (sym e) }

-- pieces
then_then : (t : Trail) (f g : List Told → Known → Trail) → then_by (then_by t f) g ≡ then_by t (λ ts s. then_by (f ts s) g)
then_then (Leads ts s) f g = refl
then_then (Stops ts r) f g = refl

then_same : (t : Trail) (f g : List Told → Known → Trail) → ((ts : List Told) (s : Known) → f ts s ≡ g ts s) → then_by t f ≡ then_by t g
then_same (Leads ts s) f g h = h ts s
then_same (Stops ts r) f g h = refl

over_append : (places : Places) (xs ys : List ℕ) (ts : List Told) (s : Known) → over places (xs ++ ys) ts s ≡ then_by (over places xs ts s) (over places ys)
over_append places [] ys ts s = refl
over_append places (x ∷ xs) ys ts s = then_same (takes 3 places x ts s) _ _ (λ us t. over_append places xs ys us t)
    ∙ sym (then_then (takes 3 places x ts s) _ _)

-- Pieces lead where the whole leads.
pub pieces_lead : (places : Places) (pieces : List (List ℕ)) (ts : List Told) (s : Known) → over_pieces places pieces ts s
    ≡ over places (flat_map (λ piece. piece) pieces) ts s
pieces_lead places [] ts s = refl
pieces_lead places (piece ∷ pieces) ts s =
    then_same (over places piece ts s) _ _ (λ us t. pieces_lead places pieces us t) ∙ sym (over_append places piece (flat_map (λ piece. piece) pieces) ts s)

-- two scanners that used the same octets told the same tokens and know the same
abbrev told_on : Trail → List Told
told_on (Leads ts s) = ts
told_on (Stops ts r) = ts

abbrev known_on : Trail → Known → Known
known_on (Leads ts s) t = s
known_on (Stops ts r) t = t

-- two scanners that used the same octets told the same tokens and know the same
pub traced_alike : (places : Places) (a b : Known) (u : List ℕ) (ts us : List Told) → IsTraced places a u ts [] → IsTraced places b u us [] → (ts ≡ us)
    × (a ≡ b)
traced_alike places a b u ts us h k =
    let same : Leads ts a ≡ Leads us b = sym (stands_at places a u ts h) ∙ stands_at places b u us k in
    (ap told_on same, ap (λ t. known_on t a) same)
