-- What is promised of a scanner that rests, and its trace, go on where octets lead it: behind a blank, and behind a token that was found
-- whole.
use Rattle.std.proofs.Common.{◌≡◌, ℕ, zero, suc, ◌+◌, ◌-◌, ◌≤◌, ◌<◌, Bool, true, false, List, [], ◌∷◌, ◌++◌, length, take, drop, slice_index, inl, inr, refl, sym, ap, ◌∙◌, subst, arith, append_assoc, append-nil}
use Rattle.std.specs.Prelude.{Ok}
use Rattle.std.proofs.lemmas.List.{length-take-le, take-append-drop, take_more}
use Rattle.ion_tokens.specs.Names.{Content, Continues, IsAhead, IsFound, IsPassed, IsTraced, Known, Leads, Lexeme, Next, Outcome, Passes, Place, Placed, Places, Rest, Scanned, TokenKind, Told, before_end, ended, feed, judged, left_after, lexeme_at, past_blank, past_token, resting, run, said, told_there}
use Rattle.ion_tokens.proofs.histories.Stepped.{at_most_one, begins_front, goes_on}
use Rattle.ion_tokens.proofs.runs.LastOctets.{LastOctet}
use Rattle.ion_tokens.proofs.runs.Runs.{next_used}
use Rattle.ion_tokens.proofs.runs.Scans.{placed, scanned_given, scanned_left}
use Rattle.ion_tokens.proofs.runs.Splits.{given_one, left_one}
use Rattle.ion_tokens.proofs.traces.Traced.{given_stands, left_stands}

-- behind a blank that lies whole in memory, a scanner that rests rests with the same tokens told
pub blank_moves : (p : Place) (r : Rest) (u octets : List ℕ) (ts : List Placed) (ahead : List ℕ) (n : ℕ) → Scanned p (resting r) u ts ahead
    → Continues (take n octets) ahead → IsPassed octets n
    → Scanned p (resting (past_blank r n)) (u ++ take n octets) ts []
blank_moves p r u octets ts ahead n h c passed = goes_on p (resting r) u ts ahead h (take n octets) (resting (past_blank r n)) c (passed p r)

abbrev known_in : Outcome → Known → Known
known_in (Next s) t = s
known_in _ t = t

few_ahead : (p : Place) (s : Known) (u : List ℕ) (ts : List Placed) (ahead : List ℕ) → Scanned p s u ts ahead → length ahead ≤ 1
few_ahead p s u ts ahead h = by h.next where
  by : IsAhead h.since h.left ahead → length ahead ≤ 1
  by (inl (none, same)) = let few = at_most_one h.behind h.front ts h.left h.told in omega (arith, few, ap length same)
  by (inr (front, since, none)) = omega (arith, ap length none)

module _ (p : Place) (r : Rest) (u octets : List ℕ) (ts : List Placed) (kind : TokenKind) (kept : List ℕ) (n : ℕ) (pass : Passes kind kept) (q : Place) where
  abbrev after : Bool → Type 0
  after left = Scanned q (resting (past_token p r kind n)) (u ++ take n octets) (ts ++ placed p (lexeme_at r kind kept n) ∷ []) (left_after left n octets)

  -- before the octet that shows the end, this one must come next, or none
  last : (ahead : List ℕ) (left : Bool) (known : Known) → Scanned p known (u ++ take (before_end left n) octets) ts ahead
      → Continues (slice_index octets (before_end left n) ∷ []) ahead → 0 < n → before_end left n < length octets
      → feed p known (slice_index octets (before_end left n)) ≡ ended left (lexeme_at r kind kept n) (resting (past_token p r kind n)) → after left
  last ahead true known h c some shown e = scanned_left p known (u ++ take n octets) ts ahead h (slice_index octets n) c (resting (past_token p r kind n))
      (lexeme_at r kind kept n) e pass q
  last ahead false known h c some shown e =
      let one : take n octets ≡ take (n - 1) octets ++ slice_index octets (n - 1) ∷ [] =
      ap (λ (k : ℕ). take k octets) (let k : n ≡ (n - 1) + 1 = omega arith in k) ∙ take_more octets (n - 1) 0 shown in
      subst (λ l. Scanned q (resting (past_token p r kind n)) l (ts ++ placed p (lexeme_at r kind kept n) ∷ []) [])
      (append_assoc u (take (n - 1) octets) (slice_index octets (n - 1) ∷ []) ∙ ap (λ l. u ++ l) (sym one))
      (scanned_given p known (u ++ take (n - 1) octets) ts ahead h (slice_index octets (n - 1)) c (resting (past_token p r kind n)) (lexeme_at r kind kept n) e
      pass q)

  -- behind a token that lies whole in memory, a scanner that rests rests with that one told as well
  pub token_moves : (ahead : List ℕ) (left : Bool) → Scanned p (resting r) u ts ahead → Continues octets ahead → IsFound p r octets kind kept n left
      → after left
  token_moves ahead left h (more, c) f = by (before_end left n) refl f.ran f.shown where
    front : (m : ℕ) → m < length octets → Continues (take (m + 1) octets) ahead
    front m shown =
        begins_front ahead (take (m + 1) octets) (drop (m + 1) octets) more (few_ahead p (resting r) u ts ahead h)
        (let k = length-take-le (m + 1) octets (omega arith) in omega (arith, k)) (take-append-drop (m + 1) octets ∙ c)

    by : (m : ℕ) → before_end left n ≡ m → run p (take m octets) (resting r) ≡ Next f.known → m < length octets → after left
    by zero e ran shown =
        let same : resting r ≡ f.known = ap (λ x. known_in x (resting r)) ran in
        let here : u ≡ u ++ take (before_end left n) octets = sym (append-nil u) ∙ ap (λ (k : ℕ). u ++ take k octets) (sym e) in
        let next : Continues (slice_index octets (before_end left n) ∷ []) ahead =
        subst (λ (k : ℕ). Continues (slice_index octets k ∷ []) ahead) (sym e)
        (subst (λ w. Continues w ahead) (take_more octets zero 0 shown) (front zero shown)) in
        last ahead left f.known (subst (λ w. Scanned p f.known w ts ahead) here (subst (λ k. Scanned p k u ts ahead) same h)) next f.some f.shown f.ends
    by (suc m) e ran shown =
        let goes : Continues (take (before_end left n) octets) ahead =
        subst (λ (k : ℕ). Continues (take k octets) ahead) (let k : m + 1 ≡ before_end left n = omega (arith, e) in k) (front m (omega arith)) in
        last [] left f.known (goes_on p (resting r) u ts ahead h (take (before_end left n) octets) f.known goes f.ran)
        (slice_index octets (before_end left n) ∷ [], refl) f.some f.shown f.ends

-- so does the trace
module _ (places : Places) (r : Rest) (u octets : List ℕ) (told : List Told) (kind : TokenKind) (kept : List ℕ) (n : ℕ) (c : Content)
    (says : said kind kept ≡ Ok c) where
  abbrev p : Place
  p = places told

  abbrev l : Lexeme
  l = lexeme_at r kind kept n

  abbrev t : Known
  t = resting (past_token p r kind n)

  judged_so : (decided : ℕ) → judged told l decided t (said kind kept) ≡ Leads (told ++ told_there r n c ∷ []) t
  judged_so decided = ap (λ x. judged told l decided t x) says

  -- the octet that shows the end
  shown_by : (left : Bool) → IsFound p r octets kind kept n left → LastOctet p octets (resting r) (ended left l t)
  shown_by left f =
      let m = before_end left n in
      record {
        before = take m octets;
        octet = slice_index octets m;
        rest = drop (m + 1) octets;
        known = f.known;
        cut = sym (take-append-drop (m + 1) octets) ∙ ap (λ w. w ++ drop (m + 1) octets) (take_more octets m 0 f.shown)
            ∙ append_assoc (take m octets) (slice_index octets m ∷ []) (drop (m + 1) octets);
        ran = f.ran;
        fed = f.ends;
        counted = next_used p (take m octets) (resting r) f.known (sym f.ran);
      }

  pub trace_moves : (ahead : List ℕ) (left : Bool) → IsTraced places (resting r) u told ahead → Continues octets ahead → IsFound p r octets kind kept n left
      → IsTraced places t (u ++ take n octets) (told ++ told_there r n c ∷ []) (left_after left n octets)
  unfolding shown_by
  trace_moves ahead true h goes f =
      left_stands p (resting r) octets places u told ahead l t (told_there r n c) (shown_by true f) judged_so h goes refl
      (left_one p (slice_index octets n) f.known t l f.ends)
  trace_moves ahead false h goes f =
      let one : take n octets ≡ take (n - 1) octets ++ slice_index octets (n - 1) ∷ [] =
      ap (λ (k : ℕ). take k octets) (let some = f.some in let k : n ≡ (n - 1) + 1 = omega arith in k) ∙ take_more octets (n - 1) 0 f.shown in
      subst (λ w. IsTraced places t (u ++ w) (told ++ told_there r n c ∷ []) []) (sym one)
      (given_stands p (resting r) octets places u told ahead l t (told_there r n c) (shown_by false f) judged_so h goes refl
      (given_one p (slice_index octets (n - 1)) f.known t l f.ends))
