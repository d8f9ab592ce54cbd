-- Texts of which the front was let go: where more octets lead, that what was let go fits what is kept, and how long a token is then.
use Rattle.std.proofs.Common.{◌≡◌, ◌≢◌, ℕ, ◌+◌, ◌-◌, ◌^◌, ◌<◌, ◌≤◌, Bool, true, false, refl, sym, ap, ◌∙◌, subst, List, [], ◌∷◌, ◌++◌, length, take, drop, length-drop, arith, cond}
use Rattle.std.specs.Prelude.{◌==◌, ◌&&◌, ◌||◌, not, nat_le, Err, IsUtf8}
use Rattle.std.specs.Str.{is_utf8}
use Rattle.std.proofs.lemmas.Bool.{and_parts, cond_both}
use Rattle.std.proofs.lemmas.Bool.Decides.{nat_tests}
use Rattle.std.proofs.lemmas.List.{length-append, length-take}
use Rattle.std.proofs.lemmas.Str.{IsUtf8-from_is_utf8, IsUtf8-nil}
use Rattle.ion_tokens.specs.Names.{Action, End, Given, IsSteady, Keep, Known, Left, Lob, Mode, Next, Outcome, Place, Reason, Refused, StaysSteady, Within, acts, at_end, blob_of, ends_at, feed, follow, gone_on, is_base64, is_white, keeps_them, kept_after, run}
use Rattle.ion_tokens.specs.laws.ByRows.{by_rows_where}
use Rattle.ion_tokens.specs.machine.LetGo.{Front, IsBehind, behind_gone, front_in, goes_on_behind, in_base64, in_string, is_string_kind, is_text_kind, may_let_go, outcome_behind, quotes_kept}
use Rattle.ion_tokens.specs.machine.Table.{end_of, next}
use Rattle.ion_tokens.proofs.bounds.Steady.{feed_steady}
use Rattle.ion_tokens.proofs.runs.LetGo.{acts_last, at_most, is_alike, next_alike, run_alike}
use Rattle.ion_tokens.proofs.runs.Runs.{blob_both, feed_used}

-- A text goes on behind what was let go, in base64 only where it began there, and in a string only where it did.
pub record IsOpen (of_string of_blob : Bool) (s : Known) : Type 0 where
  pub base64 : in_base64 s.mode ≡ true → (of_blob ≡ true) × (0 < length s.kept)
  pub text : in_base64 s.mode ≡ false → goes_on_behind s.mode s.kept ≡ true
  pub string : in_string s.mode ≡ true → of_string ≡ true

-- so where more octets lead
abbrev pub LeadsTo : Bool → Bool → Outcome → Type 0
LeadsTo string base64 (Next s) = IsOpen string base64 s
LeadsTo string base64 (Given l s) = (is_text_kind l.kind ≡ true) × (is_string_kind l.kind ≡ true → string ≡ true)
LeadsTo string base64 (Left l s) = ⊥
LeadsTo string base64 (Refused at reason) = Unit {0}

-- no octet is added
abbrev adds_none : Keep → Bool
adds_none Keep.Nothing = true
adds_none Keep.DropQuotes = true
adds_none _ = false

-- no action in another text leads to a string, or gives one, and none adds to what is kept of a token that ends
abbrev leads : Mode → Action → Bool
leads m (Action.Go n k) = in_string m || not (in_string n)
leads m (Action.Give kind k) = is_text_kind kind && (in_string m || not (is_string_kind kind)) && adds_none k
leads m (Action.Refuse e) = true
leads m _ = false

next_leads : (p : Place) (colon : Bool) (m : Mode) (o : ℕ) → may_let_go m ≡ true → leads m (next p colon m o) ≡ true
next_leads = by_rows_where may_let_go (λ sexp m. leads m) (λ c t. refl)

not_both : (m : Mode) → may_let_go m ≡ true → in_base64 m ≡ false
not_both (Mode.Lob Lob.Base64) h = cc
not_both _ h = refl

or_else_not : (a b : Bool) → (a || not b) ≡ true → b ≡ true → a ≡ true
or_else_not true b h e = refl
or_else_not false true h e = cc
or_else_not false false h e = cc

may_of : (s : Known) → goes_on_behind s.mode s.kept ≡ true → may_let_go s.mode ≡ true
may_of s h = (and_parts (may_let_go s.mode) (nat_le (quotes_kept s.mode) (length s.kept)) h).0

acts_leads : (p : Place) (s : Known) (o n : ℕ) (a : Action) (string base64 : Bool) → n ≤ length s.kept → is_alike n a ≡ true → leads s.mode a ≡ true
    → (in_string s.mode ≡ true → string ≡ true) → LeadsTo string base64 (acts p s o a)
acts_leads p s o n (Action.Go m k) string base64 many h l e =
    let last : goes_on_behind m (kept_after k s.kept) ≡ true = acts_last p s o n (Action.Go m k) many h in
    let may = (and_parts (may_let_go m) (nat_le (quotes_kept m) (length (kept_after k s.kept))) last).0 in
    record {
      base64 = λ yes. absurd (let n : true ≡ false = sym yes ∙ not_both m may in cc);
      text = λ _. last;
      string = λ yes. e (or_else_not (in_string s.mode) (in_string m) l yes);
    }
acts_leads p s o n (Action.Give kind k) string base64 many h l e =
    let both = and_parts (is_text_kind kind && (in_string s.mode || not (is_string_kind kind))) (adds_none k) l in
    let kinds = and_parts (is_text_kind kind) (in_string s.mode || not (is_string_kind kind)) both.0 in
    (kinds.0, λ yes. e (or_else_not (in_string s.mode) (is_string_kind kind) kinds.1 yes))
acts_leads p s o n (Action.Refuse e) string base64 many h l f = tt
acts_leads p s o n _ string base64 many h l e = absurd cc

text_leads : (p : Place) (s : Known) (o : ℕ) (string base64 : Bool) → goes_on_behind s.mode s.kept ≡ true → (in_string s.mode ≡ true → string ≡ true)
    → LeadsTo string base64 (feed p s o)
text_leads p s o string base64 h e =
    let both = and_parts (may_let_go s.mode) (nat_le (quotes_kept s.mode) (length s.kept)) h in
    let many = at_most (quotes_kept s.mode) (length s.kept) both.1 in
    acts_leads p s o (quotes_kept s.mode) (next p s.colon s.mode o) string base64 many (next_alike p s.colon s.mode o both.0)
    (next_leads p s.colon s.mode o both.0) e

both_hold : (may : Bool) (a b : ℕ) → may ≡ true → a ≤ b → (may && nat_le a b) ≡ true
both_hold may a b m h = grind (arith, nat_tests)

abbrev in_blob : List ℕ → Bool → ℕ → ℕ → Known
in_blob kept colon start used = record { mode = Mode.Lob Lob.Base64; kept = kept; colon = colon; start = start; used = used }

blob_leads : (p : Place) (kept : List ℕ) (colon : Bool) (start used o : ℕ) (string base64 : Bool) → base64 ≡ true → 0 < length kept
    → LeadsTo string base64 (feed p (in_blob kept colon start used) o)
blob_leads p kept colon start used o string base64 is some =
    let s = in_blob kept colon start used in
    let P : Action → Type 0 = λ a. LeadsTo string base64 (acts p s o a) in
    let more = length-append kept (o ∷ []) in
    cond_both (is_white o) _ _ P
    (λ _. record { base64 = λ _. (is, some); text = λ e. cc; string = λ e. cc })
    (λ _. cond_both (o == 125) _ _ P
    (λ _. blob_both (LeadsTo string base64) s (blob_of kept) tt (λ octets. record {
      base64 = λ e. cc;
      text = λ _. both_hold true 0 (length octets) refl (omega arith);
      string = λ e. cc;
    }))
    (λ _. cond_both (is_base64 o) _ _ P
    (λ _. record { base64 = λ _. (is, omega arith); text = λ e. cc; string = λ e. cc })
    (λ _. tt)))

feed_leads : (p : Place) (s : Known) (o : ℕ) (string base64 : Bool) → IsOpen string base64 s → LeadsTo string base64 (feed p s o)
feed_leads p s o string base64 h = by s.mode s.kept s.colon s.start s.used h where
  by : (m : Mode) (kept : List ℕ) (colon : Bool) (start used : ℕ)
      → IsOpen string base64 (record { mode = m; kept = kept; colon = colon; start = start; used = used })
      → LeadsTo string base64 (feed p (record { mode = m; kept = kept; colon = colon; start = start; used = used }) o)
  by (Mode.Lob Lob.Base64) kept colon start used h =
      let is = h.base64 refl in
      blob_leads p kept colon start used o string base64 is.0 is.1
  by m kept colon start used h =
      text_leads p (record { mode = m; kept = kept; colon = colon; start = start; used = used }) o string base64 (h.text refl) h.string

follow_leads : (x : Outcome) (f : Known → Outcome) (string base64 : Bool) → LeadsTo string base64 x
    → ((s : Known) → IsOpen string base64 s → LeadsTo string base64 (f s)) → LeadsTo string base64 (follow x f)
follow_leads (Next s) f string base64 h more = more s h
follow_leads (Given l s) f string base64 h more = h
follow_leads (Left l s) f string base64 h more = absurd h
follow_leads (Refused at reason) f string base64 h more = tt

-- Behind octets of an open text it is open still, or it ended, or is refused.
pub run_leads : (p : Place) (os : List ℕ) (s : Known) (string base64 : Bool) → IsOpen string base64 s → LeadsTo string base64 (run p os s)
run_leads p [] s string base64 h = h
run_leads p (o ∷ os) s string base64 h =
    follow_leads (feed p s o) (λ t. run p os t) string base64 (feed_leads p s o string base64 h) (λ t k. run_leads p os t string base64 k)

-- a token has at most as many octets as were used
abbrev pub GivesFew : Outcome → Type 0
GivesFew (Given l s) = length l.octets ≤ s.used
GivesFew _ = Unit {0}

few_kept : (k : Keep) (kept : List ℕ) → adds_none k ≡ true → length (kept_after k kept) ≤ length kept
few_kept Keep.Nothing kept h = omega arith
few_kept Keep.DropQuotes kept h = let l = length-take (length kept - 2) kept in omega arith
few_kept _ kept h = absurd cc

acts_few : (p : Place) (s : Known) (o n : ℕ) (a : Action) → leads s.mode a ≡ true → IsSteady s n → GivesFew (acts p s o a)
acts_few p s o n (Action.Give kind k) l h =
    let both = and_parts (is_text_kind kind && (in_string s.mode || not (is_string_kind kind))) (adds_none k) l in
    let few = few_kept k s.kept both.1 in
    let w = h.within in
    omega arith
acts_few p s o n (Action.Go m k) l h = tt
acts_few p s o n (Action.Refuse e) l h = tt
acts_few p s o n _ l h = absurd cc

feed_few : (p : Place) (s : Known) (o n : ℕ) (string base64 : Bool) → IsOpen string base64 s → IsSteady s n → GivesFew (feed p s o)
feed_few p s o n string base64 h k = by s.mode s.kept s.colon s.start s.used h k where
  by : (m : Mode) (kept : List ℕ) (colon : Bool) (start used : ℕ)
      → IsOpen string base64 (record { mode = m; kept = kept; colon = colon; start = start; used = used })
      → IsSteady (record { mode = m; kept = kept; colon = colon; start = start; used = used }) n
      → GivesFew (feed p (record { mode = m; kept = kept; colon = colon; start = start; used = used }) o)
  by (Mode.Lob Lob.Base64) kept colon start used h k =
      let s = in_blob kept colon start used in
      let P : Action → Type 0 = λ a. GivesFew (acts p s o a) in
      cond_both (is_white o) _ _ P (λ _. tt)
      (λ _. cond_both (o == 125) _ _ P (λ _. blob_both GivesFew s (blob_of kept) tt (λ octets. tt))
      (λ _. cond_both (is_base64 o) _ _ P (λ _. tt) (λ _. tt)))
  by m kept colon start used h k =
      let s : Known = record { mode = m; kept = kept; colon = colon; start = start; used = used } in
      acts_few p s o n (next p colon m o) (next_leads p colon m o (may_of s (h.text refl))) k

follow_few : (x : Outcome) (f : Known → Outcome) → GivesFew x → ((s : Known) → x ≡ Next s → GivesFew (f s)) → GivesFew (follow x f)
follow_few (Next s) f h more = more s refl
follow_few (Given l s) f h more = h
follow_few (Left l s) f h more = tt
follow_few (Refused at reason) f h more = tt

-- So has one that octets of an open text give.
pub run_few : (p : Place) (os : List ℕ) (s : Known) (n : ℕ) (string base64 : Bool) → IsOpen string base64 s → IsSteady s n → s.used + length os < 2 ^ 63
    → GivesFew (run p os s)
run_few p [] s n string base64 h k room = tt
run_few p (o ∷ os) s n string base64 h k room =
    follow_few (feed p s o) (λ t. run p os t) (feed_few p s o n string base64 h k)
    (λ t went.
    let used = feed_used p s t o went in
    let more : IsOpen string base64 t = subst (λ x. LeadsTo string base64 x) went (feed_leads p s o string base64 h) in
    let steady : IsSteady t (n + 1) = subst (λ x. StaysSteady x (n + 1)) went (feed_steady p s o n k (omega arith)) in
    run_few p os t (n + 1) string base64 more steady (omega arith))

more_kept : (may : Bool) (a b c : ℕ) → (may && nat_le a b) ≡ true → b ≤ c → (may && nat_le a c) ≡ true
more_kept may a b c h l = grind (arith, nat_tests)

-- With what was let go it is an open text, too.
pub open_behind : (gone : List ℕ) (s : Known) (string base64 : Bool) → IsOpen string base64 s → IsOpen string base64 (behind_gone gone s)
open_behind gone s string base64 h =
    let l = length-append gone s.kept in
    record {
      base64 = λ e. (let is = h.base64 e in (is.0, omega arith));
      text = λ e. more_kept (may_let_go s.mode) (quotes_kept s.mode) (length s.kept) (length (gone ++ s.kept)) (h.text e) (omega arith);
      string = h.string;
    }

-- What was let go fits whatever is kept if it is nothing.
pub nothing_behind : (f : Front) (s : Known) → f.octets ≡ [] → IsBehind f s
nothing_behind f s e = record { base64 = λ n. absurd (n e); text = λ n. absurd (n e); utf8 = λ n. absurd (n e) }

-- A text of which some was let go, and that is no base64, is open.
pub text_open : (f : Front) (s : Known) → IsBehind f s → f.octets ≢ [] → in_base64 s.mode ≡ false → IsOpen (in_string s.mode) false s
text_open f s h some none = record {
  base64 = λ e. absurd (let n : true ≡ false = sym e ∙ none in cc);
  text = λ e. h.text some e;
  string = λ e. e;
}

-- something was let go, if it isn't said that nothing was
pub some_gone : (f : Front) (nothing : Bool) → (f.octets ≡ [] → nothing ≡ true) → nothing ≡ false → f.octets ≢ []
some_gone f nothing h not = λ e. (let n : true ≡ false = sym (h e) ∙ not in cc)

-- What comes of octets behind such a text, and that it is the same with what was let go.
module _ (p : Place) (os : List ℕ) (f : Front) (s : Known) (x : Outcome) (h : IsBehind f s) (some : f.octets ≢ []) (none : in_base64 s.mode ≡ false)
    (e : x ≡ run p os s) where
  pub text_leads_on : LeadsTo (in_string s.mode) false x
  text_leads_on = subst (λ (y : Outcome). LeadsTo (in_string s.mode) false y) (sym e)
      (run_leads p os s (in_string s.mode) false (text_open f s h some none))

  pub text_alike : run p os (behind_gone f.octets s) ≡ outcome_behind f.octets x
  text_alike = run_alike p f.octets os s (h.text some none) ∙ ap (outcome_behind f.octets) (sym e)

-- in the content of a blob the base64 stands there
pub front_blob : (m : Mode) (gone octets : List ℕ) → in_base64 m ≡ true → front_in m gone octets ≡ gone
front_blob (Mode.Lob Lob.Base64) gone octets h = refl
front_blob _ gone octets h = absurd cc

-- What was let go fits what is kept behind more octets, too, if it is no base64 and these don't lead to base64.
pub open_fits : (f : Front) (s t : Known) → IsBehind f s → f.octets ≢ [] → IsOpen (in_string s.mode) false t → IsBehind f t
open_fits f s t h some now = record {
  base64 = λ _ e. absurd (let n = (now.base64 e).0 in cc);
  text = λ _ e. now.text e;
  utf8 = λ _ e. h.utf8 some (now.string e);
}

-- So is base64, or behind its end what it stands for.
pub base64_fits : (f : Front) (t : Known) → (in_base64 t.mode ≡ true → f.is_base64 ≡ true) → IsOpen false true t → IsBehind f t
base64_fits f t is now = record {
  base64 = λ _ e. (is e, (now.base64 e).1);
  text = λ _ e. now.text e;
  utf8 = λ _ e. absurd (let n = now.string e in cc);
}

base64_mode_of : (m : Mode) → in_base64 m ≡ true → m ≡ Mode.Lob Lob.Base64
base64_mode_of (Mode.Lob Lob.Base64) h = refl
base64_mode_of _ h = absurd cc

-- The content of a blob is no other text.
pub base64_mode : (s : Known) → in_base64 s.mode ≡ true → s.mode ≡ Mode.Lob Lob.Base64
base64_mode s h = base64_mode_of s.mode h

no_string : (m : Mode) → in_base64 m ≡ true → in_string m ≡ true → false ≡ true
no_string (Mode.Text _ _) h e = cc
no_string _ h e = cc

-- It is open behind some of its base64.
pub base64_open : (s : Known) → in_base64 s.mode ≡ true → 0 < length s.kept → IsOpen false true s
base64_open s h some = record {
  base64 = λ _. (refl, some);
  text = λ e. absurd (let n : true ≡ false = sym h ∙ e in cc);
  string = λ e. no_string s.mode h e;
}

few_quotes : (m : Mode) → quotes_kept m ≤ 2
few_quotes (Mode.Text s Within.OneQuote) = omega arith
few_quotes (Mode.Text s Within.TwoQuotes) = omega arith
few_quotes _ = omega arith

-- A text goes on behind all but its last octets.
pub goes_behind : (m : Mode) (kept : List ℕ) → may_let_go m ≡ true → 4 ≤ length kept → goes_on_behind m kept ≡ true
goes_behind m kept h some = let few = few_quotes m in both_hold (may_let_go m) (quotes_kept m) (length kept) h (omega arith)

-- So many octets at least are kept where so many were behind those that are let go.
pub left_kept : (new before kept : List ℕ) (n : ℕ) → new ≡ before ++ take (length kept - n) (drop n kept) → n + 4 ≤ length kept → 4 ≤ length new
left_kept new before kept n e h =
    let all = ap (λ (xs : List ℕ). length xs) e in
    let both = length-append before (take (length kept - n) (drop n kept)) in
    let first = length-take (length kept - n) (drop n kept) in
    let rest = length-drop n kept in
    omega arith

utf8_of : (xs : List ℕ) → (xs ≢ [] → is_utf8 xs ≡ true) → IsUtf8 xs
utf8_of [] h = IsUtf8-nil
utf8_of (x ∷ xs) h = IsUtf8-from_is_utf8 (x ∷ xs) (h (λ e. cc))

-- What was let go of a string is UTF-8, if it is nothing, too.
pub utf8_behind : (f : Front) (s : Known) → IsBehind f s → in_string s.mode ≡ true → IsUtf8 f.octets
utf8_behind f s h e = utf8_of f.octets (λ some. h.utf8 some e)

length_on : (b : Bool) (kept w : List ℕ) → length kept ≤ length (cond b (kept ++ w) kept)
length_on true kept w = let l = length-append kept w in omega arith
length_on false kept w = omega arith

-- So where the mode goes on over octets.
pub behind_on : (f : Front) (s t : Known) (w : List ℕ) → t ≡ gone_on s w → IsBehind f s → IsBehind f t
behind_on f s t w e h =
    let more = length_on (keeps_them s.mode) s.kept w in
    subst (λ (k : Known). IsBehind f k) (sym e) (record {
      base64 = λ some is. (let b = h.base64 some is in (b.0, omega arith));
      text = λ some is. more_kept (may_let_go s.mode) (quotes_kept s.mode) (length s.kept) (length (cond (keeps_them s.mode) (s.kept ++ w) s.kept))
          (h.text some is) more;
      utf8 = h.utf8;
    })

ends_so : (p : Place) (m : Mode) → (in_base64 m ≡ false → may_let_go m ≡ true) → end_of p m ≡ End.Refuse Reason.Incomplete
ends_so p (Mode.Text s w) h = refl
ends_so p (Mode.Lob l) h = refl
ends_so p _ h = absurd (let e = h refl in cc)

-- No text of which octets were let go ends with the input.
pub none_ends : (p : Place) (f : Front) (s : Known) → IsBehind f s → f.octets ≢ [] → at_end p (behind_gone f.octets s) ≡ Err Reason.Incomplete
none_ends p f s h some = ap (ends_at (behind_gone f.octets s)) (ends_so p s.mode (λ e. may_of s (h.text some e)))
