-- Octets keep a scanner steady.
use Rattle.std.proofs.Common.{◌≡◌, ℕ, ◌+◌, ◌-◌, ◌*◌, ◌^◌, ◌<◌, subst, ◌≤◌, min, Bool, true, false, cond, refl, sym, ap, arith, List, [], ◌∷◌, ◌++◌, length, take, Option, Some, None, Ok, Err}
use Rattle.std.specs.Prelude.{◌==◌, ◌&&◌, ◌||◌, not, nat_le, nat_lt, bytes_eq, codes, encode_utf8}
use Rattle.std.specs.Result.{result_ok}
use Rattle.std.proofs.lemmas.List.{length-append, length-take}
use Rattle.std.proofs.lemmas.Str.{length-encode, len_utf8_bounds}
use Rattle.std.specs.Char.{len_utf8}
use Rattle.std.proofs.lemmas.Bool.Decides.{nat_tests}
use Rattle.base64.specs.declared.decode.DecodeError.{DecodeError}
use Rattle.base64.specs.Engines.{standard}
use Rattle.base64.specs.Decode.{decode_outcome, groups_bytes, groups_before_last, scan_bytes, scan_last}
use Rattle.base64.specs.GeneralPurpose.{decoded_of}
use Rattle.base64.proofs.Decoding.{length-groups_bytes}
use Rattle.ion_tokens.specs.Names.{Action, IsSteady, Keep, Known, Left, Mode, Next, Outcome, Place, StaysSteady, TokenKind, acts, blob_ends, blob_of, cut, debt, feed, go_to, is_idle, kept_after, left_of, past, start_of, unkept}
use Rattle.ion_tokens.specs.machine.Table.{next}
use Rattle.ion_tokens.proofs.bounds.Fits.{Fits, added, is_fresh, is_nothing, table_fits}

length_encoded : (c : ℕ) → length (encode_utf8 c) ≤ 4
length_encoded c = let e : length (encode_utf8 c) ≡ len_utf8 c = length-encode c in let b = len_utf8_bounds c in omega arith

-- no more is added than the table counts
length_kept : (k : Keep) (kept : List ℕ) → length (kept_after k kept) ≤ length kept + added k
length_kept Keep.Nothing kept = omega arith
length_kept (Keep.Character c) kept = let h = length_encoded c in simp length-append (omega arith)
length_kept Keep.DropQuotes kept = let h = length-take (length kept - 2) kept in omega arith
length_kept _ kept = simp length-append (omega arith)

-- nothing is kept where no token has begun
idle_go : (k : Keep) (i j : Bool) (kept : List ℕ) → (not j || (i && is_nothing k)) ≡ true → (i ≡ true → kept ≡ []) → j ≡ true → kept_after k kept ≡ []
idle_go k i false kept h n e = cc
idle_go k false true kept h n e = cc
idle_go Keep.Nothing true true kept h n e = n refl
idle_go _ true true kept h n e = cc

-- the open token's place, behind the next octet
within_go : (m : Mode) (kept x u : ℕ) → (is_idle m ≡ true → kept ≡ 0) → kept + unkept m + x ≤ u + 1 → kept + unkept m + start_of m x (u + 1) ≤ u + 1
within_go Mode.Blank kept x u idle h = let e = idle refl in omega arith
within_go Mode.Slash kept x u idle h = let e = idle refl in omega arith
within_go _ kept x u idle h = h

-- the octet that is left to a token that follows
within_fresh : (m : Mode) (r u : ℕ) → is_fresh m ≡ true → unkept m ≤ r → r ≤ u → 0 + unkept m + start_of m (u - left_of m) u ≤ u
within_fresh Mode.Blank r u f h k = omega arith
within_fresh Mode.Slash r u f h k = omega arith
within_fresh _ r u f h k = cc f

-- three tests that hold at once: two bounds, and a third of whatever sort
pub went_well : (a b c d : ℕ) (x : Bool) → (nat_le a b && nat_le c d && x) ≡ true → (a ≤ b) × (c ≤ d) × (x ≡ true)
went_well a b c d true h = (grind (arith, nat_tests), grind (arith, nat_tests), refl)
went_well a b c d false h = (grind (arith, nat_tests), grind (arith, nat_tests), grind (arith, nat_tests))

-- three tests that hold at once: a strict bound, another bound, and a third of whatever sort
pub ended_well : (a b c d : ℕ) (x : Bool) → (nat_lt a b && nat_le c d && x) ≡ true → (a < b) × (c ≤ d) × (x ≡ true)
ended_well a b c d true h = (grind (arith, nat_tests), grind (arith, nat_tests), refl)
ended_well a b c d false h = (grind (arith, nat_tests), grind (arith, nat_tests), grind (arith, nat_tests))

-- where the test says at most, it is at most
pub le_of : (a b : ℕ) → nat_le a b ≡ true → a ≤ b
le_of a b h = grind (arith, nat_tests)

-- two tests of at most that hold together both say so
pub les_of : (a b c d : ℕ) → (nat_le a b && nat_le c d) ≡ true → (a ≤ b) × (c ≤ d)
les_of a b c d h = (grind (arith, nat_tests), grind (arith, nat_tests))

-- behind a token and nothing else
past_steady : (p : Place) (kind : TokenKind) (x u n : ℕ) → u ≤ n → n ≤ 2 * u → IsSteady (past p kind Mode.Blank [] x u) n
past_steady p kind x u n h k = record {
  each = h;
  twice = omega arith;
  idle = λ _. refl;
  within = omega arith;
}

-- a blob has at most three octets more than its text
blob_from : (e : Option DecodeError) (octets b : List ℕ) → result_ok (decode_outcome e octets) ≡ Some b → octets ≡ b
blob_from None octets b h = cc
blob_from (Some _) octets b h = cc

at_most_three : (n a b c : ℕ) → length (take n (a ∷ b ∷ c ∷ [])) ≤ 3
at_most_three n a b c = let h = length-take n (a ∷ b ∷ c ∷ []) in omega arith

length_blob : (text b : List ℕ) → blob_of text ≡ Some b → length b ≤ length text + 3
unfolding blob_of decoded_of
length_blob text b h =
    let dec = standard.decode_table in
    let q = groups_before_last (length text) in
    let last = scan_last dec standard.padding.value (4 * q) text in
    let e : groups_bytes dec text q ++ scan_bytes last ≡ b = blob_from _ _ b h in
    let l = length-groups_bytes dec text q in
    let k : length (scan_bytes last) ≤ 3 = elim last as (λ r. length (scan_bytes r) ≤ 3) [ Ok st ↦ at_most_three _ _ _ _ | Err e ↦ omega arith ] in
    let a = length-append (groups_bytes dec text q) (scan_bytes last) in
    let w = ap (λ (xs : List ℕ). length xs) e in
    omega arith

blob_steady : (s : Known) (n : ℕ) (b : Option (List ℕ)) → blob_of s.kept ≡ b → 2 ≤ unkept s.mode → IsSteady s n → s.used < 2 ^ 63
    → StaysSteady (blob_ends s b) (n + 1)
blob_steady s n None e u h k = tt
blob_steady s n (Some octets) e u h k = let l = length_blob s.kept octets e in record {
  each = omega arith;
  twice = let d = h.twice in omega arith;
  idle = λ i. cc;
  within = let w = h.within in omega arith;
}

acts_steady : (p : Place) (s : Known) (o : ℕ) (a : Action) (n : ℕ) → Fits (unkept s.mode) (debt s.mode) (is_idle s.mode) a → IsSteady s n
    → s.used < 2 ^ 63 → StaysSteady (acts p s o a) (n + 1)
acts_steady p s o (Action.Go m k) n f h u =
    let t = went_well (added k + unkept m) (unkept s.mode + 1) (debt m) (debt s.mode + 1) (not (is_idle m) || (is_idle s.mode && is_nothing k)) f.is in
    let l = length_kept k s.kept in
    let none = idle_go k (is_idle s.mode) (is_idle m) s.kept t.2 h.idle in
    let w = h.within in
    let d = h.twice in
    record {
      each = omega arith;
      twice = omega arith;
      idle = none;
      within = within_go m (length (kept_after k s.kept)) (start_of s.mode s.start s.used) s.used (λ i. ap (λ (xs : List ℕ). length xs) (none i)) (omega arith);
    }
acts_steady p s o (Action.Give kind k) n f h u = past_steady p kind (s.used + 1) (s.used + 1) (n + 1) (omega arith) (let d = h.twice in omega arith)
acts_steady p s o (Action.Before kind k m) n f h u =
    let t = ended_well (debt m) (debt s.mode) (unkept m) (unkept s.mode) (is_fresh m) f.is in
    let w = h.within in
    let d = h.twice in
    record {
      each = omega arith;
      twice = omega arith;
      idle = λ _. refl;
      within = within_fresh m (unkept s.mode) s.used t.2 t.1 (omega arith);
    }
acts_steady p s o Action.EndWord n f h u = one ((o == 46) && bytes_eq s.kept (codes "null")) where
  one : (b : Bool) → StaysSteady (cond b (Next (go_to s Mode.KindName []))
      (Left (cut s TokenKind.Word s.kept s.used) (past p TokenKind.Word Mode.Blank [] s.used s.used))) (n + 1)
  one true = let d = h.twice in let w = h.within in record {
    each = omega arith;
    twice = omega arith;
    idle = λ i. cc;
    within = omega arith;
  }
  one false = let d = h.twice in let t = le_of 1 (debt s.mode) f.is in past_steady p TokenKind.Word s.used s.used (n + 1) (omega arith) (omega arith)
acts_steady p s o (Action.Split letters) n f h u =
    let t = les_of letters (unkept s.mode) 2 (debt s.mode) f.is in
    let w = h.within in
    let d = h.twice in
    let l = length-take letters (codes "inf") in
    record {
      each = omega arith;
      twice = omega arith;
      idle = λ i. cc;
      within = omega arith;
    }
acts_steady p s o Action.EndBlob n f h u = blob_steady s n (blob_of s.kept) refl (le_of 2 (unkept s.mode) f.is) h u
acts_steady p s o (Action.Refuse e) n f h u = tt

-- one octet more, below 2^63 of them, keeps a scanner steady
pub feed_steady : (p : Place) (s : Known) (o n : ℕ) → IsSteady s n → s.used < 2 ^ 63 → StaysSteady (feed p s o) (n + 1)
feed_steady p s o n h u = acts_steady p s o (next p s.colon s.mode o) n (table_fits p s.colon s.mode o) h u

-- the same with what a machine counts in a word of memory
pub take_up_steady : (p : Place) (s : Known) (o n next_n : ℕ) (x : Outcome) → s.used < 2 ^ 63 → next_n ≡ min (n + 1) (2 ^ 64 - 1) → x ≡ feed p s o
    → IsSteady s n → StaysSteady x next_n
take_up_steady p s o n next_n x u e f h =
    let d = h.twice in
    let one : next_n ≡ n + 1 = omega arith in
    subst (λ k. StaysSteady x k) (sym one) (subst (λ (y : Outcome). StaysSteady y (n + 1)) (sym f) (feed_steady p s o n h u))
