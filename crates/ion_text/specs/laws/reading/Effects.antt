-- What holds of each effect that an octet may have holds of its effect.
use Rattle.std.proofs.Common.{◌≡◌, ℕ, zero, suc, Bool, true, false, Result, Ok, Err, if◌then◌else◌, refl}
use Rattle.std.proofs.lemmas.Bool.{cond_both}
use Rattle.std.specs.Prelude.{◌&&◌, not, nat_le}
use Rattle.ion_text.specs.Names.{Catalog, Content, Effect, Given, Known, Left, Limits, Next, Outcome, Reading, Reason, Refused, State, Turn, behind_given, behind_left, fails, feed, gives, goes, is_idle, late, leaves, lesser, noticed, on_said, on_scan, on_settled, or_worse, place, reaches, refuses, said, settle, shut, takes, tells, token_of, turn, unsettled, uses, with_scan}

-- an octet that ends no token is used, or refused
pub noticed_each : (P : Effect → Type 0) (l : Limits) (r : Reading) (s : Known) → P (uses (with_scan s r)) → P (fails Reason.Unexpected)
    → P (fails Reason.ItemTooLong) → P (noticed l r s)
noticed_each P l r s used unexpected long = go (shut r.now && not (is_idle s.mode)) (nat_le (reaches r.frames r s) l.item)
  where
    go : (a b : Bool) → P (if a then fails Reason.Unexpected else (if b then uses (with_scan s r) else fails Reason.ItemTooLong))
    go true b = unexpected
    go false true = used
    go false false = long

-- the worse of a reason and an effect is a refusal
pub worse_each : (P : Effect → Type 0) (e : Reason) (x : Effect) → ((f : Reason) → P (fails f)) → P (or_worse e x)
worse_each P e (fails f) h = h (lesser e f)
worse_each P e _ h = h e

-- what a token says is taken, or it is refused
pub said_each : (P : Effect → Type 0) (r : Result Content Reason) (f : Content → Effect) → ((c : Content) → r ≡ Ok c → P (f c))
    → ((e : Reason) → r ≡ Err e → P (fails e)) → P (on_said r f)
said_each P (Ok c) f h k = h c refl
said_each P (Err e) f h k = k e refl

-- What holds of each refusal holds of what an octet does, if it holds of what its parts lead to. `Again` is what holds where the octet comes again.
module _ (g : Catalog) (l : Limits) (P : Effect → Type 0) (refused : (e : Reason) → P (fails e)) (Again : Known → Reading → Type 0) where
  -- of where a token that ended with the octet leads
  abbrev pub GivesSo : Known → Turn → Type 0
  GivesSo s (goes r) = nat_le (reaches r.frames r s) l.item ≡ true → P (uses (with_scan s r))
  GivesSo s (gives v r) = P (tells v (with_scan s r))
  GivesSo s _ = Unit {0}

  noticed_so : (r : Reading) (s : Known) → (nat_le (reaches r.frames r s) l.item ≡ true → P (uses (with_scan s r))) → P (noticed l r s)
  noticed_so r s h = cond_both (shut r.now && not (is_idle s.mode)) _ _ P (λ e. refused Reason.Unexpected)
      (λ e. cond_both (nat_le (reaches r.frames r s) l.item) _ _ P h (λ k. refused Reason.ItemTooLong))

  given_each : (s : Known) (t : Turn) → GivesSo s t → P (behind_given l s t)
  given_each s (goes r) h = noticed_so r s h
  given_each s (gives v r) h = h
  given_each s (refuses e) h = refused e
  given_each s (late e r) h = worse_each P e (noticed l r s) refused

  -- of where one that ended before it leads
  abbrev pub LeavesSo : Known → Turn → Type 0
  LeavesSo s (goes r) = Again s r
  LeavesSo s (gives v r) = P (leaves v (with_scan s r))
  LeavesSo s _ = Unit {0}

  -- of what comes of it at the scanner
  abbrev pub ScansSo : Reading → Outcome → Type 0
  ScansSo r (Next t) = nat_le (reaches r.frames r t) l.item ≡ true → P (uses (with_scan t r))
  ScansSo r (Given x t) = (c : Content) → said x.kind x.octets ≡ Ok c → GivesSo t (turn g l r (token_of x c))
  ScansSo r (Left x t) = (c : Content) → said x.kind x.octets ≡ Ok c → LeavesSo t (turn g l r (token_of x c))
  ScansSo r (Refused n e) = Unit {0}

  -- of where what waited is settled before it
  abbrev pub SettlesSo : Known → Outcome → Turn → Type 0
  SettlesSo s x (goes r) = ScansSo r x
  SettlesSo s x (gives v r) = P (leaves v (with_scan s r))
  SettlesSo s x _ = Unit {0}

  module _ (again : State → Effect) (f : (k : State) → Again k.scan k.reading → P (again k)) where
    left_each : (s : Known) (t : Turn) → LeavesSo s t → P (behind_left again s t)
    left_each s (goes r) h = f (with_scan s r) h
    left_each s (gives v r) h = h
    left_each s (refuses e) h = refused e
    left_each s (late e r) h = worse_each P e (again (with_scan s r)) refused

    -- where it holds of what comes of it at the scanner, it holds of the octet there
    pub scan_each : (r : Reading) (x : Outcome) → ScansSo r x → P (on_scan g l again r x)
    scan_each r (Next t) h = noticed_so r t h
    scan_each r (Given x t) h = said_each P (said x.kind x.octets) _ (λ c e. given_each t (turn g l r (token_of x c)) (h c e)) (λ e k. refused e)
    scan_each r (Left x t) h = said_each P (said x.kind x.octets) _ (λ c e. left_each t (turn g l r (token_of x c)) (h c e)) (λ e k. refused e)
    scan_each r (Refused n e) h = refused e

    settled_each : (s : Known) (x : Outcome) (t : Turn) → SettlesSo s x t → P (on_settled g l again s x t)
    settled_each s x (goes r) h = scan_each r x h
    settled_each s x (gives v r) h = h
    settled_each s x (refuses e) h = refused e
    settled_each s x (late e r) h = worse_each P e (on_scan g l again r x) refused

  -- where it holds of what the octet does at the scanner, and of what waited before it, it holds of the octet
  pub takes_each : (o : ℕ) → ((s : Known) (r : Reading) → Again s r → unsettled s r (feed (place r) s o) ≡ true → ScansSo r (feed (place r) s o))
      → ((s : Known) (r : Reading) → Again s r → unsettled s r (feed (place r) s o) ≡ false → SettlesSo s (feed (place r) s o) (settle g l r))
      → (n : ℕ) (m : State) → Again m.scan m.reading → P (takes g l n m o)
  takes_each o scans settles zero m h = refused Reason.Unexpected
  takes_each o scans settles (suc n) m h =
      let x = feed (place m.reading) m.scan o in
      cond_both (unsettled m.scan m.reading x) _ _ P
      (λ e. scan_each (λ k. takes g l n k o) (λ k i. takes_each o scans settles n k i) m.reading x (scans m.scan m.reading h e))
      (λ e. settled_each (λ k. takes g l n k o) (λ k i. takes_each o scans settles n k i) m.scan x (settle g l m.reading) (settles m.scan m.reading h e))
