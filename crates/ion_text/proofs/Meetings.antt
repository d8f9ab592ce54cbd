-- What the scanner answers, and what comes of the octets.
use Rattle.std.proofs.Common.{◌≡◌, ◌≢◌, ℕ, ◌+◌, Bool, true, false, Some, None, Ok, Err, refl, sym, ap, ◌∙◌, subst, arith}
use Rattle.std.specs.Prelude.{if◌then◌else◌}
use Rattle.ion_text.specs.Names.{Catalog, Content, Effect, Found, Given, GivesToken, IsBody, IsToken, Known, Left, Lexeme, Limits, Memory, Next, Outcome, Reading, Reason, Refusal, Refused, State, Stepped, Turn, behind_given, behind_left, decided, fails, noticed, on_said, on_scan, said, says, token_of, turn}
use Rattle.ion_tokens.specs.Bodies.{content}
use Rattle.ion_tokens.specs.machine.Steps.{Answers}
use Rattle.ion_tokens.proofs.runs.Cutting.{one_body}
use Rattle.ion_text.specs.machine.Views.{token_in}

-- a lexeme says what the scanner's token of it holds
pub said_so : (x : Lexeme) (t : Found) → IsToken x t → said x.kind x.octets ≡ Ok (content t.body)
said_so x t h = one_body x.kind x.octets (said x.kind x.octets) (Ok (content t.body)) (says x.kind x.octets) h.says

-- a lexeme, as the machine takes it, is the scanner's token of it
pub token_so : (x : Lexeme) (t : Found) → IsToken x t → token_of x (content t.body) ≡ token_in t
token_so x t h =
    ap (λ n. record { start = n; end = x.end; said = content t.body }) (sym h.start)
    ∙ ap (λ n. record { start = t.start; end = n; said = content t.body }) (sym h.end)

-- what the scanner answered, where it gave no token
pub no_token : (before : ℕ) (x : Outcome) (scan : Stepped) (now : Known) → Answers before x (Ok scan) now → scan.token ≡ None → x ≡ Next now
no_token before (Next s) scan now a e = ap Next (sym a.0.known)
no_token before (Given x s) scan now a e = absurd (subst (λ t. GivesToken x t) e a.1)
no_token before (Left x s) scan now a e = absurd (subst (λ t. GivesToken x t) e a.1)
no_token before (Refused n y) scan now a e = absurd a

-- what it answered, where it gave one
pub record CameToken (left : Bool) (x : Outcome) (t : Found) (now : Known) : Type 0 where
  pub lexeme : Lexeme
  pub is : x ≡ (if left then Left lexeme now else Given lexeme now)
  pub token : IsToken lexeme t

pub token_came : (before : ℕ) (x : Outcome) (scan : Stepped) (t : Found) (now : Known) (left : Bool) → Answers before x (Ok scan) now → scan.token ≡ Some t
    → scan.left ≡ left → CameToken left x t now
token_came before (Next s) scan t now left a e f = let n = a.1 in absurd cc
token_came before (Given x s) scan t now false a e f =
    record { lexeme = x; is = ap (λ k. Given x k) (sym a.0.known); token = subst (λ o. GivesToken x o) e a.1 }
token_came before (Left x s) scan t now true a e f =
    record { lexeme = x; is = ap (λ k. Left x k) (sym a.0.known); token = subst (λ o. GivesToken x o) e a.1 }
token_came before (Refused n y) scan t now left a e f = absurd a
token_came before _ scan t now _ a e f = let n = a.2 in absurd cc

-- what comes of a token's turn whose end the octet behind it showed, or which ended with its last octet
abbrev pub behind_token : Limits → Bool → (State → Effect) → Known → Turn → Effect
behind_token l true again s t = behind_left again s t
behind_token l false again s t = behind_given l s t

module _ (g : Catalog) (l : Limits) (r : Reading) where
  on_token : (behind : Turn → Effect) (x : Lexeme) (t : Found) → IsToken x t
      → on_said (said x.kind x.octets) (λ c. behind (turn g l r (token_of x c))) ≡ behind (turn g l r (token_in t))
  on_token behind x t h =
      ap (λ y. on_said y (λ c. behind (turn g l r (token_of x c)))) (said_so x t h) ∙ ap (λ k. behind (turn g l r k)) (token_so x t h)

  refused_said : (x : Lexeme) (e : Reason) (f : Content → Effect) → IsBody x.kind x.octets (Err e) → on_said (said x.kind x.octets) f ≡ fails e
  refused_said x e f h = ap (λ y. on_said y f) (one_body x.kind x.octets (said x.kind x.octets) (Err e) (says x.kind x.octets) h)

  -- what came of octets is refused for this, behind those that decided; unless memory ran out
  abbrev pub IsRefused : Outcome → Refusal → Type 0
  IsRefused x refusal = refusal.reason ≢ Memory → (refusal.offset ≡ decided x)
      × ((again : State → Effect) → on_scan g l again r x ≡ fails refusal.reason)

  -- the scanner refused
  pub scan_refused : (before : ℕ) (x : Outcome) (refusal : Refusal) (now : Known) → Answers before x (Err refusal) now → IsRefused x refusal
  scan_refused before (Next s) refusal now a = λ other. absurd (a other)
  scan_refused before (Given x s) refusal now a = λ other.
      let b = a other in (b.offset, λ again. refused_said x refusal.reason (λ c. behind_given l s (turn g l r (token_of x c))) b.says)
  scan_refused before (Left x s) refusal now a = λ other.
      let b = a other in (b.offset, λ again. refused_said x refusal.reason (λ c. behind_left again s (turn g l r (token_of x c))) b.says)
  scan_refused before (Refused n e) refusal now a = λ other.
      let b = a other in
      (ap (λ (q : Refusal). q.offset) b, λ again. ap (λ (q : Refusal). fails q.reason) (sym b))

  -- where the scanner gave no token and the reader has a reason to refuse, this is answered
  pub blank_refused : (before : ℕ) (x : Outcome) (scan : Stepped) (now : Known) (refusal : Refusal) (reason : Reason)
      → Answers before x (Ok scan) now → scan.token ≡ None → noticed l r now ≡ fails reason
      → refusal ≡ record { offset = now.used + 0; reason = reason } → IsRefused x refusal
  blank_refused before x scan now refusal reason a e did same =
      let h = no_token before x scan now a e in
      let at = ap (λ (q : Refusal). q.offset) same in
      let here : refusal.offset ≡ now.used = omega arith in
      λ other. (here ∙ sym (ap decided h), λ again. ap (λ y. on_scan g l again r y) h ∙ (did ∙ ap (λ (q : Refusal). fails q.reason) (sym same)))

  pub came_turns : (left : Bool) (again : State → Effect) (x : Outcome) (t : Found) (now : Known) → CameToken left x t now
      → on_scan g l again r x ≡ behind_token l left again now (turn g l r (token_in t))
  came_turns true again x t now h = ap (λ y. on_scan g l again r y) h.is ∙ on_token (behind_left again now) h.lexeme t h.token
  came_turns false again x t now h = ap (λ y. on_scan g l again r y) h.is ∙ on_token (behind_given l now) h.lexeme t h.token

  decided_at : (left : Bool) (y : Lexeme) (now : Known) → now.used + (if left then 1 else 0) ≡ decided (if left then Left y now else Given y now)
  decided_at true y now = refl
  decided_at false y now = omega arith

  -- where the token is refused, this is answered at its last octet, or at the one that showed its end
  pub token_refused : (left : Bool) (before : ℕ) (x : Outcome) (scan : Stepped) (t : Found) (now : Known) (refusal : Refusal) (reason : Reason) (used : ℕ)
      → Answers before x (Ok scan) now → scan.token ≡ Some t → scan.left ≡ left
      → (reason ≢ Memory → (again : State → Effect) → behind_token l left again now (turn g l r (token_in t)) ≡ fails reason) → used ≡ now.used
      → refusal ≡ record { offset = used + (if left then 1 else 0); reason = reason } → IsRefused x refusal
  token_refused left before x scan t now refusal reason used a e f did at same =
      let h = token_came before x scan t now left a e f in
      let cause = ap (λ (q : Refusal). q.reason) same in
      λ other. (
        ap (λ (q : Refusal). q.offset) same ∙ (ap (λ n. n + (if left then 1 else 0)) at ∙ (decided_at left h.lexeme now ∙ sym (ap decided h.is))),
        λ again. came_turns left again x t now h ∙ (did (λ m. other (cause ∙ m)) again ∙ ap fails (sym cause)),
      )
