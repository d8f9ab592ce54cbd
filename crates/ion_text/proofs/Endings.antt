-- What the end of the octets shows.
use Rattle.std.proofs.Common.{◌≡◌, ◌≢◌, ℕ, List, Option, Some, None, Result, Ok, Err, refl, sym, ap, ◌∙◌, subst}
use Rattle.ion_text.specs.Names.{Catalog, DidEnd, Found, Held, Lexeme, Limits, Memory, Reading, Reason, Refusal, Stage, Turn, end_now, end_ready, end_said, end_settled, end_turned, end_waiting, goes, said, says, settle, turn}
use Rattle.ion_tokens.specs.machine.Steps.{Ends}
use Rattle.ion_tokens.proofs.runs.Cutting.{one_body}
use Rattle.ion_text.specs.machine.Views.{token_in}
use Rattle.ion_text.proofs.Meetings.{said_so, token_so}

module _ (g : Catalog) (l : Limits) (used : ℕ) where
  -- where the end ends no token, it settles what waited
  pub none_settles : (x : Result (Option Lexeme) Reason) (t : Turn) → Ends used x (Ok None) → end_waiting g l used x t ≡ end_settled used t
  none_settles (Ok None) t h = refl
  none_settles _ t h = absurd h

  open_same : (x : Lexeme) (e : Reason) (t : Turn) → end_waiting g l used (Ok (Some x)) t ≡ end_waiting g l used (Err e) t
  open_same x e (goes r) = refl
  open_same x e _ = refl

  refused_same : (d e : Reason) (t : Turn) → end_waiting g l used (Err d) t ≡ end_waiting g l used (Err e) t
  refused_same d e (goes r) = refl
  refused_same d e _ = refl

  opens : (x : Result (Option Lexeme) Reason) (t : Turn) (e : Reason) → (x ≡ Ok None → ⊥) → end_waiting g l used x t ≡ end_waiting g l used (Err e) t
  opens (Ok None) t e h = absurd (h refl)
  opens (Ok (Some x)) t e h = open_same x e t
  opens (Err d) t e h = refused_same d e t

  -- a token that the end ends behind what waited is as much as what the scanner refuses there
  pub token_opens : (x : Result (Option Lexeme) Reason) (t : Turn) (e : Reason) (found : Found) → Ends used x (Ok (Some found))
      → end_waiting g l used x t ≡ end_waiting g l used (Err e) t
  token_opens x t e found h = opens x t e (λ i. some (subst (λ (y : Result (Option Lexeme) Reason). Ends used y (Ok (Some found))) i h))
    where
      some : Some found ≡ None → ⊥
      some i = cc

  -- and that for whatever reason
  pub refused_opens : (x : Result (Option Lexeme) Reason) (t : Turn) (e : Reason) (r : Refusal) → Ends used x (Err r) → r.reason ≢ Memory
      → end_waiting g l used x t ≡ end_waiting g l used (Err e) t
  refused_opens x t e r h other = opens x t e (λ i. subst (λ (y : Result (Option Lexeme) Reason). Ends used y (Err r)) i h other)

  module _ (r : Reading) where
    -- where nothing waits, what the scanner refuses at the end is refused
    pub ready_refused : (x : Result (Option Lexeme) Reason) (refusal : Refusal) → Ends used x (Err refusal)
        → DidEnd used (end_ready g l used r x) (Err refusal.reason)
    ready_refused (Ok None) refusal h = λ other. absurd (h other)
    ready_refused (Ok (Some x)) refusal h = λ other. ap (end_said g l used r x)
        (one_body x.kind x.octets (said x.kind x.octets) (Err refusal.reason) (says x.kind x.octets) (h other).says)
    ready_refused (Err e) refusal h = λ other. ap (λ (q : Refusal). Err (record { offset = used; reason = q.reason })) (sym (h other))

    -- where nothing waits, the end does what the token does that it ends
    pub token_turns : (x : Result (Option Lexeme) Reason) (found : Found) → Ends used x (Ok (Some found))
        → end_ready g l used r x ≡ end_turned g l used (turn g l r (token_in found))
    token_turns (Ok None) found h = absurd cc
    token_turns (Ok (Some x)) found h =
        ap (end_said g l used r x) (said_so x found h) ∙ ap (λ t. end_turned g l used (turn g l r t)) (token_so x found h)
    token_turns (Err e) found h = absurd h

  -- where the token that the end ends goes on, what waits then is settled by the end
  pub goes_settles : (t : Turn) (r : Reading) (h : Catalog) (k : Limits) → t ≡ goes r → h ≡ g → k ≡ l
      → end_turned g l used t ≡ end_settled used (settle h k r)
  goes_settles t r h k e i j =
      ap (end_turned g l used) e ∙ (ap (λ x. end_settled used (settle x l r)) (sym i) ∙ ap (λ x. end_settled used (settle h x r)) (sym j))

  -- where nothing waits
  pub now_ready : (r : Reading) (x : Result (Option Lexeme) Reason) (n : Stage) → ((h : Held) (end : ℕ) → n ≡ Stage.Pending h end → ⊥)
      → ((w : List ℕ) (end : ℕ) → n ≡ Stage.Long w end → ⊥) → ((w : List ℕ) → n ≡ Stage.LongName w → ⊥) → end_now g l used r x n ≡ end_ready g l used r x
  now_ready r x (Stage.Pending h end) p q s = absurd (p h end refl)
  now_ready r x (Stage.Long w end) p q s = absurd (q w end refl)
  now_ready r x (Stage.LongName w) p q s = absurd (s w refl)
  now_ready r x _ p q s = refl
