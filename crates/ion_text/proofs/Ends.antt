-- What the end of the octets shows to a reader that holds no values.
use Rattle.std.proofs.Common.{◌≡◌, ◌≢◌, ℕ, List, [], Bool, true, false, Option, Some, None, Result, Ok, Err, refl, ap, sym, subst}
use Rattle.std.specs.Prelude.{if◌then◌else◌}
use Rattle.ion_text.specs.Names.{Catalog, Does, EndedSo, Event, Found, Frame, Gives, Goes, Hears, Holds, Lexeme, Limits, Reading, Reason, Refusal, Symbols, TextWalk, Turn, Value, cut_short, end_ready, end_settled, end_turned, end_waiting, events_of, heard, is_fresh, reading_of, settle, told, turn}
use Rattle.ion_tokens.specs.machine.Steps.{Ends}
use Rattle.ion_visiting.specs.laws.Filters.{hears_both, hears_none}
use Rattle.ion_text.specs.machine.Views.{token_in}
use Rattle.ion_text.proofs.Endings.{goes_settles, none_settles, refused_opens, token_opens, token_turns}

-- where no item is open, nothing was told of one
pub fresh_told : (r : TextWalk) (fs : List Frame) (ss : Symbols) → is_fresh (reading_of r fs ss) ≡ true → told fs ss ≡ []
fresh_told r [] [] e = refl
fresh_told r _ _ e = absurd cc

module _ {V : Type 0} (leads : V → Event → V → Type 0) where
  pub ended_same : (es : List Event) (used : ℕ) (x y : Result (Option Value) Refusal) (result : Result Bool Reason) (a b : V) → x ≡ y
      → EndedSo leads es used y result a b → EndedSo leads es used x result a b
  ended_same es used x y result a b e d = subst (λ x. EndedSo leads es used x result a b) (sym e) d

  -- a visitor heard before what it was to hear of what came before
  pub ended_behind : (es fs : List Event) (used : ℕ) (x : Result (Option Value) Refusal) (result : Result Bool Reason) (a m b : V)
      → Hears leads (heard es) (heard fs) a m → EndedSo leads fs used x result m b → EndedSo leads es used x result a b
  ended_behind es fs used x (Ok true) a m b h d = (d.0, d.1, hears_both leads (heard es) (heard fs) (events_of d.0) a m b h d.2)
  ended_behind es fs used x (Ok false) a m b h d = (d.0, hears_both leads (heard es) (heard fs) [] a m b h d.1)
  ended_behind es fs used x (Err reason) a m b h d = d

  module _ (es : List Event) (used : ℕ) (t : Turn) (mid : TextWalk) (a b : V) where
    -- nothing was open at the end but what waited, which is a value
    pub settled_gives : Does leads es t (Ok Gives) mid a b → EndedSo leads es used (end_settled used t) (Ok true) a b
    settled_gives d = (d.0, ap (end_settled used) d.1, d.2.hears)

    module _ (g : Catalog) (l : Limits) where
      -- something is open behind what waited, which is a value
      pub open_gives : (e : Reason) → Does leads es t (Ok Gives) mid a b → EndedSo leads es used (end_waiting g l used (Err e) t) (Err Reason.Incomplete) a b
      open_gives e d = λ _. ap (end_waiting g l used (Err e)) d.1

      -- the end ended a token, and with it a value
      pub turned_gives : Does leads es t (Ok Gives) mid a b → EndedSo leads es used (end_turned g l used t) (Ok true) a b
      turned_gives d = (d.0, ap (end_turned g l used) d.1, d.2.hears)

      -- what waits then is settled by the end
      pub turned_settles : (result : Result Bool Reason) (c : V) → mid.catalog.now ≡ g → mid.limits ≡ l → Does leads es t (Ok Goes) mid a b
          → ((fs : List Frame) (ss : Symbols) → Holds mid fs ss →
          EndedSo leads (told fs ss) used (end_settled used (settle mid.catalog.now mid.limits (reading_of mid fs ss))) result b c)
          → EndedSo leads es used (end_turned g l used t) result a c
      turned_settles result c i j d settles =
          let q = reading_of mid d.0 d.1 in
          ended_same es used (end_turned g l used t) (end_settled used (settle mid.catalog.now mid.limits q)) result a c
          (goes_settles g l used t q mid.catalog.now mid.limits d.2 i j)
          (ended_behind es (told d.0 d.1) used (end_settled used (settle mid.catalog.now mid.limits q)) result a b c d.3.hears (settles d.0 d.1 d.3.holds))

  module _ (g : Catalog) (l : Limits) (es : List Event) (used : ℕ) (x : Result (Option Lexeme) Reason) (result : Result Bool Reason) (a b : V) where
    -- What waited is decided by the end, which ends no token or something behind it.

    pub waits_none : (t : Turn) → Ends used x (Ok None) → EndedSo leads es used (end_settled used t) result a b
        → EndedSo leads es used (end_waiting g l used x t) result a b
    waits_none t h d = ended_same es used (end_waiting g l used x t) (end_settled used t) result a b (none_settles g l used x t h) d

    pub waits_token : (t : Turn) (found : Found) → Ends used x (Ok (Some found))
        → ((e : Reason) → EndedSo leads es used (end_waiting g l used (Err e) t) result a b) → EndedSo leads es used (end_waiting g l used x t) result a b
    waits_token t found h d =
        ended_same es used (end_waiting g l used x t) (end_waiting g l used (Err Reason.Memory) t) result a b (token_opens g l used x t Reason.Memory found h)
        (d Reason.Memory)

    pub waits_refused : (t : Turn) (r : Refusal) → Ends used x (Err r) → r.reason ≢ Reason.Memory
        → ((e : Reason) → EndedSo leads es used (end_waiting g l used (Err e) t) result a b) → EndedSo leads es used (end_waiting g l used x t) result a b
    waits_refused t r h other d =
        ended_same es used (end_waiting g l used x t) (end_waiting g l used (Err Reason.Memory) t) result a b
        (refused_opens g l used x t Reason.Memory r h other) (d Reason.Memory)

    -- nothing waits, and the end ends a token
    pub readies_token : (q : Reading) (found : Found) → Ends used x (Ok (Some found))
        → EndedSo leads es used (end_turned g l used (turn g l q (token_in found))) result a b → EndedSo leads es used (end_ready g l used q x) result a b
    readies_token q found h d =
        ended_same es used (end_ready g l used q x) (end_turned g l used (turn g l q (token_in found))) result a b (token_turns g l used q x found h) d

  -- nothing waits, and the end ends no token
  pub ready_fresh : (g : Catalog) (l : Limits) (used : ℕ) (x : Result (Option Lexeme) Reason) (r : TextWalk) (fs : List Frame) (ss : Symbols) (a : V)
      → Ends used x (Ok None) → true ≡ is_fresh (reading_of r fs ss)
      → EndedSo leads (told fs ss) used (end_ready g l used (reading_of r fs ss) x) (Ok false) a a
  ready_fresh g l used (Ok None) r fs ss a h fresh = (
    ap (λ (x : Bool). if x then Ok None else cut_short used) (sym fresh),
    hears_none leads (heard (told fs ss)) [] a (sym (ap heard (fresh_told r fs ss (sym fresh)))),
  )
  ready_fresh g l used (Ok (Some x)) r fs ss a h fresh = absurd h
  ready_fresh g l used (Err e) r fs ss a h fresh = absurd h

  pub ready_cut : (g : Catalog) (l : Limits) (used : ℕ) (x : Result (Option Lexeme) Reason) (r : TextWalk) (fs : List Frame) (ss : Symbols) (a : V)
      → Ends used x (Ok None) → false ≡ is_fresh (reading_of r fs ss)
      → EndedSo leads (told fs ss) used (end_ready g l used (reading_of r fs ss) x) (Err Reason.Incomplete) a a
  ready_cut g l used (Ok None) r fs ss a h cut = λ _. ap (λ (x : Bool). if x then Ok None else cut_short used) (sym cut)
  ready_cut g l used _ r fs ss a h cut = absurd h
