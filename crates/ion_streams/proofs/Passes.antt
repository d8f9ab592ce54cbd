-- What a document gave that is read value by value.
use Rattle.std.proofs.Common.{◌≡◌, ℕ, List, ◌++◌, Result, Ok, Err, IfOk, IfErr, Option, Some, None, option_map, option_to_list, ap, sym, subst, ◌∙◌, append-nil}
use Rattle.ion_streams.specs.Names.{Catalog, Ended, Fault, GaveNext, IfClosed, IfRefused, Inlet, Items, Limits, Open, PieceReader, ReadState, Refused, Stood, StoodEach, Value, Went, left_of}
use Rattle.ion_streams.proofs.Steps.{plain_next, stood_plain}

-- where there was no value
pub none_went : {X : Type 0} (I : Items X) (source after : PieceReader X) (found : Option Value) → found ≡ None
    → ((u : List ℕ) (given : List (Value × ℕ)) → I.stands source.items u given → Went I u given (left_of source) after found)
    → (u : List ℕ) (given : List (Value × ℕ)) → I.stands source.items u given → Went I u given (left_of source) after None
none_went I source after found e go u given h = subst (Went I u given (left_of source) after) e (go u given h)

module _ {S X : Type 0} (R : Inlet S) (I : Items X) (g : Catalog) (l : Limits) where
  -- the end gave the last
  pub gave_last : (first now : S) (place : ReadState X) (given : List (Value × ℕ)) (last : Option (Value × ℕ)) → IfRefused place (last ≡ None)
      → StoodEach R I g l first now place (given ++ option_to_list last) →
      GaveNext R I g l first now place given last
  gave_last first now place given None none h = subst (λ (x : List (Value × ℕ)). StoodEach R I g l first now place x) (append-nil given) h
  gave_last first now (Refused refusal) given (Some next) none h = absurd cc
  gave_last first now _ given (Some next) none h = (h, tt)

  -- no more was found
  pub gave_none : (first now : S) (place : ReadState X) (given : List (Value × ℕ)) (found : Option (Value × ℕ)) → found ≡ None
      → GaveNext R I g l first now place given found → StoodEach R I g l first now place given
  gave_none first now place given None none h = h
  gave_none first now place given (Some next) none h = absurd cc

  -- the values alone
  gave_all : (first now : S) (place : ReadState X) (given : List (Value × ℕ)) (found : Option (Value × ℕ))
      → GaveNext R I g l first now place given found → StoodEach R I g l first now place (given ++ option_to_list found)
  gave_all first now place given None h = subst (λ (x : List (Value × ℕ)). StoodEach R I g l first now place x) (sym (append-nil given)) h
  gave_all first now place given (Some found) h = h.0

  stays_plain : (first old now : S) (place after : ReadState X) (s : List Value) (value : Option Value) → value ≡ None → now ≡ old → after ≡ place
      → Stood R I g l first old place s → Stood R I g l first now after (s ++ option_to_list value)
  stays_plain first old now place after s value none same kept h = rw (none, same, kept, append-nil s) h

  -- a document that was read on gave what was found behind the values before
  pub stood_next : (first old now : S) (place after : ReadState X) (s : List Value) (found : Option (Value × ℕ)) (value : Option Value)
      → value ≡ option_map (λ (x : Value × ℕ). x.0) found →
      IfClosed place ((◌≡◌ {A = Result (Option (Value × ℕ)) Fault} (Ok found) (Ok None)) × (now ≡ old) × (after ≡ place)) →
      ((given : List (Value × ℕ)) → StoodEach R I g l first old place given → GaveNext R I g l first now after given found)
      → Stood R I g l first old place s → Stood R I g l first now after (s ++ option_to_list value)
  stood_next first old now (Open source) after s found value is closed gives h =
      subst (λ (x : List Value). Stood R I g l first now after x) (plain_next h.given found value s h.values (sym is))
      (stood_plain R I g l first now after (h.given ++ option_to_list found) (gave_all first now after h.given found (gives h.given h.each)))
  stood_next first old now Ended after s found value is closed gives h =
      let none : found ≡ None = let e = closed.0 in cc in
      stays_plain first old now Ended after s value (is ∙ ap (option_map (λ (x : Value × ℕ). x.0)) none) closed.1 closed.2 h
  stood_next first old now (Refused refusal) after s found value is closed gives h =
      let none : found ≡ None = let e = closed.0 in cc in
      stays_plain first old now (Refused refusal) after s value (is ∙ ap (option_map (λ (x : Value × ℕ). x.0)) none) closed.1 closed.2 h

  -- a document that gave a value isn't refused
  pub not_refused : (first old now : S) (place after : ReadState X) (s : List Value) (found : Value × ℕ)
      → IfClosed place ((◌≡◌ {A = Result (Option (Value × ℕ)) Fault} (Ok (Some found)) (Ok None)) × (now ≡ old) × (after ≡ place)) →
      ((given : List (Value × ℕ)) → StoodEach R I g l first old place given → GaveNext R I g l first now after given (Some found))
      → Stood R I g l first old place s → IfRefused after ⊥
  not_refused first old now (Open source) after s found closed gives h = (gives h.given h.each).1
  not_refused first old now _ after s found closed gives h = let e = closed.0 in absurd cc

-- what follows for an answer that isn't known

-- of an answer `Ok` what follows from what is known of it
pub ok_by : {A E : Type 0} (result : Result A E) (P Q : A → Type 0) → ((a : A) → P a → Q a) → IfOk result P → IfOk result Q
ok_by (Ok a) P Q go h = go a h
ok_by (Err e) P Q go h = h

-- of a fault or a refusal what follows from what is known of it
pub err_by : {A E : Type 0} (result : Result A E) (P Q : E → Type 0) → ((e : E) → P e → Q e) → IfErr result P → IfErr result Q
err_by (Ok a) P Q go h = h
err_by (Err e) P Q go h = go e h
