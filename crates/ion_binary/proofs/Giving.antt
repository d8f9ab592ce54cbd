-- Values of the top level that were told and ended: given, or local symbol tables.
use Rattle.std.proofs.Common.{◌≡◌, ◌⊎◌, List, [], Bool, true, false, Option, Some, None, Result, Ok, Err, refl, ap, sym, ◌∙◌, inl, inr}
use Rattle.std.specs.Prelude.{if◌then◌else◌}
use Rattle.ion_binary.specs.Names.{BinaryWalk, DoesAlone, Effect, Gives, Goes, Holds, Memory, Ready, Reason, Slot, Value, WasTold, anew, at, deliver, events_of, heard, is_table, machine_of, next, open_containers, setting_of, spot_of, table_of}
use Rattle.ion_symtab.specs.laws.Pruned.{next_pruned}
use Rattle.ion_visiting.specs.Skims.{pruned}
use Rattle.ion_visiting.specs.laws.Filters.{table_told}
use Rattle.ion_visiting.specs.laws.Skims.{table_pruned}

none_of : (b : Bool) (v : Value) → None ≡ (if b then Some v else None) → b ≡ false
none_of false v h = refl
none_of true v h = absurd cc

some_of : (b : Bool) (v t : Value) → Some t ≡ (if b then Some v else None) → b ≡ true
some_of true v t h = refl
some_of false v t h = absurd cc

abbrev value_or : Value → Option Value → Value
value_or v None = v
value_or v (Some w) = w

same_of : (b : Bool) (v t : Value) → Some t ≡ (if b then Some v else None) → t ≡ v
same_of true v t h = ap (value_or t) h
same_of false v t h = absurd cc

-- what is no table is heard
heard_value : (v : Value) → is_table v ≡ false → heard (events_of v) ≡ events_of v
heard_value v plain = rw (table_told v, plain) refl

-- a table isn't
heard_table : (v : Value) → is_table v ≡ true → heard (events_of v) ≡ []
heard_table v named = rw (table_told v, named) refl

-- the table that was taken is one
pub table_is : (v : Value) (taken : Option Value) (t : Value) → taken ≡ Some t → taken ≡ table_of v → is_table t ≡ true
table_is v taken t is h =
    ap is_table (same_of (is_table v) (pruned v) t (sym is ∙ h)) ∙ (table_pruned v ∙ some_of (is_table v) (pruned v) t (sym is ∙ h))

module _ (r new : BinaryWalk) (none : open_containers new ≡ []) (phase : new.phase ≡ Ready) (v : Value) where
  held : WasTold new.filter [] → Holds new []
  held was = record { containers = none; named = tt; open_there = tt; inside = rw phase tt; was_told = was }

  -- it is given
  pub gives_out : (taken : Option Value) → taken ≡ None → (taken ≡ table_of v) × WasTold new.filter []
      → machine_of new [] ≡ at (anew r.used r.context) [] Ready
      → DoesAlone (events_of v) (deliver (setting_of r) (spot_of r) [] v) (Ok Gives) new
  gives_out taken is h machine =
      let plain = none_of (is_table v) (pruned v) (sym is ∙ h.0) in (
        v,
        rw (plain, machine) refl,
        held h.1,
        sym (heard_value v plain),
      )

  -- it changes the context
  pub table_goes : (taken : Option Value) (t : Value) (d : List Slot) → taken ≡ Some t → (taken ≡ table_of v) × WasTold new.filter []
      → (is_table t ≡ true → next r.context t r.catalog.now ≡ Ok d) → machine_of new [] ≡ at (anew r.used d) [] Ready
      → DoesAlone (events_of v) (deliver (setting_of r) (spot_of r) [] v) (Ok Goes) new
  table_goes taken t d is h applied machine =
      let named = some_of (is_table v) (pruned v) t (sym is ∙ h.0) in
      let same = same_of (is_table v) (pruned v) t (sym is ∙ h.0) in (
        [],
        rw (named, ← next_pruned r.context v r.catalog.now, ← same, applied (rw (same, table_pruned v) named), machine) refl,
        held h.1,
        sym (heard_table v named),
      )

-- it is refused
pub table_refused : (r new : BinaryWalk) (v : Value) (taken : Option Value) (t : Value) (reason : Reason) (result : Result Effect Reason) → taken ≡ Some t
    → taken ≡ table_of v → ((reason ≡ Memory) ⊎ (next r.context t r.catalog.now ≡ Err reason)) → result ≡ Err reason
    → DoesAlone (events_of v) (deliver (setting_of r) (spot_of r) [] v) result new
table_refused r new v taken t reason result is h refused err =
    let named = some_of (is_table v) (pruned v) t (sym is ∙ h) in
    let same = same_of (is_table v) (pruned v) t (sym is ∙ h) in
    rw err (λ other. rw (named, ← next_pruned r.context v r.catalog.now, ← same, of_two other refused) refl)
  where
    of_two : ((reason ≡ Memory) → ⊥) → (reason ≡ Memory) ⊎ (next r.context t r.catalog.now ≡ Err reason) → next r.context t r.catalog.now ≡ Err reason
    of_two other (inl m) = absurd (other m)
    of_two other (inr e) = e
