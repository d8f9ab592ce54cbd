-- What went out where a write or a flush may have failed.
use Rattle.std.proofs.Common.{◌≡◌, ℕ, List, [], Bool, true, false, Result, Ok, Err, IfOk, IfErr, OnOk, OnErr, is_ok, sym, ◌∙◌}
use Rattle.ion_symtab.specs.Took.{Took}
use Rattle.ion_symtab.specs.laws.Took.{Took-kept, Front-all}
use Rattle.ion_symtab.specs.declared.outlet.Outlet.{Ghosts as Outlet}
use Rattle.ion_run.specs.Lines.{Reports}

not_both : {P : Type 0} (b : Bool) → b ≡ true → b ≡ false → P
not_both b h k = let e : true ≡ false = sym h ∙ k in absurd cc

module _ {T : Type 0} (W : Outlet T) where
  -- the whole of the line, passed on unless the device has failed
  pub Reports-written : {A E : Type 0} (old mid new : T) (line : List ℕ) (result : Result A E) → Took W.took W.written old mid line
      → Took W.took W.written mid new [] → OnOk result (W.passed new ≡ W.written new) → OnErr result (W.has_failed new ≡ true) →
      Reports W old new line
  Reports-written old mid new line (Ok value) whole kept passed fails =
      record {
        front = Front-all W.took W.written old mid new line whole kept;
        whole = λ _. Took-kept W.took W.written old mid new line whole kept;
        passed_on = λ _. passed;
      }
  Reports-written old mid new line (Err error) whole kept passed fails = record {
    front = Front-all W.took W.written old mid new line whole kept;
    whole = λ works. not_both _ fails works;
    passed_on = λ works. not_both _ fails works;
  }

-- what is so where a result is good is so of a good result
pub when_ok : {A E : Type 0} (result : Result A E) (P : Type 0) → is_ok result ≡ true → OnOk result P → P
when_ok (Ok value) P is h = h
when_ok (Err error) P is h = absurd cc

-- what is so anyway is so where a result is an error
pub on_err : {A E P : Type 0} (result : Result A E) → P → OnErr result P
on_err (Ok value) h = tt
on_err (Err error) h = h

-- two facts of one answer
pub ok_both : {A E Q : Type 0} {P R : A → Type 0} (result : Result A E) → ((value : A) → P value → Q → R value) → IfOk result P → OnOk result Q → IfOk result R
ok_both (Ok value) f p q = f value p q
ok_both (Err error) f p q = tt

-- what follows from two facts for each error follows for the one that a result is
pub err_both : {A E : Type 0} {P Q R : E → Type 0} (result : Result A E) → ((error : E) → P error → Q error → R error) → IfErr result P → IfErr result Q
    → IfErr result R
err_both (Ok value) f p q = tt
err_both (Err error) f p q = f error p q
