-- What a walk did is what it answers.
use Rattle.std.proofs.Common.{◌≡◌, ℕ, Bool, true, false, List, length, Option, Some, None, Ok, Err, refl, ap, subst, sym}
use Rattle.std.proofs.lemmas.Bool.{false≢true}
use Rattle.std.specs.Prelude.{IfSome}
use Rattle.std.specs.Option.{is_some}
use Rattle.ion_symtab.specs.Names.Below.{Event, Refusal, Value}
use Rattle.ion_symtab.specs.declared.items.Walked.{Walked}
use Rattle.ion_symtab.specs.Steps.{StepsOver}
use Rattle.ion_symtab.specs.Trace.{Trace}
use Rattle.ion_symtab.specs.Walks.{DoesWalk, Telling, WalksOn, if_ended}

pub not_failed : (x : Option Refusal) → is_some x ≡ false → x ≡ None
not_failed None h = refl
not_failed (Some r) h = absurd (false≢true (sym h))

pub none_failed : (x : Option Refusal) (P : Refusal → Type 0) → is_some x ≡ false → IfSome x P
none_failed x P h = subst (λ (y : Option Refusal). IfSome y P) (sym (not_failed x h)) tt

module _ {X V : Type 0} (takes : V → Event → V → Type 0) (taken pending : X → ℕ) (awaits : X → Option ℕ) (failed : X → Option Refusal)
    (told : Telling X) (trace : List ℕ → Trace) (old new : X) (piece : List ℕ) (a b : V) (fresh : is_some (failed old) ≡ false) (w : Walked)
    (leaves : StepsOver taken pending awaits failed old new piece w.used (if_ended w.ended))
    (tells : (u : List ℕ) (s : List (Value × ℕ)) (es : List Event) → told old u s es → WalksOn takes told u s es piece w.used w.ended new a b) where
  abbrev Walks : ℕ → Bool → Type 0
  Walks used ended = DoesWalk takes taken pending awaits failed told trace old new piece (Ok (record { used = used; ended = ended })) a b

  walked : Walks w.used w.ended
  walked = record {
    leaves = leaves;
    tells = tells;
    answers = tt;
    refuses = tt;
    again = none_failed (failed old) (λ refusal. Ok w ≡ Err refusal) fresh;
  }

  pub went_to_end : w.ended ≡ true → Walks w.used true
  went_to_end e = subst (λ (t : Bool). Walks w.used t) e walked

  -- without a value it used the whole piece
  pub went_over : w.ended ≡ false → Walks (length piece) false
  went_over e = subst (λ (n : ℕ). Walks n false) (leaves.uses_all (ap if_ended e)) (subst (λ (t : Bool). Walks w.used t) e walked)
