-- How the readers of documents are asked.
use Rattle.std.specs.Prelude.{⊤, ℕ, ◌+◌, ◌*◌, ◌≤◌, List, length}
use Rattle.ion_model.specs.declared.value.Value.{Value}
use Rattle.ion_symtab.specs.declared.inlet.Inlet.{Ghosts as Inlet}
use Rattle.ion_symtab.specs.declared.limits.Limits.{Limits}
use Rattle.ion_streams.specs.Formats.{Format}
use Rattle.ion_streams.specs.InTurn.{AskedWhile, IsInTurn, LeftInTurn}
use Rattle.ion_streams.specs.Outcomes.{AtOneEnd}

-- A reader was asked on only while its octets weren't refused and this was so of the values that they gave, and not behind its end: at most as often as the
-- limits allow, for 4,096 octets each time.
pub record IsAskedWhile {X : Type 0} (R : Inlet X) (F : Format) (l : Limits) (P : List (Value × ℕ) → Type 0) (first now : X) : Type 0 where
  pub at_once : AskedWhile R F first first now P
  pub one_end : AtOneEnd R first now
  pub few_calls : R.calls_made now ≤ R.calls_made first + l.reads
  pub few_octets : length (R.handed now) ≤ length (R.handed first) + 4096 * l.reads

-- it was asked on only while its octets weren't refused
abbrev pub IsAskedSo : {X : Type 0} → Inlet X → Format → Limits → X → X → Type 0
IsAskedSo R F l first now = IsAskedWhile R F l (λ given. ⊤) first now

-- both were asked so, and in turn
pub record AreAskedSo {X Y : Type 0} (L : Inlet X) (R : Inlet Y) (F : Format) (l : Limits) (left left_now : X) (right right_now : Y) : Type 0 where
  pub of_left : IsAskedSo L F l left left_now
  pub of_right : IsAskedSo R F l right right_now
  pub in_turn : IsInTurn L R F F left left_now right right_now
  pub left_in_turn : LeftInTurn L R F F left left_now right right_now
