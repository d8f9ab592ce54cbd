-- What C is told of a call.
use Rattle.std.specs.Prelude.{◌≡◌, nat_le, ℕ, List, ◌++◌, length, drop, if◌then◌else◌}
use Rattle.ion_memory.specs.Endings.{status_of, number_of, whose_of, reason_of}
use Rattle.ion_memory.specs.declared.ending.Ending.{Ending}
use Rattle.ion_memory.specs.Outcomes.{IsOutcome, IsCompared, IsRight}
use Rattle.ion_c.specs.declared.Options.{Options}
use Rattle.ion_c.specs.declared.pairs.Pair.{Pair}
use Rattle.ion_c.specs.declared.answer.Answer.{Answer}

-- a buffer that has room for all of the octets, with them at its front; any other as it was
abbrev pub laid : List ℕ → List ℕ → List ℕ
laid octets buffer = if nat_le (length octets) (length buffer) then octets ++ drop (length octets) buffer else buffer

-- the answer tells this ending, and how many octets its text has
pub record Tells (ending : Ending) (text : List ℕ) (answer : Answer) : Type 0 where
  pub status : answer.status ≡ status_of ending
  pub number : answer.number ≡ number_of ending
  pub whose : answer.whose ≡ whose_of ending
  pub reason : answer.reason ≡ reason_of ending
  pub all : answer.length ≡ length text

-- an answer and a status tell an outcome of this text, which is right under the catalog and the limits that were asked for
abbrev pub IsTold : Options → IsRight → List ℕ → Answer → ℕ → Type 0
IsTold options Right text answer status = (e : Ending) × IsOutcome options.catalog.now options.depth options.item Right e text × Tells e text answer
    × (status ≡ answer.status)

-- a pair's answer is right under the catalog and the limits that were asked for
abbrev pub IsAnsweredPair : List ℕ → ℕ → ℕ → Pair → Answer → Type 0
IsAnsweredPair catalog depth item pair answer = (e : Ending) × (text : List ℕ) × IsOutcome catalog depth item (IsCompared pair.left.now pair.right.now) e text
    × Tells e text answer
