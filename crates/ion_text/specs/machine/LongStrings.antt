-- Long strings at the front of octets: segments, each with a blank behind it.
use Rattle.std.specs.Prelude.{◌≡◌, ℕ, ◌+◌, ◌==◌, ◌&&◌, ◌<◌, ◌≤◌, Bool, true, false, not, List, ◌++◌, length, drop, get_or, Ok}
use Rattle.ion_text.specs.Names.{Catalog, Frame, IsFound, IsPassed, LeadsTo, Limits, Long, Place, Rest, Slot, Stage, Symbols, TokenKind, begun_at, ends_symbol, past_blank, past_token, place_in, rested, said}

-- the octet shows that no segment of a long string follows: it is no blank and no quote, and begins no colon and no comment
abbrev pub ends_long : ℕ → Bool
ends_long o = ends_symbol o && not (o == 39)

-- in this place octets begin with a segment of so many octets, which was joined to a text
pub record JoinedSegment (p : Place) (r : Rest) (octets : List ℕ) (size : ℕ) (old new : List ℕ) : Type 0 where
  pub kept : List ℕ
  pub more : List ℕ
  pub found : IsFound p r octets TokenKind.LongString kept size false
  pub says : said TokenKind.LongString kept ≡ Ok (Long more)
  pub joined : new ≡ old ++ more

-- the same with a blank behind it, so many octets together, behind which the scanner rests there
pub record PassedSegment (p : Place) (before : Rest) (octets : List ℕ) (count : ℕ) (after : Rest) (old new : List ℕ) : Type 0 where
  pub size : ℕ
  pub blank : ℕ
  pub segment : JoinedSegment p before octets size old new
  pub passed : IsPassed (drop size octets) blank
  pub within : count ≤ length octets
  pub total : count ≡ size + blank
  pub rests : after ≡ past_blank (past_token p before TokenKind.LongString size) blank

-- where a value may come in such a place, so many octets lead to where a long string of this text waits for more
pub record LongSoFar (p : Place) (before : Rest) (octets : List ℕ) (count : ℕ) (after : Rest) (text : List ℕ) : Type 0 where
  pub leads : (g : Catalog) (l : Limits) (start : ℕ) (c : List Slot) (ss : Symbols) (fs : List Frame) → place_in fs Stage.Ready ≡ p
      → before.used + length octets ≤ l.item + begun_at start before.used fs ss
      → (end : ℕ) × (end ≤ after.used) × LeadsTo g l (rested before start c fs ss Stage.Ready) octets count
      (rested after (begun_at start before.used fs ss) c fs ss (Stage.Long text end))
  pub some : 0 < count
  pub within : count ≤ length octets
  pub used : after.used ≡ before.used + count

-- and the octet behind them shows that no segment follows
pub record LongThere (p : Place) (before : Rest) (octets : List ℕ) (count : ℕ) (after : Rest) (text : List ℕ) : Type 0 where
  pub segments : LongSoFar p before octets count after text
  pub more : count < length octets
  pub ends : ends_long (get_or octets count 0) ≡ true
