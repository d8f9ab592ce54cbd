use Rattle.ion_text.specs.laws.writing.RoundTrip.{round_trip, value_alone}
use Rattle.ion_text.specs.laws.reading.ValuesKept.{written_again}
use Rattle.ion_text.proofs.laws.round_trip.Goals as goal

pub returns : goal.returns
returns c = record {
  written = round_trip;
  again = λ g h l m u s texts document fits. written_again g l texts h m u s document fits;
  value = value_alone;
}
