use Rattle.ion_binary.specs.laws.writing.RoundTrip.{round_trip}
use Rattle.ion_binary.specs.laws.reading.DocumentKept.{written_again}
use Rattle.ion_binary.proofs.laws.round_trip.Goals as goal

pub returns : goal.returns
returns c = record {
  written = round_trip;
  again = λ g h l m u s texts octets document fits. written_again g l texts h m u s octets document fits;
}
