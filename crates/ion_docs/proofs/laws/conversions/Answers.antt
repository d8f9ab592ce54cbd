use Rattle.ion_docs.specs.Names.{encoding_of}
use Rattle.ion_docs.specs.laws.Conversion.{again_denotes}
use Rattle.ion_docs.proofs.Converses.{conversion_denotes, conversion_equivalent, conversion_is, one_conversion}
use Rattle.ion_docs.proofs.laws.conversions.Goals as goal

pub returns : goal.returns
returns c = record {
  exact = λ target g k u w values texts octets. conversion_is g k (encoding_of target) u (λ s d. again_denotes target g k u s texts octets d) w values;
  one = λ target g k u. one_conversion g k (encoding_of target) u;
  same = λ target g h k m u w values s. λ conversion denotes fits. conversion_denotes g k (encoding_of target) u w values s conversion denotes h m fits;
  equivalent = λ target g k u. conversion_equivalent g k (encoding_of target) u c.equivalence.ensures.reflexive;
}
