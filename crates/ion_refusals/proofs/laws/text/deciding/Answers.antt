use Rattle.ion_refusals.proofs.deciding.AtEnd.{end_deciding}
use Rattle.ion_refusals.proofs.deciding.EndStopped.{end_refuses}
use Rattle.ion_refusals.proofs.deciding.Octets as octets
use Rattle.ion_refusals.proofs.deciding.OneEnd.{no_octet, one_end}
use Rattle.ion_refusals.proofs.deciding.OneOctet.{one_octet}
use Rattle.ion_refusals.proofs.deciding.Rows as rows
use Rattle.ion_refusals.proofs.laws.text.deciding.Goals as goal

pub returns : goal.returns
returns c = record {
  octet = octets.deciding;
  end = end_deciding;
  one_octet = one_octet;
  refuses = rows.refuses;
  ends = end_refuses;
  one_end = one_end;
  no_octet = no_octet;
  no_document = rows.no_document;
  none_ends = rows.none_ends;
}
