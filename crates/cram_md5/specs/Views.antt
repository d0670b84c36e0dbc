-- What contracts see of an `Offer`.
use Rattle.cram_md5.specs.Offer.{Offered, Absent, Md5, Foreign, Bad}
use Rattle.cram_md5.specs.declared.offer.Offer.{Offer}
use Rattle.cram_md5.specs.declared.offer.Offer.TheVariants as code

abbrev pub offered : Offer → Offered
offered code.Absent = Absent
offered (code.Md5 challenge) = Md5 challenge.list
offered code.Foreign = Foreign
offered code.Bad = Bad
