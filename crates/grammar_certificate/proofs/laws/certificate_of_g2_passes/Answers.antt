use Rattle.llp_tables.specs.CertificateOfG2.{certificate_of_g2}
use Rattle.grammar_certificate.proofs.Parts.{whole_of}
use Rattle.grammar_certificate.proofs.laws.certificate_of_g2_passes.Goals as goal

pub returns : goal.returns
returns c = λ g is long. whole_of certificate_of_g2 g (c.certificate_of_g2_is_accepted.ensures g is long)
