use Rattle.llp_tables.specs.CertificateOfG2.{certificate_of_g2}
use Rattle.llp_tables.proofs.CertificateParts.{accepted_parts}
use Rattle.llp_tables.proofs.laws.certificate_of_g2_is_accepted.Goals as goal

pub returns : goal.returns
returns c =
    accepted_parts certificate_of_g2 _ c.start_passes.ensures c.first_productions_pass.ensures c.second_productions_pass.ensures c.third_productions_pass.ensures
    c.fourth_productions_pass.ensures c.terminals_pass.ensures c.nonterminals_pass.ensures
