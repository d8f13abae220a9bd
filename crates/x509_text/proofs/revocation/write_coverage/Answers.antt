use Rattle.x509_text.specs.Revocation.{coverage_lines}
use Rattle.x509_text.proofs.Written.{three_written}
use Rattle.x509_text.proofs.revocation.write_coverage.Goals as goal

pub returns : goal.returns
unfolding coverage_lines
returns c = three_written c.write_where-3.result _ _ _ _ _ _ _ c.in_ok-write_where.ensures c.in_ok-write_where-2.ensures c.write_where-3.ensures
