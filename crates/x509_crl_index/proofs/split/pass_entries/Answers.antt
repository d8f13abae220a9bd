use Rattle.x509_crl_index.specs.Split.{read_entries}
use Rattle.x509_crl_index.proofs.Passed.{passed}
use Rattle.x509_crl_index.proofs.split.pass_entries.Goals as goal

pub returns : goal.returns
returns c = passed c.check_members.result (read_entries c.args.octets.now) c.check_members.ensures
