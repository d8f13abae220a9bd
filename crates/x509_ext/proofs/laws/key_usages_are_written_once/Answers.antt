use Rattle.x509_der.specs.Round.{round_stable}
use Rattle.x509_ext.specs.KeyUsage.{key_usage_names, key_usage_round, key_usage_set}
use Rattle.x509_prim.specs.NamedBitsLaws.{flag_stable}
use Rattle.x509_ext.proofs.laws.key_usages_are_written_once.Goals as goal

pub returns-clause-usages : goal.returns-clause-usages
returns-clause-usages c = flag_stable key_usage_set key_usage_names

pub returns-clause-extension : goal.returns-clause-extension
returns-clause-extension c = round_stable key_usage_round _ (flag_stable key_usage_set key_usage_names)
