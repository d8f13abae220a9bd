use Rattle.x509_path.proofs.SignaturesApart.{apart}
use Rattle.x509_path.proofs.laws.signatures_may_be_verified_apart.Goals as goal

pub returns : goal.returns
returns c = λ accepts moment anchor inputs. apart moment (λ v bytes spells. (_, c.signed_bytes_spell_the_signed_part.ensures.found v bytes spells)) accepts anchor inputs
