use Rattle.x509_validation.proofs.VerifiedApart.{verified_apart}
use Rattle.x509_validation.proofs.laws.signatures_of_validated_paths_may_be_verified_apart.Goals as goal

pub returns : goal.returns
returns c = λ accepts inputs path. verified_apart inputs (λ v bytes spells. (_, c.signed_bytes_spell_the_signed_part.ensures.found v bytes spells)) accepts path
