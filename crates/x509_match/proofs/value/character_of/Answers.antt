use Rattle.x509_match.proofs.Values.{some_character}
use Rattle.x509_match.proofs.value.character_of.Goals as goal

pub returns : goal.returns
returns c = some_character _ _ c.from_u32.ensures.value c.from_u32.ensures.cases
