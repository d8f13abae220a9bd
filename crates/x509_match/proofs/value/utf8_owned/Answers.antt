use Rattle.std.proofs.Common.{◌∙◌}
use Rattle.x509_match.proofs.Values.{utf8_owned}
use Rattle.x509_match.proofs.value.utf8_owned.Goals as goal

pub returns : goal.returns
returns c = let k = c.in-Some.ensures.some in utf8_owned _ _ k.1 (c.in_ok-owned.ensures.ok ∙ k.0)
