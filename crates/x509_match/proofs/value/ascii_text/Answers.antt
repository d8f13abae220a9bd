use Rattle.std.proofs.Common.{◌∙◌}
use Rattle.x509_match.proofs.Values.{ascii_owned}
use Rattle.x509_match.proofs.value.ascii_text.Goals as goal

pub returns : goal.returns
returns c = let k = c.in-Some.ensures.some in ascii_owned _ _ k.1 (c.in_ok-owned.ensures.ok ∙ k.0)
