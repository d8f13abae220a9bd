use Rattle.std.proofs.Common.{◌∙◌}
use Rattle.x509_der.specs.TagReading.{same_tag}
use Rattle.x509_der.specs.declared.tag.Tag.TheVariants.{Sequence}
use Rattle.x509_cert.proofs.SignedParts.{begins_otherwise}
use Rattle.x509_cert.proofs.signed.slice.take_sequence.Goals as goal

pub returns-in_default-clause-none : goal.returns-in_default-clause-none
returns-in_default-clause-none c = c.in_default.ensures.err.1 Sequence

pub returns-in_default-tag : goal.returns-in_default-tag
returns-in_default-tag c = record {
  some = tt;
  none = λ content rest e. begins_otherwise _ _ _ _ content rest c.in-Ok.ensures.ok (λ is. c.in_default-tag.not-Sequence (c.tag.ensures ∙ same_tag _ Sequence is)) e;
}
