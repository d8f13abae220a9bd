use Rattle.std.proofs.Common.{◌∙◌, None, sym}
use Rattle.x509_object_run.proofs.ContentInfo.{absent, none_joined, optional_read}
use Rattle.x509_object_run.proofs.signed_data.take_elements.Goals as goal

pub returns-then-not-begins : goal.returns-then-not-begins
returns-then-not-begins c = (None, absent c.args.identifier c.args.rest.now.now (sym c.begins.ensures ∙ c.if-not-begins.true), none_joined)

pub returns : goal.returns
returns c = optional_read (λ octets. octets.now) c.take_present.result c.args.identifier c.args.rest.now.now _ (sym c.begins.ensures ∙ c.if-not-begins.false) c.take_present.ensures
