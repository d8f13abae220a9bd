use Rattle.std.proofs.Common.{◌∙◌, sym, ap}
use Rattle.x509_trust.specs.Peers.{asked_above}
use Rattle.x509_trust.proofs.Asked.{front}
use Rattle.x509_trust.proofs.search.above_last.Goals as goal

pub returns-in-Path-len1-up : goal.returns-in-Path-len1-up
returns-in-Path-len1-up c = λ above leaf is. front c.args.path.now above leaf is ∙ sym (ap (λ s. asked_above s above) c.in-Path-len1-up.is-0)
