use Rattle.std.proofs.Common.{ap}
use Rattle.x509_sct.specs.SignedInput.{signed_input, signed_input_lawful, signed_of}
use Rattle.x509_sct.proofs.Meant.{one_value}
use Rattle.x509_sct.proofs.laws.signed_input_tells_what_is_signed.Goals as goal

pub returns : goal.returns
returns c = λ made found entry other bytes s t.
    let same = one_value signed_input signed_input_lawful (signed_of found other) (signed_of made entry) bytes t s in
    (ap (λ x. x.0) same, ap (λ x. x.1.1.0) same, ap (λ x. x.1.1.1.0) same, ap (λ x. x.1.1.1.1) same)
