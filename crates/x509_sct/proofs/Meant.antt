-- What was made is what is read.
use Rattle.std.proofs.Common.{◌≡◌, ℕ, ◌≤◌, List, [], ◌++◌, length, refl, sym, ap, ◌∙◌, arith}
use Rattle.x509_der.specs.ContentLaws.{content_fits}
use Rattle.x509_der.specs.Form.{Spells as IsDer, spelling}
use Rattle.x509_sct.specs.Form.{Form, IsForm, Spells}
use Rattle.x509_sct.specs.Uniqueness.{one_front}
use Rattle.x509_sct.specs.Payload.{signed_certificate_timestamp_list}
use Rattle.x509_sct.specs.TimestampList.{IsTimestampList}
use Rattle.x509_sct.specs.declared.list.SignedCertificateTimestampList.{SignedCertificateTimestampList}
use Rattle.x509_sct.specs.declared.serialized.SerializedSct.{SerializedSct}

pub one_value : {X : Type 0} (form : Form X) → IsForm form → (v w : X) (bytes : List ℕ) → Spells form v bytes → Spells form w bytes → v ≡ w
one_value form h v w bytes s t = (one_front form h v w [] [] s.0 t.0 (ap (λ (x : List ℕ). x ++ []) (sym s.1 ∙ t.1))).0

-- a list of timestamps is never too long for an OCTET STRING
pub list_is_spelled : (list : SignedCertificateTimestampList) (made : List SerializedSct) → IsTimestampList made list.0 → IsDer signed_certificate_timestamp_list list (spelling signed_certificate_timestamp_list list)
list_is_spelled list made is =
    let short : length list.0 ≤ 268435449 = omega (arith, is.1.0, ap length is.1.1) in
    (tt, refl, content_fits list.0 short 4)
