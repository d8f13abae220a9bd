-- RevokedCert: serial_number: SerialNumber, revocation_date: Time, crl_entry_extensions: Extensions? (RFC 5280 5.1)
use Rattle.std.specs.Prelude.{ℕ, List, Option, Result, refl}
use Rattle.x509_base.specs.Checked.{CheckRefuses}
use Rattle.x509_base.specs.Serial.{serial_number, serial_number_lawful}
use Rattle.x509_base.specs.Time.{time, time_lawful}
use Rattle.x509_base.specs.declared.time.Time.{Time}
use Rattle.x509_cert.specs.declared.crl.revoked_cert.RevokedCert.{RevokedCert}
use Rattle.x509_der.specs.declared.error.ErrorKind.{ErrorKind}
use Rattle.x509_der.specs.declared.tag.Tag.TheVariants.{Sequence}
use Rattle.x509_der.specs.Frames.{Part, required, optional, ◌⊗◌, fields}
use Rattle.x509_der.specs.PartRules.{part_rules}
use Rattle.x509_der.specs.Form.{Form, IsForm, Contents, IsContents, universal}
use Rattle.x509_der.specs.FormLaws.{universal_lawful}
use Rattle.x509_ext.specs.Extension.{extensions, extensions_lawful, extensions_order, extensions_ordered}
use Rattle.x509_ext.specs.declared.extension.Extension.{Extension}
use Rattle.x509_der.specs.Writing.{plain, writes}
use Rattle.x509_der.specs.Order.{Order, IsOrder}
use Rattle.x509_der.specs.Ordered.{by_bytes}
use Rattle.x509_der.specs.PartOrder.{PartOrder, by_parts, by_required, by_optional, ◌⊕◌, plain_parts_ordered}
use Rattle.x509_der.specs.OrderRules.{order_rules}
use Rattle.x509_base.specs.SerialOrder.{serial_ordered}
use Rattle.x509_base.specs.TimeOrder.{time_begins, time_order, time_ordered}

unfoldable pub revoked_cert_fields : (List ℕ → Result Unit ErrorKind) → Part (List ℕ × (Time × Option (List Extension)))
revoked_cert_fields check = required (serial_number check) ⊗ (required time ⊗ optional extensions)

abbrev pub revoked_cert_contents : {P : Type 0} → (List ℕ → Result Unit ErrorKind) → Contents (RevokedCert P)
revoked_cert_contents check = fields (λ r. (r.serial_number, (r.revocation_date, r.crl_entry_extensions))) (λ (serial_number, (revocation_date, crl_entry_extensions)). record { serial_number = serial_number; revocation_date = revocation_date; crl_entry_extensions = crl_entry_extensions }) (revoked_cert_fields check)

abbrev pub revoked_cert : {P : Type 0} → (List ℕ → Result Unit ErrorKind) → Form (RevokedCert P)
revoked_cert check = universal Sequence (revoked_cert_contents check)

pub revoked_cert_contents_lawful : {P : Type 0} (check : List ℕ → Result Unit ErrorKind) → IsContents (CheckRefuses check) (revoked_cert_contents {P = P} check)
unfolding revoked_cert_fields
revoked_cert_contents_lawful check = search (part_rules, serial_number_lawful, time_lawful, extensions_lawful) depth 20

pub revoked_cert_lawful : {P : Type 0} (check : List ℕ → Result Unit ErrorKind) → IsForm (CheckRefuses check) (revoked_cert {P = P} check)
revoked_cert_lawful check = universal_lawful Sequence (revoked_cert_contents check) (revoked_cert_contents_lawful check)

-- ---- the byte order

abbrev pub revoked_cert_cmp : (List ℕ → Result Unit ErrorKind) → PartOrder (List ℕ × (Time × Option (List Extension)))
revoked_cert_cmp check =
    by_required (serial_number check) plain (by_bytes (serial_number check)) ⊕ (by_required time plain time_order
    ⊕ by_optional extensions plain extensions_order)

abbrev pub revoked_cert_order : {P : Type 0} → (List ℕ → Result Unit ErrorKind) → Order (RevokedCert P)
revoked_cert_order check = by_parts
    (λ r. (r.serial_number, (r.revocation_date, r.crl_entry_extensions)))
    (revoked_cert_cmp check)

pub revoked_cert_ordered : {P : Type 0} (check : List ℕ → Result Unit ErrorKind)
    → IsOrder (revoked_cert {P = P} check) (writes plain) (revoked_cert_order check)
unfolding revoked_cert_fields
revoked_cert_ordered check = plain_parts_ordered Sequence _ _ (revoked_cert_cmp check) (λ v. refl) refl
    (search (order_rules, serial_ordered, time_begins, time_ordered, extensions_ordered) depth 20)
