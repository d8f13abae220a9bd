-- CRLs that a program made, under the rules of RFC 5280.
use Rattle.std.proofs.lemmas.List.Elements.{All-weaker}
use Rattle.std.specs.Prelude.{◌≡◌, ◌≤◌, length, Ok}
use Rattle.x509_base.specs.Profiles.{rfc5280_serial_number}
use Rattle.x509_cert.specs.Made.{MadeList}
use Rattle.x509_cert.specs.declared.crl.tbs_cert_list.TbsCertList.{TbsCertList}
use Rattle.x509_cert.proofs.Serials.{few_octets_stand}

pub made_for_rfc5280 : {P : Type 0} (signed : TbsCertList P) → MadeList (λ serial. length serial ≤ 21) signed → MadeList (λ serial. rfc5280_serial_number serial ≡ Ok tt) signed
made_for_rfc5280 signed made revoked is = All-weaker _ _ (λ entry few. few_octets_stand entry.serial_number few) revoked (made revoked is)
