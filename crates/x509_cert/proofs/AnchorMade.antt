-- Trust anchors that a program made, under each profile.
use Rattle.std.specs.Prelude.{◌≡◌, ℕ, ◌≤◌, List, length, Ok}
use Rattle.x509_base.specs.Profiles.{rfc5280_serial_number}
use Rattle.x509_cert.specs.AnchorMade.{MadeAnchor}
use Rattle.x509_cert.specs.declared.anchor.trust_anchor_choice.TrustAnchorChoice.{TrustAnchorChoice}
use Rattle.x509_cert.specs.declared.anchor.trust_anchor_choice.TrustAnchorChoice.TheVariants.{Certificate, TbsCertificate, TaInfo}
use Rattle.x509_cert.proofs.Serials.{few_octets_stand}

-- where all serial numbers of the one kind are of the other
made_by : {P : Type 0} (stands others : List ℕ → Type 0) → ((serial : List ℕ) → stands serial → others serial) → (anchor : TrustAnchorChoice P) → MadeAnchor stands anchor → MadeAnchor others anchor
made_by stands others so (Certificate whole) made = so _ made
made_by stands others so (TbsCertificate signed) made = so _ made
made_by stands others so (TaInfo info) made = λ controls is. ((λ certificate has. so _ ((made controls is).0 certificate has)), (made controls is).1)

pub made_for_rfc5280 : {P : Type 0} (anchor : TrustAnchorChoice P) → MadeAnchor (λ serial. length serial ≤ 21) anchor → MadeAnchor (λ serial. rfc5280_serial_number serial ≡ Ok tt) anchor
made_for_rfc5280 = made_by _ _ few_octets_stand
