-- The texts of user notices.
use Rattle.std.proofs.Common.{◌≡◌, true, refl}
use Rattle.x509_der.specs.Cases.{choice_tag}
use Rattle.x509_der.specs.Element.{is_identifier, is_universal}
use Rattle.x509_ext.specs.DisplayText.{display_text}
use Rattle.x509_ext.specs.declared.pkix.display_text.DisplayText.{DisplayText}
use Rattle.x509_ext.specs.declared.pkix.display_text.DisplayText.TheVariants.{Ia5String}

pub is_display : (v : DisplayText) → is_identifier (display_text.tag v) ≡ true
unfolding choice_tag is_identifier is_universal
is_display (Ia5String text) = refl
is_display _ = refl
