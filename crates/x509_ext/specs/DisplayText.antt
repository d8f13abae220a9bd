-- DisplayText: IA5String / VisibleString / BMPString / UTF8String (RFC 5280 4.2.1.4)
use Rattle.std.specs.Prelude.{refl}
use Rattle.x509_der.specs.declared.error.ErrorKind.{ErrorKind}
use Rattle.x509_der.specs.Form.{Form, IsForm}
use Rattle.x509_der.specs.Cases.{Cases, ◌∥◌, ◌holds◌, none, CaseOf, choice, choice_lawful}
use Rattle.x509_prim.specs.Texts.{ia5_string, ia5_string_lawful, visible_string, visible_string_lawful, bmp_string, bmp_string_lawful, utf8_string, utf8_string_lawful}
use Rattle.x509_ext.specs.declared.pkix.display_text.DisplayText.{DisplayText}
use Rattle.x509_ext.specs.declared.pkix.display_text.DisplayText.TheVariants.{Ia5String, VisibleString, BmpString, Utf8String}

abbrev pub display_cases : Cases DisplayText
display_cases = Ia5String holds ia5_string ∥ VisibleString holds visible_string ∥ BmpString holds bmp_string ∥ Utf8String holds utf8_string ∥ none

abbrev pub display_case : (v : DisplayText) → CaseOf display_cases v
display_case (Ia5String text) = (0, (text, refl))
display_case (VisibleString text) = (1, (text, refl))
display_case (BmpString octets) = (2, (octets, refl))
display_case (Utf8String text) = (3, (text, refl))

abbrev pub display_text : Form DisplayText
display_text = choice display_cases display_case

pub display_text_lawful : {R : ErrorKind → Type 0} → IsForm R display_text
display_text_lawful = choice_lawful display_cases display_case refl (
  (ia5_string_lawful, λ x. refl),
  ((visible_string_lawful, λ x. refl), ((bmp_string_lawful, λ x. refl), ((utf8_string_lawful, λ x. refl), tt))),
)
