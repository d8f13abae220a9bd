-- OCTET STRING: any octets, as they are (X.690 8.7).
use Rattle.std.specs.Prelude.{ℕ, List, Ok, refl}
use Rattle.x509_der.specs.declared.error.ErrorKind.{ErrorKind}
use Rattle.x509_der.specs.declared.tag.Tag.TheVariants as tags
use Rattle.x509_der.specs.Form.{Form, IsForm, Contents, IsContents, universal}
use Rattle.x509_der.specs.FormLaws.{universal_lawful}
use Rattle.x509_der.specs.OutcomeLaws.{ok_is}
use Rattle.x509_der.specs.Writing.{plain, writes}
use Rattle.x509_der.specs.Order.{IsOrder}
use Rattle.x509_der.specs.Ordered.{by_bytes, by_bytes_lawful}

-- a value is the list of its octets
abbrev pub octet_string_contents : Contents (List ℕ)
octet_string_contents = record { octets = λ octets. octets; good = λ octets. Unit {0}; reading = λ bytes. Ok bytes }

abbrev pub octet_string : Form (List ℕ)
octet_string = universal tags.OctetString octet_string_contents

pub octet_string_contents_lawful : {R : ErrorKind → Type 0} → IsContents R octet_string_contents
octet_string_contents_lawful = record { sound = λ bytes value e. (tt, ok_is bytes value e); complete = λ value good. refl; refused = λ bytes e r. absurd cc }

pub octet_string_lawful : {R : ErrorKind → Type 0} → IsForm R octet_string
octet_string_lawful = universal_lawful tags.OctetString octet_string_contents octet_string_contents_lawful

pub octet_string_ordered : IsOrder octet_string (writes plain) (by_bytes octet_string)
octet_string_ordered = by_bytes_lawful octet_string (writes plain) (λ x y p q. q)
