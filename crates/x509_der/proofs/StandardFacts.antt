-- Object identifiers of the standards, computed from the definitions.
use Rattle.std.specs.Prelude.{◌≡◌, [], ◌∷◌, refl, codes}
use Rattle.std.specs.Fmt.{digits}
use Rattle.x509_der.specs.Arcs.{subidentifier, content_of, dotted}
use Rattle.x509_der.specs.ObjectIdentifier.{arcs_of}

-- {joint-iso-itu-t 100 3} (X.690 8.19.5)
pub example_of_x690 : content_of (2 ∷ 100 ∷ 3 ∷ []) ≡ 0x81 ∷ 0x34 ∷ 0x03 ∷ []
unfolding subidentifier
example_of_x690 = refl

-- id-at-countryName (X.520)
pub country_name : content_of (2 ∷ 5 ∷ 4 ∷ 6 ∷ []) ≡ 0x55 ∷ 0x04 ∷ 0x06 ∷ []
unfolding subidentifier
country_name = refl

-- the list of signed certificate timestamps (RFC 6962 3.3)
pub timestamps : content_of (1 ∷ 3 ∷ 6 ∷ 1 ∷ 4 ∷ 1 ∷ 11129 ∷ 2 ∷ 4 ∷ 2 ∷ []) ≡ 0x2B ∷ 0x06 ∷ 0x01 ∷ 0x04 ∷ 0x01 ∷ 0xD6 ∷ 0x79 ∷ 0x02 ∷ 0x04 ∷ 0x02 ∷ []
unfolding subidentifier
timestamps = refl

pub example_arcs : arcs_of (0x88 ∷ 0x37 ∷ 0x03 ∷ []) ≡ 2 ∷ 999 ∷ 3 ∷ []
unfolding arcs_of
example_arcs = refl

pub example_text : dotted (2 ∷ 999 ∷ 3 ∷ []) ≡ codes "2.999.3"
unfolding dotted digits
example_text = refl
