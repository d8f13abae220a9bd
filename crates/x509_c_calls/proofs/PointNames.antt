-- The name of a point that is there is one of two.
use Rattle.std.proofs.Common.{◌≡◌, ℕ, List, Option, Some, refl}
use Rattle.x509_c_calls.specs.Optional.{IsPerhapsAt}
use Rattle.x509_c_calls.specs.Points.{IsPointName}
use Rattle.x509_c_calls.specs.Place.{IsAt}
use Rattle.x509_c_calls.specs.declared.place.span.Span.{Span}
use Rattle.x509_der.specs.Cases.{choice_tag, choice_content}
use Rattle.x509_der.specs.Frames.{implicit}
use Rattle.x509_der.specs.Form.{spelling}
use Rattle.x509_name.specs.Names.{relative_distinguished_name}
use Rattle.x509_ext.specs.DistributionPointName.{distribution_point_name}
use Rattle.x509_ext.specs.GeneralName.{general_names}
use Rattle.x509_ext.specs.declared.pkix.name.distribution_point_name.DistributionPointName.{DistributionPointName}
use Rattle.x509_ext.specs.declared.pkix.name.distribution_point_name.DistributionPointName.TheVariants.{FullName, NameRelativeToCRLIssuer}
use Rattle.x509_ext.specs.declared.pkix.name.general_name.GeneralName.{GeneralName}
use Rattle.x509_name.specs.declared.attr.type_and_value.AttributeTypeAndValue.{AttributeTypeAndValue}

full_is : (names : List GeneralName) → spelling distribution_point_name (FullName names) ≡ spelling (implicit 0 general_names) names
unfolding choice_tag choice_content
full_is names = refl

relative_is : (rdn : List AttributeTypeAndValue) → spelling distribution_point_name (NameRelativeToCRLIssuer rdn) ≡ spelling (implicit 1 relative_distinguished_name) rdn
unfolding choice_tag choice_content
relative_is rdn = refl

pub full_at : (it : DistributionPointName) (names : List GeneralName) (bytes more : List ℕ) (span : Span) → it ≡ FullName names → IsAt (spelling distribution_point_name it) more bytes span → IsPointName (Some it) more bytes span (record { place = 0; len = 0 })
full_at it names bytes more span is stands = let known = rw (is, full_is names) at stands in rw is (known, refl)

pub relative_at : (it : DistributionPointName) (rdn : List AttributeTypeAndValue) (bytes more : List ℕ) (span : Span) → it ≡ NameRelativeToCRLIssuer rdn → IsAt (spelling distribution_point_name it) more bytes span → IsPointName (Some it) more bytes (record { place = 0; len = 0 }) span
relative_at it rdn bytes more span is stands = let known = rw (is, relative_is rdn) at stands in rw is (refl, known)

-- one that is there
pub some_at : (name : Option DistributionPointName) (it : DistributionPointName) (bytes more : List ℕ) (span full relative : Span) → name ≡ Some it → IsPerhapsAt (spelling distribution_point_name) name more bytes span
    → (IsAt (spelling distribution_point_name it) more bytes span → IsPointName (Some it) more bytes full relative) → IsPointName name more bytes full relative
some_at name it bytes more span full relative is stands places = let known = rw is at stands in rw is (places known)
