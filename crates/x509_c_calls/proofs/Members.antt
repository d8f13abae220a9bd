-- Where the extensions of a certificate stand.
use Rattle.std.proofs.Common.{◌≡◌, ℕ, Bool, true, false, List, ◌∷◌, ◌++◌, drop, Option, Some, None, refl, sym, ap, ◌∙◌, append_assoc, Bor, option_map, is_some}
use Rattle.std.specs.Option.{option_copied}
use Rattle.x509_c_calls.specs.Extensions.{FindsExtension}
use Rattle.x509_c_calls.specs.View.{IsOptionAt}
use Rattle.x509_c_calls.specs.declared.certificate.extension.ExtensionView.{ExtensionView}
use Rattle.x509_c_calls.specs.Place.{IsAt, IsField}
use Rattle.x509_c_calls.specs.declared.place.span.Span.{Span}
use Rattle.x509_c_calls.specs.declared.status.status.Status.TheVariants.{Absent}
use Rattle.x509_ext.specs.LookUp.{members, with_oid}
use Rattle.x509_der.specs.Element.{element, is_identifier, is_universal}
use Rattle.x509_der.specs.DefaultValues.{boolean_default}
use Rattle.x509_der.specs.Frames.{default_octets, fields_octets}
use Rattle.x509_der.specs.List.{joined}
use Rattle.x509_der.specs.Boolean.{boolean}
use Rattle.x509_der.specs.Form.{spelling}
use Rattle.x509_der.specs.ObjectIdentifierForm.{object_identifier}
use Rattle.x509_ext.specs.Extension.{extension, extensions, extension_fields}
use Rattle.x509_ext.specs.declared.extension.Extension.{Extension}

pub is_oid : is_identifier 6 ≡ true
unfolding is_identifier is_universal
is_oid = refl

pub is_octets : is_identifier 4 ≡ true
unfolding is_identifier is_universal
is_octets = refl

-- ---- the fields of an extension

abbrev pub oid_text : Extension → List ℕ
oid_text e = spelling object_identifier e.extn_id

abbrev pub critical_text : Extension → List ℕ
critical_text e = default_octets boolean_default (spelling boolean) e.critical

abbrev pub value_text : Extension → List ℕ
value_text e = element 4 e.extn_value

pub content_is : (e : Extension) → extension.content e ≡ oid_text e ++ (critical_text e ++ value_text e)
unfolding fields_octets extension_fields
content_is e = refl

pub laid_out : (e : Extension) (behind : List ℕ) → extension.content e ++ behind ≡ oid_text e ++ (critical_text e ++ (value_text e ++ behind))
laid_out e behind =
    ap (λ x. x ++ behind) (content_is e) ∙ append_assoc (oid_text e) (critical_text e ++ value_text e) behind ∙ ap (λ x. oid_text e ++ x) (append_assoc (critical_text e) (value_text e) behind)

pub critical_field : (b : Bool) → IsField b (default_octets boolean_default (spelling boolean) b)
unfolding default_octets is_identifier is_universal
critical_field true = (1, boolean.content true, refl, refl)
critical_field false = refl

-- ---- the extensions one after the other

pub first_stands : (rest others : List Extension) (first : Extension) (here more : List ℕ) → rest ≡ first ∷ others → here ≡ joined (spelling extension) rest ++ more → here ≡ spelling extension first ++ (joined (spelling extension) others ++ more)
unfolding joined
first_stands rest others first here more is e = e ∙ rw is (append_assoc (spelling extension first) (joined (spelling extension) others) more)

-- ---- where they begin

pub absent : (bytes behind oid : List ℕ) (o : Option (List Extension)) (view : ExtensionView) → None ≡ o → FindsExtension bytes (members o) behind (with_oid oid (members o)) view view Absent
unfolding FindsExtension
absent bytes behind oid o view none = rw (sym none) (refl, refl)

-- whether there is a list, by the bytes that are lent of it
pub some_list : (lent : Option (Bor (List ℕ))) (o : Option (List Extension)) → option_copied lent ≡ option_map (spelling extensions) o → is_some lent ≡ true → (xs : List Extension) × (Some xs ≡ o)
some_list None None e is = absurd cc
some_list None (Some xs) e is = absurd cc
some_list (Some bytes) None e is = absurd cc
some_list (Some bytes) (Some xs) e is = (xs, refl)

pub no_list : (lent : Option (Bor (List ℕ))) (o : Option (List Extension)) → option_copied lent ≡ option_map (spelling extensions) o → is_some lent ≡ false → None ≡ o
no_list None None e is = refl
no_list None (Some xs) e is = absurd cc
no_list (Some bytes) o e is = absurd cc

pub some_stand : (o : Option (List Extension)) (xs : List Extension) (behind bytes : List ℕ) (span : Span) → Some xs ≡ o → IsOptionAt extensions o behind bytes span → drop span.place bytes ≡ element 48 (joined (spelling extension) xs) ++ behind
some_stand o xs behind bytes span some stands =
    let here : IsAt (spelling extensions xs) behind bytes span = rw (sym some) at stands in here.0
