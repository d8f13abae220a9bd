-- What names are made of (RFC 5280 4.1.2.4, appendix A.1). An empty set or sequence is one too.
use Rattle.std.specs.Prelude.{◌≡◌, Bool, List}
use Rattle.std.specs.Bool.{Decides}
use Rattle.std.specs.Cmp.{IsEquivalence, IsTotalOrder}
use Rattle.std.specs.Cmp.Lexicographic.{pointwise, pointwise_decides, lists_equiv}
use Rattle.std.specs.Ordering.{eq_by_cmp}
use Rattle.x509_der.specs.declared.error.ErrorKind.{ErrorKind}
use Rattle.x509_der.specs.declared.tag.Tag.TheVariants.{Sequence, Set}
use Rattle.x509_der.specs.Form.{Form, Contents, IsForm, IsContents, universal, spelling}
use Rattle.x509_der.specs.FormLaws.{universal_lawful}
use Rattle.x509_der.specs.Writing.{plain, writes}
use Rattle.x509_der.specs.Order.{Order, IsOrder, IsDerOrder, HasEncoding, der_order}
use Rattle.x509_der.specs.Ordered.{by_members, der_lawful}
use Rattle.x509_der.specs.List.{list_of}
use Rattle.x509_der.specs.ListLaws.{list_lawful}
use Rattle.x509_der.specs.ListOrder.{list_ordered}
use Rattle.x509_der.specs.Set.{set_of}
use Rattle.x509_der.specs.SetLaws.{set_lawful, set_ordered}
use Rattle.x509_der.specs.OrderEquality.{order_ties}
use Rattle.x509_name.specs.TypeAndValue.{attribute_type_and_value, type_and_value_contents_lawful, type_and_value_order, type_and_value_ordered, type_and_value_cmp, type_and_value_eq, type_and_value_equivalence, type_and_value_decides}
use Rattle.x509_name.specs.declared.attr.type_and_value.AttributeTypeAndValue.{AttributeTypeAndValue}

-- RelativeDistinguishedName: SET OF AttributeTypeAndValue
abbrev pub attribute_set : Contents (List AttributeTypeAndValue)
attribute_set = set_of attribute_type_and_value type_and_value_cmp

abbrev pub relative_distinguished_name : Form (List AttributeTypeAndValue)
relative_distinguished_name = universal Set attribute_set

-- RDNSequence: SEQUENCE OF RelativeDistinguishedName
abbrev pub rdn_list : Contents (List (List AttributeTypeAndValue))
rdn_list = list_of relative_distinguished_name

abbrev pub rdn_sequence : Form (List (List AttributeTypeAndValue))
rdn_sequence = universal Sequence rdn_list

-- Name: a choice of one, RDNSequence
abbrev pub name : Form (List (List AttributeTypeAndValue))
name = rdn_sequence

pub attribute_set_lawful : {R : ErrorKind → Type 0} → IsContents R attribute_set
attribute_set_lawful = set_lawful attribute_type_and_value type_and_value_cmp (universal_lawful Sequence _ type_and_value_contents_lawful)

pub rdn_lawful : {R : ErrorKind → Type 0} → IsForm R relative_distinguished_name
rdn_lawful = universal_lawful Set _ attribute_set_lawful

pub rdn_list_lawful : {R : ErrorKind → Type 0} → IsContents R rdn_list
rdn_list_lawful = list_lawful relative_distinguished_name rdn_lawful

pub rdn_sequence_lawful : {R : ErrorKind → Type 0} → IsForm R rdn_sequence
rdn_sequence_lawful = universal_lawful Sequence _ rdn_list_lawful

-- ---- the byte order

-- by the first attributes that differ
abbrev pub rdn_order : Order (List AttributeTypeAndValue)
rdn_order = by_members type_and_value_cmp

-- by the first relative distinguished names that differ
abbrev pub rdn_sequence_order : Order (List (List AttributeTypeAndValue))
rdn_sequence_order = by_members (der_order relative_distinguished_name (writes plain) rdn_order)

pub rdn_ordered : IsOrder relative_distinguished_name (writes plain) rdn_order
rdn_ordered = set_ordered attribute_type_and_value plain type_and_value_order type_and_value_ordered

pub rdn_sequence_ordered : IsOrder rdn_sequence (writes plain) rdn_sequence_order
rdn_sequence_ordered = list_ordered relative_distinguished_name plain rdn_order rdn_ordered

-- ---- equality

abbrev pub rdn_eq : List AttributeTypeAndValue → List AttributeTypeAndValue → Bool
rdn_eq = pointwise type_and_value_eq

abbrev pub rdn_sequence_eq : List (List AttributeTypeAndValue) → List (List AttributeTypeAndValue) → Bool
rdn_sequence_eq = pointwise rdn_eq

pub rdn_equivalence : IsEquivalence rdn_eq
rdn_equivalence = lists_equiv type_and_value_equivalence

pub rdn_sequence_equivalence : IsEquivalence rdn_sequence_eq
rdn_sequence_equivalence = lists_equiv rdn_equivalence

pub rdn_decides : (x y : List AttributeTypeAndValue) → Decides (rdn_eq x y) (x ≡ y)
rdn_decides = pointwise_decides type_and_value_decides

pub rdn_sequence_decides : (x y : List (List AttributeTypeAndValue)) → Decides (rdn_sequence_eq x y) (x ≡ y)
rdn_sequence_decides = pointwise_decides rdn_decides

-- ---- the order of names as keys: that of the encodings

abbrev pub rdn_cmp : Order (List AttributeTypeAndValue)
rdn_cmp = der_order relative_distinguished_name (writes plain) rdn_order

rdns_lawful : IsDerOrder (HasEncoding relative_distinguished_name (writes plain)) (spelling relative_distinguished_name) rdn_cmp
rdns_lawful = der_lawful relative_distinguished_name (writes plain) rdn_order rdn_ordered

pub rdn_total : IsTotalOrder rdn_cmp
rdn_total = rdns_lawful.total

-- no two are equal in it but equal ones
pub rdn_ties : (x y : List AttributeTypeAndValue) → rdn_eq x y ≡ eq_by_cmp rdn_cmp x y
rdn_ties = order_ties rdns_lawful rdn_eq rdn_decides

abbrev pub rdn_sequence_cmp : Order (List (List AttributeTypeAndValue))
rdn_sequence_cmp = der_order rdn_sequence (writes plain) rdn_sequence_order

rdn_sequences_lawful : IsDerOrder (HasEncoding rdn_sequence (writes plain)) (spelling rdn_sequence) rdn_sequence_cmp
rdn_sequences_lawful = der_lawful rdn_sequence (writes plain) rdn_sequence_order rdn_sequence_ordered

pub rdn_sequence_total : IsTotalOrder rdn_sequence_cmp
rdn_sequence_total = rdn_sequences_lawful.total

pub rdn_sequence_ties : (x y : List (List AttributeTypeAndValue)) → rdn_sequence_eq x y ≡ eq_by_cmp rdn_sequence_cmp x y
rdn_sequence_ties = order_ties rdn_sequences_lawful rdn_sequence_eq rdn_sequence_decides
