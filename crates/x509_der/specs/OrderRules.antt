-- The laws of orders as one set of rules: the law of the order of a type's fields is found by search over these and the laws of the orders of its fields.
use Rattle.x509_der.specs.Any.{any_ordered}
use Rattle.x509_der.specs.DefaultValues.{boolean_default_lawful, zero_default_lawful}
use Rattle.x509_der.specs.ListOrder.{list_ordered}
use Rattle.x509_der.specs.NumberOrder.{boolean_ordered, natural_ordered}
use Rattle.x509_der.specs.ObjectIdentifierForm.{object_identifier_ordered}
use Rattle.x509_der.specs.PartOrder.{plain_parts_ordered, pair_ordered, required_ordered, optional_ordered, default_ordered, implicit_ordered, explicit_ordered}

pub ruleset order_rules = (plain_parts_ordered, pair_ordered, required_ordered, optional_ordered, default_ordered, implicit_ordered, explicit_ordered, list_ordered, any_ordered, boolean_ordered, natural_ordered, object_identifier_ordered, boolean_default_lawful, zero_default_lawful)
