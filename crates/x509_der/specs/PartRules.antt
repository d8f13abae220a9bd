-- The laws of the frames as one set of rules: the law of a type's fields is found by search over these and the laws of
-- the types of its fields.
use Rattle.x509_der.specs.FormLaws.{universal_lawful}
use Rattle.x509_der.specs.Boolean.{boolean_lawful}
use Rattle.x509_der.specs.NaturalLaws.{u8_lawful, u32_lawful}
use Rattle.x509_der.specs.FrameLaws.{implicit_lawful, explicit_lawful, required_lawful, optional_lawful, defaulted_lawful, pair_lawful, fields_lawful}
use Rattle.x509_der.specs.DefaultValues.{boolean_default_lawful, zero_default_lawful}
use Rattle.x509_der.specs.ListLaws.{list_lawful}

pub ruleset part_rules = (fields_lawful, pair_lawful, required_lawful, optional_lawful, defaulted_lawful, implicit_lawful, explicit_lawful, universal_lawful, list_lawful, boolean_default_lawful, zero_default_lawful, boolean_lawful, u8_lawful, u32_lawful)
