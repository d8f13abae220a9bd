-- SubjectDirectoryAttributes: list Attribute (RFC 5280 4.2.1.8)
use Rattle.std.specs.Prelude.{List, refl}
use Rattle.x509_der.specs.declared.tag.Tag.TheVariants.{Sequence}
use Rattle.x509_der.specs.List.{list_of}
use Rattle.x509_der.specs.Form.{Form, universal}
use Rattle.x509_der.specs.Round.{Round, rounded}
use Rattle.x509_name.specs.Attribute.{attribute}
use Rattle.x509_name.specs.declared.attr.attribute.Attribute.{Attribute}
use Rattle.x509_ext.specs.declared.pkix.subject_directory_attributes.SubjectDirectoryAttributes.{SubjectDirectoryAttributes}

abbrev pub subject_directory_attributes_round : Round SubjectDirectoryAttributes (List Attribute)
subject_directory_attributes_round = record { to = λ subject_attributes. subject_attributes.0; from = λ attributes. record { 0 = attributes }; back = λ subject_attributes. refl; there = λ attributes. refl }

abbrev pub subject_directory_attributes : Form SubjectDirectoryAttributes
subject_directory_attributes = rounded subject_directory_attributes_round Sequence (universal Sequence (list_of attribute))
