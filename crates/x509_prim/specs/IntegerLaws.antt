-- The contents of integers are read as they are written.
use Rattle.x509_der.specs.declared.error.ErrorKind.{ErrorKind}
use Rattle.x509_der.specs.declared.tag.Tag.TheVariants as tags
use Rattle.x509_der.specs.Form.{IsForm, IsContents}
use Rattle.x509_der.specs.FormLaws.{universal_lawful}
use Rattle.x509_der.specs.Tested.{tested_contents_lawful}
use Rattle.x509_prim.specs.Integer.{is_integer, is_unsigned, integer_contents, unsigned_integer_contents, unsigned_integer}

pub integer_contents_lawful : {R : ErrorKind → Type 0} → IsContents R integer_contents
integer_contents_lawful = tested_contents_lawful is_integer

pub unsigned_integer_contents_lawful : {R : ErrorKind → Type 0} → IsContents R unsigned_integer_contents
unsigned_integer_contents_lawful = tested_contents_lawful is_unsigned

pub unsigned_integer_lawful : {R : ErrorKind → Type 0} → IsForm R unsigned_integer
unsigned_integer_lawful = universal_lawful tags.Integer unsigned_integer_contents unsigned_integer_contents_lawful
