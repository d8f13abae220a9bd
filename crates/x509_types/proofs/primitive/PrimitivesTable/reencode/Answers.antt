use Rattle.x509_types.specs.RowLaws.{is_found, is_passed}
use Rattle.x509_types.proofs.primitive.PrimitivesTable.reencode.Goals as goal

pub returns-in-Ia5String : goal.returns-in-Ia5String
returns-in-Ia5String g c = search (is_found, is_passed) depth 24

pub returns-in-PrintableString : goal.returns-in-PrintableString
returns-in-PrintableString g c = search (is_found, is_passed) depth 24

pub returns-in-TeletexString : goal.returns-in-TeletexString
returns-in-TeletexString g c = search (is_found, is_passed) depth 24

pub returns-in-VisibleString : goal.returns-in-VisibleString
returns-in-VisibleString g c = search (is_found, is_passed) depth 24
