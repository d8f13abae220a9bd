use Rattle.x509_types.specs.RowLaws.{is_found, is_passed}
use Rattle.x509_all_types.proofs.anchor.AnchorsTable.reencode.Goals as goal

pub returns-in-TrustAnchorChoice : goal.returns-in-TrustAnchorChoice
returns-in-TrustAnchorChoice g c = search (is_found, is_passed) depth 24

pub returns-in-TrustAnchorInfo : goal.returns-in-TrustAnchorInfo
returns-in-TrustAnchorInfo g c = search (is_found, is_passed) depth 24
