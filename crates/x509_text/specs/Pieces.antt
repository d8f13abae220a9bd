-- Documents of CRLs that come piece by piece: what is still to come.
use Rattle.std.specs.Prelude.{◌≡◌, ℕ, ◌+◌, ◌<◌, List, [], ◌++◌, length, Option, Some, None, Result, Ok, Err, codes, string_bytes}
use Rattle.std.specs.List.{flat_map}
use Rattle.x509_base.specs.declared.profile.Raw.{Raw}
use Rattle.x509_cert.specs.declared.crl.certificate_list.CertificateList.{CertificateList}
use Rattle.x509_cert.specs.declared.crl.revoked_cert.RevokedCert.{RevokedCert}
use Rattle.x509_der.specs.declared.error.ErrorKind.{ErrorKind}
use Rattle.x509_text.specs.declared.line.Place.{Place}
use Rattle.x509_text.specs.declared.line.Style.{Style}
use Rattle.x509_text.specs.declared.pieces.CrlPieces.{CrlPieces}
use Rattle.x509_text.specs.declared.pieces.Document.{Document}
use Rattle.x509_text.specs.declared.pieces.Document.TheVariants.{Whole, Crl}
use Rattle.x509_text.specs.declared.pieces.Stage.{Stage}
use Rattle.x509_text.specs.declared.pieces.Stage.TheVariants.{Front, Entries, Done}
use Rattle.x509_text.specs.Crls.{entry_lines, part_lines, signature_lines}
use Rattle.x509_text.specs.Lines.{closing, opening, top}
use Rattle.x509_crl_index.specs.Split.{read_entries}

-- the entries that were read, none where reading is refused
abbrev pub entries_read : Result (List (RevokedCert Raw)) ErrorKind → List (RevokedCert Raw)
entries_read (Ok revoked) = revoked
entries_read (Err e) = []

-- the lines of the entries of which the octets are the elements
unfoldable pub elements_lines : Place → List ℕ → List ℕ
elements_lines at octets = flat_map (entry_lines at) (entries_read (read_entries octets))

-- what stands in front of the entries of a document
abbrev pub front_text : Style → CertificateList Raw → List ℕ
front_text style crl = opening style (codes "CRL") ++ part_lines (top style) crl.tbs_cert_list

-- what stands behind them
abbrev pub behind_text : Style → CertificateList Raw → List ℕ
behind_text style crl = signature_lines (top style) crl ++ closing style

-- what is to come from the entries on
abbrev pub entries_text : Style → CertificateList Raw → List ℕ → List ℕ
entries_text style crl octets = elements_lines (top style) octets ++ behind_text style crl

abbrev pub text_from : Stage → Style → CertificateList Raw → List ℕ → List ℕ
text_from Front style crl octets = front_text style crl ++ entries_text style crl octets
text_from Entries style crl octets = entries_text style crl octets
text_from Done style crl octets = []

-- what is still to come of a document
abbrev pub left : CrlPieces → List ℕ
left pieces = text_from pieces.stage pieces.style pieces.crl pieces.octets.now

-- no more pieces than these are to come
abbrev pub steps_from : Stage → List ℕ → ℕ
steps_from Front octets = length octets + 2
steps_from Entries octets = length octets + 1
steps_from Done octets = 0

abbrev pub steps : CrlPieces → ℕ
steps pieces = steps_from pieces.stage pieces.octets.now

-- a piece comes, and what is still to come stands behind it; none comes where nothing is to come
abbrev pub Comes : CrlPieces → Option (List ℕ) → CrlPieces → Type 0
Comes old (Some piece) new = (left old ≡ piece ++ left new) × (steps new < steps old)
Comes old None new = left old ≡ []

-- the text of a document
abbrev pub text_of : Document → List ℕ
text_of (Whole text) = string_bytes text
text_of (Crl pieces) = left pieces
