-- Lines of where CRLs are found (RFC 5280 4.2.1.13, 4.2.1.15).
use Rattle.std.specs.Prelude.{ℕ, ◌^◌, ◌==◌, List, [], ◌++◌, Bool, codes}
use Rattle.std.specs.Int.RustNames.{bit_and}
use Rattle.std.specs.List.{flat_map}
use Rattle.x509_ext.specs.declared.pkix.distribution_point.DistributionPoint.{DistributionPoint}
use Rattle.x509_ext.specs.declared.pkix.reasons.Reasons.{Reasons}
use Rattle.x509_text.specs.declared.line.Place.{Place}
use Rattle.x509_text.specs.GeneralNames.{optional_names, point_name_lines}
use Rattle.x509_text.specs.Lines.{line, line_where, below}
use Rattle.x509_text.specs.Payloads.{optional}

-- ReasonFlags (RFC 5280 4.2.1.13): the name of each bit that is set
abbrev pub has_reason : Reasons → ℕ → Bool
has_reason reasons n = bit_and reasons.0 (2 ^ n) == 2 ^ n

abbrev pub reason_line : Place → List ℕ → Bool → List ℕ
reason_line at name is_set = line_where at (codes "reason") name is_set

-- those of the bits 0 to 4
unfoldable pub first_reasons : Place → Reasons → List ℕ
first_reasons at reasons =
    reason_line at (codes "unused") (has_reason reasons 0)
    ++ (reason_line at (codes "keyCompromise") (has_reason reasons 1)
    ++ (reason_line at (codes "cACompromise") (has_reason reasons 2)
    ++ (reason_line at (codes "affiliationChanged") (has_reason reasons 3)
    ++ reason_line at (codes "superseded") (has_reason reasons 4))))

-- those of the bits 5 to 8
unfoldable pub last_reasons : Place → Reasons → List ℕ
last_reasons at reasons =
    reason_line at (codes "cessationOfOperation") (has_reason reasons 5)
    ++ (reason_line at (codes "certificateHold") (has_reason reasons 6)
    ++ (reason_line at (codes "privilegeWithdrawn") (has_reason reasons 7)
    ++ reason_line at (codes "aACompromise") (has_reason reasons 8)))

unfoldable pub reasons_lines : Place → Reasons → List ℕ
reasons_lines at reasons = first_reasons at reasons ++ last_reasons at reasons

-- DistributionPoint (RFC 5280 4.2.1.13): its name, the reasons that its CRL is for, who issues that CRL
unfoldable pub point_lines : Place → DistributionPoint → List ℕ
point_lines at point =
    line at (codes "distribution point") []
    ++ (optional (point_name_lines (below at)) point.distribution_point
    ++ (optional (reasons_lines (below at)) point.reasons
    ++ optional_names (below at) (codes "CRL issuer") point.crl_issuer))

-- CRLDistributionPoints and FreshestCRL (RFC 5280 4.2.1.13, 4.2.1.15)
abbrev pub points_lines : Place → List DistributionPoint → List ℕ
points_lines at points = flat_map (point_lines at) points
