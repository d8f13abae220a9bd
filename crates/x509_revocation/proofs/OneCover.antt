-- There is one set of reasons that a CRL covers.
use Rattle.std.proofs.Common.{◌≡◌, ◌∙◌, ℕ, inl, inr, List, [], ◌∷◌, Option, Some, None, refl, sym, ap, subst}
use Rattle.std.specs.Int.RustNames.{bit_or}
use Rattle.x509_der.specs.Form.{Form, IsForm, Spells, universal}
use Rattle.x509_der.specs.FormLaws.{universal_lawful}
use Rattle.x509_der.specs.List.{list_of}
use Rattle.x509_der.specs.ListLaws.{list_lawful}
use Rattle.x509_der.specs.Round.{rounded_lawful}
use Rattle.x509_der.specs.SpellingLaws.{values}
use Rattle.x509_der.specs.declared.error.ErrorKind.{ErrorKind}
use Rattle.x509_der.specs.declared.tag.Tag.TheVariants.{Sequence}
use Rattle.x509_ext.specs.DistributionPoint.{crl_distribution_points, crl_distribution_points_round, distribution_point, distribution_point_contents, distribution_point_contents_lawful}
use Rattle.x509_ext.specs.Identifiers.{id_ce}
use Rattle.x509_ext.specs.IssuingDistributionPoint.{issuing_distribution_point, issuing_distribution_point_contents, issuing_distribution_point_contents_lawful}
use Rattle.x509_ext.specs.declared.extension.Extension.{Extension}
use Rattle.x509_ext.specs.declared.pkix.distribution_point.DistributionPoint.{DistributionPoint}
use Rattle.x509_ext.specs.declared.pkix.distribution_points.CrlDistributionPoints.{CrlDistributionPoints}
use Rattle.x509_ext.specs.declared.pkix.issuing_distribution_point.IssuingDistributionPoint.{IssuingDistributionPoint}
use Rattle.x509_ext.specs.declared.pkix.reasons.Reasons.{Reasons}
use Rattle.x509_path.specs.Certificates.{Certificate, HasPayload, extensions_of}
use Rattle.x509_revocation.specs.Crls.{Crl, HasList, crl_extensions}
use Rattle.x509_revocation.specs.Points.{Gathers, HasPoints, Sides, assumed_point, interim_reasons, some_reasons}
use Rattle.x509_revocation.specs.Says.{Covers, sides_of}

abbrev pub Never : ErrorKind → Type 0
Never e = ⊥

-- ---- the value of an extension

pub one_payload : {T : Type 0} (form : Form T) → IsForm Never form → (oid : List ℕ) (extensions : List Extension) (v w : T) → HasPayload form oid extensions v → HasPayload form oid extensions w → v ≡ w
one_payload form lawful oid extensions v w (e, is, spells) (f, so, other) =
    let both : e ∷ [] ≡ f ∷ [] = sym is ∙ so in
    let same : f ≡ e = cc in
    values form lawful v w e.extn_value spells (subst (λ (x : Extension). Spells form w x.extn_value) same other)

list_lawfully : IsForm Never issuing_distribution_point
list_lawfully = universal_lawful Sequence issuing_distribution_point_contents issuing_distribution_point_contents_lawful

points_lawfully : IsForm Never crl_distribution_points
points_lawfully = rounded_lawful crl_distribution_points_round Sequence (universal Sequence (list_of distribution_point)) (λ v. refl)
    (universal_lawful Sequence _ (list_lawful distribution_point (universal_lawful Sequence distribution_point_contents distribution_point_contents_lawful)))

-- ---- the points of both

pub one_list : (crl : Crl) (a b : Option IssuingDistributionPoint) → HasList crl a → HasList crl b → a ≡ b
one_list crl None None h k = refl
one_list crl None (Some b) h (e, is, spells) = absurd (let both : [] ≡ e ∷ [] = sym h ∙ is in cc)
one_list crl (Some a) None (e, is, spells) k = absurd (let both : [] ≡ e ∷ [] = sym k ∙ is in cc)
one_list crl (Some a) (Some b) h k = ap (λ p. Some p) (one_payload issuing_distribution_point list_lawfully (id_ce 28) (crl_extensions crl) a b h k)

pub one_points : (c : Certificate) (a b : List DistributionPoint) → HasPoints c a → HasPoints c b → a ≡ b
one_points c a b (inl h) (inl k) = ap (λ (v : CrlDistributionPoints). v.0) (one_payload crl_distribution_points points_lawfully (id_ce 31) (extensions_of c) (record { 0 = a }) (record { 0 = b }) h k)
one_points c a b (inl h) (inr k) = absurd (k.0 (record { 0 = a }) h)
one_points c a b (inr h) (inl k) = absurd (h.0 (record { 0 = b }) k)
one_points c a b (inr h) (inr k) = h.1 ∙ sym k.1

-- ---- the reasons

one_gathered : (sides : Sides) (points : List DistributionPoint) (r s : Reasons) → Gathers sides points r → Gathers sides points s → r ≡ s
one_gathered sides [] r s h k = h ∙ sym k
one_gathered sides (point ∷ points) r s (inl h) (inl k) = one_gathered sides points r s h.1 k.1
one_gathered sides (point ∷ points) r s (inl h) (inr k) = absurd (h.0 k.0)
one_gathered sides (point ∷ points) r s (inr h) (inl k) = absurd (k.0 h.0)
one_gathered sides (point ∷ points) r s (inr (is, (x, gathers, all))) (inr (so, (y, others, both))) =
    all ∙ ap (λ (z : Reasons). record { 0 = bit_or (interim_reasons point.reasons (some_reasons sides.list)).0 z.0 }) (one_gathered sides points x y gathers others) ∙ sym both

pub one_cover : (c : Certificate) (crl : Crl) (a b : Option IssuingDistributionPoint) (r s : Reasons) → Covers c crl a r → Covers c crl b s → r ≡ s
one_cover c crl a b r s h k =
    let list : b ≡ a = one_list crl b a k.has_list h.has_list in
    let points : k.points ≡ h.points = one_points c k.points h.points k.has_points h.has_points in
    let there = subst (λ l. Gathers (sides_of c crl l) (assumed_point c.tbs_certificate.issuer ∷ k.points) s) list k.gathers in
    let here = subst (λ p. Gathers (sides_of c crl a) (assumed_point c.tbs_certificate.issuer ∷ p) s) points there in
    one_gathered (sides_of c crl a) (assumed_point c.tbs_certificate.issuer ∷ h.points) r s h.gathers here
