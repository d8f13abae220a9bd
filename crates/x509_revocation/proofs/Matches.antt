-- Names that match.
use Rattle.std.proofs.Common.{◌≡◌, ◌∙◌, ◌↔◌, Bool, false, inl, inr, List, [], ◌∷◌, Some, None, sym}
use Rattle.std.proofs.lemmas.Bool.{true≢false}
use Rattle.std.specs.Bool.{IsTrue}
use Rattle.x509_der.specs.Exact.{IsExact}
use Rattle.x509_ext.specs.declared.pkix.name.distribution_point_name.DistributionPointName.TheVariants.{NameRelativeToCRLIssuer}
use Rattle.x509_ext.specs.declared.pkix.name.general_name.GeneralName.{GeneralName}
use Rattle.x509_name.specs.declared.attr.type_and_value.AttributeTypeAndValue.{AttributeTypeAndValue}
use Rattle.x509_revocation.specs.Names.{GeneralNamesMatch, HaveMatch, Name, directory_name}
use Rattle.x509_revocation.specs.Points.{MatchPoint, single_name}

-- a name that is no directory name matches where it is equal
pub plain : (test : GeneralName → GeneralName → Bool) → IsExact test → (a b : GeneralName) (r : Bool) → directory_name a ≡ None → r ≡ test a b → IsTrue r ↔ GeneralNamesMatch a b
plain test exact a b r none is = rw none ((λ so. (exact a b).0 (sym is ∙ so)), (λ same. is ∙ (exact a b).1 same))

none_match : (own : List GeneralName) → HaveMatch own [] → ⊥
none_match [] h = h
none_match (name ∷ names) h = elim h [ inl one ↦ one | inr others ↦ none_match names others ]

-- no name is relative to issuers that aren't one directory name
pub no_relative : (issuer : Name) (own : List GeneralName) (rdn : List AttributeTypeAndValue) (names : List GeneralName) → single_name names ≡ None → IsTrue false ↔ MatchPoint issuer own (Some (NameRelativeToCRLIssuer rdn)) (Some names)
no_relative issuer own rdn names none = ((λ never. absurd (true≢false (sym never))), (λ match. absurd (none_match own (rw none at match))))
