-- CRLs of which the signer's name and key are a name and a key, or are none.
use Rattle.std.proofs.Common.{◌≡◌, ◌↔◌, ◌∙◌, ℕ, Bool, true, false, List, Option, Some, None, refl, sym, subst}
use Rattle.std.proofs.lemmas.Bool.{true≢false}
use Rattle.std.specs.Bool.{IsTrue}
use Rattle.x509_match.specs.Matching.{NamesMatch}
use Rattle.x509_path.specs.Certificates.{Accepting}
use Rattle.x509_path.specs.Lent.{LendsAnchor}
use Rattle.x509_path.specs.declared.anchor.Anchor.{Anchor}
use Rattle.x509_path.specs.declared.anchor_ref.AnchorRef.{AnchorRef}
use Rattle.x509_revocation.specs.Crls.{Crl, HaveOneKey, IsOfSigner, IsSigned, IsSignedBy}
use Rattle.x509_revocation.specs.Lent.{LendsNamed, LendsSigner}
use Rattle.x509_revocation.specs.Says.{GivenCrl}
use Rattle.x509_revocation.specs.declared.signed_crl.SignedCrl.{SignedCrl}

pub anchored : (lent : SignedCrl) (given : GivenCrl) (named : LendsNamed lent given) → LendsAnchor lent.signer named.signer
anchored lent given named = subst (LendsSigner lent.signer) named.is named.lends.signer

pub signed_by : (accepts : Accepting) (signer : Option Anchor) (anchor : Anchor) (bytes : List ℕ) (crl : Crl) → signer ≡ Some anchor → IsSignedBy accepts anchor bytes crl ↔ IsSigned accepts signer bytes crl
signed_by accepts signer anchor bytes crl is = subst (λ s. IsSignedBy accepts anchor bytes crl ↔ IsSigned accepts s bytes crl) (sym is) ((λ x. x), (λ x. x))

pub signer_of : (signer : Option Anchor) (crl : Crl) → IsOfSigner signer crl → (anchor : Anchor) × (signer ≡ Some anchor)
signer_of None crl of = absurd of
signer_of (Some anchor) crl of = (anchor, refl)

module _ (lent : AnchorRef) where
  -- none that is an encoding, so the CRL is not that of its signer
  pub no_signer : (signer : Option Anchor) (crl : Crl) (b : Bool) → IsTrue b ↔ ((anchor : Anchor) × LendsAnchor lent anchor) → b ≡ false → LendsSigner lent signer → IsTrue false ↔ IsOfSigner signer crl
  no_signer None crl b h not lends = ((λ never. absurd (true≢false (sym never))), (λ of. absurd of))
  no_signer (Some anchor) crl b h not lends = absurd (true≢false (sym (h.1 (anchor, lends)) ∙ not))

  pub some_signer : (signer : Option Anchor) (crl : Crl) (b same : Bool) → IsTrue b ↔ ((anchor : Anchor) × LendsAnchor lent anchor) → b ≡ true → LendsSigner lent signer
      → ((anchor : Anchor) → LendsAnchor lent anchor → IsTrue same ↔ NamesMatch anchor.name crl.tbs_cert_list.issuer) → IsTrue same ↔ IsOfSigner signer crl
  some_signer None crl b same h is lends match = let found = h.0 is in absurd (lends found.0 found.1)
  some_signer (Some anchor) crl b same h is lends match = match anchor lends

  -- ---- one key

  abbrev pub IsKey : Bool → Anchor → Type 0
  IsKey b first = (anchor : Anchor) → LendsAnchor lent anchor → IsTrue b ↔ (first.key ≡ anchor.key)

  pub other_key : (own signer : Option Anchor) (first : Anchor) (b : Bool) → own ≡ Some first → LendsSigner lent signer → IsKey b first → b ≡ false → HaveOneKey own signer → ⊥
  other_key own None first b is lends same not one = subst (λ o. HaveOneKey o None) is one
  other_key own (Some anchor) first b is lends same not one =
      let so : first.key ≡ anchor.key = subst (λ o. HaveOneKey o (Some anchor)) is one in true≢false (sym ((same anchor lends).1 so) ∙ not)

  pub one_key : (own signer : Option Anchor) (first : Anchor) (crl : Crl) (b : Bool) → own ≡ Some first → LendsSigner lent signer → IsOfSigner signer crl → IsKey b first → b ≡ true → HaveOneKey own signer
  one_key own None first crl b is lends of same so = absurd of
  one_key own (Some anchor) first crl b is lends of same so = subst (λ o. HaveOneKey o (Some anchor)) (sym is) ((same anchor lends).0 so)

-- a test that fails of what doesn't hold
pub never : {P : Type 0} → (P → ⊥) → IsTrue false ↔ P
never none = ((λ is. absurd (true≢false (sym is))), (λ so. absurd (none so)))
