-- CRLs that are taken from bytes, one after the other.
use Rattle.std.proofs.Common.{◌≡◌, ◌∙◌, ◌<◌, ◌+◌, ◌++◌, ℕ, Bool, true, false, List, [], ◌∷◌, length, take, get_or, ap, inl, inr, refl, sym, subst}
use Rattle.std.proofs.lemmas.Bool.{false≢true}
use Rattle.std.proofs.lemmas.List.{take_more}
use Rattle.std.specs.Prelude.{◌↔◌, IsTrue}
use Rattle.x509_c_calls.specs.PayloadExtensions.{flag}
use Rattle.x509_c_calls.specs.OpenedCrls.{IsOpened}
use Rattle.x509_c_calls.specs.RevocationStatus.{AllPairs, TellsSigner}
use Rattle.x509_c_calls.specs.declared.revocation.Opened.{Opened}
use Rattle.x509_path.specs.Certificates.{Certificate, extensions_of}
use Rattle.x509_revocation.specs.Lent.{LendsAll, LendsCrl, LendsGiven, LendsSigner}
use Rattle.x509_revocation.specs.Says.{GivenCrl}
use Rattle.x509_revocation.specs.Signers.{MaySignCrls}
use Rattle.x509_revocation.specs.declared.signed_crl.SignedCrl.{SignedCrl}

pub pairs-append : {A B : Type 0} (R : A → B → Type 0) (xs : List A) (ys : List B) (x : A) (y : B) → AllPairs R xs ys → R x y → AllPairs R (xs ++ x ∷ []) (ys ++ y ∷ [])
pairs-append R [] [] x y pairs one = (one, tt)
pairs-append R [] (b ∷ ys) x y pairs one = absurd pairs
pairs-append R (a ∷ xs) [] x y pairs one = absurd pairs
pairs-append R (a ∷ xs) (b ∷ ys) x y pairs one = (pairs.0, pairs-append R xs ys x y pairs.1 one)

-- what is lent for the question is what was opened
abbrev pub IsLentFrom : SignedCrl → Opened → Type 0
IsLentFrom lent opened = (lent.crl.now ≡ opened.crl) × (lent.signer ≡ opened.signer)

-- one more is lent
pub lent-further : (lent next : List SignedCrl) (opened : List Opened) (i : ℕ) (d : Opened) (s : SignedCrl) → i < length opened → next ≡ lent ++ s ∷ []
    → s.crl.now ≡ (get_or opened i d).crl → s.signer ≡ (get_or opened i d).signer → AllPairs IsLentFrom lent (take i opened) → AllPairs IsLentFrom next (take (i + 1) opened)
lent-further lent next opened i d s within is crl signer so_far =
    subst (λ xs. AllPairs IsLentFrom xs (take (i + 1) opened)) (sym is)
    (subst (λ ys. AllPairs IsLentFrom (lent ++ s ∷ []) ys) (sym (take_more opened i d within)) (pairs-append IsLentFrom lent (take i opened) s (get_or opened i d) so_far (crl, signer)))

pub lends-one : (lent : SignedCrl) (opened : Opened) (given : GivenCrl) → IsLentFrom lent opened → IsOpened opened given → LendsGiven lent given
lends-one lent opened given same is = record {
  bytes = ap (λ crl. crl.bytes.now) same.0 ∙ is.bytes;
  crl = subst (λ crl. LendsCrl crl.bytes.now given.crl) (sym same.0) is.crl;
  signer = subst (λ signer. LendsSigner signer given.signer) (sym same.1) is.signer;
}

pub lends-all : (lent : List SignedCrl) (opened : List Opened) (given : List GivenCrl) → AllPairs IsLentFrom lent opened → AllPairs IsOpened opened given → LendsAll lent given
lends-all [] [] [] same are = tt
lends-all (l ∷ lent) (o ∷ opened) (g ∷ given) same are = (lends-one l o g same.0 are.0, lends-all lent opened given same.1 are.1)
lends-all [] (o ∷ opened) given same are = absurd same
lends-all (l ∷ lent) [] given same are = absurd same
lends-all [] [] (g ∷ given) same are = absurd are
lends-all (l ∷ lent) (o ∷ opened) [] same are = absurd are

-- ---- the number that says whether a key may sign CRLs

pub tells-signer : (certificate : Certificate) (found : Bool) (answer : ℕ) → (IsTrue found ↔ MaySignCrls (extensions_of certificate)) → answer ≡ flag found → TellsSigner certificate answer
tells-signer certificate true answer same is = inl (is, same.0 refl)
tells-signer certificate false answer same is = inr (is, λ may. false≢true (same.1 may))
