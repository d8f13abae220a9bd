-- What is answered of the encodings of two keys (RFC 5280 6.1.4 (d) to (f)).
use Rattle.std.specs.Prelude.{◌≡◌, ◌<◌, ◌⊎◌, ℕ, List, length, Result, Ok, Err}
use Rattle.x509_base.specs.SubjectPublicKeyInfo.{subject_public_key_info}
use Rattle.x509_base.specs.declared.subject_public_key_info.SubjectPublicKeyInfo.{SubjectPublicKeyInfo}
use Rattle.x509_der.specs.Element.{limit}
use Rattle.x509_der.specs.Form.{Spells, spelling}
use Rattle.x509_der.specs.declared.error.ErrorKind.{ErrorKind}
use Rattle.x509_der.specs.declared.error.ErrorKind.TheVariants.{Memory, Overlength}
use Rattle.x509_path_steps.specs.Keys.{working_key}
use Rattle.x509_path_steps.specs.Trusts.{IsRefused}

-- the octets are no key
abbrev pub IsNoKey : List ℕ → ErrorKind → Type 0
IsNoKey octets e = IsRefused subject_public_key_info (λ kind. ⊥) octets e

-- What is answered to the octets of a key above and of a key: those of the latter as it is used; else why not: out of memory, one of them is no key,
-- or those of the key as it is used would be too long.
abbrev pub AnswersKey : List ℕ → List ℕ → Result (List ℕ) ErrorKind → Type 0
AnswersKey above key (Ok octets) =
    (a : SubjectPublicKeyInfo) × (k : SubjectPublicKeyInfo) × Spells subject_public_key_info a above × Spells subject_public_key_info k key
    × Spells subject_public_key_info (working_key a k) octets
AnswersKey above key (Err e) =
    (e ≡ Memory)
    ⊎ (IsNoKey above e
    ⊎ (IsNoKey key e
    ⊎ ((e ≡ Overlength) × (a : SubjectPublicKeyInfo) × (k : SubjectPublicKeyInfo) × Spells subject_public_key_info a above
    × Spells subject_public_key_info k key × (limit < length (spelling subject_public_key_info (working_key a k))))))
