-- Candidates under their subjects, as far as that is known without a witness.
use Rattle.std.proofs.Common.{◌≡◌, ◌∙◌, ◌++◌, ◌∷◌, ◌<◌, ℕ, List, [], get_or, length, map, sym}
use Rattle.std.proofs.Math.Logic.{∥∥₁_map₂}
use Rattle.std.proofs.lemmas.List.{get_or-map}
use Rattle.std.proofs.lemmas.List.Elements.{All-get_or, All-push}
use Rattle.std.specs.List.{All}
use Rattle.x509_match.specs.declared.key.MatchedName.{MatchedName}
use Rattle.x509_path.specs.Certificates.{Certificate}
use Rattle.x509_path.specs.Lent.{Lends}
use Rattle.x509_verify.specs.Named.{IsUnderSubject}
use Rattle.x509_verify.specs.declared.candidate.Candidate.{Candidate}
use Rattle.x509_verify.specs.declared.keyed.Keyed.{Keyed}

-- one more, made of one that is known
pub under_more : (known entries : List (Keyed MatchedName Candidate)) (n : ℕ) (d : Keyed MatchedName Candidate) (e : Keyed MatchedName Candidate) → ∥ All IsUnderSubject known ∥₁ → ∥ All IsUnderSubject entries ∥₁ → n < length known
    → ((c : Certificate) → Lends (get_or known n d).value.certificate.bytes.now c → IsUnderSubject e) → ∥ All IsUnderSubject (entries ++ e ∷ []) ∥₁
under_more known entries n d e every so_far within made =
    ∥∥₁_map₂ every so_far (λ all before.
    let under = All-get_or IsUnderSubject known n d within all in
    All-push IsUnderSubject entries e before (made under.certificate under.lends))

-- what stands at a place, by its bytes
pub stands_at : (known : List (Keyed MatchedName Candidate)) (n : ℕ) (d : Keyed MatchedName Candidate) (bytes : List ℕ) → n < length known → bytes ≡ (get_or known n d).value.certificate.bytes.now
    → get_or (map (λ entry. entry.value.certificate.bytes.now) known) n bytes ≡ bytes
stands_at known n d bytes within is = get_or-map (λ (entry : Keyed MatchedName Candidate). entry.value.certificate.bytes.now) known n d bytes within ∙ sym is

-- the bytes at a place are those that are lent there
pub lent_place : (known : List (Keyed MatchedName Candidate)) (n : ℕ) (d : Keyed MatchedName Candidate) (bytes lent : List ℕ) → n < length known → lent ≡ (get_or known n d).value.certificate.bytes.now
    → get_or (map (λ entry. entry.value.certificate.bytes.now) known) n bytes ≡ bytes → lent ≡ bytes
lent_place known n d bytes lent within is at = is ∙ (sym (get_or-map (λ (entry : Keyed MatchedName Candidate). entry.value.certificate.bytes.now) known n d bytes within) ∙ at)
