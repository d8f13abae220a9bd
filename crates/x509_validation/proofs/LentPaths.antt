-- The certificates of a path, lent from its bytes.
use Rattle.std.proofs.Common.{◌≡◌, ◌∙◌, ◌<◌, ◌+◌, ℕ, List, [], ◌∷◌, ◌++◌, Bor, map, take, length, get_or, ap, sym}
use Rattle.std.proofs.lemmas.List.{map_push, take_more}
use Rattle.x509_cert.specs.Certificate.{rfc5280_certificate}
use Rattle.x509_der.specs.Form.{Spells}
use Rattle.x509_path.specs.Certificates.{Certificate}

module _ {X : Type 0} (bytes_of : X → List ℕ) where
  -- one more is lent from these bytes
  pub one_lent : (certificates after : List X) (one : X) (bytes : List ℕ) (c : Certificate)
      → after ≡ certificates ++ one ∷ [] → Spells rfc5280_certificate c (bytes_of one) → Spells rfc5280_certificate c bytes
      → map bytes_of after ≡ map bytes_of certificates ++ bytes ∷ []
  one_lent certificates after one bytes c grown mine given =
      ap (map bytes_of) grown ∙ map_push bytes_of certificates one ∙ ap (λ (b : List ℕ). map bytes_of certificates ++ b ∷ []) (mine.1 ∙ sym given.1)

  -- one more of the inputs is lent
  pub next_lent : (certificates after : List X) (one : X) (front : List (Bor (List ℕ))) (i : ℕ) (d : Bor (List ℕ)) (c : Certificate)
      → map bytes_of certificates ≡ map (λ input. input.now) (take i front) → after ≡ certificates ++ one ∷ [] → i < length front
      → Spells rfc5280_certificate c (bytes_of one) → Spells rfc5280_certificate c (get_or front i d).now
      → map bytes_of after ≡ map (λ input. input.now) (take (i + 1) front)
  next_lent certificates after one front i d c so_far grown less mine given =
      one_lent certificates after one (get_or front i d).now c grown mine given ∙ ap (λ (l : List (List ℕ)). l ++ (get_or front i d).now ∷ []) so_far
      ∙ sym (map_push (λ (input : Bor (List ℕ)). input.now) (take i front) (get_or front i d)) ∙ sym (ap (map (λ (input : Bor (List ℕ)). input.now)) (take_more front i d less))
