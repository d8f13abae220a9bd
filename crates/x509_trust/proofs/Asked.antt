-- Which certificates are asked for their status.
use Rattle.std.proofs.Common.{◌≡◌, ◌∙◌, ◌-◌, Bor, ℕ, List, [], ◌∷◌, ◌++◌, length, take, sym, ap, arith}
use Rattle.std.proofs.Math.Seq.{take-append_seam}
use Rattle.std.proofs.lemmas.List.{length-append, length-map, take-map}
use Rattle.x509_verify.specs.Found.{octets}

-- all but the last one
pub front : (path : List (Bor (List ℕ))) (above : List (List ℕ)) (leaf : List ℕ) → octets path ≡ above ++ leaf ∷ [] → octets (take (length path - 1) path) ≡ above
front path above leaf is =
    let many : length path - 1 ≡ length above = omega (arith, ap length is, length-map path (λ (one : Bor (List ℕ)). one.now), length-append above (leaf ∷ [])) in
    sym (take-map (λ (one : Bor (List ℕ)). one.now) (length path - 1) path)
    ∙ (ap (take (length path - 1)) is ∙ (ap (λ n. take n (above ++ leaf ∷ [])) many ∙ take-append_seam above (leaf ∷ [])))
