-- No element begins another.
use Rattle.std.proofs.Common.{◌≡◌, ℕ, List, [], ◌∷◌, ◌++◌, length, take, drop, refl, sym, ap, ◌∙◌, append_assoc}
use Rattle.std.proofs.lemmas.List.{take_at, drop_at}
use Rattle.x509_der.specs.Element.{element, length_octets}
use Rattle.x509_der.specs.ElementReading.{length_at}
use Rattle.x509_der.specs.ElementLaws.{length_at-length_octets}
use Rattle.x509_der.specs.OutcomeLaws.{ok_is}

same_heads : (s t : ℕ) (a b : List ℕ) → s ∷ a ≡ t ∷ b → (s ≡ t) × (a ≡ b)
same_heads s t a b e = (cc, cc)

-- two contents of one length in front
same_contents : (c d x y : List ℕ) → length c ≡ length d → c ++ x ≡ d ++ y → (c ≡ d) × (x ≡ y)
same_contents c d x y len e =
    let front = ap (take (length c)) e in
    let back = ap (drop (length c)) e in
    (sym (take_at c x (length c) refl) ∙ front ∙ take_at d y (length c) (sym len), sym (drop_at c x (length c) refl) ∙ back ∙ drop_at d y (length c) (sym len))

lengths : (n m : ℕ) (x y : List ℕ) → length_octets n ++ x ≡ length_octets m ++ y → (n ≡ m) × (x ≡ y)
lengths n m x y e =
    let same : (n, x) ≡ (m, y) = ok_is (n, x) (m, y) (sym (length_at-length_octets n x) ∙ ap length_at e ∙ length_at-length_octets m y) in
    (ap (λ (p : ℕ × List ℕ). p.0) same, ap (λ (p : ℕ × List ℕ). p.1) same)

pub elements : (s t : ℕ) (c d x y : List ℕ) → element s c ++ x ≡ element t d ++ y → (s ≡ t) × (c ≡ d) × (x ≡ y)
unfolding element
elements s t c d x y e =
    let heads = same_heads s t ((length_octets (length c) ++ c) ++ x) ((length_octets (length d) ++ d) ++ y) e in
    let tails = sym (append_assoc (length_octets (length c)) c x) ∙ heads.1 ∙ append_assoc (length_octets (length d)) d y in
    let l = lengths (length c) (length d) (c ++ x) (d ++ y) tails in
    let k = same_contents c d x y l.0 l.1 in
    (heads.0, k.0, k.1)

pub element_is : (s t : ℕ) (c d : List ℕ) → element s c ≡ element t d → (s ≡ t) × (c ≡ d)
element_is s t c d e = let k = elements s t c d [] [] (ap (λ (x : List ℕ). x ++ []) e) in (k.0, k.1)
