-- How long the octets of policies are, and how they grow by one.
use Rattle.std.proofs.Common.{◌≡◌, ◌∙◌, ◌⊎◌, ℕ, suc, ◌+◌, ◌<◌, ◌≤◌, inl, inr, Bor, List, [], ◌∷◌, ◌++◌, length, take, drop, get_or, refl, sym, ap, subst, arith, length-append}
use Rattle.std.proofs.Math.Seq.{split_at}
use Rattle.std.proofs.lemmas.List.{map_more}
use Rattle.x509_c_calls.specs.PathValidation.{policies_octets, policy_octets}
use Rattle.x509_der.specs.Element.{element, length_octets, limit}
use Rattle.x509_der.specs.List.{joined}
use Rattle.x509_der.specs.declared.error.ErrorKind.{ErrorKind}
use Rattle.x509_der.specs.declared.error.ErrorKind.TheVariants.{Memory, Overlength, Value}
use Rattle.x509_path_steps.specs.Inputs.{Inputs}
use Rattle.x509_path_steps.specs.Validation.{AreUnusable, IsUnder}
use Rattle.x509_policy.specs.Values.{Policy}
use Rattle.x509_policy.specs.Views.{octets_of}

-- an element is longer than its content
pub longer : (tag : ℕ) (content : List ℕ) → length content < length (element tag content)
unfolding element
longer tag content = omega (arith, length-append (length_octets (length content)) content)

joined-append : {X : Type 0} (text : X → List ℕ) (xs ys : List X) → joined text (xs ++ ys) ≡ joined text xs ++ joined text ys
unfolding joined
joined-append text [] ys = refl
joined-append text (x ∷ xs) ys = ap (λ zs. text x ++ zs) (joined-append text xs ys) ∙ sym (assoc (text x) (joined text xs) (joined text ys)) where
  assoc : (us vs ws : List ℕ) → (us ++ vs) ++ ws ≡ us ++ (vs ++ ws)
  assoc [] vs ws = refl
  assoc (u ∷ us) vs ws = ap (λ zs. u ∷ zs) (assoc us vs ws)

joined-one : {X : Type 0} (text : X → List ℕ) (x : X) → joined text (x ∷ []) ≡ text x
unfolding joined
joined-one text x = none (text x) where
  none : (us : List ℕ) → us ++ [] ≡ us
  none [] = refl
  none (u ∷ us) = ap (λ zs. u ∷ zs) (none us)

-- one policy more
pub further : (policies : List (Bor (List ℕ))) (i : ℕ) (d : Bor (List ℕ)) → i < length policies
    → joined policy_octets (octets_of (take (i + 1) policies)) ≡ joined policy_octets (octets_of (take i policies)) ++ policy_octets (get_or policies i d).now
further policies i d within =
    ap (joined policy_octets) (map_more (λ (policy : Bor (List ℕ)). policy.now) policies i d within)
    ∙ joined-append policy_octets (octets_of (take i policies)) ((get_or policies i d).now ∷ [])
    ∙ ap (λ zs. joined policy_octets (octets_of (take i policies)) ++ zs) (joined-one policy_octets (get_or policies i d).now)

first : (one : List ℕ) (others : List (List ℕ)) → length (policy_octets one) ≤ length (joined policy_octets (one ∷ others))
unfolding joined
first one others = omega (arith, length-append (policy_octets one) (joined policy_octets others))

-- the octets of one of them are not longer than those of all
pub part : (policies : List (Bor (List ℕ))) (i : ℕ) (d : Bor (List ℕ)) → i < length policies
    → length (policy_octets (get_or policies i d).now) < length (policies_octets (octets_of policies))
part policies i d within =
    let behind : List (Bor (List ℕ)) = drop (suc i) policies in
    let front : List (List ℕ) = octets_of (take i policies) in
    let one : List ℕ = (get_or policies i d).now in
    let cut : octets_of policies ≡ front ++ one ∷ octets_of behind = ap octets_of (split_at policies i d within) ∙ mapped (take i policies) (get_or policies i d ∷ behind) in
    let all : joined policy_octets (octets_of policies) ≡ joined policy_octets front ++ joined policy_octets (one ∷ octets_of behind) = ap (joined policy_octets) cut ∙ joined-append policy_octets front (one ∷ octets_of behind) in
    omega (arith, longer 48 (joined policy_octets (octets_of policies)), ap length all, length-append (joined policy_octets front) (joined policy_octets (one ∷ octets_of behind)), first one (octets_of behind)) where
      mapped : (xs ys : List (Bor (List ℕ))) → octets_of (xs ++ ys) ≡ octets_of xs ++ octets_of ys
      mapped [] ys = refl
      mapped (x ∷ xs) ys = ap (λ zs. x.now ∷ zs) (mapped xs ys)

-- what is too long for a part is too long for all
pub longer-part : (kind : ErrorKind) (small large : List ℕ) → length small ≤ length large → (kind ≡ Memory) ⊎ ((kind ≡ Overlength) × (limit < length small))
    → (kind ≡ Memory) ⊎ ((kind ≡ Overlength) × (limit < length large))
longer-part kind small large within (inl memory) = inl memory
longer-part kind small large within (inr (overlength, long)) = inr (overlength, omega (arith, long, within))

-- so of one policy among several
pub long-policy : (policies : List (Bor (List ℕ))) (i : ℕ) (d : Bor (List ℕ)) (kind : ErrorKind) → i < length policies
    → (kind ≡ Memory) ⊎ ((kind ≡ Overlength) × (limit < length (policy_octets (get_or policies i d).now)))
    → (kind ≡ Memory) ⊎ ((kind ≡ Overlength) × (limit < length (policies_octets (octets_of policies))))
long-policy policies i d kind within =
    longer-part kind (policy_octets (get_or policies i d).now) (policies_octets (octets_of policies)) (omega (arith, part policies i d within))

-- why the policies of a valid path aren't told
pub why_refused : (inputs : Inputs) (path : List (List ℕ)) (found lent : List Policy) (kind : ErrorKind) → IsUnder inputs path found → lent ≡ found
    → (kind ≡ Memory) ⊎ ((kind ≡ Overlength) × (limit < length (policies_octets lent)))
    → (kind ≡ Memory) ⊎ (((kind ≡ Value) × AreUnusable inputs)
    ⊎ ((kind ≡ Overlength) × (others : List Policy) × IsUnder inputs path others × (limit < length (policies_octets others))))
why_refused inputs path found lent kind under same (inl memory) = inl memory
why_refused inputs path found lent kind under same (inr (overlength, long)) =
    inr (inr (overlength, found, under, subst (λ policies. limit < length (policies_octets policies)) same long))
