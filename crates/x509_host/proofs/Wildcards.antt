-- The labels of a host, the first of which a wildcard stands for.
use Rattle.std.proofs.Common.{◌≡◌, ◌==◌, ℕ, Bool, true, false, List, [], ◌∷◌, ◌++◌, Some, refl, sym, ap, ◌∙◌}
use Rattle.std.proofs.lemmas.Bool.{and_parts, eqb-true}
use Rattle.std.specs.List.{list_all, onto_first}
use Rattle.x509_host.specs.Host.{behind_label, dot, is_dns_label, is_dns_name, is_label_octet, labels_of}

-- the first label, where others stand behind it
pub record Split (host others : List ℕ) : Type 0 where
  pub first : List ℕ
  pub whole : host ≡ first ++ dot ∷ others
  pub labels : labels_of host ≡ first ∷ labels_of others

split_at : (c : ℕ) (rest others : List ℕ) (b : Bool) → (c == dot) ≡ b → (behind_label rest ≡ Some others → Split rest others) → behind_label (c ∷ rest) ≡ Some others → Split (c ∷ rest) others
split_at c rest others true is behind h =
    let same : Some rest ≡ Some others = rw is at h in
    let here : rest ≡ others = cc in
    record { first = []; whole = ap (λ x. x ∷ rest) (eqb-true c dot is) ∙ ap (λ r. dot ∷ r) here; labels = rw is (ap (λ r. [] ∷ labels_of r) here) }
split_at c rest others false is behind h =
    let split = behind (rw is at h) in
    record { first = c ∷ split.first; whole = ap (λ r. c ∷ r) split.whole; labels = rw is (ap (onto_first c) split.labels) }

pub split_label : (host others : List ℕ) → behind_label host ≡ Some others → Split host others
split_label [] others h = absurd cc
split_label (c ∷ rest) others h = split_at c rest others (c == dot) refl (split_label rest others) h

-- the first label of a DNS name is a label
pub first_is_label : (host others : List ℕ) (split : Split host others) → is_dns_name host ≡ true → is_dns_label split.first ≡ true
first_is_label host others split name =
    let all : list_all is_dns_label (labels_of host) ≡ true = (and_parts _ _ (and_parts _ _ name).0).0 in
    let each : list_all is_dns_label (split.first ∷ labels_of others) ≡ true = sym (ap (list_all is_dns_label) split.labels) ∙ all in
    (and_parts _ _ each).0

no_dot : (c : ℕ) (b : Bool) → (c == dot) ≡ b → is_label_octet c ≡ true → b ≡ false
no_dot c true is h = absurd (let other : is_label_octet dot ≡ true = sym (ap is_label_octet (eqb-true c dot is)) ∙ h in cc)
no_dot c false is h = refl

-- no dot stands in a label
pub behind_octets : (first others : List ℕ) → list_all is_label_octet first ≡ true → behind_label (first ++ dot ∷ others) ≡ Some others
behind_octets [] others h = refl
behind_octets (c ∷ first) others h =
    let parts = and_parts _ _ h in
    rw (no_dot c (c == dot) refl parts.0) (behind_octets first others parts.1)

pub behind_first : (first others : List ℕ) → is_dns_label first ≡ true → behind_label (first ++ dot ∷ others) ≡ Some others
behind_first first others h = behind_octets first others (and_parts _ _ (and_parts _ _ (and_parts _ _ h).0).0).0
