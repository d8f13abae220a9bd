-- A certificate of a path, those before it and those behind it.
use Rattle.std.proofs.Common.{◌≡◌, ◌∙◌, ℕ, suc, ◌+◌, ◌<◌, ◌≤◌, List, [], ◌∷◌, ◌++◌, length, map, take, drop, get_or, Option, Some, None, refl, sym, ap, subst, append_assoc, length-append, take-append-drop, drop-cons, arith}
use Rattle.std.proofs.lemmas.Grind.{take_at_read}
use Rattle.std.proofs.lemmas.List.{take_all, map-append, length-map, length-take-le}
use Rattle.std.specs.Option.{option_map}
use Rattle.x509_policy.specs.Values.{Certificate, Settings}
use Rattle.x509_policy.specs.Path.{Refused}
use Rattle.x509_policy.specs.Views.{certificate_of}
use Rattle.x509_policy.specs.Follows.{IsOutcome, Follows, IsAnswered, reason_of}
use Rattle.x509_policy.specs.declared.values.PolicyView.{PolicyView}
use Rattle.x509_policy.specs.declared.state.PolicyState.{PolicyState}
use Rattle.x509_policy.specs.declared.state.PolicyReason.{PolicyReason}

-- something stands behind
record Tail {X : Type 0} (xs : List X) (y : X) : Type 0 where
  next : X
  rest : List X
  is : xs ++ y ∷ [] ≡ next ∷ rest
  long : length rest ≡ length xs

tail : {X : Type 0} (xs : List X) (y : X) → Tail xs y
tail [] y = record { next = y; rest = []; is = refl; long = refl }
tail (x ∷ xs) y = record { next = x; rest = xs ++ y ∷ []; is = refl; long = length-append xs (y ∷ []) ∙ omega arith }

module _ (path : List PolicyView) (place : ℕ) (d : PolicyView) (last : Certificate) (within : place < length path) where
  abbrev Before : List Certificate
  Before = map certificate_of (take place path)

  abbrev Here : Certificate
  Here = certificate_of (get_or path place d)

  abbrev After : List Certificate
  After = map certificate_of (drop (suc place) path)

  before_length : length Before ≡ place
  before_length = length-map (take place path) certificate_of ∙ length-take-le place path (omega arith)

  after_length : length After + place + 1 ≡ length path
  after_length =
      let all = ap length (take-append-drop (suc place) path) in
      let parts = length-append (take (suc place) path) (drop (suc place) path) in
      let first = length-take-le (suc place) path (omega arith) in
      let mapped = length-map (drop (suc place) path) certificate_of in
      omega arith

  split : map certificate_of path ≡ Before ++ Here ∷ After
  split =
      ap (map certificate_of) (sym (take-append-drop place path)) ∙ (map-append certificate_of (take place path) (drop place path)
      ∙ ap (λ l. Before ++ map certificate_of l) (drop-cons path place d within))

  pub refused_here : (settings : Settings) (new : PolicyState) (refusal : Option PolicyReason) (reason : PolicyReason) → refusal ≡ Some reason
      → IsAnswered settings (length path + 1) Before Here (option_map reason_of refusal) new
      → IsOutcome settings (map certificate_of path ++ last ∷ []) (Refused place (reason_of reason))
  refused_here settings new refusal reason is answered =
      let t = tail After last in
      let a : IsAnswered settings (length path + 1) Before Here (Some (reason_of reason)) new = subst (λ (r : Option PolicyReason). IsAnswered settings (length path + 1) Before Here (option_map reason_of r) new) is answered in
      let one = before_length in
      let two = after_length in
      let three = t.long in
      let out = a t.next t.rest (omega arith) in
      let whole : map certificate_of path ++ last ∷ [] ≡ Before ++ Here ∷ t.next ∷ t.rest =
      ap (λ l. l ++ last ∷ []) split ∙ (append_assoc Before (Here ∷ After) (last ∷ []) ∙ ap (λ l. Before ++ Here ∷ l) t.is) in
      subst (λ cs. IsOutcome settings cs (Refused place (reason_of reason))) (sym whole)
      (subst (λ p. IsOutcome settings (Before ++ Here ∷ t.next ∷ t.rest) (Refused p (reason_of reason))) one out)

  pub goes_on_here : (settings : Settings) (new : PolicyState) (refusal : Option PolicyReason) → ((reason : PolicyReason) → refusal ≡ Some reason → ⊥)
      → IsAnswered settings (length path + 1) Before Here (option_map reason_of refusal) new
      → Follows settings (length path + 1) (map certificate_of (take (place + 1) path)) new
  goes_on_here settings new (Some reason) none answered = absurd (none reason refl)
  goes_on_here settings new None none answered =
      let longer : map certificate_of (take (place + 1) path) ≡ Before ++ Here ∷ [] =
      ap (map certificate_of) (take_at_read path place d within).1 ∙ map-append certificate_of (take place path) (get_or path place d ∷ []) in
      subst (λ cs. Follows settings (length path + 1) cs new) (sym longer) answered

pub all_follow : (settings : Settings) (path : List PolicyView) (place : ℕ) (state : PolicyState) → length path ≤ place → Follows settings (length path + 1) (map certificate_of (take place path)) state
    → Follows settings (suc (length (map certificate_of path))) (map certificate_of path) state
all_follow settings path place state past f =
    let count : length path + 1 ≡ suc (length (map certificate_of path)) = let mapped = length-map path certificate_of in omega arith in
    subst (λ n. Follows settings n (map certificate_of path) state) count (subst (λ l. Follows settings (length path + 1) (map certificate_of l) state) (take_all place path past) f)
