-- Where bytes have no signed part, and where it stands.
use Rattle.std.proofs.Common.{◌≡◌, ◌≢◌, ℕ, nat_eq, Bool, true, false, ◌-◌, ◌<◌, ◌≤◌, List, [], ◌++◌, length, take, sym, ap, ◌∙◌, arith, length-append}
use Rattle.std.proofs.lemmas.Bool.{eqb-true, true≢false}
use Rattle.std.proofs.lemmas.List.{append-nil, take_at, nil_from_length}
use Rattle.x509_der.specs.Element.{element, header, limit}
use Rattle.x509_der.specs.FrontLaws.{elements}
use Rattle.x509_cert.specs.Signed.{IsSignedPart}
use Rattle.x509_cert.specs.SignedLaws.{content_shorter}

-- what a test of emptiness says
pub nothing_left : (after : List ℕ) (b : Bool) → b ≡ nat_eq (length after) 0 → b ≡ true → after ≡ []
nothing_left after b is so = nil_from_length after (eqb-true _ _ (sym is ∙ so))

pub something_left : (after : List ℕ) (b : Bool) → b ≡ nat_eq (length after) 0 → b ≡ false → after ≢ []
something_left after b is not_so none = absurd (true≢false (sym (rw none at is) ∙ not_so))

-- no SEQUENCE of at most the limit stands at the front
abbrev pub BeginsWithNone : List ℕ → Type 0
BeginsWithNone bytes = (content rest : List ℕ) → bytes ≡ element 0x30 content ++ rest → limit < length (element 0x30 content)

pub begins_otherwise : (tag : ℕ) (bytes c x d y : List ℕ) → bytes ≡ element tag c ++ x → tag ≢ 0x30 → bytes ≡ element 0x30 d ++ y → limit < length (element 0x30 d)
begins_otherwise tag bytes c x d y e other f = absurd (other (elements tag 0x30 c d x y (sym e ∙ f)).0)

module _ (bytes signed : List ℕ) (p : IsSignedPart bytes signed) where
  pub none_outside : BeginsWithNone bytes → ⊥
  none_outside h =
      let long : limit < length (element 0x30 (signed ++ p.behind)) = h (signed ++ p.behind) [] (p.whole ∙ sym (append-nil (element 0x30 (signed ++ p.behind)))) in
      omega (arith, long, ap length p.whole, p.within)

  pub same_content : (content after : List ℕ) → bytes ≡ element 0x30 content ++ after → (content ≡ signed ++ p.behind) × (after ≡ [])
  same_content content after e =
      let same = elements 0x30 0x30 content (signed ++ p.behind) after [] (sym e ∙ p.whole ∙ sym (append-nil (element 0x30 (signed ++ p.behind)))) in
      (same.1, same.2)

  pub none_inside : (content after : List ℕ) → bytes ≡ element 0x30 content ++ after → BeginsWithNone content → ⊥
  none_inside content after e h =
      let same = same_content content after e in
      let long : limit < length (element 0x30 p.content) = h p.content p.behind (same.0 ∙ ap (λ x. x ++ p.behind) p.part) in
      omega (arith, long, ap length p.part, content_shorter 0x30 signed p.behind, ap length p.whole, p.within)

pub front_of : (content inner behind : List ℕ) → content ≡ element 0x30 inner ++ behind → take (length content - length behind) content ≡ element 0x30 inner
front_of content inner behind e =
    rw e (take_at (element 0x30 inner) behind (length (element 0x30 inner ++ behind) - length behind) (omega (arith, length-append (element 0x30 inner) behind)))

pub stands_behind_a_header : (bytes signed : List ℕ) → IsSignedPart bytes signed → (behind : List ℕ) × (bytes ≡ header 0x30 (length (signed ++ behind)) ++ (signed ++ behind))
unfolding element
stands_behind_a_header bytes signed p = (p.behind, p.whole)

pub signed_part : (bytes content after inner behind found : List ℕ) → bytes ≡ element 0x30 content ++ after → length (element 0x30 content) ≤ limit → after ≡ [] → content ≡ element 0x30 inner ++ behind → found ≡ element 0x30 inner → IsSignedPart bytes found
signed_part bytes content after inner behind found e within none f is =
    let alone : bytes ≡ element 0x30 content = e ∙ rw none (append-nil (element 0x30 content)) in
    record {
      content = inner;
      behind = behind;
      part = is;
      whole = alone ∙ ap (element 0x30) (f ∙ ap (λ x. x ++ behind) (sym is));
      within = omega (arith, ap length alone, within);
    }
