-- What a search has tried.
use Rattle.std.proofs.Common.{◌≡◌, ◌↔◌, ◌∙◌, ◌⊎◌, inl, inr, ℕ, zero, suc, ◌+◌, ◌<◌, ◌≤◌, Bool, true, false, List, [], ◌∷◌, ◌++◌, length, map, Option, Some, None, refl, sym, ap, subst, arith}
use Rattle.std.specs.List.{All, Contains}
use Rattle.std.specs.Prelude.{IsSome}
use Rattle.std.proofs.lemmas.Bool.{true≢false}
use Rattle.std.proofs.lemmas.List.Elements.{All-cons, All-head, All-tail, All-contains, All-weaker}
use Rattle.x509_der.specs.Form.{Spells}
use Rattle.x509_match.proofs.KeysAgree.{names_match-sym}
use Rattle.x509_match.specs.Matching.{NamesMatch}
use Rattle.x509_match.specs.NameKeys.{IsNameKey}
use Rattle.x509_match.specs.declared.key.MatchedName.{MatchedName}
use Rattle.x509_name.specs.Names.{name}
use Rattle.x509_path.proofs.Firsts.{one_certificate}
use Rattle.x509_path.specs.Certificates.{Accepting, Certificate}
use Rattle.x509_path.specs.Lent.{Lends}
use Rattle.x509_path_steps.specs.Inputs.{Inputs, LendsInputs}
use Rattle.x509_path_steps.specs.declared.trusted.Trusted.{Trusted}
use Rattle.x509_verify.proofs.Climbing.{distinct_below, downwards, first_issuer, next_issuer}
use Rattle.x509_verify.proofs.Keys.{from_map}
use Rattle.x509_verify.specs.Found.{AreDistinct, AreLinked, IsValidUnder, Wanted}
use Rattle.x509_verify.specs.Named.{IsDecodable, IsUnderName, IsUnderSubject, Name}
use Rattle.x509_verify.specs.Progress.{AreDecodable, AreTried, HasIssuerKey, IsOnPath, IsTried, IsTriedUnder, MayStand, climbed}
use Rattle.x509_verify.specs.declared.candidate.Candidate.{Candidate}
use Rattle.x509_verify.specs.declared.keyed.Keyed.{Keyed}
use Rattle.x509_verify.specs.declared.refusal.Refusal.{Refusal}

-- one that was tried counts as tried behind more that was noted
pub later : (accepts : Accepting) (wanted : Wanted) (trusted : Trusted) (path : List (List ℕ)) (before after : Option Refusal) → (IsSome before → IsSome after)
    → IsTriedUnder accepts wanted trusted path before → IsTriedUnder accepts wanted trusted path after
later accepts wanted trusted path before after stays tried = record { none = tried.none; noted = λ x spells linked. stays (tried.noted x spells linked) }

-- what follows from something that isn't refuted is tried
pub despite : {H : Type 0} (accepts : Accepting) (wanted : Wanted) (trusted : Trusted) (path : List (List ℕ)) (refusal : Option Refusal) → ((H → ⊥) → ⊥)
    → (H → IsTriedUnder accepts wanted trusted path refusal) → IsTriedUnder accepts wanted trusted path refusal
despite accepts wanted trusted path refusal holds tried = record {
  none = λ valid. holds (λ h. (tried h).none valid);
  noted = λ x spells linked. noted refusal (λ other. holds (λ h. other ((tried h).noted x spells linked)));
} where
  noted : (r : Option Refusal) → ((IsSome r → ⊥) → ⊥) → IsSome r
  noted None is = absurd (is (λ some. true≢false (sym some)))
  noted (Some r) is = refl

-- the rest of a path that is linked is linked under some name
pub linked_below : (x : Name) (above path : List (List ℕ)) → AreLinked x (above ++ path) → (y : Name) × AreLinked y path
linked_below x [] path linked = (x, linked)
linked_below x (bytes ∷ above) path (c, spells, match, linked) = linked_below c.tbs_certificate.subject above path linked

module _ (accepts : Accepting) (wanted : Wanted) (refusal : Option Refusal)
    (one_name : (v w : Name) (b : List ℕ) → Spells name v b → Spells name w b → v ≡ w)
    (eq : MatchedName → MatchedName → Bool)
    (agree : (k l : MatchedName) (x y : Name) → IsNameKey k x → IsNameKey l y → (eq k l ≡ true) ↔ NamesMatch x y) where
  -- under a name that the issuer doesn't match the path isn't valid, nor are its names linked
  other_anchor : (entry : Keyed MatchedName Trusted) (issuer : MatchedName) (path : List (List ℕ)) → IsUnderName entry → HasIssuerKey path issuer → eq entry.key issuer ≡ false
      → IsTriedUnder accepts wanted entry.value path refusal
  other_anchor entry issuer [] under has other = absurd has
  other_anchor entry issuer (bytes ∷ path) (x, spells, key) (c, lends, own) other =
      let apart : NamesMatch c.tbs_certificate.issuer x → ⊥ = λ match. true≢false (sym ((agree entry.key issuer x c.tbs_certificate.issuer key own).1 (names_match-sym _ _ match)) ∙ other) in record {
        none = λ valid. valid.readable (λ inputs lent. first_issuer accepts inputs c bytes path lends (valid.valid inputs lent)
            (λ match. apart (subst (λ y. NamesMatch c.tbs_certificate.issuer y) (one_name inputs.trust.anchor.name x entry.value.anchor.name.now lent.trust.anchor.0 spells) match)));
        noted = λ y is (d, other_lends, match, linked). absurd (apart (subst (λ n. NamesMatch c.tbs_certificate.issuer n) (one_name y x entry.value.anchor.name.now is spells)
            (subst (λ e. NamesMatch e.tbs_certificate.issuer y) (one_certificate d c bytes other_lends lends) match)));
      }

  -- all is tried, where those are under whose name the issuer matches
  pub all_tried : (entries found : List (Keyed MatchedName Trusted)) (issuer : MatchedName) (path : List (List ℕ)) → wanted.trusted ≡ map (λ entry. entry.value) entries
      → All IsUnderName entries → HasIssuerKey path issuer
      → ((entry : Keyed MatchedName Trusted) → Contains entries entry → eq entry.key issuer ≡ true → Contains found entry)
      → ((entry : Keyed MatchedName Trusted) → Contains found entry → IsTriedUnder accepts wanted entry.value path refusal)
      → AreTried accepts wanted path refusal
  all_tried entries found issuer path is under has every tried trusted among =
      let (entry, within, same) = from_map (λ (e : Keyed MatchedName Trusted). e.value) entries trusted (subst (λ ts. Contains ts trusted) is among) in
      subst (λ t. IsTriedUnder accepts wanted t path refusal) same (cases entry within (eq entry.key issuer) refl) where
        cases : (entry : Keyed MatchedName Trusted) → Contains entries entry → (b : Bool) → eq entry.key issuer ≡ b → IsTriedUnder accepts wanted entry.value path refusal
        cases entry within true is = tried entry (every entry within is)
        cases entry within false is = other_anchor entry issuer path (All-contains IsUnderName entries entry under within) has is

  -- a candidate that the issuer doesn't match can't stand above the path
  other_candidate : (entry : Keyed MatchedName Candidate) (issuer : MatchedName) (path : List (List ℕ)) (trusted : Trusted) (up : List (List ℕ)) → IsUnderSubject entry
      → HasIssuerKey path issuer → eq entry.key issuer ≡ false → AreDecodable up
      → IsTriedUnder accepts wanted trusted (climbed up (entry.value.certificate.bytes.now ∷ path)) refusal
  other_candidate entry issuer [] trusted up under has other decodable = absurd has
  other_candidate entry issuer (bytes ∷ path) trusted up under (c, lends, own) other decodable =
      let high = entry.value.certificate.bytes.now in
      let apart : NamesMatch c.tbs_certificate.issuer under.certificate.tbs_certificate.subject → ⊥ =
      λ match. true≢false (sym ((agree entry.key issuer under.certificate.tbs_certificate.subject c.tbs_certificate.issuer under.subject own).1 (names_match-sym _ _ match)) ∙ other) in
      let down = downwards (λ b. IsDecodable b) up (high ∷ bytes ∷ path) decodable in
      subst (λ p. IsTriedUnder accepts wanted trusted p refusal) (sym down.same) (record {
        none = λ valid. valid.readable (λ inputs lent. next_issuer accepts inputs down.above under.certificate c high bytes path down.all under.lends lends (valid.valid inputs lent) apart);
        noted = λ x is linked.
            let (y, (a, over, first, (b, below, match, more))) = linked_below x down.above (high ∷ bytes ∷ path) linked in
            let upper = subst (λ e. NamesMatch b.tbs_certificate.issuer e.tbs_certificate.subject) (one_certificate a under.certificate high over under.lends) match in
            absurd (apart (subst (λ e. NamesMatch e.tbs_certificate.issuer under.certificate.tbs_certificate.subject) (one_certificate b c bytes below lends) upper));
      })

  -- what was tried with each candidate above, or what already stands in the path
  abbrev pub IsDone : List (List ℕ) → ℕ → Keyed MatchedName Candidate → Type 0
  IsDone path fewer entry = Contains path entry.value.certificate.bytes.now ⊎ IsTried accepts wanted (entry.value.certificate.bytes.now ∷ path) fewer refusal

  -- with so many candidates above all is tried, where it is with those whose subject the issuer matches
  pub all_climbed : (entries found : List (Keyed MatchedName Candidate)) (issuer : MatchedName) (path : List (List ℕ)) (left fewer : ℕ) → left ≡ suc fewer
      → wanted.candidates ≡ map (λ entry. entry.value.certificate.bytes.now) entries → All IsUnderSubject entries → HasIssuerKey path issuer
      → ((entry : Keyed MatchedName Candidate) → Contains entries entry → eq entry.key issuer ≡ true → Contains found entry)
      → ((entry : Keyed MatchedName Candidate) → Contains found entry → IsDone path fewer entry)
      → IsTried accepts wanted path left refusal
  all_climbed entries found issuer path left fewer more is under has every done trusted [] among may = absurd (omega (arith, more, may.many))
  all_climbed entries found issuer path left fewer more is under has every done trusted (bytes ∷ up) among may =
      let (entry, within, same) = from_map (λ (e : Keyed MatchedName Candidate). e.value.certificate.bytes.now) entries bytes
      (subst (λ cs. Contains cs bytes) is (All-head (λ b. Contains wanted.candidates b) bytes up may.known)) in
      subst (λ b. IsTriedUnder accepts wanted trusted (climbed up (b ∷ path)) refusal) same (cases entry within (eq entry.key issuer) refl (subst (λ b. MayStand wanted path left (b ∷ up)) (sym same) may)) where
        decodable : (b : List ℕ) → Contains wanted.candidates b → IsDecodable b
        decodable b known =
            let (e, there, at) = from_map (λ (e : Keyed MatchedName Candidate). e.value.certificate.bytes.now) entries b (subst (λ cs. Contains cs b) is known) in
            let u = All-contains IsUnderSubject entries e under there in
            subst (λ x. IsDecodable x) at (u.certificate, u.lends)

        cases : (entry : Keyed MatchedName Candidate) → Contains entries entry → (b : Bool) → eq entry.key issuer ≡ b → MayStand wanted path left (entry.value.certificate.bytes.now ∷ up)
            → IsTriedUnder accepts wanted trusted (climbed up (entry.value.certificate.bytes.now ∷ path)) refusal
        cases entry within false other stands =
            other_candidate entry issuer path trusted up (All-contains IsUnderSubject entries entry under within) has other
            (All-weaker (λ b. Contains wanted.candidates b) (λ b. IsDecodable b) decodable up (All-tail (λ b. Contains wanted.candidates b) entry.value.certificate.bytes.now up stands.known))
        cases entry within true match stands =
            let high = entry.value.certificate.bytes.now in elim (done entry (every entry within match)) [
              | inl already ↦ absurd ((distinct_below up (high ∷ path) stands.once).0 already)
              | inr above ↦ above trusted up among (record {
                known = All-tail (λ b. Contains wanted.candidates b) high up stands.known;
                once = stands.once;
                many = omega (arith, stands.many, more);
              })
            ]
