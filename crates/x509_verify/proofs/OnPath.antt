-- One candidate more on a path.
use Rattle.std.proofs.Common.{◌≡◌, ◌∙◌, ◌⊎◌, ◌<◌, inl, inr, ℕ, suc, List, [], ◌∷◌, ◌++◌, length, get_or, Option, Some, None, sym, ap, subst, arith}
use Rattle.std.proofs.lemmas.Grind.{not_there}
use Rattle.std.proofs.lemmas.List.Elements.{All-cons, All-contains}
use Rattle.std.specs.List.{All, Contains}
use Rattle.std.specs.Prelude.{IsSome, MatchOption, MatchResult}
use Rattle.x509_match.specs.declared.key.MatchedName.{MatchedName}
use Rattle.x509_path.specs.Certificates.{Accepting}
use Rattle.x509_verify.specs.Found.{AreDistinct, IsFound, Wanted}
use Rattle.x509_verify.specs.Named.{IsDecodable, IsUnderSubject}
use Rattle.x509_verify.specs.Progress.{AreDecodable, AreTried, Continues, IsOnPath, IsRight, IsTried, KnowsIssuer, climbed}
use Rattle.x509_verify.specs.declared.candidate.Candidate.{Candidate}
use Rattle.x509_verify.specs.declared.found.Found.{Found}
use Rattle.x509_verify.specs.declared.keyed.Keyed.{Keyed}
use Rattle.x509_verify.specs.declared.progress.Progress.{Progress}
use Rattle.x509_verify.specs.declared.refusal.Refusal.{Refusal}
use Rattle.x509_verify.proofs.Searching.{later}

pub further : (wanted : Wanted) (path longer : List (List ℕ)) (bytes : List ℕ) (left fewer : ℕ) → left ≡ suc fewer → longer ≡ bytes ∷ path → Contains wanted.candidates bytes
    → (Contains path bytes → ⊥) → IsOnPath wanted path left → IsOnPath wanted longer fewer
further wanted path longer bytes left fewer more is known fresh on = record {
  above = bytes ∷ on.above;
  whole = is ∙ ap (λ p. bytes ∷ p) on.whole;
  known = All-cons (λ b. Contains wanted.candidates b) bytes on.above known on.known;
  once = subst AreDistinct (sym is) (fresh, on.once);
  short = omega (arith, on.short, more);
}

pub knows_more : (entries : List (Keyed MatchedName Candidate)) (entry : Keyed MatchedName Candidate) (path longer : List (List ℕ)) → longer ≡ entry.value.certificate.bytes.now ∷ path
    → ∥ All IsUnderSubject entries ∥₁ → Contains entries entry → KnowsIssuer longer entry.value.issuer
knows_more entries entry path longer is under within =
    subst (λ p. KnowsIssuer p entry.value.issuer) (sym is) (λ no. not_there under (λ all.
    let u = All-contains IsUnderSubject entries entry all within in no (u.certificate, u.lends, u.issuer)))

-- with no candidate above, what is tried is tried as it stands
pub at_end : (accepts : Accepting) (wanted : Wanted) (path : List (List ℕ)) (left : ℕ) (before after : Progress) → left ≡ 0 → (found : Option Found)
    → Continues accepts wanted before after (AreTried accepts wanted path after.refusal) found → Continues accepts wanted before after (IsTried accepts wanted path left after.refusal) found
at_end accepts wanted path left before after none found goes = record { right = goes.right; noted = goes.noted; answer = answer found goes.answer } where
  tried : AreTried accepts wanted path after.refusal → IsTried accepts wanted path left after.refusal
  tried each trusted [] among may = each trusted among
  tried each trusted (bytes ∷ up) among may = absurd (omega (arith, may.many, none))

  answer : (o : Option Found) → MatchOption o (AreTried accepts wanted path after.refusal) (λ it. IsFound accepts wanted it) → MatchOption o (IsTried accepts wanted path left after.refusal) (λ it. IsFound accepts wanted it)
  answer None each = tried each
  answer (Some it) is = is

-- what the loop over candidates did with one
abbrev pub IsDoneWith : Accepting → Wanted → List (List ℕ) → ℕ → Option Refusal → Keyed MatchedName Candidate → Type 0
IsDoneWith accepts wanted path fewer refusal entry =
    Contains path entry.value.certificate.bytes.now ⊎ IsTried accepts wanted (entry.value.certificate.bytes.now ∷ path) fewer refusal

-- what it knows behind so many
abbrev pub IsKnown : Accepting → Wanted → List (List ℕ) → ℕ → Option Refusal → List (Keyed MatchedName Candidate) → ℕ → Progress → Type 0
IsKnown accepts wanted path fewer first named n progress = record {
  right : IsRight accepts wanted progress;
  noted : IsSome first → IsSome progress.refusal;
  done : (k : ℕ) (d : Keyed MatchedName Candidate) → k < n → IsDoneWith accepts wanted path fewer progress.refusal (get_or named k d);
}

pub done_later : (accepts : Accepting) (wanted : Wanted) (path : List (List ℕ)) (fewer : ℕ) (before after : Option Refusal) (entry : Keyed MatchedName Candidate) → (IsSome before → IsSome after)
    → IsDoneWith accepts wanted path fewer before entry → IsDoneWith accepts wanted path fewer after entry
done_later accepts wanted path fewer before after entry stays (inl there) = inl there
done_later accepts wanted path fewer before after entry stays (inr tried) =
    inr (λ trusted up among may. later accepts wanted trusted (climbed up (entry.value.certificate.bytes.now ∷ path)) before after stays (tried trusted up among may))
