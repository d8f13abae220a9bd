-- A search without a candidate that its status bars.
use Rattle.std.proofs.Common.{◌≡◌, ◌≢◌, ◌↔◌, inl, inr, ℕ, zero, suc, List, [], ◌∷◌, get_or, Result, Ok, Err, refl, sym, subst, arith}
use Rattle.std.proofs.lemmas.List.Elements.{All-cons, All-contains, All-nil}
use Rattle.std.specs.List.{All, Contains}
use Rattle.x509_path.specs.Certificates.{Accepting}
use Rattle.x509_path.specs.Lent.{Lends}
use Rattle.x509_path_steps.specs.declared.trusted.Trusted.{Trusted}
use Rattle.x509_revocation.specs.Says.{GivenCrl, Question}
use Rattle.x509_revocation.specs.Status as statuses
use Rattle.x509_revocation.specs.declared.status.RevocationStatus.{RevocationStatus}
use Rattle.x509_trust.specs.Limits.{IsWithout, KeepsWithout, OfPaths}
use Rattle.x509_trust.specs.Peers.{AreBarred, Bars, HasBarred, IsBarred, Passes, asked_above}
use Rattle.x509_trust.specs.Searched.{AbovePass, AnswersAbove, NonePasses, StandsAbove, told_behind}
use Rattle.x509_trust.specs.declared.error.RefusedCertificate.{RefusedCertificate}
use Rattle.x509_trust.specs.declared.error.VerifyError.{VerifyError}
use Rattle.x509_trust.specs.declared.error.VerifyError.TheVariants.{OtherName, Path, Revocation, TooManyRefused}
use Rattle.x509_trust.specs.declared.revocation.RevocationCheck.{RevocationCheck}
use Rattle.x509_trust.specs.declared.revocation.RevocationScope.{RevocationScope}
use Rattle.x509_trust.specs.declared.revocation.RevocationScope.TheVariants as scopes
use Rattle.x509_verify.specs.Effort.{KeepsLimits}
use Rattle.x509_verify.specs.Found.{LeadsTo, NoneLeads, Wanted}
use Rattle.x509_verify.specs.Given.{candidates_of}
use Rattle.x509_verify.specs.Named.{IsDecodable}
use Rattle.x509_verify.specs.declared.anchors.Anchors.{Anchors}
use Rattle.x509_verify.specs.declared.find_error.FindError.{FindError}
use Rattle.x509_verify.specs.declared.find_error.FindError.TheVariants.{Memory, Limit, Decode, Leaf, UnknownIssuer, Refused}
use Rattle.x509_verify.specs.declared.found.Found.{Found}
use Rattle.x509_verify.specs.declared.limits.SearchLimits.{SearchLimits}
use Rattle.x509_verify.specs.declared.pool.Pool.{Pool}

-- where one above the last is asked, all are
pub all_asked : (scope : RevocationScope) (above : List (List ℕ)) (bytes : List ℕ) → Contains (asked_above scope above) bytes → (xs : List (List ℕ)) → asked_above scope xs ≡ xs
all_asked scopes.Leaf above bytes (k, less, is) xs = absurd (omega (arith, less))
all_asked scopes.Path above bytes among xs = refl

-- the same search over other candidates
abbrev pub over : Wanted → List (List ℕ) → Wanted
over wanted candidates = record { settings = wanted.settings; trusted = wanted.trusted; candidates = candidates; max_depth = wanted.max_depth; leaf = wanted.leaf }

each : {P Q R : List ℕ → Type 0} → ((x : List ℕ) → P x → Q x → R x) → (xs : List (List ℕ)) → All P xs → All Q xs → All R xs
each both xs ps qs = λ k d less. both (get_or xs k d) (ps k d less) (qs k d less)

module _ (accepts : Accepting) (wanted : Wanted) (rest : List (List ℕ)) (check : RevocationCheck) (given : List GivenCrl) (refused : RefusedCertificate)
    (barred : IsBarred accepts check given refused.certificate.now refused.status)
    (stands : StandsAbove accepts wanted refused.certificate.now)
    (among : Contains wanted.candidates refused.certificate.now)
    (fewer : (one : List ℕ) → Contains rest one ↔ (Contains wanted.candidates one × (one ≢ refused.certificate.now)))
    (all : (xs : List (List ℕ)) → asked_above check.scope xs ≡ xs)
    (one_status : (question : Question) (given : List GivenCrl) (s t : RevocationStatus) → statuses.Answers question given s → statuses.Answers question given t → s ≡ t)
    (decodable : IsDecodable wanted.leaf) where
  left : Wanted
  left = over wanted rest

  -- one that passes isn't that
  another : (bytes : List ℕ) → Passes accepts check given bytes → bytes ≢ refused.certificate.now
  another bytes passes is =
      let (status, has, free) = passes barred.certificate (subst (λ b. Lends b barred.certificate) (sym is) barred.lends) in
      free (subst (λ s. Bars check s) (one_status _ given refused.status status barred.has has) barred.bars)

  widens : (trusted : Trusted) (above : List (List ℕ)) → LeadsTo accepts (over wanted rest) trusted above → LeadsTo accepts wanted trusted above
  widens trusted above leads = record {
    is_trusted = leads.is_trusted;
    stand = record { known = λ k d less. ((fewer (get_or above k d)).0 (leads.stand.known k d less)).0; once = leads.stand.once; short = leads.stand.short };
    valid = leads.valid;
  }

  narrows : (trusted : Trusted) (above : List (List ℕ)) → LeadsTo accepts wanted trusted above → AbovePass accepts check given above → LeadsTo accepts (over wanted rest) trusted above
  narrows trusted above leads pass = record {
    is_trusted = leads.is_trusted;
    stand = record {
      known = each (λ bytes has passes. (fewer bytes).1 (has, another bytes passes)) above leads.stand.known (subst (All (Passes accepts check given)) (all above) pass);
      once = leads.stand.once;
      short = leads.stand.short;
    };
    valid = leads.valid;
  }

  none : NonePasses accepts (over wanted rest) check given → NonePasses accepts wanted check given
  none without trusted above leads pass = without trusted above (narrows trusted above leads pass) pass

  told : NonePasses accepts (over wanted rest) check given → (l : ℕ) → AnswersAbove accepts wanted check given l (Err (Revocation refused))
  told without l = (none without, stands, barred)

  none_leads : NoneLeads accepts (over wanted rest) → NonePasses accepts (over wanted rest) check given
  none_leads without trusted above leads pass = without trusted above leads

  more : (l : ℕ) → AreBarred accepts check given rest l → AreBarred accepts check given wanted.candidates (suc l)
  more l are = record {
    barred = refused.certificate.now ∷ are.barred;
    distinct = (
      (λ within. ((fewer refused.certificate.now).0 (All-contains (λ bytes. Contains rest bytes) are.barred refused.certificate.now are.known within)).1 refl),
      are.distinct,
    );
    known = All-cons (λ bytes. Contains wanted.candidates bytes) refused.certificate.now are.barred among (λ k d less. ((fewer (get_or are.barred k d)).0 (are.known k d less)).0);
    each = All-cons (HasBarred accepts check given) refused.certificate.now are.barred (refused.status, barred) are.each;
    many = omega (arith, are.many);
  }

  pub behind : (l : ℕ) (searched : Result Found VerifyError) → AnswersAbove accepts (over wanted rest) check given l searched
      → AnswersAbove accepts wanted check given (suc l) (told_behind (Revocation refused) searched)
  behind l (Ok found) is = record {
    found = record { above = is.found.above; path = is.found.path; leads = widens found.trusted is.found.above is.found.leads; gives = is.found.gives };
    passes = is.passes;
    shortest = λ trusted above leads pass. is.shortest trusted above (narrows trusted above leads pass) pass;
  }
  behind l (Err OtherName) is = absurd is
  behind l (Err (Path Memory)) is = is
  behind l (Err (Path Limit)) is = record { certificate = is.certificate; spells = is.spells; none = is.none }
  behind l (Err (Path Decode)) is = absurd (is decodable)
  behind l (Err (Path (Leaf reason))) is = told (none_leads is.1) (suc l)
  behind l (Err (Path UnknownIssuer)) is = told (none_leads is.2) (suc l)
  behind l (Err (Path (Refused refusal))) is = told (none_leads is.1) (suc l)
  behind l (Err (Revocation other)) is = told is.0 (suc l)
  behind l (Err TooManyRefused) is = more (suc l) is

-- where none may be left out, one is too many
pub one_barred : (accepts : Accepting) (check : RevocationCheck) (given : List GivenCrl) (candidates : List (List ℕ)) (refused : RefusedCertificate) (count : ℕ) → count ≡ 0
    → IsBarred accepts check given refused.certificate.now refused.status → Contains candidates refused.certificate.now → AreBarred accepts check given candidates (suc count)
one_barred accepts check given candidates refused count none barred among = record {
  barred = refused.certificate.now ∷ [];
  distinct = ((λ (k, less, is). absurd (omega (arith, less))), tt);
  known = All-cons (λ bytes. Contains candidates bytes) refused.certificate.now [] among (All-nil (λ bytes. Contains candidates bytes));
  each = All-cons (HasBarred accepts check given) refused.certificate.now [] (refused.status, barred) (All-nil (HasBarred accepts check given));
  many = omega (arith, none);
}

-- what the search keeps to
pub keeps_behind : (accepts : Accepting) (check : RevocationCheck) (given : List GivenCrl) (anchors : Anchors) (limits : SearchLimits) (leaf : List ℕ) (count : ℕ) (pool rest : Pool)
    (refused : RefusedCertificate) → IsBarred accepts check given refused.certificate.now refused.status → Contains (candidates_of pool) refused.certificate.now
    → IsWithout pool refused.certificate.now rest → (searched : Result Found VerifyError) → OfPaths (KeepsWithout accepts check given anchors limits leaf count rest) searched
    → OfPaths (KeepsWithout accepts check given anchors limits leaf (suc count) pool) (told_behind (Revocation refused) searched)
keeps_behind accepts check given anchors limits leaf count pool rest refused barred among without (Ok found) keeps = inr (refused.certificate.now, among, (refused.status, barred), (rest, without, keeps))
keeps_behind accepts check given anchors limits leaf count pool rest refused barred among without (Err (Path Memory)) keeps = inr (refused.certificate.now, among, (refused.status, barred), (rest, without, keeps))
keeps_behind accepts check given anchors limits leaf count pool rest refused barred among without (Err (Path Limit)) keeps = inr (refused.certificate.now, among, (refused.status, barred), (rest, without, keeps))
keeps_behind accepts check given anchors limits leaf count pool rest refused barred among without (Err (Path Decode)) keeps = tt
keeps_behind accepts check given anchors limits leaf count pool rest refused barred among without (Err (Path (Leaf reason))) keeps = tt
keeps_behind accepts check given anchors limits leaf count pool rest refused barred among without (Err (Path UnknownIssuer)) keeps = tt
keeps_behind accepts check given anchors limits leaf count pool rest refused barred among without (Err (Path (Refused refusal))) keeps = tt
keeps_behind accepts check given anchors limits leaf count pool rest refused barred among without (Err OtherName) keeps = tt
keeps_behind accepts check given anchors limits leaf count pool rest refused barred among without (Err (Revocation other)) keeps = tt
keeps_behind accepts check given anchors limits leaf count pool rest refused barred among without (Err TooManyRefused) keeps = tt

-- what keeps to the limits over all candidates
pub keeps_own : (accepts : Accepting) (check : RevocationCheck) (given : List GivenCrl) (anchors : Anchors) (limits : SearchLimits) (leaf : List ℕ) (count : ℕ) (pool : Pool)
    (result : Result Found FindError) → KeepsLimits anchors pool limits leaf result → KeepsWithout accepts check given anchors limits leaf count pool result
keeps_own accepts check given anchors limits leaf zero pool result keeps = keeps
keeps_own accepts check given anchors limits leaf (suc count) pool result keeps = inl keeps

-- a path is found to a certificate
pub found_decodable : (accepts : Accepting) (check : RevocationCheck) (given : List GivenCrl) (anchors : Anchors) (limits : SearchLimits) (leaf : List ℕ) (count : ℕ) (pool : Pool)
    (found : Found) → KeepsWithout accepts check given anchors limits leaf count pool (Ok found) → IsDecodable leaf
found_decodable accepts check given anchors limits leaf zero pool found (size, many, below) = (below.certificate, below.spells)
found_decodable accepts check given anchors limits leaf (suc count) pool found (inl (size, many, below)) = (below.certificate, below.spells)
found_decodable accepts check given anchors limits leaf (suc count) pool found (inr (bytes, among, barred, (rest, without, keeps))) =
    found_decodable accepts check given anchors limits leaf count rest found keeps
