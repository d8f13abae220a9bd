-- Entries that are looked at one after the other.
use Rattle.std.proofs.Common.{◌≡◌, ◌↔◌, ◌∙◌, ℕ, Bool, true, false, ◌||◌, List, [], ◌∷◌, length, Result, Ok, Err, refl, subst, sym}
use Rattle.std.proofs.lemmas.Bool.{true≢false}
use Rattle.std.proofs.lemmas.List.Elements.{All-cons, All-head, All-nil, All-tail}
use Rattle.std.specs.List.{All, list_any}
use Rattle.std.specs.Prelude.{IsOk, IsTrue}
use Rattle.x509_base.specs.declared.profile.Raw.{Raw}
use Rattle.x509_cert.specs.declared.crl.revoked_cert.RevokedCert.{RevokedCert}
use Rattle.x509_crl_index.specs.Split.{read_entries, read_entry}
use Rattle.x509_der.specs.Frames.{field_at}
use Rattle.x509_der.specs.List.{with_front}
use Rattle.x509_der.specs.ListLaws.{first_read, none_read}
use Rattle.x509_der.specs.OutcomeLaws.{ok_is}
use Rattle.x509_der.specs.declared.error.ErrorKind.{ErrorKind}
use Rattle.x509_lint.specs.CrlEntry.{AreNoted, entry_passes, is_noted}
use Rattle.x509_lint.specs.Values.{IsDistinct}
use Rattle.x509_lint.specs.declared.entries.EntryFindings.{EntryFindings}
use Rattle.x509_lint.specs.declared.entries.EntryFault.TheVariants.{ReasonCritical, ReasonUnspecified, ReasonRemoveFromCrl, ReasonInvalid, InvalidityDateCritical, InvalidityDateInvalid, IssuerNotCritical, Issuer}
use Rattle.x509_lint.specs.declared.entries.EntryTest.{EntryTest}
use Rattle.x509_lint.specs.declared.entries.EntryTest.TheVariants.{There, Extended, WithoutExtensions, EarlyGeneral, Faulty}

-- no entry was noted
abbrev pub nothing : EntryFindings
nothing = record {
  is_there = false;
  is_extended = false;
  is_without_extensions = false;
  is_early_general = false;
  is_reason_critical = false;
  is_reason_unspecified = false;
  is_reason_remove_from_crl = false;
  is_reason_invalid = false;
  is_invalidity_date_critical = false;
  is_invalidity_date_invalid = false;
  is_issuer_not_critical = false;
  is_issuer = false;
}

or_assoc : (a b c : Bool) → (a || b) || c ≡ a || (b || c)
or_assoc true b c = refl
or_assoc false b c = refl

or_false : (a : Bool) → a || false ≡ a
or_false true = refl
or_false false = refl

-- ---- what is noted of one entry more

pub none_noted : (test : EntryTest) → is_noted nothing test ≡ false
none_noted There = refl
none_noted Extended = refl
none_noted WithoutExtensions = refl
none_noted EarlyGeneral = refl
none_noted (Faulty ReasonCritical) = refl
none_noted (Faulty ReasonUnspecified) = refl
none_noted (Faulty ReasonRemoveFromCrl) = refl
none_noted (Faulty ReasonInvalid) = refl
none_noted (Faulty InvalidityDateCritical) = refl
none_noted (Faulty InvalidityDateInvalid) = refl
none_noted (Faulty IssuerNotCritical) = refl
none_noted (Faulty Issuer) = refl

or_true : (a : Bool) → true ≡ a || true
or_true true = refl
or_true false = refl

-- the findings with those of an entry
abbrev pub with_entry : EntryFindings → RevokedCert Raw → EntryFindings
with_entry f e = record {
  is_there = true;
  is_extended = f.is_extended || entry_passes Extended e;
  is_without_extensions = f.is_without_extensions || entry_passes WithoutExtensions e;
  is_early_general = f.is_early_general || entry_passes EarlyGeneral e;
  is_reason_critical = f.is_reason_critical || entry_passes (Faulty ReasonCritical) e;
  is_reason_unspecified = f.is_reason_unspecified || entry_passes (Faulty ReasonUnspecified) e;
  is_reason_remove_from_crl = f.is_reason_remove_from_crl || entry_passes (Faulty ReasonRemoveFromCrl) e;
  is_reason_invalid = f.is_reason_invalid || entry_passes (Faulty ReasonInvalid) e;
  is_invalidity_date_critical = f.is_invalidity_date_critical || entry_passes (Faulty InvalidityDateCritical) e;
  is_invalidity_date_invalid = f.is_invalidity_date_invalid || entry_passes (Faulty InvalidityDateInvalid) e;
  is_issuer_not_critical = f.is_issuer_not_critical || entry_passes (Faulty IssuerNotCritical) e;
  is_issuer = f.is_issuer || entry_passes (Faulty Issuer) e;
}

pub with_noted : (f : EntryFindings) (e : RevokedCert Raw) (test : EntryTest) → is_noted (with_entry f e) test ≡ (is_noted f test || entry_passes test e)
with_noted f e There = or_true f.is_there
with_noted f e Extended = refl
with_noted f e WithoutExtensions = refl
with_noted f e EarlyGeneral = refl
with_noted f e (Faulty ReasonCritical) = refl
with_noted f e (Faulty ReasonUnspecified) = refl
with_noted f e (Faulty ReasonRemoveFromCrl) = refl
with_noted f e (Faulty ReasonInvalid) = refl
with_noted f e (Faulty InvalidityDateCritical) = refl
with_noted f e (Faulty InvalidityDateInvalid) = refl
with_noted f e (Faulty IssuerNotCritical) = refl
with_noted f e (Faulty Issuer) = refl

-- ---- the walk

-- what was noted of the entries that were passed, and what is still to be noted of the others
pub record Walk (found : EntryFindings) (are_distinct : Bool) (others all : List (RevokedCert Raw)) : Type 0 where
  pub noted : (test : EntryTest) → is_noted found test || list_any (entry_passes test) others ≡ list_any (entry_passes test) all
  pub distinct : (IsTrue are_distinct × All IsDistinct others) ↔ All IsDistinct all

pub starts : (found : EntryFindings) (all : List (RevokedCert Raw)) → ((test : EntryTest) → is_noted found test ≡ false) → Walk found true all all
starts found all none = record {
  noted = λ test. rw (none test) refl;
  distinct = ((λ (so, is). is), (λ is. (refl, is)));
}

pub goes_on : (found more : EntryFindings) (was is : Bool) (entry : RevokedCert Raw) (others all : List (RevokedCert Raw))
    → ((test : EntryTest) → is_noted more test ≡ (is_noted found test || entry_passes test entry)) → (IsTrue is ↔ (IsTrue was × IsDistinct entry))
    → Walk found was (entry ∷ others) all → Walk more is others all
goes_on found more was is entry others all one so walk = record {
  noted = λ test. rw (one test) (or_assoc (is_noted found test) (entry_passes test entry) (list_any (entry_passes test) others) ∙ walk.noted test);
  distinct = (
    (λ (now, rest). let (before, here) = so.0 now in walk.distinct.0 (before, All-cons IsDistinct entry others here rest)),
    (λ every. let (before, rest) = walk.distinct.1 every in (so.1 (before, All-head IsDistinct entry others rest), All-tail IsDistinct entry others rest)),
  );
}

pub ends : (found : EntryFindings) (was : Bool) (all : List (RevokedCert Raw)) → Walk found was [] all → AreNoted all found × (IsTrue was ↔ All IsDistinct all)
unfolding AreNoted
ends found was all walk = (
  (λ test. sym (or_false (is_noted found test)) ∙ walk.noted test),
  ((λ so. walk.distinct.0 (so, All-nil IsDistinct)), (λ every. (walk.distinct.1 every).0)),
)

-- ---- entries that are read

behind_first : (entry : RevokedCert Raw) (others : Result (List (RevokedCert Raw)) ErrorKind) (left : List (RevokedCert Raw)) → with_front (entry ∷ []) others ≡ Ok left
    → (behind : List (RevokedCert Raw)) × (others ≡ Ok behind) × (left ≡ entry ∷ behind)
behind_first entry (Ok behind) left is = (behind, refl, cc)
behind_first entry (Err e) left is = absurd cc

-- where the walk over the elements stands
pub record ReadWalk (found : EntryFindings) (are_distinct : Bool) (rest octets : List ℕ) : Type 0 where
  pub left : List (RevokedCert Raw)
  pub read : read_entries rest ≡ Ok left
  pub walk : (all : List (RevokedCert Raw)) → read_entries octets ≡ Ok all → Walk found are_distinct left all

pub read_starts : (found : EntryFindings) (octets : List ℕ) (all : List (RevokedCert Raw)) → read_entries octets ≡ Ok all → ((test : EntryTest) → is_noted found test ≡ false) → ReadWalk found true octets octets
read_starts found octets all read none = record {
  left = all;
  read = read;
  walk = λ other is. let same : all ≡ other = cc in subst (λ entries. Walk found true all entries) same (starts found all none);
}

read_from : (found : EntryFindings) (octets : List ℕ) (read : Result (List (RevokedCert Raw)) ErrorKind) → read_entries octets ≡ read → IsOk read → ((test : EntryTest) → is_noted found test ≡ false) → ReadWalk found true octets octets
read_from found octets (Ok all) is ok none = read_starts found octets all is none
read_from found octets (Err e) is ok none = absurd (true≢false (sym ok))

pub read_begins : (found : EntryFindings) (octets : List ℕ) → IsOk (read_entries octets) → ((test : EntryTest) → is_noted found test ≡ false) → ReadWalk found true octets octets
read_begins found octets ok none = read_from found octets (read_entries octets) refl ok none

pub read_goes_on : (found more : EntryFindings) (was is : Bool) (entry : RevokedCert Raw) (rest behind octets : List ℕ) → field_at read_entry rest ≡ Ok (entry, behind)
    → ((test : EntryTest) → is_noted more test ≡ (is_noted found test || entry_passes test entry)) → (IsTrue is ↔ (IsTrue was × IsDistinct entry))
    → ReadWalk found was rest octets → ReadWalk more is behind octets
read_goes_on found more was is entry rest behind octets field one so walk =
    let f = behind_first entry (read_entries behind) walk.left (first_read read_entry rest behind entry field ∙ walk.read) in record {
      left = f.0;
      read = f.1;
      walk = λ all read. goes_on found more was is entry f.0 all one so (subst (λ entries. Walk found was entries all) f.2 (walk.walk all read));
    }

pub read_ends : (found : EntryFindings) (was : Bool) (rest octets : List ℕ) (all : List (RevokedCert Raw)) → length rest ≡ 0 → read_entries octets ≡ Ok all → ReadWalk found was rest octets
    → AreNoted all found × (IsTrue was ↔ All IsDistinct all)
read_ends found was rest octets all none read walk =
    let same : walk.left ≡ [] = ok_is walk.left [] (sym walk.read ∙ none_read read_entry rest none) in
    ends found was all (subst (λ entries. Walk found was entries all) same (walk.walk all read))
