-- What the extensions of an entry change on the way through the entries of a CRL.
use Rattle.std.proofs.Common.{◌≡◌, ◌↔◌, ◌||◌, ◌∙◌, Bool, true, false, List, [], ◌∷◌, Option, Some, None, bytes_eq, refl, sym, subst}
use Rattle.std.proofs.lemmas.Bool.{true≢false}
use Rattle.std.proofs.lemmas.List.Elements.{All-nil, All-cons}
use Rattle.std.specs.Bool.{IsTrue}
use Rattle.std.specs.List.{All, list_any}
use Rattle.std.specs.Prelude.{MatchOption}
use Rattle.x509_cert.specs.Issuers.{or_else}
use Rattle.x509_check.specs.CrlRefs.{marks}
use Rattle.x509_ext.specs.Identifiers.{id_ce}
use Rattle.x509_ext.specs.LookUp.{members, with_oid}
use Rattle.x509_ext.specs.declared.extension.Extension.{Extension}
use Rattle.x509_revocation.specs.Entries.{AreUsableIssuers, IsIssuer, IsProcessedInEntry}
use Rattle.x509_revocation.specs.LentEntries.{Settles}
use Rattle.x509_revocation.specs.Names.{Name}

pub neither : (a b : Bool) → (a || b) ≡ false → (a ≡ false) × (b ≡ false)
neither false b h = (refl, h)
neither true b h = absurd cc

pub all_processed : (extensions : List Extension) → list_any marks extensions ≡ false → All IsProcessedInEntry extensions
all_processed [] h = All-nil IsProcessedInEntry
all_processed (e ∷ others) h =
    let both = neither (marks e) (list_any marks others) h in
    let here = neither e.critical (bytes_eq e.extn_id (id_ce 29)) both.0 in
    All-cons IsProcessedInEntry e others (λ critical. absurd (true≢false (sym critical ∙ here.0))) (all_processed others both.1)

pub none_named : (extensions : List Extension) → list_any marks extensions ≡ false → with_oid (id_ce 29) extensions ≡ []
none_named [] h = refl
none_named (e ∷ others) h =
    let both = neither (marks e) (list_any marks others) h in
    let here = neither e.critical (bytes_eq e.extn_id (id_ce 29)) both.0 in
    rw here.1 (none_named others both.1)

module _ (indirect : Bool) (own name : Name) (before : List Extension) where
  -- those that aren't marked change nothing
  pub unmarked : (extensions : List Extension) (is_issuer : Bool) → list_any marks extensions ≡ false → IsTrue is_issuer ↔ IsIssuer own name before → Settles indirect own name before extensions (Some is_issuer)
  unmarked extensions is_issuer none same =
      let named = none_named extensions none in
      ((all_processed extensions none, rw named tt), rw named same)

  -- those that are processed change what the issuers do
  pub processed : (extensions : List Extension) (here : Option Bool) → All IsProcessedInEntry extensions
      → MatchOption here (AreUsableIssuers indirect (with_oid (id_ce 29) extensions) → ⊥)
      (λ b. AreUsableIssuers indirect (with_oid (id_ce 29) extensions) × (IsTrue b ↔ IsIssuer own name (or_else (with_oid (id_ce 29) extensions) before)))
      → Settles indirect own name before extensions here
  processed extensions None all none = λ usable. none usable.1
  processed extensions (Some b) all found = ((all, found.0), found.1)

  -- what is told of the extensions that are lent holds of those of the entry
  pub of_entry : (lent list : Option (List Extension)) (here : Option Bool) → lent ≡ list → Settles indirect own name before (members lent) here → Settles indirect own name before (members list) here
  of_entry lent list here is settles = subst (λ extensions. Settles indirect own name before (members extensions) here) is settles
