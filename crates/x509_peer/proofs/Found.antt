-- The extension that is found, and the names that it spells.
use Rattle.std.proofs.Common.{◌≡◌, ℕ, List, [], ◌∷◌, Option, Some, None, Result, Ok, Err, refl, sym, subst, ap, ◌∙◌}
use Rattle.std.specs.Prelude.{◌↔◌, Any, Bool, IsTrue, false}
use Rattle.x509_check.proofs.LentLists.{is_list}
use Rattle.x509_check.specs.ExtensionRefs.{FindsLent, lent_extension}
use Rattle.x509_check.specs.Lending.{listed}
use Rattle.x509_check.specs.declared.lent.extension.ExtensionRef.{ExtensionRef}
use Rattle.x509_der.specs.Form.{Spells}
use Rattle.x509_der.specs.declared.error.Error.{Error}
use Rattle.x509_der.specs.declared.error.ErrorKind.{ErrorKind}
use Rattle.x509_ext.specs.AlternativeNames.{subject_alt_name}
use Rattle.x509_ext.specs.Identifiers.{id_ce}
use Rattle.x509_ext.specs.LookUp.{with_oid}
use Rattle.x509_ext.specs.declared.extension.Extension.{Extension}
use Rattle.x509_ext.specs.declared.pkix.alternative_names.SubjectAltName.{SubjectAltName}
use Rattle.x509_ext.specs.declared.pkix.name.general_name.GeneralName.{GeneralName}
use Rattle.x509_peer.specs.Naming.{IsNameOf, Names, SpellsNameOf}
use Rattle.x509_peer.specs.Peer.{Named}

one_found : (list : List Extension) (lent : ExtensionRef) → FindsLent list (Ok (Some lent)) → list ≡ lent_extension lent ∷ []
one_found [] lent h = absurd cc
one_found (e ∷ []) lent h = ap (λ x. x ∷ []) (sym h)
one_found (e ∷ f ∷ others) lent h = absurd h

none_found : (list : List Extension) (e : Extension) → FindsLent list (Ok None) → ¬ (list ≡ e ∷ [])
none_found [] e h is = absurd cc
none_found (f ∷ []) e h is = absurd h
none_found (f ∷ g ∷ others) e h is = absurd h

refused_found : (list : List Extension) (e : Extension) (error : Error) → FindsLent list (Err error) → ¬ (list ≡ e ∷ [])
refused_found [] e error h is = absurd cc
refused_found (f ∷ []) e error h is = absurd h
refused_found (f ∷ g ∷ others) e error h is = absurd cc

module _ (extensions : List Extension) (peer : Named) where
  abbrev alternatives : List Extension
  alternatives = with_oid (id_ce 17) extensions

  pub by_one : (lent : ExtensionRef) (r : Bool) → FindsLent alternatives (Ok (Some lent)) → IsTrue r ↔ SpellsNameOf peer lent.extn_value.now → IsTrue r ↔ Names extensions peer
  by_one lent r found is =
      let one = one_found alternatives lent found in (
        λ h. (lent_extension lent, one, is.0 h),
        λ (e, own, spells).
            let same : lent_extension lent ≡ e = let k = sym one ∙ own in cc in
            is.1 (subst (λ (x : Extension). SpellsNameOf peer x.extn_value) (sym same) spells),
      )

  pub by_none : FindsLent alternatives (Ok None) → IsTrue false ↔ Names extensions peer
  by_none found = (λ h. absurd cc, λ (e, own, spells). absurd (none_found alternatives e found own))

  pub by_refusal : (error : Error) → FindsLent alternatives (Err error) → IsTrue false ↔ Names extensions peer
  by_refusal error found = (λ h. absurd cc, λ (e, own, spells). absurd (refused_found alternatives e error found own))

-- the names are those that were read
pub by_names : (peer : Named) (octets : List ℕ) (read : Result (List GeneralName) ErrorKind) (r : Bool) → (alternative : SubjectAltName) × Spells subject_alt_name alternative octets
    → ((alternative : SubjectAltName) → Spells subject_alt_name alternative octets → read ≡ Ok alternative.0) → IsTrue r ↔ Any (IsNameOf peer) (listed read) → IsTrue r ↔ SpellsNameOf peer octets
by_names peer octets read r (alternative, spells) each is = (
  λ h. (alternative, spells, subst (λ xs. Any (IsNameOf peer) xs) (is_list read alternative.0 (each alternative spells)).1 (is.0 h)),
  λ (other, own, any). is.1 (subst (λ xs. Any (IsNameOf peer) xs) (sym (is_list read other.0 (each other own)).1) any),
)
