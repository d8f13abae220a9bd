-- The members that are left of a precertificate's list, by what stands around the two extensions.
use Rattle.std.proofs.Common.{◌≡◌, ℕ, true, List, [], ◌∷◌, ◌++◌, bytes_eq, refl, sym, ap, ◌∙◌, subst, append_assoc}
use Rattle.std.proofs.lemmas.Slice.Eq.{bytes_eq-Decides}
use Rattle.x509_cert.specs.Without.{without_oid}
use Rattle.x509_check.specs.ExtensionRefs.{extensions_left}
use Rattle.x509_der.specs.Form.{spelling}
use Rattle.x509_der.specs.List.{joined}
use Rattle.x509_ext.specs.Extension.{extension}
use Rattle.x509_ext.specs.LookUp.{with_oid}
use Rattle.x509_ext.specs.declared.extension.Extension.{Extension}
use Rattle.x509_log.proofs.Changes.{given, key, none_before, octets_identifier_first, octets_poison_first, one_alone, one_is_behind, poison}
use Rattle.x509_log.specs.Around.{IsAlone, IsAround}
use Rattle.x509_log.specs.Logged.{identifier_of, with_value}
use Rattle.x509_log.specs.declared.around.Around.{Around}
use Rattle.x509_log.specs.declared.members.KeyIdentifier.{KeyIdentifier}

identifier_is : (e : Extension) (k : KeyIdentifier) → bytes_eq e.extn_id key ≡ true → e.critical ≡ k.critical → identifier_of k ≡ given e k.value.now
identifier_is e k is critical = let same : e.extn_id ≡ key = (bytes_eq-Decides e.extn_id key).0 is in rw (same, critical) refl

module _ (all : List Extension) (left_out changed : Around) (ps : IsAlone poison all left_out) (ks : IsAlone key all changed) where
  -- the place of the poison from that of the identifier on
  pub identifier_then_poison : (k : KeyIdentifier) → changed.critical ≡ k.critical → (behind : Around) → IsAround poison (extensions_left changed.behind) behind → (rest : List ℕ) → rest ≡ joined (spelling extension) (extensions_left behind.behind)
      → changed.before.now ++ (spelling extension (identifier_of k) ++ (behind.before.now ++ rest)) ≡ joined (spelling extension) (without_oid poison (with_value key k.value.now all))
  identifier_then_poison k critical behind b rest rest_is =
      let it = ks.stands in
      let split : all ≡ it.before ++ it.found ∷ (b.before ++ b.found ∷ extensions_left behind.behind) = it.split ∙ ap (λ (l : List Extension). it.before ++ it.found ∷ l) b.split in
      let again : ps.stands.before ++ ps.stands.found ∷ extensions_left left_out.behind ≡ (it.before ++ it.found ∷ b.before) ++ b.found ∷ extensions_left behind.behind =
      sym ps.stands.split ∙ split ∙ sym (append_assoc it.before (it.found ∷ b.before) (b.found ∷ extensions_left behind.behind)) in
      let none = one_alone poison ps.stands.before ps.stands.found (extensions_left left_out.behind) (it.before ++ it.found ∷ b.before) b.found (extensions_left behind.behind) again ps.stands.first ps.alone b.has in
      let key_alone = subst (λ (l : List Extension). with_oid key l ≡ []) b.split ks.alone in
      let octets = octets_identifier_first k.value.now all it.before it.found b.before b.found (extensions_left behind.behind) split it.has b.has it.first key_alone (none_before poison it.before (it.found ∷ b.before) none.0) b.first none.1 in
      rw (it.before_is, identifier_is it.found k it.has (it.critical ∙ critical), b.before_is, rest_is) (sym octets)

  -- the place of the identifier from that of the poison on
  pub poison_then_identifier : (k : KeyIdentifier) (behind : Around) → behind.critical ≡ k.critical → IsAround key (extensions_left left_out.behind) behind → (rest : List ℕ) → rest ≡ joined (spelling extension) (extensions_left behind.behind)
      → left_out.before.now ++ (behind.before.now ++ (spelling extension (identifier_of k) ++ rest)) ≡ joined (spelling extension) (without_oid poison (with_value key k.value.now all))
  poison_then_identifier k behind critical b rest rest_is =
      let it = ps.stands in
      let split : all ≡ it.before ++ it.found ∷ (b.before ++ b.found ∷ extensions_left behind.behind) = it.split ∙ ap (λ (l : List Extension). it.before ++ it.found ∷ l) b.split in
      let again : ks.stands.before ++ ks.stands.found ∷ extensions_left changed.behind ≡ (it.before ++ it.found ∷ b.before) ++ b.found ∷ extensions_left behind.behind =
      sym ks.stands.split ∙ split ∙ sym (append_assoc it.before (it.found ∷ b.before) (b.found ∷ extensions_left behind.behind)) in
      let none = one_alone key ks.stands.before ks.stands.found (extensions_left changed.behind) (it.before ++ it.found ∷ b.before) b.found (extensions_left behind.behind) again ks.stands.first ks.alone b.has in
      let poison_alone = subst (λ (l : List Extension). with_oid poison l ≡ []) b.split ps.alone in
      let octets = octets_poison_first k.value.now all it.before it.found b.before b.found (extensions_left behind.behind) split b.has it.has it.first poison_alone (none_before key it.before (it.found ∷ b.before) none.0) b.first none.1 in
      rw (it.before_is, identifier_is b.found k b.has (b.critical ∙ critical), b.before_is, rest_is) (sym octets)

  -- one of them stands behind the other
  pub one_behind : with_oid poison (extensions_left changed.behind) ≡ [] → with_oid key (extensions_left left_out.behind) ≡ [] → ⊥
  one_behind no_poison no_key =
      one_is_behind ps.stands.before ps.stands.found (extensions_left left_out.behind) ks.stands.before ks.stands.found (extensions_left changed.behind)
      (sym ps.stands.split ∙ ks.stands.split) ps.stands.has ks.stands.has no_key no_poison
