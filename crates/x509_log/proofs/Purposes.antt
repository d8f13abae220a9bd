-- What a look-up of an extension tells of the one extension.
use Rattle.std.proofs.Common.{◌≡◌, Bool, true, List, [], ◌∷◌, Option, Some, None, Result, Ok, refl, sym, ap, ◌∙◌, subst}
use Rattle.std.specs.List.{list_any}
use Rattle.std.specs.Prelude.{◌↔◌, IsTrue, bytes_eq}
use Rattle.x509_cert.specs.declared.certificate.tbs_certificate.TbsCertificateInner.{TbsCertificateInner}
use Rattle.x509_der.specs.Form.{Form, Spells}
use Rattle.x509_der.specs.declared.error.ErrorKind.{ErrorKind}
use Rattle.x509_ext.specs.ExtendedKeyUsage.{extended_key_usage}
use Rattle.x509_ext.specs.Identifiers.{id_ce}
use Rattle.x509_ext.specs.LookUp.{Decodes, Finds, members, with_oid}
use Rattle.x509_ext.specs.declared.extension.Extension.{Extension}
use Rattle.x509_ext.specs.declared.pkix.extended_key_usage.ExtendedKeyUsage.{ExtendedKeyUsage}
use Rattle.x509_log.specs.Signing.{SignsPrecertificates, certificate_transparency}

module _ {T : Type 0} (form : Form T) (refuses : ErrorKind → Type 0) (wants : Type 0) where
  none_found : (xs : List Extension) → Finds form refuses wants xs (Ok None) → xs ≡ []
  none_found [] h = refl
  none_found (x ∷ []) h = absurd h
  none_found (x ∷ y ∷ xs) h = absurd h

  one_found : (xs : List Extension) (found : Bool × T) → Finds form refuses wants xs (Ok (Some found))
      → (e : Extension) × (xs ≡ e ∷ []) × Decodes form refuses wants e.extn_value (Ok found.1)
  one_found [] found h = absurd cc
  one_found (x ∷ []) found h = (x, refl, h.1)
  one_found (x ∷ y ∷ xs) found h = absurd h

abbrev names : ExtendedKeyUsage → Bool
names usage = list_any (λ purpose. bytes_eq purpose certificate_transparency) usage.0

module _ {P : Type 0} (part : TbsCertificateInner P) (refuses : ErrorKind → Type 0) (wants : Type 0) where
  pub signs_none : Finds extended_key_usage refuses wants (with_oid (id_ce 37) (members part.extensions)) (Ok None) → SignsPrecertificates part → ⊥
  signs_none h s = let none = none_found extended_key_usage refuses wants (with_oid (id_ce 37) (members part.extensions)) h in let one = s.one in absurd (let x = sym none ∙ one in cc)

  pub signs_by : (found : Bool × ExtendedKeyUsage) (is : Bool) → Finds extended_key_usage refuses wants (with_oid (id_ce 37) (members part.extensions)) (Ok (Some found))
      → is ≡ names found.1 → IsTrue is ↔ SignsPrecertificates part
  signs_by found is h answer =
      let o = one_found extended_key_usage refuses wants (with_oid (id_ce 37) (members part.extensions)) found h in (
        λ holds. record { extension = o.0; usage = found.1; one = o.1; holds = o.2.found; named = sym answer ∙ holds },
        λ s.
            let same : o.0 ≡ s.extension = let x = sym o.1 ∙ s.one in cc in
            let usage : found.1 ≡ s.usage = o.2.value s.usage (subst (λ (e : Extension). Spells extended_key_usage s.usage e.extn_value) (sym same) s.holds) in
            answer ∙ ap names usage ∙ s.named,
      )
