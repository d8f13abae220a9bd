-- CRL numbers in order.
use Rattle.std.proofs.Common.{◌≡◌, ◌↔◌, ◌<◌, ◌∙◌, ℕ, Bool, false, refl, sym, ap, arith}
use Rattle.std.proofs.lemmas.Bool.{true≢false}
use Rattle.std.specs.Bool.{IsTrue}
use Rattle.x509_der.specs.Form.{IsForm}
use Rattle.x509_der.specs.FormLaws.{universal_lawful}
use Rattle.x509_der.specs.Round.{rounded_lawful}
use Rattle.x509_der.specs.declared.tag.Tag.TheVariants.{Integer}
use Rattle.x509_ext.specs.CrlNumber.{base_crl_number, base_crl_number_round, crl_number, crl_number_round}
use Rattle.x509_ext.specs.Identifiers.{id_ce}
use Rattle.x509_ext.specs.declared.pkix.crl_number.BaseCrlNumber.{BaseCrlNumber}
use Rattle.x509_ext.specs.declared.pkix.crl_number.CrlNumber.{CrlNumber}
use Rattle.x509_path.specs.Certificates.{HasPayload}
use Rattle.x509_prim.specs.Integer.{number, unsigned_integer, unsigned_integer_contents}
use Rattle.x509_prim.specs.IntegerLaws.{unsigned_integer_contents_lawful}
use Rattle.x509_revocation.specs.Crls.{AreInOrder, Crl, HasBase, HasNumber, crl_extensions}
use Rattle.x509_revocation.proofs.OneCover.{Never, one_payload}

number_lawfully : IsForm Never crl_number
number_lawfully = rounded_lawful crl_number_round Integer unsigned_integer (λ v. refl) (universal_lawful Integer unsigned_integer_contents unsigned_integer_contents_lawful)

base_lawfully : IsForm Never base_crl_number
base_lawfully = rounded_lawful base_crl_number_round Integer unsigned_integer (λ v. refl) (universal_lawful Integer unsigned_integer_contents unsigned_integer_contents_lawful)

pub one_number : (crl : Crl) (n m : ℕ) → HasNumber crl n → HasNumber crl m → n ≡ m
one_number crl n m (read, has, is) (other, so, at) =
    sym is ∙ ap (λ (v : CrlNumber). number v.0) (one_payload crl_number number_lawfully (id_ce 20) (crl_extensions crl) read other has so) ∙ at

one_base : (crl : Crl) (n m : ℕ) → HasBase crl n → HasBase crl m → n ≡ m
one_base crl n m (read, has, is) (other, so, at) =
    sym is ∙ ap (λ (v : BaseCrlNumber). number v.0) (one_payload base_crl_number base_lawfully (id_ce 27) (crl_extensions crl) read other has so) ∙ at

module _ (complete delta : Crl) where
  pub no_base : ((v : BaseCrlNumber) → HasPayload base_crl_number (id_ce 27) (crl_extensions delta) v → ⊥) → IsTrue false ↔ AreInOrder complete delta
  no_base none = ((λ never. absurd (true≢false (sym never))), (λ order. absurd (none order.3.0 order.3.1)))

  pub no_own : ((v : CrlNumber) → HasPayload crl_number (id_ce 20) (crl_extensions complete) v → ⊥) → IsTrue false ↔ AreInOrder complete delta
  no_own none = ((λ never. absurd (true≢false (sym never))), (λ order. absurd (none order.4.0 order.4.1)))

  pub no_next : ((v : CrlNumber) → HasPayload crl_number (id_ce 20) (crl_extensions delta) v → ⊥) → IsTrue false ↔ AreInOrder complete delta
  no_next none = ((λ never. absurd (true≢false (sym never))), (λ order. absurd (none order.5.0 order.5.1)))

  module _ (base own next : ℕ) (has_base : HasBase delta base) (has_own : HasNumber complete own) (has_next : HasNumber delta next) where
    pub before : own < base → IsTrue false ↔ AreInOrder complete delta
    before less = (
      (λ never. absurd (true≢false (sym never))),
      (λ (b, o, n, hb, ho, hn, over, under). absurd (let x : b ≡ base = one_base delta b base hb has_base in let y : o ≡ own = one_number complete o own ho has_own in omega (arith, over, less))),
    )

    pub compared : (b : Bool) → (own < base → ⊥) → IsTrue b ↔ (own < next) → IsTrue b ↔ AreInOrder complete delta
    compared b over less = (
      (λ is. (base, own, next, has_base, has_own, has_next, omega (arith, over), less.0 is)),
      (λ (m, o, n, hb, ho, hn, above, under). less.1 (let y : o ≡ own = one_number complete o own ho has_own in let z : n ≡ next = one_number delta n next hn has_next in omega (arith, under))),
    )
