-- Equality of tags, lengths, headers, elements and errors is exact.
use Rattle.std.specs.Prelude.{◌≡◌, bytes_eq, ℕ, ◌≤◌, refl}
use Rattle.std.specs.Bool.{Decides}
use Rattle.std.proofs.Common.{ap, subst}
use Rattle.std.proofs.lemmas.Bool.Decides.{Decides-and}
use Rattle.std.specs.Coded.{le_prop}
use Rattle.x509_der.specs.Exact.{IsExact, exact_number, exact_bool, exact_octets, exact_bare, exact_unit, exact_both, exact_last, exact_on, exact_by, exact_cases}
use Rattle.x509_der.specs.TagReading.{number_is}
use Rattle.x509_der.specs.contracts.element.AnyRefPartialEq.TheImpl as any_ref_eq
use Rattle.x509_der.specs.contracts.error.ErrorKind.{enum as kinds}
use Rattle.x509_der.specs.contracts.error.ErrorKindPartialEq.TheImpl as kind_eq
use Rattle.x509_der.specs.contracts.error.ErrorPartialEq.TheImpl as error_eq
use Rattle.x509_der.specs.contracts.header.HeaderPartialEq.TheImpl as header_eq
use Rattle.x509_der.specs.contracts.length.LengthPartialEq.TheImpl as length_eq
use Rattle.x509_der.specs.contracts.tag.Tag.{enum as tags}
use Rattle.x509_der.specs.contracts.tag.TagPartialEq.TheImpl as tag_eq
use Rattle.x509_der.specs.contracts.tag.number.TagNumberPartialEq.TheImpl as number_eq
use Rattle.x509_der.specs.declared.element.AnyRef.{AnyRef}
use Rattle.x509_der.specs.declared.error.Error.{Error}
use Rattle.x509_der.specs.declared.header.Header.{Header}
use Rattle.x509_der.specs.declared.length.Length.{Length}
use Rattle.x509_der.specs.declared.tag.number.TagNumber.{TagNumber}

pub exact_tag_number : IsExact number_eq.ghosts.eq
exact_tag_number = exact_on (λ (n : TagNumber). n.number) number_is exact_number

pub exact_tag : IsExact tag_eq.ghosts.eq
exact_tag =
    let class = exact_both exact_bool (exact_last exact_tag_number) in
    exact_cases tags _ (search (exact_unit, class) depth 60)

length_is : (a b : Length) → a.octets ≡ b.octets → a ≡ b
length_is a b e =
    subst (λ (n : ℕ). (k : n ≤ 268_435_455) → a ≡ record { octets = n; within = k }) e
    (λ k. ap (λ (within : a.octets ≤ 268_435_455). record { octets = a.octets; within = within }) (le_prop a.within k)) b.within

pub exact_length : IsExact length_eq.ghosts.eq
exact_length = exact_on (λ (l : Length). l.octets) length_is exact_number

pub exact_header : IsExact header_eq.ghosts.eq
exact_header = exact_by (λ (h : Header). (h.tag, h.length)) (λ (tag, length). record { tag = tag; length = length }) (λ h. refl) (exact_both exact_tag exact_length)

-- of borrowed elements with the same identifier and the same content octets
pub any_refs_decide : (a b : AnyRef) → Decides (any_ref_eq.ghosts.eq a b) ((a.tag ≡ b.tag) × (a.value.now ≡ b.value.now))
any_refs_decide a b = Decides-and (tag_eq.ghosts.eq a.tag b.tag) (bytes_eq a.value.now b.value.now) (exact_tag a.tag b.tag) (exact_octets a.value.now b.value.now)

pub exact_error_kind : IsExact kind_eq.ghosts.eq
exact_error_kind = exact_bare kinds tt

pub exact_error : IsExact error_eq.ghosts.eq
exact_error = exact_by (λ (e : Error). e.kind) (λ kind. record { kind = kind }) (λ e. refl) exact_error_kind
