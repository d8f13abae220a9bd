-- Any element: an identifier and a content that isn't decoded further (X.690 8.1).
use Rattle.std.specs.Prelude.{◌≡◌, ◌<◌, ℕ, zero, suc, List, [], ◌∷◌, Result, Ok, Err, if◌then◌else◌, refl}
use Rattle.std.proofs.Common.{sym, ap, ◌∙◌, inl, inr, false}
use Rattle.std.proofs.lemmas.Bool.{agree_below_at}
use Rattle.x509_der.specs.declared.error.ErrorKind.{ErrorKind}
use Rattle.x509_der.specs.declared.error.ErrorKind.TheVariants.{Malformed}
use Rattle.x509_der.specs.Element.{is_identifier, is_universal}
use Rattle.x509_der.specs.Form.{Form, IsForm, is_in}
use Rattle.x509_der.specs.OutcomeLaws.{ok_is, test_ok, test_err}
use Rattle.x509_der.specs.Tag.{octet_of}
use Rattle.x509_der.specs.TagLaws.{tag_is_identifier, is_identifier-octet}
use Rattle.x509_der.specs.TagReading.{tag_at, tag_at-octet_of, octet_of-tag_at, same_tag}
use Rattle.x509_der.specs.declared.tag.Tag.{Tag}
use Rattle.x509_der.specs.Writing.{Written}
use Rattle.x509_der.specs.Order.{IsOrder}
use Rattle.x509_der.specs.Ordered.{by_bytes, by_bytes_lawful}
use Rattle.x509_der.specs.declared.any.Any.{Any}

abbrev pub identifiers_below : ℕ → List ℕ
identifiers_below zero = []
identifiers_below (suc n) = if is_identifier n then n ∷ identifiers_below n else identifiers_below n

-- each identifier octet
unfoldable pub identifiers : List ℕ
identifiers = identifiers_below 256

unfoldable pub any_reading : ℕ → List ℕ → Result Any ErrorKind
any_reading tag content = if is_identifier tag then Ok (record { tag = tag_at tag; value = content }) else Err Malformed

-- each identifier with each content
abbrev pub any : Form Any
any = record { tag = λ a. octet_of a.tag; content = λ a. a.value; good = λ a. Unit {0}; starts = identifiers; reading = any_reading }

pub is_in_identifiers : (t : ℕ) → t < 256 → is_identifier t ≡ is_in t identifiers
unfolding is_identifier is_universal identifiers
is_in_identifiers t lt = agree_below_at is_identifier (λ b. is_in b identifiers) 256 t refl lt

any_sound : (t : ℕ) (c : List ℕ) (v : Any) → any_reading t c ≡ Ok v → Unit {0} × (t ≡ octet_of v.tag) × (c ≡ v.value)
unfolding any_reading
any_sound t c v e =
    let made : Any = record { tag = tag_at t; value = c } in
    let g = test_ok (is_identifier t) Malformed (Ok made) v e in
    let same : made ≡ v = ok_is made v g.1 in
    (tt, sym (octet_of-tag_at t g.0) ∙ ap (λ (a : Any). octet_of a.tag) same, ap (λ (a : Any). a.value) same)

any_complete : (v : Any) → Unit {0} → any_reading (octet_of v.tag) v.value ≡ Ok v
unfolding any_reading
any_complete v g = rw (tag_is_identifier v.tag, tag_at-octet_of v.tag) refl

any_refused : (t : ℕ) (c : List ℕ) (e : ErrorKind) → any_reading t c ≡ Err e → e ≡ Malformed
unfolding any_reading
any_refused t c e h =
    let made : Any = record { tag = tag_at t; value = c } in
    elim (test_err (is_identifier t) Malformed (Ok made) e h) [ inl j ↦ absurd (let x = j in cc) | inr j ↦ sym j ]

pub any_found : (t : ℕ) (c : List ℕ) (tag : Tag) → octet_of tag ≡ t → any_reading t c ≡ Ok (record { tag = tag; value = c })
any_found t c tag e = rw (← e) (any_complete (record { tag = tag; value = c }) tt)

pub any_not_found : (t : ℕ) (c : List ℕ) → is_identifier t ≡ false → any_reading t c ≡ Err Malformed
unfolding any_reading
any_not_found t c e = rw e refl

pub begins_an_element : (t : ℕ) (tag : Tag) → octet_of tag ≡ t → is_identifier t ≡ false → ⊥
begins_an_element t tag e n = let is = tag_is_identifier tag in cc

pub any_lawful : {R : ErrorKind → Type 0} → IsForm R any
any_lawful = record {
  sound = any_sound;
  complete = any_complete;
  refused = λ t c e h. inl (any_refused t c e h);
  tagged = λ v g. let is = tag_is_identifier v.tag in (sym (is_in_identifiers (octet_of v.tag) (is_identifier-octet (octet_of v.tag) is)) ∙ is, is);
}

-- by the content alone: the identifier octets stay out
pub any_ordered : (write : Any → Written Any) → IsOrder any write (by_bytes any)
any_ordered write = by_bytes_lawful any write (λ x y p q. let tags = same_tag x.tag y.tag p in λ i. record { tag = tags i; value = q i })
