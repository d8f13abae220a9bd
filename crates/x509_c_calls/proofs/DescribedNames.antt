-- A general name is read of its kind and of what it holds.
use Rattle.std.proofs.Common.{◌≡◌, ◌∙◌, ◌⊎◌, ℕ, List, Ok, Err, Some, refl, sym, ap, inl, inr}
use Rattle.x509_c_calls.specs.DescribedParts.{IsNameOf, RefusesName, name_tag, tag_kind}
use Rattle.x509_c_calls.specs.GeneralNames.{held, kind_of}
use Rattle.x509_der.specs.Cases.{choice_content, choice_tag}
use Rattle.x509_der.specs.Form.{IsForm}
use Rattle.x509_der.specs.Outcome.{IsRefusal}
use Rattle.x509_der.specs.declared.error.ErrorKind.{ErrorKind}
use Rattle.x509_der.specs.declared.error.ErrorKind.TheVariants.{Memory, Overlength, Malformed, Failed, SetDuplicate, Value}
use Rattle.x509_ext.specs.GeneralName.{general_name, general_name_lawful}
use Rattle.x509_ext.specs.declared.pkix.name.general_name.GeneralName.{GeneralName}
use Rattle.x509_ext.specs.declared.pkix.name.general_name.GeneralName.TheVariants.{OtherName, Rfc822Name, DnsName, DirectoryName, EdiPartyName, UniformResourceIdentifier, IpAddress, RegisteredId}

-- the identifier octet of a name is that of its kind
tag_of_name : (name : GeneralName) → name_tag (kind_of name) ≡ Some (general_name.tag name)
unfolding choice_tag
tag_of_name (OtherName other) = refl
tag_of_name (Rfc822Name text) = refl
tag_of_name (DnsName text) = refl
tag_of_name (DirectoryName rdns) = refl
tag_of_name (EdiPartyName party) = refl
tag_of_name (UniformResourceIdentifier text) = refl
tag_of_name (IpAddress octets) = refl
tag_of_name (RegisteredId oid) = refl

kind_of_name : (name : GeneralName) → tag_kind (general_name.tag name) ≡ kind_of name
unfolding choice_tag
kind_of_name (OtherName other) = refl
kind_of_name (Rfc822Name text) = refl
kind_of_name (DnsName text) = refl
kind_of_name (DirectoryName rdns) = refl
kind_of_name (EdiPartyName party) = refl
kind_of_name (UniformResourceIdentifier text) = refl
kind_of_name (IpAddress octets) = refl
kind_of_name (RegisteredId oid) = refl

content_of_name : (name : GeneralName) → general_name.content name ≡ held name
unfolding choice_content
content_of_name (OtherName other) = refl
content_of_name (Rfc822Name text) = refl
content_of_name (DnsName text) = refl
content_of_name (DirectoryName rdns) = refl
content_of_name (EdiPartyName party) = refl
content_of_name (UniformResourceIdentifier text) = refl
content_of_name (IpAddress octets) = refl
content_of_name (RegisteredId oid) = refl

lawful : IsForm (λ (e : ErrorKind). ⊥) general_name
lawful = general_name_lawful

module _ (kind tag : ℕ) (content : List ℕ) (is : name_tag kind ≡ Some tag) (back : tag_kind tag ≡ kind) where
  -- what is read is of that kind, and holds those octets
  pub found : (name : GeneralName) → general_name.reading tag content ≡ Ok name → IsNameOf kind content name
  found name read =
      let sound = lawful.sound tag content name read in
      let of_kind : kind_of name ≡ kind = sym (kind_of_name name) ∙ sym (ap tag_kind sound.1) ∙ back in
      record { kind_is = of_kind; held_is = sym (content_of_name name) ∙ sym sound.2 }

  pub good : (name : GeneralName) → general_name.reading tag content ≡ Ok name → general_name.good name
  good name read = (lawful.sound tag content name read).0

  -- no name is, where none is read
  none : (e : ErrorKind) → general_name.reading tag content ≡ Err e → (name : GeneralName) → IsNameOf kind content name → general_name.good name → ⊥
  none e read name of is_good =
      let whole = lawful.complete name is_good in
      let same_tag : Some (general_name.tag name) ≡ Some tag = sym (tag_of_name name) ∙ ap name_tag of.kind_is ∙ is in
      let same_content : general_name.content name ≡ content = content_of_name name ∙ of.held_is in
      absurd cc

  because : (e : ErrorKind) → general_name.reading tag content ≡ Err e → (e ≡ Memory) ⊎ RefusesName kind content e
  because e read = inr (inr (elim (lawful.refused tag content e read) [ inl malformed ↦ malformed | inr never ↦ absurd never ], none e read))

  pub refused : (e : ErrorKind) → IsRefusal e (general_name.reading tag content) → (e ≡ Memory) ⊎ RefusesName kind content e
  refused Memory r = inl refl
  refused Overlength r = because Overlength r
  refused Malformed r = because Malformed r
  refused Failed r = because Failed r
  refused SetDuplicate r = because SetDuplicate r
  refused Value r = because Value r
