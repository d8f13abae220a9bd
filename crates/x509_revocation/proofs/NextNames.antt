-- General names, one after the other.
use Rattle.std.proofs.Common.{◌≡◌, ◌≢◌, ◌≤◌, ◌<◌, ◌↔◌, inl, inr, ℕ, true, false, is_some, Bor, List, [], ◌∷◌, ◌++◌, Option, Some, None, length, refl, sym, ap, ◌∙◌, arith, length-append}
use Rattle.std.specs.Option.{option_copied}
use Rattle.x509_der.specs.Element.{element, is_identifier, length_octets, limit}
use Rattle.x509_der.specs.Form.{IsForm, Spells, spelling}
use Rattle.x509_der.specs.List.{all_good, joined}
use Rattle.x509_der.specs.Cases.{choice_tag, choice_content, choice_good}
use Rattle.x509_der.specs.declared.error.ErrorKind.{ErrorKind}
use Rattle.x509_ext.specs.CertificateIssuer.{certificate_issuer}
use Rattle.x509_ext.specs.GeneralName.{general_name, general_name_lawful}
use Rattle.x509_ext.specs.declared.pkix.certificate_issuer.CertificateIssuer.{CertificateIssuer}
use Rattle.x509_ext.specs.declared.pkix.name.general_name.GeneralName.{GeneralName}
use Rattle.x509_ext.specs.declared.pkix.name.general_name.GeneralName.TheVariants.{OtherName, Rfc822Name, DnsName, DirectoryName, EdiPartyName, UniformResourceIdentifier, IpAddress, RegisteredId}
use Rattle.x509_name.specs.Names as grammar
use Rattle.x509_revocation.specs.LentNames.{AreNames, LendsDirectory}
use Rattle.x509_revocation.specs.Names.{GeneralNamesMatch, HasDirectoryName, HasMatch, Name, directory_name}

Never : ErrorKind → Type 0
Never e = ⊥

-- ---- one name

pub is_identified : (name : GeneralName) → general_name.good name → is_identifier (general_name.tag name) ≡ true
is_identified name good = let lawful : IsForm Never general_name = general_name_lawful in (lawful.tagged name good).1

-- a directory name has the identifier octet A4, and the encoding of the name in it
pub directory : (name : GeneralName) (inside : Name) → directory_name name ≡ Some inside → (general_name.tag name ≡ 0xA4) × (general_name.content name ≡ spelling grammar.name inside) × (general_name.good name → grammar.name.good inside)
unfolding choice_tag choice_content choice_good
directory (DirectoryName own) inside is = let same : own ≡ inside = cc in rw same (refl, refl, λ good. good)
directory _ inside is = absurd cc

-- any other name has another
pub other : (name : GeneralName) → general_name.tag name ≢ 0xA4 → directory_name name ≡ None
unfolding choice_tag
other (DirectoryName x) differs = absurd (differs refl)
other _ differs = refl

pub own : (name : GeneralName) → general_name.tag name ≡ 0xA4 → (inside : Name) × (directory_name name ≡ Some inside)
unfolding choice_tag
own (DirectoryName x) is = (x, refl)
own (OtherName x) is = let never : 160 ≡ 164 = is in absurd (omega (arith, never))
own (Rfc822Name x) is = let never : 129 ≡ 164 = is in absurd (omega (arith, never))
own (DnsName x) is = let never : 130 ≡ 164 = is in absurd (omega (arith, never))
own (EdiPartyName x) is = let never : 165 ≡ 164 = is in absurd (omega (arith, never))
own (UniformResourceIdentifier x) is = let never : 134 ≡ 164 = is in absurd (omega (arith, never))
own (IpAddress x) is = let never : 135 ≡ 164 = is in absurd (omega (arith, never))
own (RegisteredId x) is = let never : 136 ≡ 164 = is in absurd (omega (arith, never))

-- ---- the first of several

pub names_front : (bytes : List ℕ) (first : GeneralName) (others : List GeneralName) → AreNames bytes (first ∷ others)
    → general_name.good first × (bytes ≡ spelling general_name first ++ joined (spelling general_name) others) × AreNames (joined (spelling general_name) others) others
unfolding all_good joined
names_front bytes first others (good, is, within) =
    (good.0, is, (good.1, refl, omega (arith, ap length is, within, length-append (spelling general_name first) (joined (spelling general_name) others))))

pub names_none : (bytes : List ℕ) → AreNames bytes [] → bytes ≡ []
unfolding joined
names_none bytes h = h.1

element_some : (tag : ℕ) (content behind : List ℕ) → 0 < length (element tag content ++ behind)
unfolding element
element_some tag content behind = omega arith

pub names_cases : (bytes : List ℕ) (names : List GeneralName) → AreNames bytes names → 0 < length bytes → (first : GeneralName) × (others : List GeneralName) × (names ≡ first ∷ others) × AreNames bytes (first ∷ others)
names_cases bytes [] are some = absurd (let none = names_none bytes are in omega (arith, ap length none, some))
names_cases bytes (first ∷ others) are some = (first, others, refl, are)

pub names_end : (bytes : List ℕ) (names : List GeneralName) → AreNames bytes names → length bytes ≡ 0 → names ≡ []
names_end bytes [] are none = refl
names_end bytes (first ∷ others) are none =
    let front = names_front bytes first others are in
    let some = element_some (general_name.tag first) (general_name.content first) (joined (spelling general_name) others) in
    absurd (omega (arith, some, ap length front.1, none))

-- ---- the encoding of a directory name

pub directory_spells : (first : GeneralName) (bytes content : List ℕ) (behind : List ℕ) → general_name.good first → bytes ≡ spelling general_name first ++ behind → length bytes ≤ limit → content ≡ general_name.content first → general_name.tag first ≡ 0xA4
    → (inside : Name) × (directory_name first ≡ Some inside) × Spells grammar.name inside content
unfolding element
directory_spells first bytes content behind good is within same tag =
    let found = own first tag in
    let said = directory first found.0 found.1 in
    (found.0, found.1, (said.2 good, same ∙ said.1, omega (arith, ap length same, ap length is, within, length-append (spelling general_name first) behind, length-append (length_octets (length (general_name.content first))) (general_name.content first))))

pub list_names : (issuer : CertificateIssuer) (bytes : List ℕ) → Spells certificate_issuer issuer bytes → all_good general_name.good issuer.0 × (bytes ≡ element 48 (joined (spelling general_name) issuer.0))
list_names issuer bytes spells = (spells.0, spells.1)

pub content_within : (bytes content : List ℕ) (tag : ℕ) → bytes ≡ element tag content → length bytes ≤ limit → length content ≤ limit
unfolding element
content_within bytes content tag is within = omega (arith, ap length is, within, length-append (length_octets (length content)) content)

-- ---- what is left stands for all

pub pass_other : (first : GeneralName) (others whole : List GeneralName) → directory_name first ≡ None → HasDirectoryName (first ∷ others) ↔ HasDirectoryName whole → HasDirectoryName others ↔ HasDirectoryName whole
pass_other first others whole none h = ((λ has. h.0 (inr has)), (λ has. elim (h.1 has) [ inl is ↦ absurd (is none) | inr has ↦ has ]))

pub pass_match : (name first : GeneralName) (others whole : List GeneralName) → (GeneralNamesMatch name first → ⊥) → HasMatch name (first ∷ others) ↔ HasMatch name whole → HasMatch name others ↔ HasMatch name whole
pass_match name first others whole differs h = ((λ has. h.0 (inr has)), (λ has. elim (h.1 has) [ inl is ↦ absurd (differs is) | inr has ↦ has ]))

pub some_directory : (first : GeneralName) (lent : Option (List ℕ)) → is_some lent ≡ true → LendsDirectory first lent → directory_name first ≢ None
some_directory first None some lends = absurd cc
some_directory first (Some bytes) some (inside, is, spells) = λ none. let both : Some inside ≡ None = sym is ∙ none in absurd cc

pub none_directory : (first : GeneralName) (lent : Option (List ℕ)) → is_some lent ≡ false → LendsDirectory first lent → directory_name first ≡ None
none_directory first None some lends = lends
none_directory first (Some bytes) some lends = absurd cc

pub same_some : (lent : Option (Bor (List ℕ))) → is_some (option_copied lent) ≡ is_some lent
same_some None = refl
same_some (Some bytes) = refl
