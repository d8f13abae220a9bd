-- What a certificate's bytes lend to the check of a path.
use Rattle.std.specs.Prelude.{◌<◌, ℕ, List, length, map, Option, Some, None}
use Rattle.x509_base.specs.SubjectPublicKeyInfo.{subject_public_key_info}
use Rattle.x509_cert.specs.Certificate.{rfc5280_certificate}
use Rattle.x509_check.specs.ExtensionRefs.{lent_extension}
use Rattle.x509_check.specs.declared.lent.extension.ExtensionRef.{ExtensionRef}
use Rattle.x509_der.specs.Form.{Spells}
use Rattle.x509_ext.specs.declared.extension.Extension.{Extension}
use Rattle.x509_name.specs.Names.{name}
use Rattle.x509_path.specs.Certificates.{Certificate, extensions_of}
use Rattle.x509_path.specs.declared.anchor_ref.AnchorRef.{AnchorRef}
use Rattle.x509_path.specs.declared.anchor.Anchor.{Anchor}

-- the bytes are those of the certificate
abbrev pub Lends : List ℕ → Certificate → Type 0
Lends bytes c = Spells rfc5280_certificate c bytes

-- the bytes are those of a certificate of more than 16 extensions
abbrev pub HasMany : List ℕ → Type 0
HasMany bytes = (c : Certificate) × Lends bytes c × (16 < length (extensions_of c))

-- the extensions that are lent
abbrev pub lent_extensions : List ExtensionRef → List Extension
lent_extensions refs = map lent_extension refs

-- the name and the key that are lent
abbrev pub LendsAnchor : AnchorRef → Anchor → Type 0
LendsAnchor lent above = Spells name above.name lent.name.now × Spells subject_public_key_info above.key lent.key.now

-- the same of what stands above a certificate: an anchor, where nothing is lent
abbrev pub StandsAbove : (Anchor → Type 0) → Option AnchorRef → Anchor → Type 0
StandsAbove is_anchor None above = is_anchor above
StandsAbove is_anchor (Some lent) above = LendsAnchor lent above
