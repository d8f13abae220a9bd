-- Parts that are encoded to be signed.
use Rattle.std.specs.Prelude.{◌≡◌, ◌⊎◌, ℕ, List, [], ◌∷◌, None}
use Rattle.x509_base.specs.declared.algorithm_identifier.AlgorithmIdentifier.{AlgorithmIdentifier}
use Rattle.x509_build.specs.declared.error.Error.{Error}
use Rattle.x509_build.specs.declared.error.Error.TheVariants.{Asn1}
use Rattle.x509_build.specs.Answer.{Answer, IsRefused}
use Rattle.x509_build.specs.Refusals.{LacksMemory}
use Rattle.x509_der.specs.Element.{limit}
use Rattle.x509_der.specs.Form.{Form}
use Rattle.x509_der.specs.Writing.{Writing, Written, writes, written_spelling, IsWritable, IsUnwritable}

-- the part isn't refused, and these are the bytes that are written of it
abbrev pub Encodes : {X : Type 0} → Form X → Writing X → Answer X → List ℕ → Type 0
Encodes form writing part bytes =
    (bytes ≡ written_spelling form (writes writing part.value)) × (IsWritable form (writes writing part.value) limit × (IsRefused part → ⊥))

-- the part can't be written
abbrev pub CantWrite : {X : Type 0} → Form X → Written X → Error → Type 0
CantWrite form written (Asn1 e) = IsUnwritable form written limit e.kind
CantWrite form written _ = ⊥

-- why there are no bytes of the part: out of memory, or it is refused, or it can't be written
abbrev pub PartRefuses : {X : Type 0} → Form X → Writing X → Answer X → Error → Type 0
PartRefuses form writing part e = LacksMemory e ⊎ (part.refuses e ⊎ CantWrite form (writes writing part.value) e)

-- 0.0.0 without parameters: what stands in a part until a signer's algorithm is known
abbrev pub no_algorithm : AlgorithmIdentifier
no_algorithm = record { oid = 0 ∷ 0 ∷ []; parameters = None }
