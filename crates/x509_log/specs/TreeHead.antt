-- What the signature of a tree head is over (RFC 6962 3.5).
use Rattle.std.specs.Prelude.{ℕ, List}
use Rattle.x509_log.specs.declared.tree_head.TreeHead.{TreeHead}
use Rattle.x509_sct.specs.Form.{Form, IsForm, fixed, ◌⊗◌}
use Rattle.x509_sct.specs.FormLaws.{fixed_lawful, named_lawful, pair_lawful}
use Rattle.x509_sct.specs.Numbers.{uint64, uint64_lawful}
use Rattle.x509_sct.specs.SignedInput.{signature_type, signature_types_named}
use Rattle.x509_sct.specs.Timestamp.{version, versions_named}
use Rattle.x509_sct.specs.declared.entry.SignatureType.{SignatureType}
use Rattle.x509_sct.specs.declared.entry.SignatureType.TheVariants.{TreeHash}
use Rattle.x509_sct.specs.declared.timestamp.Version.{Version}

-- TreeHeadSignature: version: Version, signature_type: SignatureType, timestamp: uint64, tree_size: uint64, sha256_root_hash: opaque[32]
unfoldable pub tree_head_input : Form (Version × (SignatureType × (ℕ × (ℕ × List ℕ))))
tree_head_input = version ⊗ signature_type ⊗ uint64 ⊗ uint64 ⊗ fixed 32

pub tree_head_input_lawful : IsForm tree_head_input
unfolding tree_head_input
tree_head_input_lawful =
    pair_lawful _ _ (named_lawful _ _ versions_named) (pair_lawful _ _ (named_lawful _ _ signature_types_named) (pair_lawful _ _ uint64_lawful
    (pair_lawful _ _ uint64_lawful (fixed_lawful 32))))

-- what is signed of a tree head: signature_type is tree_hash
abbrev pub tree_head_signed : TreeHead → Version × (SignatureType × (ℕ × (ℕ × List ℕ)))
tree_head_signed head = (head.version, (TreeHash, (head.timestamp, (head.tree_size, head.root_hash))))
