use Rattle.x509_check.proofs.LentLists.{spelled_by}
use Rattle.x509_ext.specs.Extension.{extension, extension_lawful}
use Rattle.x509_check.proofs.lent.extensions.ExtensionRefs.as_bytes.Goals as goal

pub returns : goal.returns
returns c = spelled_by {R = λ e. ⊥} extension extension_lawful c.args.self.now.rest.now c.args.self.now.are_extensions
