use Rattle.x509_prim.proofs.Ascii.{ascii_is_ia5}
use Rattle.x509_prim.proofs.alphabet.are_ascii.Goals as goal

pub returns : goal.returns
returns c = ascii_is_ia5 c.is_ascii.result c.args.octets.now c.is_ascii.ensures.cases
