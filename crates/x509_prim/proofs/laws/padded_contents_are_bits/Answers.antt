use Rattle.x509_prim.proofs.Bits.{padded_bits, bits_padded}
use Rattle.x509_prim.proofs.laws.padded_contents_are_bits.Goals as goal

pub returns : goal.returns
returns c = record { bits = padded_bits; padded = bits_padded }
