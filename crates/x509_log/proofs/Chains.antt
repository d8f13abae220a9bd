-- The certificates of a chain have no more bytes than the chain says.
use Rattle.std.proofs.Common.{◌≡◌, ◌≤◌, List, ℕ, Ok, length, ap, arith}
use Rattle.x509_log.specs.Listed.{octets_of}
use Rattle.x509_log.specs.Vectors.{vector24_moves}
use Rattle.x509_sct.specs.FieldReading.{counted_at}
use Rattle.x509_sct.specs.Form.{AreOctets}
use Rattle.x509_sct.specs.FormLaws.{counted_lawful}
use Rattle.x509_sct.specs.Items.{items_reading, joined}
use Rattle.x509_sct.specs.ItemsLaws.{items_lawful}
use Rattle.x509_sct.specs.Numbers.{uint24, uint24_lawful, vector24, vector24_lawful}

pub chain_short : (bytes octets rest : List ℕ) (items : List (List ℕ)) → AreOctets bytes → counted_at uint24.reading bytes ≡ Ok (octets, rest)
    → items_reading vector24.reading octets ≡ Ok items → length octets ≤ 16777215 → length (joined vector24 items) ≤ 16777215
chain_short bytes octets rest items o counted read short =
    let s = (counted_lawful uint24 uint24_lawful).sound bytes octets rest o counted in
    let t = (items_lawful vector24 vector24_lawful vector24_moves).sound octets items (octets_of uint24 bytes octets rest s.1 o) read in
    omega (arith, short, ap length t.1)
