use Rattle.std.proofs.Common.{◌≡◌, false, true, inr, refl}
use Rattle.x509_show.proofs.beside.show_below.Goals as goal

pub returns-in_default : goal.returns-in_default
returns-in_default g c =
    inr ((λ whole read. let is_one : false ≡ true = c.in_default.ensures.every whole read in cc), refl, refl, rw c.looks_of.ensures at c.refuse.ensures)
