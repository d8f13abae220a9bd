use Rattle.x509_check.proofs.LentLists.{members_read, no_piece}
use Rattle.x509_ext.specs.GeneralName.{general_name, general_name_lawful}
use Rattle.x509_peer.proofs.matching.names_in.Goals as goal

pub returns-in-Ok-split_element : goal.returns-in-Ok-split_element
returns-in-Ok-split_element c =
    (c.in-Ok.ensures.found, λ alternative spells. members_read {R = λ e. ⊥} general_name general_name_lawful alternative.0 _ _ spells c.in-Ok-split_element.ensures.exact)

pub returns-in-Err-split_element : goal.returns-in-Err-split_element
returns-in-Err-split_element c =
    λ alternative spells. absurd (no_piece general_name alternative.0 _ _ spells c.in-Err-split_element.ensures.exact c.in-Err-split_element.ensures.err)

pub returns-in-Err : goal.returns-in-Err
returns-in-Err c = λ alternative spells. absurd (let k = c.in-Err.ensures.every alternative spells in cc)
