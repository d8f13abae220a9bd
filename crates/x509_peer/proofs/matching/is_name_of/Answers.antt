use Rattle.std.proofs.Common.{sym, ◌∙◌}
use Rattle.std.proofs.lemmas.Slice.Eq.{bytes_eq-Decides}
use Rattle.x509_peer.proofs.Tagged.{of_its_kind, of_other_kind}
use Rattle.x509_peer.specs.Peer.{Host, Address, Mailbox}
use Rattle.x509_peer.proofs.matching.is_name_of.Goals as goal

pub returns-then-tag-eq-DNS_NAME : goal.returns-then-tag-eq-DNS_NAME
returns-then-tag-eq-DNS_NAME c = λ name read.
    let same = of_its_kind (Host c.in-Host.host.octets.now) c.args.tag c.args.content.now name read c.if-tag-eq-DNS_NAME.true in
    rw c.in-Host.is (λ h. same.0 (c.names_host.ensures.0 h), λ n. c.names_host.ensures.1 (same.1 n))

pub returns-else-tag-eq-DNS_NAME : goal.returns-else-tag-eq-DNS_NAME
returns-else-tag-eq-DNS_NAME c = λ name read.
    let other = of_other_kind (Host c.in-Host.host.octets.now) c.args.tag c.args.content.now name read c.if-tag-eq-DNS_NAME.false in
    rw c.in-Host.is other

pub returns-then-tag-eq-IP_ADDRESS : goal.returns-then-tag-eq-IP_ADDRESS
returns-then-tag-eq-IP_ADDRESS c = λ name read.
    let same = of_its_kind (Address c.in-Address.octets.now) c.args.tag c.args.content.now name read c.if-tag-eq-IP_ADDRESS.true in
    let test = bytes_eq-Decides c.args.content.now c.in-Address.octets.now in
    rw c.in-Address.is (λ h. same.0 (test.0 (sym c.eq.ensures ∙ h)), λ n. c.eq.ensures ∙ test.1 (same.1 n))

pub returns-else-tag-eq-IP_ADDRESS : goal.returns-else-tag-eq-IP_ADDRESS
returns-else-tag-eq-IP_ADDRESS c = λ name read.
    let other = of_other_kind (Address c.in-Address.octets.now) c.args.tag c.args.content.now name read c.if-tag-eq-IP_ADDRESS.false in
    rw c.in-Address.is other

pub returns-then-tag-eq-RFC822_NAME : goal.returns-then-tag-eq-RFC822_NAME
returns-then-tag-eq-RFC822_NAME c = λ name read.
    let same = of_its_kind (Mailbox c.in-Mailbox.address.local.now c.in-Mailbox.address.host.octets.now) c.args.tag c.args.content.now name read c.if-tag-eq-RFC822_NAME.true in
    rw c.in-Mailbox.is (λ h. same.0 (c.is_mailbox_of.ensures.0 h), λ n. c.is_mailbox_of.ensures.1 (same.1 n))

pub returns-else-tag-eq-RFC822_NAME : goal.returns-else-tag-eq-RFC822_NAME
returns-else-tag-eq-RFC822_NAME c = λ name read.
    let other = of_other_kind (Mailbox c.in-Mailbox.address.local.now c.in-Mailbox.address.host.octets.now) c.args.tag c.args.content.now name read c.if-tag-eq-RFC822_NAME.false in
    rw c.in-Mailbox.is other
