-- Addresses of e-mail under constraints (RFC 5280 4.2.1.10).
use Rattle.std.specs.Prelude.{◌≡◌, ◌⊎◌, ℕ, ◌==◌, ◌&&◌, ◌||◌, not, nat_le, Bool, true, false, List, [], ◌∷◌, ◌++◌, Option, None, Some, if◌then◌else◌}
use Rattle.std.specs.List.{list_all}
use Rattle.x509_constraints.specs.Host.{IsWithinHost}
use Rattle.x509_constraints.specs.Keys.{host_prefix, key_if, stop, symbols, turned}
use Rattle.x509_host.specs.Host.{IsSame, is_host}

-- '@'
abbrev pub at : ℕ
at = 0x40

-- an octet in front of a text, of which the parts round its last '@' are known
abbrev pub in_front : ℕ → List ℕ → Option (List ℕ × List ℕ) → Option (List ℕ × List ℕ)
in_front c rest (Some (local, host)) = Some (c ∷ local, host)
in_front c rest None = if c == at then Some ([], rest) else None

-- what stands before the last '@' and what behind it, if there is one
abbrev pub mailbox_of : List ℕ → Option (List ℕ × List ℕ)
mailbox_of [] = None
mailbox_of (c ∷ rest) = in_front c rest (mailbox_of rest)

-- a character of ASCII that is printed, or a space
abbrev pub is_local_octet : ℕ → Bool
is_local_octet c = nat_le 0x20 c && nat_le c 0x7E

-- '"'
abbrev pub quote : ℕ
quote = 0x22

-- a backslash
abbrev pub backslash : ℕ
backslash = 0x5C

-- one that stands outside quotes
abbrev pub is_bare_octet : ℕ → Bool
is_bare_octet c = is_local_octet c && not (c == quote || c == backslash)

abbrev pub is_end : List ℕ → Bool
is_end [] = true
is_end (c ∷ rest) = false

-- behind a quote, octets up to the other quote, which is the last one; escaped says that a backslash stands in front
abbrev pub is_quoted : Bool → List ℕ → Bool
is_quoted escaped [] = false
is_quoted true (c ∷ rest) = is_local_octet c && is_quoted false rest
is_quoted false (c ∷ rest) = if c == quote then is_end rest else (is_local_octet c && is_quoted (c == backslash) rest)

-- what they say (RFC 5321 4.1.2)
abbrev pub said_behind : Bool → List ℕ → List ℕ
said_behind escaped [] = []
said_behind true (c ∷ rest) = c ∷ said_behind false rest
said_behind false (c ∷ rest) = if c == quote then [] else if c == backslash then said_behind true rest else c ∷ said_behind false rest

-- a local part without quotes, or in quotes as a whole
abbrev pub is_local : List ℕ → Bool
is_local [] = false
is_local (c ∷ rest) = if c == quote then is_quoted false rest else list_all is_bare_octet (c ∷ rest)

-- the local part without quotes: that of "\f\o\o"@example.com is foo
abbrev pub said : List ℕ → List ℕ
said [] = []
said (c ∷ rest) = if c == quote then said_behind false rest else c ∷ rest

abbrev pub is_mailbox_at : Option (List ℕ × List ℕ) → Bool
is_mailbox_at None = false
is_mailbox_at (Some (local, host)) = is_local local && is_host host

-- an address of e-mail that can be compared: a local part, '@' and a host
abbrev pub is_mailbox : List ℕ → Bool
is_mailbox name = is_mailbox_at (mailbox_of name)

-- a mailbox is within a subtree that is a mailbox where both are the same, and else where its host is
abbrev pub IsWithinParts : List ℕ → List ℕ → List ℕ → Option (List ℕ × List ℕ) → Type 0
IsWithinParts local host subtree (Some (own_local, own_host)) = (said local ≡ said own_local) × IsSame host own_host
IsWithinParts local host subtree None = IsWithinHost host subtree

abbrev pub IsMailboxWithin : Option (List ℕ × List ℕ) → List ℕ → Type 0
IsMailboxWithin None subtree = ⊥
IsMailboxWithin (Some (local, host)) subtree = IsWithinParts local host subtree (mailbox_of subtree)

-- An address of e-mail: an empty subtree has all, one with an '@' that mailbox, any other the mailboxes of its hosts. The case of
-- the local part makes a difference, quotes make none. What can't be compared is within an empty subtree alone.
abbrev pub IsWithinEmail : List ℕ → List ℕ → Type 0
IsWithinEmail name subtree = (subtree ≡ []) ⊎ ((is_mailbox name ≡ true) × IsMailboxWithin (mailbox_of name) subtree)

-- ---- keys: the host as that of hosts, then the local part

abbrev pub mailbox_key : List ℕ → List ℕ → List ℕ
mailbox_key local host = turned host ++ stop ∷ (symbols (said local) ++ stop ∷ [])

abbrev pub email_key_at : Option (List ℕ × List ℕ) → List ℕ
email_key_at None = []
email_key_at (Some (local, host)) = mailbox_key local host

abbrev pub email_key : List ℕ → List ℕ
email_key name = key_if (is_mailbox name) (email_key_at (mailbox_of name))

abbrev pub email_prefix_at : List ℕ → Option (List ℕ × List ℕ) → List ℕ
email_prefix_at subtree None = host_prefix subtree
email_prefix_at subtree (Some (local, host)) = mailbox_key local host

abbrev pub email_prefix : List ℕ → List ℕ
email_prefix subtree = email_prefix_at subtree (mailbox_of subtree)
