-- What the program tells about itself.
use Rattle.std.specs.Prelude.{ℕ, List, [], ◌∷◌, ◌++◌, Option, Some, None, codes, if◌then◌else◌}
use Rattle.std.specs.Str.{bytes_eq}
use Rattle.x509_tool_run.specs.Version.{version_text}
use Rattle.x509_tool_run.specs.declared.information.Information.{Information}
use Rattle.x509_tool_run.specs.declared.information.Information.TheVariants.{Help, Version}

-- `--help` or `--version`, alone
abbrev pub information_of : List (List ℕ) → Option Information
information_of (word ∷ []) =
    if bytes_eq word (codes "--help") then Some Help
    else if bytes_eq word (codes "--version") then Some Version
    else None
information_of words = None

-- what the commands do, which types there are, and with which status the program ends
abbrev pub help : List ℕ
help =
    codes "usage: x509_tool reencode TYPE [rfc5280|raw] | name | encode-name\n"
    ++ codes "       x509_tool path [--any-signature] MOMENT\n\n"
    ++ codes "Reads a line from standard input and answers it with a line.\n\n"
    ++ codes "  reencode TYPE  decodes hex text of a TYPE and encodes the value again\n"
    ++ codes "  name           prints the name that hex text encodes\n"
    ++ codes "  encode-name    encodes a name as hex text\n"
    ++ codes "  path MOMENT    checks a path at a moment, as 2026-01-02T03:04:05Z: PEM of the trust\n"
    ++ codes "                 anchor and of the certificates below it, topmost first, or their hex texts\n"
    ++ codes "                 on a line, a space between two. No signature is verified: one has to be\n"
    ++ codes "                 the message itself, or with --any-signature may be any. Names are compared\n"
    ++ codes "                 byte for byte, and there are no name constraints, policies and CRLs. A\n"
    ++ codes "                 path is validated by validate_path in Rattle, Rust and Python, and by\n"
    ++ codes "                 x509_path_validate in C\n"
    ++ codes "  --help         prints this text\n"
    ++ codes "  --version      prints the version\n\n"
    ++ codes "TYPE: anchor, any, certificate, crl, extensions, general-names, integer, name, oid,\n"
    ++ codes "rdn, request, serial, time, validity\n\n"
    ++ codes "Status: 0 for an answer, 1 where the line is refused, the path has a fault or the output\n"
    ++ codes "can't be written, 2 for other words."

-- how it reads, without the last line feed
abbrev pub information_text : Information → List ℕ
information_text Help = help
information_text Version = version_text (codes "x509_tool")
