-- The version of the programs, and the line that tells it.
use Rattle.std.specs.Prelude.{ℕ, List, ◌++◌, codes}
use Rattle.x509_tool_run.specs.declared.version.TheConstants.{VERSION}

abbrev pub version : List ℕ
version = VERSION.now

-- as `x509_tool 0.1.0`
abbrev pub version_text : List ℕ → List ℕ
version_text program = program ++ (codes " " ++ version)
