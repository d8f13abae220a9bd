use Rattle.std.proofs.Common.{◌≡◌, ◌++◌, take, string_bytes}
use Rattle.std.specs.List.{flat_map}
use Rattle.x509_text.specs.Requests.{attribute_lines}
use Rattle.x509_text.proofs.requests.write_attributes.Given as goal

abbrev pub invariant-loop-attribute : goal.invariant-loop-attribute
invariant-loop-attribute l = string_bytes l.out ≡ string_bytes l.fn.out ++ flat_map (attribute_lines l.at) (take l.attribute-index l.attributes)
