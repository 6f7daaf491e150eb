-- A part whose rules have their index.
use Rattle.vsw_policy.specs.declared.command.Part.{Part}
use Rattle.vsw_policy.specs.declared.parts.IndexedPart.{IndexedPart}

-- what a command said of it
abbrev pub part_of : IndexedPart → Part
part_of p = record { layer = p.layer; group = p.group; rules = p.rules }
