-- The numbers of the statuses, from the table of docs/FORMATS.md.
use Rattle.std.specs.Prelude.{◌≡◌, [], ◌∷◌, map}
use Rattle.vsw_run.specs.Complaint.{number_of}
use Rattle.vsw_run.specs.declared.ending.Status.TheVariants.{Done, Usage, ReadFault, WriteFault, Refused, Limit, Illegal, Memory}

abbrev pub StatusNumbers : Type 0
StatusNumbers = map number_of (Done ∷ Usage ∷ ReadFault ∷ WriteFault ∷ Refused ∷ Limit ∷ Illegal ∷ Memory ∷ []) ≡ 0 ∷ 2 ∷ 3 ∷ 4 ∷ 5 ∷ 6 ∷ 8 ∷ 9 ∷ []
