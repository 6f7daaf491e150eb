-- What a commands file says, or the first thing that is wrong with it.
use Rattle.std.specs.Prelude.{◌≡◌, ℕ, suc, List, [], ◌∷◌, ◌++◌, length, nat_lt, Option, Some, None, option_to_list, Result, Ok, Err, if◌then◌else◌}
use Rattle.vsw_config.specs.declared.fault.Fault.{Fault}
use Rattle.vsw_config.specs.declared.fault.Fault.TheVariants as fault
use Rattle.vsw_config.specs.Fault.{◌>>=◌}
use Rattle.vsw_config.specs.Bytes.{json_of}
use Rattle.vsw_config.specs.declared.file.PolicyFile.{PolicyFile}
use Rattle.vsw_commandfile.specs.declared.line.Line.{Line}
use Rattle.vsw_commandfile.specs.Line.{line_of}
use Rattle.vsw_commandfile.specs.declared.fault.CommandsFault.{CommandsFault}
use Rattle.vsw_commandfile.specs.declared.fault.CommandsFault.TheVariants.{Bad, CommandsLimit, LinesLimit, Memory}
use Rattle.vsw_commandfile.specs.Lines.{lines_of, is_blank}

-- the answer is the value or the first fault, where memory sufficed
abbrev pub Tells : {A : Type 0} → Result A CommandsFault → Result A CommandsFault → Type 0
Tells (Ok x) value = value ≡ Ok x
Tells (Err (Bad line kind path)) value = value ≡ Err (Bad line kind path)
Tells (Err CommandsLimit) value = value ≡ Err CommandsLimit
Tells (Err LinesLimit) value = value ≡ Err LinesLimit
Tells (Err Memory) value = Unit {0}

-- the answer of a line of this number
abbrev pub of_line : {A : Type 0} → ℕ → Result A Fault → Result A CommandsFault
of_line n (Ok x) = Ok x
of_line n (Err (fault.Bad kind path)) = Err (Bad n kind path)
of_line n (Err fault.Memory) = Err Memory

-- the line of this number that the bytes are the text of
unfoldable pub line_in : PolicyFile → ℕ → List ℕ → Result Line Fault
line_in policy n bytes = json_of bytes >>= line_of policy n

-- the same, unless the line is blank
unfoldable pub line_at : PolicyFile → ℕ → List ℕ → Result (Option Line) CommandsFault
line_at policy n bytes = if is_blank bytes then Ok None else of_line n (line_in policy n bytes) >>= (λ line. Ok (Some line))

-- lines, of which the first has this number, one after the other
abbrev pub lines_from : PolicyFile → ℕ → List (List ℕ) → Result (List Line) CommandsFault
lines_from policy n [] = Ok []
lines_from policy n (l ∷ ls) = do
  line ← line_at policy n l
  lines ← lines_from policy (suc n) ls
  Ok (option_to_list line ++ lines)

-- the lines that the bytes are the text of: at most 16,777,216 bytes, then at most 65,536 lines, blank ones too
abbrev pub commands_file_of : PolicyFile → List ℕ → Result (List Line) CommandsFault
commands_file_of policy bytes =
    if nat_lt 16777216 (length bytes) then Err CommandsLimit
    else if nat_lt 65536 (length (lines_of bytes)) then Err LinesLimit
    else lines_from policy 1 (lines_of bytes)
