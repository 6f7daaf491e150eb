-- The command line as a grammar: `vsw forward [--workers N] POLICY COMMANDS TRACE`, `vsw deliver [--workers N] POLICY COMMANDS TRACE`,
-- `vsw stream [--workers N] POLICY COMMANDS TRACE`, `vsw offload POLICY COMMANDS TRACE`,
-- `vsw check [--workers N] POLICY COMMANDS TRACE REPORT`, `vsw engine ROWS TRACE` and `vsw generate START PACKETS`.
use Rattle.std.specs.Prelude.{◌≡◌, ◌≢◌, ◌⊎◌, ◌≤◌, ℕ, List, [], ◌∷◌, ◌++◌, codes, decimal}
use Rattle.std.specs.List.{All}
use Rattle.vsw_run.specs.Words.{Request, Claim, Query, Asked, Forward, Deliver, Stream, Offload, Check, Engine, Generate}

-- a word of more than one byte that begins with a dash
abbrev pub IsDashed : List ℕ → Type 0
IsDashed word = (c : ℕ) × (cs : List ℕ) × (word ≡ 45 ∷ c ∷ cs)

-- 1 to 16 workers
abbrev pub IsCount : ℕ → Type 0
IsCount n = (1 ≤ n) × (n ≤ 16)

-- the option as two words or as one, or left out: then there is one worker. `decimal` writes no sign and no leading zero
abbrev pub IsOption : List (List ℕ) → ℕ → Type 0
IsOption words n =
    (IsCount n × (words ≡ codes "--workers" ∷ decimal n ∷ []))
    ⊎ (IsCount n × (words ≡ (codes "--workers=" ++ decimal n) ∷ []))
    ⊎ ((n ≡ 1) × (words ≡ []))

-- `--` and the names behind it, or neither
abbrev pub IsBehind : List (List ℕ) → List (List ℕ) → Type 0
IsBehind words names = (words ≡ codes "--" ∷ names) ⊎ ((words ≡ []) × (names ≡ []))

-- the words after a command that takes the option: names, the option, names, and perhaps `--` and further names. The names before `--` aren't
-- dashed, so it is the first; those behind it may be. None is empty
pub record AreNames (words : List (List ℕ)) (workers : ℕ) (names : List (List ℕ)) : Type 0 where
  pub before : List (List ℕ)
  pub option : List (List ℕ)
  pub after : List (List ℕ)
  pub end : List (List ℕ)
  pub behind : List (List ℕ)
  pub shape : words ≡ before ++ option ++ after ++ end
  pub option_is : IsOption option workers
  pub end_is : IsBehind end behind
  pub undashed : All (λ name. ¬ (IsDashed name)) (before ++ after)
  pub all : before ++ after ++ behind ≡ names
  pub nonempty : All (λ name. name ≢ []) names

-- the same without an option
pub record ArePlain (words : List (List ℕ)) (names : List (List ℕ)) : Type 0 where
  pub before : List (List ℕ)
  pub end : List (List ℕ)
  pub behind : List (List ℕ)
  pub shape : words ≡ before ++ end
  pub end_is : IsBehind end behind
  pub undashed : All (λ name. ¬ (IsDashed name)) before
  pub all : before ++ behind ≡ names
  pub nonempty : All (λ name. name ≢ []) names

-- the files of a run
abbrev pub files_of : Request → List (List ℕ)
files_of q = q.policy ∷ q.commands ∷ q.trace ∷ []

-- the words after `forward`, after `deliver` and after `stream`: three names
abbrev pub IsForward : List (List ℕ) → Request → Type 0
IsForward words request = AreNames words request.workers (files_of request)

-- the words after `offload`: three names without an option, and one worker
abbrev pub IsOffload : List (List ℕ) → Request → Type 0
IsOffload words request = (request.workers ≡ 1) × ArePlain words (files_of request)

-- the words after `check`: the same three, and the report's
abbrev pub IsClaim : List (List ℕ) → Claim → Type 0
IsClaim words claim = AreNames words claim.run.workers (files_of claim.run ++ claim.report ∷ [])

-- the words after `engine`: the rows' name, and the trace's
abbrev pub IsQuery : List (List ℕ) → Query → Type 0
IsQuery words q = ArePlain words (q.rows ∷ q.trace ∷ [])

-- the words after `generate`: the number that packets are drawn from, and how many packets
pub record IsGenerate (words : List (List ℕ)) (start packets : ℕ) : Type 0 where
  pub shape : words ≡ decimal start ∷ decimal packets ∷ []
  pub start_is : start ≤ 2147483647
  pub packets_are : (1 ≤ packets) × (packets ≤ 1048576)

-- what the words after a command ask for
abbrev pub IsAsked : List (List ℕ) → Asked → Type 0
IsAsked words (Forward request) = IsForward words request
IsAsked words (Deliver request) = IsForward words request
IsAsked words (Stream request) = IsForward words request
IsAsked words (Offload request) = IsOffload words request
IsAsked words (Check claim) = IsClaim words claim
IsAsked words (Engine q) = IsQuery words q
IsAsked words (Generate start packets) = IsGenerate words start packets

abbrev pub command_of : Asked → List ℕ
command_of (Forward request) = codes "forward"
command_of (Deliver request) = codes "deliver"
command_of (Stream request) = codes "stream"
command_of (Offload request) = codes "offload"
command_of (Check claim) = codes "check"
command_of (Engine q) = codes "engine"
command_of (Generate start packets) = codes "generate"

-- a command line: the program's name, the command, and the words after it
abbrev pub Asks : List (List ℕ) → Asked → Type 0
Asks words asked = (program : List ℕ) × (rest : List (List ℕ)) × (words ≡ program ∷ command_of asked ∷ rest) × IsAsked rest asked
