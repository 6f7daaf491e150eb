-- What the words of the command line ask for, worked out. Which words may stand is said in Grammar, and GrammarLaw says that both agree.
use Rattle.std.specs.Prelude.{ℕ, ◌≡◌, ◌⊎◌, ◌==◌, ◌&&◌, List, [], ◌∷◌, ◌++◌, Bool, true, false, nat_le, length, take, drop, Option, Some, None, option_and_then, option_map, codes, bytes_eq, decimal, if◌then◌else◌}
use Rattle.std.specs.List.{list_any, position_or_len}
use Rattle.std.specs.Str.Parse.{digits_value}

-- what `forward`, `deliver`, `stream` and `offload` are asked for: the number of workers, and the names of the policy, the commands and the trace
pub record Request : Type 0 where
  pub workers : ℕ
  pub policy : List ℕ
  pub commands : List ℕ
  pub trace : List ℕ

-- what `check` is asked for: the run that is claimed, and the name of its report
pub record Claim : Type 0 where
  pub run : Request
  pub report : List ℕ

-- what `engine` is asked for: the names of a rows file and of a trace
pub record Query : Type 0 where
  pub rows : List ℕ
  pub trace : List ℕ

-- what the words ask for: to forward, to forward and hand packets on between the ports, to forward while the trace is read, to forward and put the rows that are
-- current, to check a report, to answer a trace from a rows file, or to generate so many packets, which are drawn from a number
pub data Asked : Type 0 where
  Forward : Request → Asked
  Deliver : Request → Asked
  Stream : Request → Asked
  Offload : Request → Asked
  Check : Claim → Asked
  Engine : Query → Asked
  Generate : (start packets : ℕ) → Asked

-- what the word's digits are worth, where that number within the bounds is written so
abbrev pub number_in : (least most : ℕ) → List ℕ → Option ℕ
number_in least most word =
    let n = digits_value 10 word in
    if bytes_eq word (decimal n) && nat_le least n && nat_le n most then Some n else None

-- more than one byte, of which the first is a dash
abbrev pub is_dashed : List ℕ → Bool
is_dashed (c ∷ d ∷ rest) = c == 45
is_dashed _ = false

-- the words before the first dashed one
abbrev pub before_dash : List (List ℕ) → List (List ℕ)
before_dash words = take (position_or_len is_dashed words) words

-- the words from the first dashed one on
abbrev pub from_dash : List (List ℕ) → List (List ℕ)
from_dash words = drop (position_or_len is_dashed words) words

-- the names at the end: none, or those behind `--`
abbrev pub behind_in : List (List ℕ) → Option (List (List ℕ))
behind_in [] = Some []
behind_in (word ∷ words) = if bytes_eq word (codes "--") then Some words else None

-- an option, and the words after it
pub record Opted : Type 0 where
  pub workers : ℕ
  pub rest : List (List ℕ)

-- a number of workers, if there is one, and the words after it
abbrev pub opted : List (List ℕ) → Option ℕ → Option Opted
opted rest workers = option_map (λ n. record { workers = n; rest = rest }) workers

-- the number of workers in one word
abbrev pub joined_in : List ℕ → Option ℕ
joined_in word = if bytes_eq (take 10 word) (codes "--workers=") then number_in 1 16 (drop 10 word) else None

-- the number of workers in the next word
abbrev pub next_in : List (List ℕ) → Option Opted
next_in [] = None
next_in (word ∷ words) = opted words (number_in 1 16 word)

-- the option that the words begin with
abbrev pub option_in : List (List ℕ) → Option Opted
option_in [] = None
option_in (word ∷ words) = if bytes_eq word (codes "--workers") then next_in words else opted words (joined_in word)

-- a word without a byte
abbrev pub is_empty : List ℕ → Bool
is_empty word = length word == 0

-- a number of workers, and names
pub record Named : Type 0 where
  pub workers : ℕ
  pub names : List (List ℕ)

-- the words after the option, where these names stand before it
abbrev pub after_option : List (List ℕ) → Opted → Option Named
after_option names o = option_map (λ behind. record { workers = o.workers; names = names ++ before_dash o.rest ++ behind }) (behind_in (from_dash o.rest))

-- names up to their end, or an option between names
abbrev pub named_of : (before rest : List (List ℕ)) → Option Named
named_of before rest = elim (behind_in rest) [ Some behind ↦ Some (record { workers = 1; names = before ++ behind }) | None ↦ option_and_then (after_option before) (option_in rest) ]

-- the words after a command that takes the option
abbrev pub named_in : List (List ℕ) → Option Named
named_in words = named_of (before_dash words) (from_dash words)

-- three file names, none of them empty
abbrev pub request_of : ℕ → List (List ℕ) → Option Request
request_of workers (p ∷ c ∷ t ∷ []) = if list_any is_empty (p ∷ c ∷ t ∷ []) then None else Some (record { workers = workers; policy = p; commands = c; trace = t })
request_of workers names = None

-- the words after `forward`, after `deliver` and after `stream`
abbrev pub forward_in : List (List ℕ) → Option Request
forward_in words = option_and_then (λ n. request_of n.workers n.names) (named_in words)

-- four file names, none of them empty
abbrev pub claim_of : ℕ → List (List ℕ) → Option Claim
claim_of workers (p ∷ c ∷ t ∷ r ∷ []) = if list_any is_empty (p ∷ c ∷ t ∷ r ∷ []) then None else Some (record { run = record { workers = workers; policy = p; commands = c; trace = t }; report = r })
claim_of workers names = None

-- the words after `check`
abbrev pub check_in : List (List ℕ) → Option Claim
check_in words = option_and_then (λ n. claim_of n.workers n.names) (named_in words)

-- the words after a command that takes no option: names, and those behind `--`
abbrev pub plain_in : List (List ℕ) → Option (List (List ℕ))
plain_in words = option_map (λ behind. before_dash words ++ behind) (behind_in (from_dash words))

-- the words after `offload`: three names, and one worker
abbrev pub offload_in : List (List ℕ) → Option Request
offload_in words = option_and_then (request_of 1) (plain_in words)

-- two file names, neither of them empty
abbrev pub query_of : List (List ℕ) → Option Query
query_of (r ∷ t ∷ []) = if list_any is_empty (r ∷ t ∷ []) then None else Some (record { rows = r; trace = t })
query_of names = None

-- the words after `engine`
abbrev pub engine_in : List (List ℕ) → Option Query
engine_in words = option_and_then query_of (plain_in words)

-- the words after `generate`: two numbers
abbrev pub generate_in : List (List ℕ) → Option Asked
generate_in (start ∷ packets ∷ []) = option_and_then (λ s. option_map (λ n. Generate s n) (number_in 1 1048576 packets)) (number_in 0 2147483647 start)
generate_in _ = None

-- the words after a command
abbrev pub asked_by : List ℕ → List (List ℕ) → Option Asked
asked_by command words =
    if bytes_eq command (codes "forward") then option_map Forward (forward_in words)
    else if bytes_eq command (codes "deliver") then option_map Deliver (forward_in words)
    else if bytes_eq command (codes "stream") then option_map Stream (forward_in words)
    else if bytes_eq command (codes "offload") then option_map Offload (offload_in words)
    else if bytes_eq command (codes "check") then option_map Check (check_in words)
    else if bytes_eq command (codes "engine") then option_map Engine (engine_in words)
    else if bytes_eq command (codes "generate") then generate_in words
    else None

-- the program's name, the command, and what it is asked for
abbrev pub asked_in : List (List ℕ) → Option Asked
asked_in (program ∷ command ∷ words) = asked_by command words
asked_in _ = None

-- the words ask for a run over files whose report is put, in which packets are handed on between the ports or aren't
abbrev pub AskReport : List (List ℕ) → (local : Bool) → Request → Type 0
AskReport words false q = (asked_in words ≡ Some (Forward q)) ⊎ (asked_in words ≡ Some (Stream q))
AskReport words true q = asked_in words ≡ Some (Deliver q)
