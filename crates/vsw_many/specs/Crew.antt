-- What a crew of two or more workers, and the controllers, did in a round, and the text that tells of it.
use Rattle.std.specs.Prelude.{◌≡◌, ◌+◌, ◌-◌, ◌||◌, ℕ, Bool, false, List, [], ◌∷◌, ◌++◌, length, map, codes, decimal}
use Rattle.std.specs.List.{flat_map, list_any}
use Rattle.vsw_pcap.specs.declared.capture.Record.{Record}
use Rattle.vsw_promise.specs.Ports.{PortSeen, ports_of}
use Rattle.vsw_report.specs.declared.round.Loose.{Loose}
use Rattle.vsw_report.specs.declared.round.PortRound.{PortRound}
use Rattle.vsw_report.specs.declared.round.Round.{Round}
use Rattle.vsw_report.specs.Print.{loose_text, port_line, round_text}
use Rattle.vsw_report.specs.Short.{is_short_round}
use Rattle.vsw_port.specs.declared.event.Event.{Event}
use Rattle.vsw_port.specs.Calls.{Call, calls_of, controller_at}
use Rattle.vsw_port.specs.Order.{ascending, counted, numbered}
use Rattle.vsw_promise.specs.Jobs.{Setting, Placed, loose_among, macs_of, packets_between, placed_packets}
use Rattle.vsw_many.specs.Dealing.{numbers_of, placed_lines}
use Rattle.vsw_promise.specs.Rounds.{IsRound, AllBegin, AreHistories}
use Rattle.vsw_promise.specs.Told.{line_of}
use Rattle.vsw_report.specs.Line.{TextLine, text_of}
use Rattle.vsw_report.specs.Order.{AllInCounts, in_order}
use Rattle.vsw_many.specs.Phases.{Lane}
use Rattle.vsw_many.specs.Actors.{AreRows}
use Rattle.vsw_many.specs.Rounds.{AreJournals, calls_by_port, ports_told}
use Rattle.vsw_many.specs.Turns.{PlacedTurns, placed_before}

-- ---- what was done

-- the workers 0 to 15 and the controllers, whether they are there or not
abbrev pub callers_in : Setting → ℕ
callers_in s = 16 + length s.policy.controllers

-- what is done beside each other in the round of these packets, of which the first has this number, that tells this
abbrev pub jobs_beside : Setting → List PortRound → ℕ → List Record → List Placed
jobs_beside s told first packets = placed_lines (numbers_of s.policy) s.commands first ++ placed_packets s.workers s.local (macs_of s.policy) told (numbered first packets)

-- the lines of calls as texts
abbrev pub lines_for : List Call → List TextLine
lines_for calls = map (λ c. text_of (line_of c)) calls

-- the lines of a port by callers: of the workers, by their numbers, those of what was done beside each other; then of the controllers, by theirs, first
-- those of the "before" commands and then the others
abbrev pub crew_texts : List ℕ → ℕ → List Call → List Call → List (List TextLine)
crew_texts cs workers first later = map (λ k. lines_for (calls_of cs k later)) (counted 0 workers)
    ++ flat_map (λ k. lines_for (calls_of cs k first) ∷ lines_for (calls_of cs k later) ∷ []) (map (controller_at cs) (ascending cs))

-- these are the lines of each port
abbrev pub AreTexts : ℕ → List PortSeen → List (List Call) → List (List Call) → List (List (List TextLine)) → Type 0
AreTexts workers [] [] [] [] = Unit {0}
AreTexts workers (p ∷ ps) (c ∷ cs) (d ∷ ds) (t ∷ ts) = (t ≡ crew_texts p.controllers workers c d) × AreTexts workers ps cs ds ts
AreTexts workers _ _ _ _ = ⊥

-- a round done by a crew, while the histories of the ports grew from these to those: first the "before" commands in turn, and then each caller did its
-- own of all else, and what it was handed on by what is told of the round. These are the lines of each port
pub record CrewDid (s : Setting) (first : ℕ) (packets : List Record) (hs gs : List (List Event)) (texts : List (List (List TextLine))) : Type 0 where
  pub middles : List (List Event)
  pub firsts : List (List Call)
  pub firsts_done : PlacedTurns 0 (ports_of s.policy) (placed_before (numbers_of s.policy) s.commands first) hs middles firsts
  pub rows : List (List Lane)
  pub size : length rows ≡ callers_in s
  pub told : List PortRound
  pub told_is : told ≡ ports_told (ports_of s.policy) hs gs firsts (calls_by_port (ports_of s.policy) rows)
  pub rows_done : AreRows s.policy.controllers (jobs_beside s told first packets) 0 0 (ports_of s.policy) middles gs rows
  pub journals : AreJournals (callers_in s) (ports_of s.policy) middles gs
  pub texts_are : AreTexts s.workers (ports_of s.policy) firsts (calls_by_port (ports_of s.policy) rows) texts

-- ---- what is told of it

-- the lines of a port in the order of the report, while its history grew from one to another
abbrev pub merged : List Event → List Event → List (List TextLine) → List TextLine
merged h g texts = in_order texts (length h) (length g - length h)

-- the counts of each caller's lines never fall, rise after an entry, and lie within the round's, at each port
abbrev pub AreCounted : List (List Event) → List (List Event) → List (List (List TextLine)) → Type 0
AreCounted [] [] [] = Unit {0}
AreCounted (h ∷ hs) (g ∷ gs) (t ∷ ts) = AllInCounts (length h) t (length g) × AreCounted hs gs ts
AreCounted _ _ _ = ⊥

-- the ports' part of the round's text
abbrev pub ports_text : List PortSeen → List (List Event) → List (List Event) → List (List (List TextLine)) → List ℕ
ports_text (p ∷ ps) (h ∷ hs) (g ∷ gs) (t ∷ ts) = (port_line p.number (length h) (length g) ++ flat_map (λ l. l.text) (merged h g t)) ++ ports_text ps hs gs ts
ports_text _ _ _ _ = []

-- the text of the round of which this is the first packet
abbrev pub crew_text : ℕ → List PortSeen → List (List Event) → List (List Event) → List (List (List TextLine)) → List Loose → List ℕ
crew_text first ps hs gs texts loose = codes "round " ++ decimal first ++ codes "\n" ++ ports_text ps hs gs texts ++ codes "loose\n" ++ flat_map loose_text loose

-- whether want of memory is told of it
abbrev pub is_short_crew : List (List Event) → List (List Event) → List (List (List TextLine)) → Bool
is_short_crew (h ∷ hs) (g ∷ gs) (t ∷ ts) = list_any (λ l. l.short) (merged h g t) || is_short_crew hs gs ts
is_short_crew _ _ _ = false

-- the lines can be merged, and merged they tell the round of these packets, of which the first has this number: that round of every trace that has them there
pub record CrewTells (s : Setting) (first : ℕ) (packets : List Record) (hs gs : List (List Event)) (texts : List (List (List TextLine))) : Type 0 where
  pub round : Round
  pub is_round : (records : List Record) (next : ℕ) → packets_between records first next ≡ numbered first packets → IsRound s records gs first next round
  pub right : AreHistories (ports_of s.policy) gs
  pub begin : AllBegin hs gs
  pub before : map (λ p. p.before) round.ports ≡ map length hs
  pub after : map (λ p. p.after) round.ports ≡ map length gs
  pub counts : AreCounted hs gs texts
  pub short_is : is_short_crew hs gs texts ≡ is_short_round round
  pub text : crew_text first (ports_of s.policy) hs gs texts (loose_among (macs_of s.policy) (numbered first packets)) ≡ round_text round
