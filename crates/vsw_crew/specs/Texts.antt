-- The lines of all callers in a round, port by port. Each caller has a row: its lines at the ports, in the policy's order.
use Rattle.std.specs.Prelude.{◌≡◌, ◌≤◌, ◌+◌, ℕ, Bool, List, [], ◌∷◌, ◌++◌, IfOk, OnOk, Result, get_or, length, map, take}
use Rattle.std.specs.List.{flat_map}
use Rattle.vsw_many.specs.Crew.{AreCounted, crew_text, is_short_crew}
use Rattle.vsw_report.specs.Line.{TextLine}
use Rattle.vsw_report.specs.Order.{emptied}
use Rattle.vsw_policy.specs.Layers.{place_of}
use Rattle.vsw_policy.specs.Sound.{Each}
use Rattle.vsw_port.specs.Order.{counted}
use Rattle.vsw_port.specs.declared.event.Event.{Event}
use Rattle.vsw_promise.specs.Ports.{PortSeen}
use Rattle.vsw_report.specs.declared.round.Loose.{Loose}

-- the row of a caller, and its lines at a port; there are none where there is no such place
abbrev pub row_at : ℕ → List (List (List TextLine)) → List (List TextLine)
row_at caller rows = get_or rows caller []

abbrev pub caller_at : ℕ → List (List TextLine) → List TextLine
caller_at place row = get_or row place []

-- a controller's lines at a port: those of the commands before the packets, and then the others
abbrev pub controller_lines : List ℕ → List (List (List TextLine)) → List (List (List TextLine)) → ℕ → ℕ → List (List TextLine)
controller_lines cs lines firsts place n = caller_at place (row_at (place_of n cs) firsts) ∷ caller_at place (row_at (16 + place_of n cs) lines) ∷ []

-- the lines of the callers at the port at a place: of the workers, by their numbers, and then of the listed controllers
abbrev pub texts_at : ℕ → List ℕ → List ℕ → List (List (List TextLine)) → List (List (List TextLine)) → ℕ → List (List TextLine)
texts_at workers cs listed lines firsts place = map (caller_at place) (take workers lines) ++ flat_map (controller_lines cs lines firsts place) listed

-- the same at each of so many ports
abbrev pub texts_by_port : ℕ → List ℕ → List ℕ → List (List (List TextLine)) → List (List (List TextLine)) → ℕ → List (List (List TextLine))
texts_by_port workers cs listed lines firsts ports = map (texts_at workers cs listed lines firsts) (counted 0 ports)

-- at no port the count before is more than the one after
abbrev pub AreRising : List ℕ → List ℕ → Type 0
AreRising (b ∷ befores) (a ∷ afters) = (b ≤ a) × AreRising befores afters
AreRising _ _ = Unit {0}

-- the workers 0 to 15 and then the controllers have rows, with lines at each port; and each port has its counts
pub record AreSized (workers controllers : ℕ) (numbers befores afters : List ℕ) (lines : List (List (List TextLine))) : Type 0 where
  pub few : workers ≤ 16
  pub rows : length lines ≡ 16 + controllers
  pub wide : Each (λ row. length row ≡ length numbers) lines
  pub befores_are : length befores ≡ length numbers
  pub afters_are : length afters ≡ length numbers

-- as many rows of as many callers, with no lines
abbrev pub all_emptied : List (List (List TextLine)) → List (List (List TextLine))
all_emptied rows = map emptied rows

-- whichever ports have these numbers, and histories as long as counted, the text of their round stands behind what was, if its lines can be merged
abbrev pub TellsTexts : {T E : Type 0} → Result T E → ℕ → (numbers befores afters : List ℕ) → List (List (List TextLine)) → List Loose → (old new : List ℕ) → Type 0
TellsTexts r first numbers befores afters texts loose old new = (ps : List PortSeen) (hs gs : List (List Event)) → map (λ p. p.number) ps ≡ numbers → map length hs ≡ befores → map length gs ≡ afters → AreCounted hs gs texts → OnOk r (new ≡ old ++ crew_text first ps hs gs texts loose)

-- and it is answered whether want of memory is told in it
abbrev pub TellsTextsShort : {E : Type 0} → Result Bool E → (numbers befores afters : List ℕ) → List (List (List TextLine)) → Type 0
TellsTextsShort r numbers befores afters texts = (ps : List PortSeen) (hs gs : List (List Event)) → map (λ p. p.number) ps ≡ numbers → map length hs ≡ befores → map length gs ≡ afters → AreCounted hs gs texts → IfOk r (λ short. short ≡ is_short_crew hs gs texts)
