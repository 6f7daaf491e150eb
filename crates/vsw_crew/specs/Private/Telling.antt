-- The text of a crew's round, out of the rows of its lines.
use Rattle.std.specs.Prelude.{◌≡◌, ◌++◌, ℕ, Bool, List, IfOk, OnOk, Result, length, map}
use Rattle.vsw_harbour.specs.Crew.{AreCounted, crew_text, is_short_crew}
use Rattle.vsw_port.specs.Order.{ascending}
use Rattle.vsw_port.specs.declared.event.Event.{Event}
use Rattle.vsw_report.specs.Line.{TextLine}
use Rattle.vsw_promise.specs.Ports.{PortSeen}
use Rattle.vsw_report.specs.declared.round.Loose.{Loose}
use Rattle.vsw_crew.specs.Texts.{texts_by_port}
use Rattle.vsw_harbour.specs.Harbour.{HarbourSeen}
use Rattle.vsw_crew.specs.Private.Round.{numbers_in}

-- the lines of each port
abbrev pub texts_so : HarbourSeen → List (List (List TextLine)) → List (List (List TextLine)) → List (List (List TextLine))
texts_so h lines firsts = texts_by_port h.workers h.controllers (ascending h.controllers) lines firsts (length (numbers_in h))

-- these are the ports, and the histories are as long as counted; so the lines can be merged
pub record IsCounted (h : HarbourSeen) (ps : List PortSeen) (hs gs : List (List Event)) (befores afters : List ℕ) (lines firsts : List (List (List TextLine))) : Type 0 where
  pub numbers : map (λ p. p.number) ps ≡ numbers_in h
  pub before : map length hs ≡ befores
  pub after : map length gs ≡ afters
  pub counts : AreCounted hs gs (texts_so h lines firsts)

-- what stands there then
abbrev pub text_of : HarbourSeen → ℕ → List PortSeen → List (List Event) → List (List Event) → List (List (List TextLine)) → List (List (List TextLine)) → List Loose → List ℕ → List ℕ
text_of h first ps hs gs lines firsts loose old = old ++ crew_text first ps hs gs (texts_so h lines firsts) loose

-- whichever ports and histories are those counted, this is the text then
abbrev pub SaysText : {T E : Type 0} → Result T E → HarbourSeen → ℕ → (befores afters : List ℕ) → (lines firsts : List (List (List TextLine))) → List Loose → (old new : List ℕ) → Type 0
SaysText r h first befores afters lines firsts loose old new = (ps : List PortSeen) (hs gs : List (List Event)) → IsCounted h ps hs gs befores afters lines firsts → OnOk r (new ≡ text_of h first ps hs gs lines firsts loose old)

-- and it is answered whether want of memory is told in it
abbrev pub SaysShort : {E : Type 0} → Result Bool E → HarbourSeen → (befores afters : List ℕ) → (lines firsts : List (List (List TextLine))) → Type 0
SaysShort r h befores afters lines firsts = (ps : List PortSeen) (hs gs : List (List Event)) → IsCounted h ps hs gs befores afters lines firsts → IfOk r (λ short. short ≡ is_short_crew hs gs (texts_so h lines firsts))
