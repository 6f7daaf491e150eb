-- A round whose packets came by rings, as those see it who lead.
use Rattle.std.proofs.Common.{◌≡◌, ℕ, List, [], ap, sym, ◌∙◌, subst, Ok, Err, IfOk, Result}
use Rattle.vsw_base.specs.declared.fault.NoMemory.{NoMemory}
use Rattle.vsw_commandfile.specs.declared.line.Line.{Line}
use Rattle.vsw_harbour.specs.Harbour.{HarbourSeen, IsHarbour}
use Rattle.vsw_harbour.specs.Lane.{Lane}
use Rattle.vsw_harbour.specs.Seen.{StationSeen}
use Rattle.vsw_pcap.specs.declared.capture.Record.{Record}
use Rattle.vsw_port.specs.declared.event.Event.{Event}
use Rattle.vsw_crew.specs.Crew.{AreReady, CrewSeen, seen_by}
use Rattle.vsw_crew.specs.Private.Flowing.{Closes, DoesRound}
use Rattle.vsw_crew.specs.Private.Owing.{OwesSo}
use Rattle.vsw_crew.specs.Shares.{ShareSeen}
use Rattle.vsw_crew.specs.Shift.{IsOut, TellsOwed}
use Rattle.vsw_crew.specs.StreamShares.{StreamSeen}
use Rattle.vsw_crew.specs.Streams.{IsFeeding, MayClose}
use Rattle.vsw_crew.specs.declared.feeding.Feeding.{Feeding}
use Rattle.vsw_crew.specs.declared.owed.Owed.{Owed}
use Rattle.vsw_crew.specs.declared.round.Worked.{Worked}
use Rattle.vsw_crew.proofs.Shifts.{Began, at_start, of_start, tells_owed, to_start}

pub opened_out : (h : HarbourSeen) (gs : List (List Event)) (crew : CrewSeen) (rows : List (List (Lane StationSeen))) (lines : List Line) (first : ℕ) (r : Result Feeding NoMemory) (out : List StreamSeen) → ◌≡◌ {A = CrewSeen} (record { harbour = h; histories = gs }) crew → AreReady h gs rows
    → IfOk r (λ f. (hs : List (List Event)) → AreReady h hs rows → IsFeeding (record { harbour = h; histories = hs }) lines first [] f out) → IfOk r (λ f. IsFeeding crew lines first [] f out)
opened_out h gs crew rows lines first (Err e) out view ready f = tt
opened_out h gs crew rows lines first (Ok x) out view ready f = subst (λ (w : CrewSeen). IsFeeding w lines first [] x out) view (f gs ready)

pub may_close : (h : HarbourSeen) (crew : CrewSeen) (gs : List (List Event)) (f : Feeding) (out : List StreamSeen) → at_start h gs ≡ crew → MayClose crew.harbour f out → (hs : List (List Event)) × (lines : List Line) × (first : ℕ) × (packets : List Record) × IsFeeding (at_start h hs) lines first packets f out
may_close h crew gs f out view x =
    let e : x.0.harbour ≡ h = x.4 ∙ sym (ap (λ (w : CrewSeen). w.harbour) view) in
    (x.0.histories, x.1, x.2, x.3, to_start (λ c. IsFeeding c x.1 x.2 x.3 f out) h x.0 e x.5)

-- the shares that a round had which is done
pub record WasOut (h : HarbourSeen) (f : Feeding) (w : Worked) : Type 0 where
  pub out : List ShareSeen
  pub began : Began h f.underway out
  pub does : DoesRound h f.underway out w

pub closed : (h : HarbourSeen) (crew : CrewSeen) (gs : List (List Event)) (f : Feeding) (out : List StreamSeen) (w : Worked) → at_start h gs ≡ crew → MayClose crew.harbour f out → Closes h f out w → WasOut h f w
closed h crew gs f out w view x closes =
    let m = may_close h crew gs f out view x in
    let k = closes m.0 m.1 m.2 m.3 m.4 in
    record { out = k.out; began = record { histories = m.0; lines = m.1; first = m.2; packets = m.3; is_out = k.is_out }; does = k.does }

pub tells_closed : (h : HarbourSeen) (numbers macs listed asks : List ℕ) (crew : CrewSeen) (gs : List (List Event)) (f : Feeding) (out : List StreamSeen) (w : Worked) (o : Owed) (rows : List (List (Lane StationSeen))) → IsHarbour h numbers macs listed asks → at_start h gs ≡ crew → Closes h f out w → OwesSo h f.underway.first w o rows
    → (c : CrewSeen) (lines : List Line) (first : ℕ) (packets : List Record) → c.harbour ≡ crew.harbour → IsFeeding c lines first packets f out → TellsOwed c lines first packets o (record { harbour = h; histories = seen_by rows })
tells_closed h numbers macs listed asks crew gs f out w o rows i view closes owes c lines first packets same x =
    let e : c.harbour ≡ h = same ∙ sym (ap (λ (k : CrewSeen). k.harbour) view) in
    let k = closes c.histories lines first packets (to_start (λ c. IsFeeding c lines first packets f out) h c e x) in
    tells_owed h numbers macs listed asks crew gs f.underway k.out w o rows i view k.does owes c lines first packets same (of_start (λ c. IsOut c lines first packets f.underway k.out) h c e k.is_out)
