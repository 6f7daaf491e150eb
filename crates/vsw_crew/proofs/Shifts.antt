-- A crew's round by threads that stay, as those see it who lead.
use Rattle.std.proofs.Common.{◌≡◌, ◌<◌, ℕ, Bool, List, [], length, map, ap, sym, ◌∙◌, subst, arith, Ok, Err, IfOk, Result}
use Rattle.vsw_base.specs.declared.fault.NoMemory.{NoMemory}
use Rattle.vsw_commandfile.specs.declared.line.Line.{Line}
use Rattle.vsw_harbour.specs.Lane.{Lane}
use Rattle.vsw_harbour.specs.Seen.{StationSeen}
use Rattle.vsw_harbour.specs.Harbour.{HarbourSeen, IsHarbour, IsOfRun, callers, ports_in}
use Rattle.vsw_harbour.specs.Standing.{no_calls}
use Rattle.vsw_port.specs.declared.event.Event.{Event}
use Rattle.vsw_pcap.specs.declared.capture.Record.{Record}
use Rattle.vsw_promise.specs.Jobs.{Setting, loose_among, macs_of}
use Rattle.vsw_promise.specs.Ports.{ports_of}
use Rattle.vsw_promise.specs.Rounds.{AllBegin}
use Rattle.vsw_port.specs.Order.{numbered}
use Rattle.vsw_switch.specs.Round.{TellsRound}
use Rattle.vsw_harbour.specs.Crew.{crew_text, is_short_crew}
use Rattle.vsw_harbour.specs.HarbourOpening.{rows_in}
use Rattle.vsw_harbour.specs.Rounds.{AreJournals}
use Rattle.vsw_harbour.proofs.Dealing.{all_know}
use Rattle.vsw_crew.specs.declared.round.Worked.{Worked}
use Rattle.vsw_switch.specs.Switch.{AreServed, IsAt}
use Rattle.vsw_crew.specs.Crew.{AreReady, AreRowsOf, CrewSeen, crew_now, seen_by, switch_now}
use Rattle.vsw_crew.specs.Private.Owing.{HasOwed, OwesSo}
use Rattle.vsw_crew.specs.Private.Round.{HasWorked}
use Rattle.vsw_crew.specs.Private.Flowing.{DoesRound}
use Rattle.vsw_crew.specs.Shares.{ShareSeen}
use Rattle.vsw_crew.specs.Shift.{IsOut, IsPicked, Owes, TellsOwed}
use Rattle.vsw_crew.specs.declared.owed.Owed.{Owed}
use Rattle.vsw_crew.specs.declared.picked.Picked.{Picked}
use Rattle.vsw_crew.specs.declared.underway.Underway.{Underway}
use Rattle.vsw_crew.proofs.Between.{are_asked, at_next, controllers_so, is_there, rows_ready, served_still}
use Rattle.vsw_crew.proofs.Joining.{is_with, run_with}
use Rattle.vsw_crew.proofs.Taking.{seen_are}

-- what the crew could be asked, the ports at what its callers have seen can
pub served_here : (h : HarbourSeen) (gs : List (List Event)) (crew : CrewSeen) (lines : List Line) → ◌≡◌ {A = CrewSeen} (record { harbour = h; histories = gs }) crew → AreServed (crew_now crew) lines → AreServed (switch_now h gs) lines
served_here h gs crew lines e a = subst (λ (c : CrewSeen). AreServed (crew_now c) lines) (sym e) a

pub given_out : (h : HarbourSeen) (gs : List (List Event)) (crew : CrewSeen) (rows : List (List (Lane StationSeen))) (lines : List Line) (picked : Picked) (r : Result Underway NoMemory) (out : List ShareSeen) → ◌≡◌ {A = CrewSeen} (record { harbour = h; histories = gs }) crew → AreReady h gs rows
    → IfOk r (λ u. (hs : List (List Event)) (packets : List Record) → AreReady h hs rows → IsPicked h picked.first packets picked → IsOut (record { harbour = h; histories = hs }) lines picked.first packets u out)
    → IfOk r (λ u. (packets : List Record) → IsPicked crew.harbour picked.first packets picked → IsOut crew lines picked.first packets u out)
given_out h gs crew rows lines picked (Err e) out view ready f = tt
given_out h gs crew rows lines picked (Ok u) out view ready f = λ packets p.
    let here : IsPicked h picked.first packets picked = subst (λ (w : CrewSeen). IsPicked w.harbour picked.first packets picked) (sym view) p in
    subst (λ (w : CrewSeen). IsOut w lines picked.first packets u out) view (f gs packets ready here)

-- ---- the round is done

-- ports that stand at the histories of a run are that run's
record IsRunHere (h : HarbourSeen) (s : Setting) (hs gs : List (List Event)) : Type 0 where
  run : IsOfRun h s
  seen : gs ≡ hs

run_here : (h : HarbourSeen) (numbers macs listed asks : List ℕ) (s : Setting) (hs gs : List (List Event)) → IsHarbour h numbers macs listed asks → AreJournals (callers h) (ports_in h.docks) gs gs → IsAt s hs (switch_now h gs) → IsRunHere h s hs gs
run_here h numbers macs listed asks s hs gs i j a =
    let t = is_there h s.workers (callers h) (ports_of s.policy) h.docks hs gs j a.ports in
    record {
      run = record { workers = sym a.workers; ports = t.like; controllers = controllers_so s.policy.controllers h.controllers (ports_of s.policy) h.docks i.some t.like (all_know s.policy.controllers s.policy.ports) i.controllers_are; locals = a.locals };
      seen = t.same;
    }

-- the crew that began a round
abbrev pub at_start : HarbourSeen → List (List Event) → CrewSeen
at_start h gs = record { harbour = h; histories = gs }

-- what is told of a round that is to be told
abbrev pub IsOwedOf : HarbourSeen → List (List Event) → List Line → ℕ → List Record → Owed → List (List (Lane StationSeen)) → Type 0
IsOwedOf h gs lines first packets o rows = (s : Setting) → IsOfRun h s → s.commands ≡ lines → HasOwed h s gs first packets o rows

tells_so : (h : HarbourSeen) (s : Setting) (hs gs : List (List Event)) (first : ℕ) (packets : List Record) (o : Owed) (rows : List (List (Lane StationSeen))) → gs ≡ hs → IsAt s hs (switch_now h gs) → (t : HasOwed h s gs first packets o rows)
    → TellsRound s hs first packets (switch_now h (seen_by rows)) (is_short_crew gs t.histories t.texts) [] (crew_text first (ports_of s.policy) gs t.histories t.texts (loose_among (macs_of s.policy) (numbered first packets)))
tells_so h s hs gs first packets o rows seen at t =
    let some : 0 < length rows = omega (arith, t.ready.size) in
    let next : IsAt s t.histories (switch_now h t.histories) = at_next h s hs gs t.histories t.ready.journals t.tells.right at in
    record {
      histories = t.histories;
      round = t.tells.round;
      is_round = t.tells.is_round;
      right = t.tells.right;
      begin = subst (λ (w : List (List Event)). AllBegin w t.histories) seen t.tells.begin;
      before = t.tells.before ∙ ap (λ (w : List (List Event)). map length w) seen;
      after = t.tells.after;
      at = subst (λ w. IsAt s t.histories (switch_now h w)) (sym (seen_are 0 h.docks t.histories (no_calls h.docks) rows some t.ready.stand)) next;
      short_is = t.tells.short_is;
      text = t.tells.text;
    }

tells_at : (h : HarbourSeen) (numbers macs listed asks : List ℕ) (gs : List (List Event)) (lines : List Line) (first : ℕ) (packets : List Record) (u : Underway) (out : List ShareSeen) (o : Owed) (rows : List (List (Lane StationSeen))) → IsHarbour h numbers macs listed asks → IsOut (at_start h gs) lines first packets u out → IsOwedOf h gs lines first packets o rows
    → TellsOwed (at_start h gs) lines first packets o (record { harbour = h; histories = seen_by rows })
tells_at h numbers macs listed asks gs lines first packets u out o rows i x told = record {
  tells = λ s hs same at.
      let here = run_here h numbers macs listed asks s hs gs i x.journals at in
      let t = told s here.run same in
      (_, _, t.owes, tells_so h s hs gs first packets o rows here.seen at t);
}

-- whichever crew it was that stood at this harbour
pub of_start : (P : CrewSeen → Type 0) (h : HarbourSeen) (c : CrewSeen) → c.harbour ≡ h → P (at_start h c.histories) → P c
of_start P h c e p = subst (λ (k : HarbourSeen). P (at_start k c.histories)) (sym e) p

pub to_start : (P : CrewSeen → Type 0) (h : HarbourSeen) (c : CrewSeen) → c.harbour ≡ h → P c → P (at_start h c.histories)
to_start P h c e p = subst (λ (k : HarbourSeen). P (at_start k c.histories)) e p

owed_of : (h : HarbourSeen) (gs : List (List Event)) (lines : List Line) (first : ℕ) (packets : List Record) (u : Underway) (out : List ShareSeen) (w : Worked) (o : Owed) (rows : List (List (Lane StationSeen))) → IsOut (at_start h gs) lines first packets u out → DoesRound h u out w → OwesSo h u.first w o rows → IsOwedOf h gs lines first packets o rows
owed_of h gs lines first packets u out w o rows x does owes s run same =
    let worked = does gs lines first packets x s run same in
    let here = subst (λ (n : ℕ). HasWorked h s gs n packets w.befores.items w.firsts.items w.loose.items (rows_in w.rows.items)) (sym x.first_is) worked in
    subst (λ (n : ℕ). HasOwed h s gs n packets o rows) x.first_is (owes s gs packets (are_asked h s lines run same x.may) here)

-- some crew began the round
pub record Began (h : HarbourSeen) (u : Underway) (out : List ShareSeen) : Type 0 where
  pub histories : List (List Event)
  pub lines : List Line
  pub first : ℕ
  pub packets : List Record
  pub is_out : IsOut (at_start h histories) lines first packets u out

pub began : (h : HarbourSeen) (crew : CrewSeen) (gs : List (List Event)) (u : Underway) (out : List ShareSeen) → at_start h gs ≡ crew → ((c : CrewSeen) × (lines : List Line) × (first : ℕ) × (packets : List Record) × (c.harbour ≡ crew.harbour) × IsOut c lines first packets u out) → Began h u out
began h crew gs u out view x =
    let e : x.0.harbour ≡ h = x.4 ∙ sym (ap (λ (w : CrewSeen). w.harbour) view) in
    record { histories = x.0.histories; lines = x.1; first = x.2; packets = x.3; is_out = to_start (λ c. IsOut c x.1 x.2 x.3 u out) h x.0 e x.5 }

pub may_take : (h : HarbourSeen) (u : Underway) (out : List ShareSeen) → Began h u out → (hs : List (List Event)) × (lines : List Line) × (first : ℕ) × (packets : List Record) × IsOut (at_start h hs) lines first packets u out
may_take h u out b = (b.histories, b.lines, b.first, b.packets, b.is_out)

pub may_owe : (h : HarbourSeen) (u : Underway) (out : List ShareSeen) (w : Worked) → Began h u out → DoesRound h u out w → (s : Setting) × (hs : List (List Event)) × (packets : List Record) × HasWorked h s hs u.first packets w.befores.items w.firsts.items w.loose.items (rows_in w.rows.items)
may_owe h u out w b does =
    let r = is_with h b.lines b.is_out.run.run b.is_out.run.is in
    let s = run_with b.lines b.is_out.run.run in
    (s, b.histories, b.packets, subst (λ (n : ℕ). HasWorked h s b.histories n b.packets w.befores.items w.firsts.items w.loose.items (rows_in w.rows.items)) (sym b.is_out.first_is) (does b.histories b.lines b.first b.packets b.is_out s r.0 r.1))

-- it is owed in some run
some_owed : (h : HarbourSeen) (u : Underway) (out : List ShareSeen) (w : Worked) (o : Owed) (rows : List (List (Lane StationSeen))) → (b : Began h u out) → DoesRound h u out w → OwesSo h u.first w o rows → HasOwed h (run_with b.lines b.is_out.run.run) b.histories b.first b.packets o rows
some_owed h u out w o rows b does owes =
    let r = is_with h b.lines b.is_out.run.run b.is_out.run.is in
    owed_of h b.histories b.lines b.first b.packets u out w o rows b.is_out does owes (run_with b.lines b.is_out.run.run) r.0 r.1

pub rows_left : (h : HarbourSeen) (u : Underway) (out : List ShareSeen) (w : Worked) (o : Owed) (rows : List (List (Lane StationSeen))) → Began h u out → DoesRound h u out w → OwesSo h u.first w o rows → AreRowsOf h rows
rows_left h u out w o rows b does owes = let t = some_owed h u out w o rows b does owes in rows_ready h t.histories rows b.is_out.run t.ready

pub owes_some : (h : HarbourSeen) (crew : CrewSeen) (gs : List (List Event)) (u : Underway) (out : List ShareSeen) (w : Worked) (o : Owed) (rows : List (List (Lane StationSeen))) → at_start h gs ≡ crew → Began h u out → DoesRound h u out w → OwesSo h u.first w o rows → (text : List ℕ) × (short : Bool) × Owes crew.harbour o text short
owes_some h crew gs u out w o rows view b does owes =
    let t = some_owed h u out w o rows b does owes in
    let text : List ℕ = crew_text b.first (ports_of (run_with b.lines b.is_out.run.run).policy) b.histories t.histories t.texts (loose_among (macs_of (run_with b.lines b.is_out.run.run).policy) (numbered b.first b.packets)) in
    let short : Bool = is_short_crew b.histories t.histories t.texts in
    (text, short, subst (λ (k : CrewSeen). Owes k.harbour o text short) view t.owes)

pub tells_owed : (h : HarbourSeen) (numbers macs listed asks : List ℕ) (crew : CrewSeen) (gs : List (List Event)) (u : Underway) (out : List ShareSeen) (w : Worked) (o : Owed) (rows : List (List (Lane StationSeen))) → IsHarbour h numbers macs listed asks → at_start h gs ≡ crew → DoesRound h u out w → OwesSo h u.first w o rows
    → (c : CrewSeen) (lines : List Line) (first : ℕ) (packets : List Record) → c.harbour ≡ crew.harbour → IsOut c lines first packets u out → TellsOwed c lines first packets o (record { harbour = h; histories = seen_by rows })
tells_owed h numbers macs listed asks crew gs u out w o rows i view does owes c lines first packets same x =
    let e : c.harbour ≡ h = same ∙ sym (ap (λ (k : CrewSeen). k.harbour) view) in
    let y : IsOut (at_start h c.histories) lines first packets u out = to_start (λ c. IsOut c lines first packets u out) h c e x in
    of_start (λ c. TellsOwed c lines first packets o (record { harbour = h; histories = seen_by rows })) h c e
    (tells_at h numbers macs listed asks c.histories lines first packets u out o rows i y (owed_of h c.histories lines first packets u out w o rows y does owes))

pub served_on : (h : HarbourSeen) (crew : CrewSeen) (gs ks : List (List Event)) → at_start h gs ≡ crew → (hs : List (List Event)) (lines : List Line) → AreServed (switch_now crew.harbour hs) lines → AreServed (switch_now h ks) lines
served_on h crew gs ks view hs lines a = served_still h hs ks lines (subst (λ (c : CrewSeen). AreServed (switch_now c.harbour hs) lines) (sym view) a)
