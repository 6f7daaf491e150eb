-- The ports between two rounds, as those know them who run rounds.
use Rattle.std.proofs.Common.{◌≡◌, ◌<◌, ℕ, Bool, true, List, [], ◌∷◌, ◌++◌, length, map, refl, ap, ap₂, sym, ◌∙◌, subst, arith}
use Rattle.vsw_harbour.specs.Lane.{Lane}
use Rattle.vsw_commandfile.specs.declared.line.Line.{Line}
use Rattle.vsw_harbour.specs.Seen.{DockSeen, StationSeen}
use Rattle.vsw_harbour.specs.Harbour.{AreLike, HarbourSeen, IsHarbour, IsOfRun, MayAsk, callers, ports_in}
use Rattle.vsw_harbour.specs.Standing.{no_calls}
use Rattle.vsw_port.specs.declared.event.Event.{Event}
use Rattle.vsw_history_law.specs.Law.{AreAsked}
use Rattle.vsw_harbour.specs.Rounds.{AreJournals}
use Rattle.vsw_harbour.proofs.Dealing.{all_know}
use Rattle.vsw_pcap.specs.declared.capture.Record.{Record}
use Rattle.vsw_policy.specs.Sound.{Each, is_listed}
use Rattle.vsw_promise.specs.Ports.{PortSeen, ports_of}
use Rattle.vsw_promise.specs.Jobs.{Setting}
use Rattle.vsw_promise.specs.Rounds.{AreHistories}
use Rattle.vsw_switch.specs.Round.{TellsRound}
use Rattle.vsw_switch.specs.Switch.{AllStandAt, AreServed, IsAt, PortNow}
use Rattle.vsw_crew.specs.Crew.{AreReady, AreRowsOf, CrewSeen, IsOfSome, port_now, ports_now, seen_by, switch_now}
use Rattle.vsw_crew.specs.Private.Round.{HasTold}
use Rattle.vsw_crew.proofs.Taking.{seen_are}

-- ---- what can be asked

numbers_now : (h : HarbourSeen) (ds : List DockSeen) (gs : List (List Event)) → map (λ p. p.number) (ports_now h ds gs) ≡ map (λ d. d.number) ds
numbers_now h [] gs = refl
numbers_now h (d ∷ ds) [] = ap (λ w. d.number ∷ w) (numbers_now h ds [])
numbers_now h (d ∷ ds) (g ∷ gs) = ap (λ w. d.number ∷ w) (numbers_now h ds gs)

-- what holds of each port's opening
each_now : (P : PortNow → Type 0) (h : HarbourSeen) (ds : List DockSeen) (gs ks : List (List Event)) → ((d : DockSeen) (g k : List Event) → P (port_now h d g) → P (port_now h d k)) → Each P (ports_now h ds gs) → Each P (ports_now h ds ks)
each_now P h [] gs ks f e = tt
each_now P h (d ∷ ds) [] [] f e = (f d [] [] e.0, each_now P h ds [] [] f e.1)
each_now P h (d ∷ ds) [] (k ∷ ks) f e = (f d [] k e.0, each_now P h ds [] ks f e.1)
each_now P h (d ∷ ds) (g ∷ gs) [] f e = (f d g [] e.0, each_now P h ds gs [] f e.1)
each_now P h (d ∷ ds) (g ∷ gs) (k ∷ ks) f e = (f d g k e.0, each_now P h ds gs ks f e.1)

pub served_still : (h : HarbourSeen) (gs ks : List (List Event)) (lines : List Line) → AreServed (switch_now h gs) lines → AreServed (switch_now h ks) lines
served_still h gs ks [] a = tt
served_still h gs ks (l ∷ lines) a = (
  record {
    port = ap (λ w. is_listed w l.port) (numbers_now h h.docks ks ∙ sym (numbers_now h h.docks gs)) ∙ a.0.port;
    controller = each_now (λ p. is_listed p.opening.controllers l.controller ≡ true) h h.docks gs ks (λ d g k e. e) a.0.controller;
    rules = a.0.rules;
  },
  served_still h gs ks lines a.1,
)

first_listed : (h : HarbourSeen) (c : ℕ) (ds : List DockSeen) (gs : List (List Event)) → 0 < length ds → Each (λ d. d.live.looking.1.controllers ≡ h.controllers) ds → Each (λ p. is_listed p.opening.controllers c ≡ true) (ports_now h ds gs) → is_listed h.controllers c ≡ true
first_listed h c [] gs some same e = absurd (omega (arith, some))
first_listed h c (d ∷ ds) [] some same e = ap (λ w. is_listed w c) (sym same.0) ∙ e.0
first_listed h c (d ∷ ds) (g ∷ gs) some same e = ap (λ w. is_listed w c) (sym same.0) ∙ e.0

pub may_ask : (h : HarbourSeen) (numbers macs listed asks : List ℕ) (gs : List (List Event)) (lines : List Line) → IsHarbour h numbers macs listed asks → AreServed (switch_now h gs) lines → Each (MayAsk h) lines
may_ask h numbers macs listed asks gs [] i a = tt
may_ask h numbers macs listed asks gs (l ∷ lines) i a = (
  record {
    port = ap (λ w. is_listed w l.port) (sym (numbers_now h h.docks gs)) ∙ a.0.port;
    controller = first_listed h l.controller h.docks gs i.some i.controllers_are a.0.controller;
    rules = a.0.rules;
  },
  may_ask h numbers macs listed asks gs lines i a.1,
)

all_asked : (h : HarbourSeen) (s : Setting) (lines : List Line) → IsOfRun h s → Each (MayAsk h) lines → Each (λ l. is_listed s.policy.controllers l.controller ≡ true) lines
all_asked h s [] run a = tt
all_asked h s (l ∷ lines) run a = (ap (λ w. is_listed w l.controller) run.controllers ∙ a.0.controller, all_asked h s lines run a.1)

pub are_asked : (h : HarbourSeen) (s : Setting) (lines : List Line) → IsOfRun h s → s.commands ≡ lines → Each (MayAsk h) lines → AreAsked s
are_asked h s lines run same a = subst (Each (λ l. is_listed s.policy.controllers l.controller ≡ true)) (sym same) (all_asked h s lines run a)

-- ---- where the ports of a run stand

pub record IsThere (h : HarbourSeen) (ps : List PortSeen) (ds : List DockSeen) (hs gs : List (List Event)) : Type 0 where
  pub like : AreLike ps ds
  pub same : gs ≡ hs

pub is_there : (h : HarbourSeen) (workers n : ℕ) (ps : List PortSeen) (ds : List DockSeen) (hs gs : List (List Event)) → AreJournals n (ports_in ds) gs gs → AllStandAt workers ps hs (ports_now h ds gs) → IsThere h ps ds hs gs
is_there h workers n [] [] [] [] j a = record { like = tt; same = refl }
is_there h workers n (p ∷ ps) (d ∷ ds) (k ∷ hs) (g ∷ gs) j a =
    let rest = is_there h workers n ps ds hs gs j.3 a.1 in
    record { like = (record { number = sym a.0.number; mac = sym a.0.mac; opening = sym a.0.opening }, rest.like); same = ap₂ (λ x y. x ∷ y) a.0.journal rest.same }
is_there h workers n [] [] [] (g ∷ gs) j a = absurd j
is_there h workers n [] [] (k ∷ hs) gs j a = absurd a
is_there h workers n [] (d ∷ ds) hs [] j a = absurd j
is_there h workers n [] (d ∷ ds) [] (g ∷ gs) j a = absurd a
is_there h workers n [] (d ∷ ds) (k ∷ hs) (g ∷ gs) j a = absurd a
is_there h workers n (p ∷ ps) [] [] gs j a = absurd a
is_there h workers n (p ∷ ps) [] (k ∷ hs) gs j a = absurd a
is_there h workers n (p ∷ ps) (d ∷ ds) hs [] j a = absurd j
is_there h workers n (p ∷ ps) (d ∷ ds) [] (g ∷ gs) j a = absurd a

-- the policy's controllers are those of its first port
pub controllers_so : (cs ns : List ℕ) (ps : List PortSeen) (ds : List DockSeen) → 0 < length ds → AreLike ps ds → Each (λ p. p.controllers ≡ cs) ps → Each (λ d. d.live.looking.1.controllers ≡ ns) ds → cs ≡ ns
controllers_so cs ns [] [] some a k m = absurd (omega (arith, some))
controllers_so cs ns (p ∷ ps) (d ∷ ds) some a k m = sym k.0 ∙ (ap (λ o. o.controllers) a.0.opening ∙ m.0)
controllers_so cs ns [] (d ∷ ds) some a k m = absurd a
controllers_so cs ns (p ∷ ps) [] some a k m = absurd a

-- a crew that stands at the histories of a run is that run's
record IsHere (h : HarbourSeen) (s : Setting) (hs : List (List Event)) (rows : List (List (Lane StationSeen))) : Type 0 where
  run : IsOfRun h s
  seen : seen_by rows ≡ hs

is_here : (h : HarbourSeen) (numbers macs listed asks : List ℕ) (s : Setting) (hs : List (List Event)) (rows : List (List (Lane StationSeen))) → IsHarbour h numbers macs listed asks → AreReady h (seen_by rows) rows → IsAt s hs (switch_now h (seen_by rows)) → IsHere h s hs rows
is_here h numbers macs listed asks s hs rows i r a =
    let t = is_there h s.workers (callers h) (ports_of s.policy) h.docks hs (seen_by rows) r.journals a.ports in
    record {
      run = record { workers = sym a.workers; ports = t.like; controllers = controllers_so s.policy.controllers h.controllers (ports_of s.policy) h.docks i.some t.like (all_know s.policy.controllers s.policy.ports) i.controllers_are; locals = a.locals };
      seen = t.same;
    }

-- ---- and where they stand next

stand_next : (h : HarbourSeen) (workers n : ℕ) (ps : List PortSeen) (ds : List DockSeen) (hs ks gs : List (List Event)) → AreJournals n (ports_in ds) gs gs → AreHistories ps gs → AllStandAt workers ps hs (ports_now h ds ks) → AllStandAt workers ps gs (ports_now h ds gs)
stand_next h workers n [] [] hs ks [] j r a = tt
stand_next h workers n (p ∷ ps) (d ∷ ds) (x ∷ hs) (k ∷ ks) (g ∷ gs) j r a =
    (record { number = a.0.number; mac = a.0.mac; opening = a.0.opening; journal = refl; right = r.0; before = refl; workers_are = a.0.workers_are; controllers_are = a.0.controllers_are; tally = refl }, stand_next h workers n ps ds hs ks gs j.3 r.1 a.1)
stand_next h workers n (p ∷ ps) (d ∷ ds) (x ∷ hs) [] (g ∷ gs) j r a =
    (record { number = a.0.number; mac = a.0.mac; opening = a.0.opening; journal = refl; right = r.0; before = refl; workers_are = a.0.workers_are; controllers_are = a.0.controllers_are; tally = refl }, stand_next h workers n ps ds hs [] gs j.3 r.1 a.1)
stand_next h workers n (p ∷ ps) (d ∷ ds) [] [] (g ∷ gs) j r a = absurd a
stand_next h workers n (p ∷ ps) (d ∷ ds) [] (k ∷ ks) (g ∷ gs) j r a = absurd a
stand_next h workers n (p ∷ ps) (d ∷ ds) hs ks [] j r a = absurd j
stand_next h workers n [] [] hs ks (g ∷ gs) j r a = absurd j
stand_next h workers n [] (d ∷ ds) hs ks [] j r a = absurd j
stand_next h workers n [] (d ∷ ds) hs ks (g ∷ gs) j r a = absurd r
stand_next h workers n (p ∷ ps) [] hs ks [] j r a = absurd r
stand_next h workers n (p ∷ ps) [] hs ks (g ∷ gs) j r a = absurd j

pub at_next : (h : HarbourSeen) (s : Setting) (hs ks gs : List (List Event)) → AreJournals (callers h) (ports_in h.docks) gs gs → AreHistories (ports_of s.policy) gs → IsAt s hs (switch_now h ks) → IsAt s gs (switch_now h gs)
at_next h s hs ks gs j r a = record { workers = a.workers; some = a.some; few = a.few; locals = a.locals; ports = stand_next h s.workers (callers h) (ports_of s.policy) h.docks hs ks gs j r a.ports; loose = refl }

-- ---- the round

pub ready_rows : (h : HarbourSeen) (rows : List (List (Lane StationSeen))) → 0 < length rows → AreRowsOf h rows → IsOfSome h × AreReady h (seen_by rows) rows
ready_rows h [] some r = absurd (omega (arith, some))
ready_rows h (row ∷ rows) some r = (r.0, r.1)

pub rows_ready : (h : HarbourSeen) (gs : List (List Event)) (rows : List (List (Lane StationSeen))) → IsOfSome h → AreReady h gs rows → AreRowsOf h rows
rows_ready h gs [] o r = tt
rows_ready h gs (row ∷ rows) o r = let some : 0 < length (row ∷ rows) = omega arith in (o, subst (λ w. AreReady h w (row ∷ rows)) (sym (seen_are 0 h.docks gs (no_calls h.docks) (row ∷ rows) some r.stand)) r)

pub runs : (h : HarbourSeen) (numbers macs listed asks : List ℕ) (lines : List Line) (first : ℕ) (packets : List Record) (short : Bool) (old new : List ℕ) (rows after : List (List (Lane StationSeen))) → IsHarbour h numbers macs listed asks → AreReady h (seen_by rows) rows
    → ((s : Setting) (hs : List (List Event)) → IsOfRun h s → s.commands ≡ lines → AreReady h hs rows → HasTold h s hs first packets short old new after)
    → (s : Setting) (hs : List (List Event)) → s.commands ≡ lines → IsAt s hs (switch_now h (seen_by rows)) → TellsRound s hs first packets (switch_now h (seen_by after)) short old new
runs h numbers macs listed asks lines first packets short old new rows after i r told s hs same a =
    let here = is_here h numbers macs listed asks s hs rows i r a in
    let t = told s hs here.run same (subst (λ w. AreReady h w rows) here.seen r) in
    let some : 0 < length after = omega (arith, t.ready.size) in
    let at : IsAt s t.histories (switch_now h t.histories) = at_next h s hs (seen_by rows) t.histories t.ready.journals t.tells.right a in
    record {
      histories = t.histories;
      round = t.tells.round;
      is_round = t.tells.is_round;
      right = t.tells.right;
      begin = t.tells.begin;
      before = t.tells.before;
      after = t.tells.after;
      at = subst (λ w. IsAt s t.histories (switch_now h w)) (sym (seen_are 0 h.docks t.histories (no_calls h.docks) after some t.ready.stand)) at;
      short_is = t.short_is ∙ t.tells.short_is;
      text = t.text ∙ ap (λ w. old ++ w) t.tells.text;
    }

-- ---- rows that are taken out

-- what was told of rows is told of those that they are
pub told_of : (h : HarbourSeen) (lines : List Line) (first : ℕ) (packets : List Record) (short : Bool) (old new : List ℕ) (taken rows after : List (List (Lane StationSeen))) → taken ≡ rows
    → ((s : Setting) (hs : List (List Event)) → IsOfRun h s → s.commands ≡ lines → AreReady h hs taken → HasTold h s hs first packets short old new after)
    → (s : Setting) (hs : List (List Event)) → IsOfRun h s → s.commands ≡ lines → AreReady h hs rows → HasTold h s hs first packets short old new after
told_of h lines first packets short old new taken rows after e told s hs run same r = told s hs run same (subst (AreReady h hs) (sym e) r)

pub taken_ready : (h : HarbourSeen) (taken rows : List (List (Lane StationSeen))) → taken ≡ rows → 0 < length taken → AreRowsOf h rows → IsOfSome h × AreReady h (seen_by rows) taken
taken_ready h taken rows e some r =
    let some_too : 0 < length rows = subst (λ (w : List (List (Lane StationSeen))). 0 < length w) e some in
    let x = ready_rows h rows some_too r in
    (x.0, subst (AreReady h (seen_by rows)) (sym e) x.1)

-- ---- a crew is made

pub crew_is : (h : HarbourSeen) (hs : List (List Event)) (rows : List (List (Lane StationSeen))) → AreReady h hs rows → ◌≡◌ {A = CrewSeen} (record { harbour = h; histories = seen_by rows }) (record { harbour = h; histories = hs })
crew_is h hs rows r =
    let some : 0 < length rows = omega (arith, r.size) in
    let make : List (List Event) → CrewSeen = λ gs. record { harbour = h; histories = gs } in
    ap make (seen_are 0 h.docks hs (no_calls h.docks) rows some r.stand)
