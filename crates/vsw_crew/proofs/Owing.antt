-- A round that was done is to be told.
use Rattle.std.proofs.Common.{◌≡◌, ℕ, List, length, map, ap, ap₂, sym, ◌∙◌, subst, inl, inr, Global, Vec}
use Rattle.vsw_harbour.specs.Lane.{Lane}
use Rattle.vsw_harbour.specs.Crew.{AreCounted, crew_text, is_short_crew}
use Rattle.vsw_harbour.specs.Seen.{StationSeen}
use Rattle.vsw_harbour.specs.Harbour.{HarbourSeen, IsHarbour}
use Rattle.vsw_harbour.specs.Standing.{IsWhole, RowsStand, no_calls}
use Rattle.vsw_port.specs.Order.{ascending}
use Rattle.vsw_port.specs.declared.event.Event.{Event}
use Rattle.vsw_history_law.specs.Law.{AreAsked}
use Rattle.vsw_report.specs.Line.{TextLine}
use Rattle.vsw_pcap.specs.declared.capture.Record.{Record}
use Rattle.vsw_policy.specs.Sound.{Each}
use Rattle.vsw_promise.specs.Ports.{ports_of}
use Rattle.vsw_promise.specs.Jobs.{Setting}
use Rattle.vsw_report.specs.declared.round.Loose.{Loose}
use Rattle.vsw_crew.specs.Private.Owing.{GivesRooms, HasOwed}
use Rattle.vsw_crew.specs.Private.Round.{numbers_in}
use Rattle.vsw_crew.specs.Private.Rows.{cleared}
use Rattle.vsw_crew.specs.Private.Telling.{texts_so}
use Rattle.vsw_crew.proofs.Taking.{cleared_many, rested_many, rows_cleared, rows_rested}
use Rattle.vsw_crew.proofs.Told.{IsTaken, is_rising, is_sized, is_text}

-- all are ready whether they got rooms or not
stand_so : (h : HarbourSeen) (gs : List (List Event)) (mid left : List (List (Lane StationSeen))) → RowsStand 0 h.docks gs (no_calls h.docks) mid → GivesRooms mid left → RowsStand 0 h.docks gs (no_calls h.docks) left
stand_so h gs mid left s (inl e) = subst (RowsStand 0 h.docks gs (no_calls h.docks)) (sym e) (rows_rested 0 h.docks gs (no_calls h.docks) mid s)
stand_so h gs mid left s (inr e) = subst (RowsStand 0 h.docks gs (no_calls h.docks)) (sym e) s

many_so : (mid left : List (List (Lane StationSeen))) → GivesRooms mid left → length left ≡ length mid
many_so mid left (inl e) = ap length e ∙ rested_many mid
many_so mid left (inr e) = ap length e

pub has_owed : (h : HarbourSeen) (macs asks : List ℕ) (s : Setting) (hs : List (List Event)) (first : ℕ) (packets : List Record) (befores afters : Vec ℕ Global) (lines firsts : Vec (List (List TextLine)) Global) (loose : Vec Loose Global) (rows mid left : List (List (Lane StationSeen)))
    → IsHarbour h (numbers_in h) macs (ascending h.controllers) asks → Each IsWhole rows → mid ≡ map cleared rows → GivesRooms mid left → AreAsked s → IsTaken h s hs first packets befores.items afters.items lines.items firsts.items loose.items rows
    → HasOwed h s hs first packets (record { first = first; befores = befores; afters = afters; lines = lines; firsts = firsts; loose = loose }) left
has_owed h macs asks s hs first packets befores afters lines firsts loose rows mid left i whole cleared_so rooms asked t =
    let w = t.done in
    let ps = ports_of s.policy in
    let x = is_text h (numbers_in h) macs (ascending h.controllers) asks s hs first packets befores.items afters.items lines.items firsts.items loose.items rows i whole asked t in
    let counts : AreCounted hs w.histories (texts_so h lines.items firsts.items) = subst (AreCounted hs w.histories) (sym x.same) x.tells.counts in
    let stood : RowsStand 0 h.docks w.histories (no_calls h.docks) mid = subst (RowsStand 0 h.docks w.histories (no_calls h.docks)) (sym cleared_so) (rows_cleared 0 h.docks w.histories _ rows w.stand) in
    record {
      histories = w.histories;
      texts = w.texts;
      tells = x.tells;
      ready = record {
        size = many_so mid left rooms ∙ (ap length cleared_so ∙ (cleared_many rows ∙ w.size));
        stand = stand_so h w.histories mid left stood rooms;
        journals = w.journals;
      };
      owes = record {
        sizes = is_sized h (numbers_in h) macs (ascending h.controllers) asks s hs first packets befores.items afters.items lines.items firsts.items loose.items rows i t;
        grows = is_rising h s hs first packets befores.items afters.items lines.items firsts.items loose.items rows t;
        ports = ps;
        before = hs;
        after = w.histories;
        counted = record { numbers = x.numbers_are; before = x.before; after = x.after; counts = counts };
        text_is = ap₂ (λ a b. crew_text first ps hs w.histories a b) (sym x.same) (sym w.loose_are);
        short_is = ap (is_short_crew hs w.histories) (sym x.same);
      };
    }
