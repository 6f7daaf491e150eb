-- A job at a station.
use Rattle.std.proofs.Common.{◌≡◌, ◌≤◌, ◌+◌, ◌++◌, ◌∷◌, [], ℕ, List, Bool, true, false, length, refl, sym, ap, ◌∙◌, subst, arith, Ok, Err}
use Rattle.std.proofs.lemmas.List.{length-append, map-append}
use Rattle.vsw_commandfile.specs.declared.line.Line.{Line}
use Rattle.vsw_flows.specs.Flows.{IsOf, Looking, Writing}
use Rattle.vsw_answer.specs.Seen.{AnswerSeen}
use Rattle.vsw_hairpin.proofs.Hops.{ask_hands_none}
use Rattle.vsw_hairpin.specs.Handing.{handed_by}
use Rattle.vsw_live.specs.Seen.{UnitSeen}
use Rattle.vsw_promise.specs.Jobs.{Placed}
use Rattle.vsw_port.specs.Calls.{Ask, Call, Carry, Deed, Job, entries_of}
use Rattle.vsw_port.specs.History.{Opening}
use Rattle.vsw_live.specs.Calls as live
use Rattle.vsw_live.specs.Calls.{asked, call_of, one_if}
use Rattle.vsw_live.specs.declared.answer.Told.{Told}
use Rattle.vsw_actors.specs.Passes.{Crosses}
use Rattle.vsw_actors.specs.Work.{parts_in}
use Rattle.vsw_base.specs.declared.packet.Control.TheVariants.{None}
use Rattle.vsw_base.specs.Frame.{Parts, frame_of}
use Rattle.vsw_report.specs.Line.{TextLine, text_of}
use Rattle.vsw_promise.specs.Rounds as promise
use Rattle.vsw_promise.specs.Told.{line_of}
use Rattle.vsw_report.specs.declared.told.By.TheVariants as by
use Rattle.vsw_report.specs.declared.told.What.TheVariants as what
use Rattle.vsw_rows.specs.GoodRows as story
use Rattle.vsw_dock.specs.Docks.{pass_in, port_in, tells}
use Rattle.vsw_dock.specs.Private.Does.{Does, HandsOn, IsCounted, Tells}
use Rattle.vsw_dock.specs.Seen.{DockSeen, StationSeen}

-- ---- what a job leaves

abbrev no_parts : Parts
no_parts = record { stack = []; control = None; levels = []; payload = [] }

-- the parts that were read of a packet's bytes are those of its job
pub read_is : (bytes : List ℕ) (p : Parts) → Ok p ≡ frame_of bytes → p ≡ parts_in bytes
read_is bytes p e = ap (λ r. elim r [ Ok q ↦ q | Err fault ↦ no_parts ]) e

-- a line was asked and told
pub asked_so : (o : Opening) (p q : Writing) (before after : List TextLine) (was is : Bool) (l : Line) (t : Told) → live.Crosses o p q (asked l t)
    → Tells before was after is (text_of (record { by = by.Controller l.controller; item = l.number; entry = t.entry; count = t.count; what = what.Reply t.reply }))
    → Does o (Ask l) (record { pass = p; lines = before; whole = was }) (record { pass = q; lines = after; whole = is })
asked_so o p q before after was is l t crosses told = record { call = asked l t; about = refl; crosses = crosses; told = told }

-- a packet was carried and told, and handed on or not
pub carried_so : (o : Opening) (macs : List ℕ) (place : ℕ) (hops : List Placed) (p q : Writing) (before after : List TextLine) (was is : Bool) (u : UnitSeen) (a : AnswerSeen) (out : List ℕ) → live.Crosses o p q (call_of u a out)
    → Tells before was after is (text_of (line_of (call_of u a out))) → handed_by macs place (call_of u a out).deed ≡ hops
    → HandsOn o macs place (Carry u.crossing u.parts) hops (record { pass = p; lines = before; whole = was }) (record { pass = q; lines = after; whole = is })
carried_so o macs place hops p q before after was is u a out crosses told hands = record { does = record { call = call_of u a out; about = refl; crosses = crosses; told = told }; hands = hands }

-- what the actors' port promises of a job
abbrev pub Promised : DockSeen → Job → StationSeen → StationSeen → Call → Type 0
Promised d j r s c = Crosses (promise.opening_of (port_in d)) (pass_in r) (pass_in s) j c × ((calls : List Call) → tells r calls → tells s (calls ++ c ∷ []))

promised : (d : DockSeen) (j : Job) (r s : StationSeen) (x : Does (story.opening_of d.live.looking.1) j r s) → Promised d j r s x.call
promised d j r s x = (
  record { number = x.crosses.number; seen = x.crosses.seen; about = x.about; call = x.crosses.call; shows = x.crosses.shows; low = x.crosses.low; receipts = x.crosses.receipts },
  (λ calls told whole.
      let t = x.told whole in
      t.1 ∙ (ap (λ ls. ls ++ text_of (line_of x.call) ∷ []) (told t.0) ∙ sym (map-append (λ c. text_of (line_of c)) calls (x.call ∷ [])))),
)

-- of a packet at its port
pub packet_done : (d : DockSeen) (j : Job) (at place : ℕ) (hops : List Placed) (r s : StationSeen) → at ≡ place → HandsOn (story.opening_of d.live.looking.1) d.locals at j hops r s
    → (c : Call) × Crosses (promise.opening_of (port_in d)) (pass_in r) (pass_in s) j c × ((calls : List Call) → tells r calls → tells s (calls ++ c ∷ [])) × (handed_by d.locals place c.deed ≡ hops)
packet_done d j at place hops r s here x = let p = promised d j r s x.does in (x.does.call, p.0, p.1, subst (λ n. handed_by d.locals n x.does.call.deed ≡ hops) here x.hands)

-- of a line, which hands nothing on
pub line_done : (d : DockSeen) (l : Line) (place : ℕ) (r s : StationSeen) → Does (story.opening_of d.live.looking.1) (Ask l) r s
    → (c : Call) × Crosses (promise.opening_of (port_in d)) (pass_in r) (pass_in s) (Ask l) c × ((calls : List Call) → tells r calls → tells s (calls ++ c ∷ [])) × (handed_by d.locals place c.deed ≡ [])
line_done d l place r s x = let p = promised d (Ask l) r s x in (x.call, p.0, p.1, ask_hands_none d.locals place x.call.deed (Ask l) x.about tt)

-- of a packet that was handed on
pub second_done : (d : DockSeen) (i j : Job) (macs : List ℕ) (at : ℕ) (hops : List Placed) (r s : StationSeen) → i ≡ j → HandsOn (story.opening_of d.live.looking.1) macs at i hops r s
    → (c : Call) × Crosses (promise.opening_of (port_in d)) (pass_in r) (pass_in s) j c × ((calls : List Call) → tells r calls → tells s (calls ++ c ∷ []))
second_done d i j macs at hops r s e x = let y = subst (λ w. Does (story.opening_of d.live.looking.1) w r s) e x.does in let p = promised d j r s y in (y.call, p.0, p.1)

pub still_of : (l : Looking) (o : Opening) (p q : Writing) (c : Call) → IsOf l p → live.Crosses o p q c → IsOf l q
still_of l o p q c of x = record { table = x.table ∙ of.table; opens = x.opens ∙ of.opens }

at_most_one : (b : Bool) → one_if b ≤ 1
at_most_one true = omega arith
at_most_one false = omega arith

pub one_spent : (o : Opening) (p q : Writing) (c : Call) → live.Crosses o p q c → p.view.permits ≤ q.view.permits + 1
one_spent o p q c x = omega (arith, x.permits, at_most_one c.entry)

-- ---- the count of permits

one_entry : (b : Bool) (d : Deed) (n : ℕ) → length (entries_of (record { deed = d; entry = b; count = n } ∷ [])) ≡ one_if b
one_entry true d n = refl
one_entry false d n = refl

pub counted_on : (o : Opening) (p q : Writing) (c : Call) (before after granted : ℕ) → live.Crosses o p q c → IsCounted p before granted → before ≡ after + one_if c.entry → IsCounted q after granted
counted_on o p q c before after granted x i spent =
    let one : length (entries_of (c ∷ [])) ≡ one_if c.entry = one_entry c.entry c.deed c.count in
    let more : length q.view.receipts ≡ length p.view.receipts + length (entries_of (c ∷ [])) = ap length x.receipts ∙ length-append p.view.receipts (entries_of (c ∷ [])) in
    record {
      left_is = omega (arith, i.left_is, x.permits, spent);
      granted_is = omega (arith, i.granted_is, x.permits, more, one);
    }
