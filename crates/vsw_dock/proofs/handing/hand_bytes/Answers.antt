use Rattle.std.proofs.Common.{◌≡◌, ◌∷◌, [], Ok, subst, sym}
use Rattle.vsw_base.specs.Frame.{frame_of}
use Rattle.vsw_dock.proofs.Leaving.{hop_frame}
use Rattle.vsw_dock.specs.Seen.{ParcelSeen}
use Rattle.vsw_frame.specs.Frame.{parts}
use Rattle.vsw_promise.specs.Jobs.{Hop, handed_on}
use Rattle.vsw_report.specs.declared.told.What.TheVariants as what
use Rattle.vsw_dock.proofs.handing.hand_bytes.Goals as goal

pub returns-in-Some-clause-holds : goal.returns-in-Some-clause-holds
returns-in-Some-clause-holds c = λ e.
    let h : Hop = record { port = c.in-Some.port; parts = parts c.in-Some.field-0-1 } in
    let is : h ∷ [] ≡ handed_on c.args.locals.now c.args.packet.now.place (what.Fate c.args.fate c.args.bytes.now) = c.in-Some.ensures.value in
    (h.parts, subst (λ (q : ParcelSeen). frame_of q.bytes ≡ Ok h.parts) (sym c.put.ensures.holds) (hop_frame c.args.locals.now c.args.packet.now.place c.args.fate c.args.bytes.now h is))
