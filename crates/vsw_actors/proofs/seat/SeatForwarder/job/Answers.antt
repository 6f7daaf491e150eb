use Rattle.std.proofs.Common.{◌≡◌, rules, subst, sym}
use Rattle.std.specs.Prelude.{MatchBool}
use Rattle.vsw_workers.specs.Rounds.{Does, Rests}
use Rattle.vsw_actors.proofs.Seats.{caller_does, row_does}
use Rattle.vsw_actors.specs.Private.Seats.{done_of, todo_of, who_of}
use Rattle.vsw_actors.specs.declared.seat.Seat.{Seat}
use Rattle.vsw_actors.specs.declared.seat.Seat.TheVariants.{Caller, Reconciler}
use Rattle.vsw_actors.proofs.seat.SeatForwarder.job.Goals as goal

pub returns-in-Caller : goal.returns-in-Caller
returns-in-Caller g c =
    let after : Seat g.row.J.Denot g.row.P.Denot g.row.P-Station.Denot g.row.P-Parcel.Denot = Caller c.job.new.self in
    let is : c.args.self.now ≡ Caller c.in-Caller.actor = search rules in
    subst (λ (w : Seat g.row.J.Denot g.row.P.Denot g.row.P-Station.Denot g.row.P-Parcel.Denot). MatchBool c.job.result (Does who_of done_of todo_of w after) (Rests who_of done_of todo_of w after)) (sym is)
    (caller_does g.row.P-Station.Denot g.row.P-Parcel.Denot c.job.result c.in-Caller.actor c.job.new.self c.job.ensures)

pub returns-in-Reconciler : goal.returns-in-Reconciler
returns-in-Reconciler g c =
    let after : Seat g.row.J.Denot g.row.P.Denot g.row.P-Station.Denot g.row.P-Parcel.Denot = Reconciler c.job-in-Reconciler.new.self in
    let is : c.args.self.now ≡ Reconciler c.in-Reconciler.reconciler = search rules in
    subst (λ (w : Seat g.row.J.Denot g.row.P.Denot g.row.P-Station.Denot g.row.P-Parcel.Denot). MatchBool c.job-in-Reconciler.result (Does who_of done_of todo_of w after) (Rests who_of done_of todo_of w after)) (sym is)
    (row_does g.row.J.Denot g.row.P.Denot g.row.P-Station.Denot g.row.P-Parcel.Denot c.job-in-Reconciler.result c.in-Reconciler.reconciler c.job-in-Reconciler.new.self c.job-in-Reconciler.ensures)
