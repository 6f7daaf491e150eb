use Rattle.std.proofs.Common.{◌∙◌, ap, sym, subst, List}
use Rattle.vsw_workers.specs.Rounds.{AllFinish}
use Rattle.vsw_actors.proofs.Rounds.{all_taken}
use Rattle.vsw_actors.proofs.Seats.{callers_finish}
use Rattle.vsw_actors.proofs.Turning.{finish_length}
use Rattle.vsw_actors.specs.Private.Rows.{ActorSeen}
use Rattle.vsw_actors.specs.Private.Seats.{callers_in, done_of, todo_of, who_of}
use Rattle.vsw_actors.proofs.rows.run_all.Goals as goal

pub returns : goal.returns
returns g c =
    let xs = c.as_mut_slice.result.now in
    let ys = c.run_seats.new.seats in
    subst (λ (w : List (ActorSeen _ _)). AllFinish (λ a. a.0) (λ a. a.1) (λ a. a.2) c.args.actors.items w)
    (sym (c.in_ok-after.ensures ∙ ap callers_in (all_taken _ ys _ (finish_length who_of done_of todo_of xs ys c.run_seats.ensures ∙ c.as_mut_slice.ensures.len))))
    (callers_finish g.row.P-Station.Denot g.row.P-Parcel.Denot c.args.actors.items c.begin-reconciler.result ys (subst (λ w. AllFinish who_of done_of todo_of w ys) (c.as_mut_slice.ensures.value ∙ c.in_ok-seats.ensures) c.run_seats.ensures))
