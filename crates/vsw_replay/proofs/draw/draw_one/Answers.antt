use Rattle.std.proofs.Common.{◌≤◌, length, arith}
use Rattle.vsw_replay.proofs.Drawing.{drawn, fits_room}
use Rattle.vsw_replay.proofs.draw.draw_one.Goals as goal

pub returns-in_ok-push_made-in-Some : goal.returns-in_ok-push_made-in-Some
returns-in_ok-push_made-in-Some c =
    let made = c.in-Some.made in
    let within : made.len ≤ length c.next.new.out = omega (arith, fits_room c.args.workload.now.0, c.in-Some.ensures.bytes.0, c.next.auto.out) in
    drawn c.args.workload.now c.next.new.self made.moment made.len c.next.new.out c.args.batch.now c.push_made.new.batch (λ e. let f = c.in-Some.ensures.none.1 e in cc f) c.in-Some.ensures.moment c.in-Some.ensures.bytes.0 c.in-Some.ensures.bytes.1 within c.in-Some.ensures.after c.in_ok-push_made-in-Some.ensures
