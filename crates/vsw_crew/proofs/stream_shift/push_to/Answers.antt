use Rattle.std.proofs.Common.{◌<◌, length, refl, slice_set, sym, subst, IfSome}
use Rattle.vsw_actors.specs.Handed.{HasFrame}
use Rattle.vsw_crew.specs.Private.Flowing.{IsPushed}
use Rattle.vsw_crew.proofs.Handing.{pushed_at}
use Rattle.vsw_crew.proofs.stream_shift.push_to.Goals as goal

pub returns-in-Some : goal.returns-in-Some
returns-in-Some c =
    let olds = c.args.feeds.now.items in
    let given = c.in-Some.field-0 in
    let may = subst (λ o. IfSome o (λ g. (g.worker < length olds) × HasFrame g.packet)) c.in-Some.is c.requires.given in
    record {
      pushed = subst (λ o. IsPushed olds o (slice_set olds given.worker c.push.new.self)) (sym c.in-Some.is) (pushed_at olds given.worker c.index_mut-feed.result.now c.push.new.self given.worker given.packet refl may.0 c.index_mut-feed.ensures.value c.requires.open c.push.ensures.fed c.push.ensures.open c.push.ensures.room c.push.ensures.ring);
    }
