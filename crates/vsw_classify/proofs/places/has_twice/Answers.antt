use Rattle.std.proofs.Common.{refl, length, arith}
use Rattle.std.proofs.lemmas.List.{drop_all}
use Rattle.vsw_classify.proofs.places.has_twice.Goals as goal

pub loop-left-init : goal.loop-left-init
loop-left-init c =
    let d = drop_all (length c.args.rules.now) c.args.rules.now (omega arith) in
    record { marks = λ n l. rw d (c.in_ok-marks.ensures.none n l); size = c.in_ok-marks.ensures.size; twice = rw d refl; within = omega arith }
