use Rattle.std.proofs.Common.{rules, tests, ◌<◌, length, subst}
use Rattle.vsw_policy.specs.Layer.{CanTake}
use Rattle.vsw_policy.specs.Layers.{At}
use Rattle.vsw_policy.specs.Sound.{IsGoodLayer}
use Rattle.vsw_policy.proofs.At.{each-is, is-at}
use Rattle.vsw_walk_tests.proofs.policy.place_tests.fits.Goals as goal

pub can_take-requires : goal.can_take-requires
can_take-requires c =
    let within : c.args.place < length c.layers-layers.result.now = search (rules, tests) in
    let good = rw (← c.layers-layers.ensures.layers) at c.layers-layers.ensures.sound.layers.good in
    let here = each-is (IsGoodLayer c.args.policy.now.controllers) c.layers-layers.result.now c.args.place c.index-layers-place.result within c.index-layers-place.is good in
    record { below = here.4 }

pub returns-clause-suits : goal.returns-clause-suits
returns-clause-suits c passed =
    let within : c.args.place < length c.layers-layers.result.now = search (rules, tests) in
    subst (At c.args.place (CanTake c.args.pair.now)) c.layers-layers.ensures.layers
    (is-at (CanTake c.args.pair.now) c.layers-layers.result.now c.args.place c.index-layers-place.result within c.index-layers-place.is (c.can_take.ensures passed))
