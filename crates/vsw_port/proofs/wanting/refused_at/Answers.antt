use Rattle.std.proofs.Common.{map, option_copied, option_map, ap, sym, ◌∙◌}
use Rattle.std.specs.List.{slice_get}
use Rattle.vsw_port.specs.Private.Threaded as threaded
use Rattle.vsw_port.proofs.Stays.{left_here, refused_is, holds_there}
use Rattle.vsw_policy.specs.Layer.{seen}
use Rattle.vsw_port.proofs.wanting.refused_at.Goals as goal

pub refused-requires : goal.refused-requires
refused-requires c =
    let here = sym (ap (λ o. option_map seen (option_copied o)) c.in-Some.is) ∙ c.layer_at.ensures in
    record { there = left_here (map seen c.args.layers.now) c.args.place c.args.left c.left_at.result (seen c.in-Some.layer.now) c.requires.there c.left_at.ensures here }

pub returns-clause-exact : goal.returns-clause-exact
returns-clause-exact c =
    let here = sym (ap (λ o. option_map seen (option_copied o)) c.in-Some.is) ∙ c.layer_at.ensures in
    refused_is (slice_get (map seen c.args.layers.now) c.args.place) (threaded.left_at c.args.place c.args.left) c.left_at.result (seen c.in-Some.layer.now) c.args.pair.now c.refused.result here c.left_at.ensures c.refused.ensures.exact

pub returns-clause-holds : goal.returns-clause-holds
returns-clause-holds c =
    let here = sym (ap (λ o. option_map seen (option_copied o)) c.in-Some.is) ∙ c.layer_at.ensures in
    λ e l f. holds_there (slice_get (map seen c.args.layers.now) c.args.place) (seen c.in-Some.layer.now) l here (c.refused.ensures.holds e) f
