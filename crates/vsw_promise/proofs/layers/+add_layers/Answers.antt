use Rattle.std.proofs.Common.{◌-◌, rules, length, take, drop, map, List, subst, ap}
use Rattle.vsw_config.specs.declared.file.LayerFile.{LayerFile}
use Rattle.vsw_promise.specs.File.{AreLayers}
use Rattle.vsw_promise.specs.Ports.{whole}
use Rattle.vsw_promise.proofs.Placing.{layers-rest, layer-new, layer-room}
use Rattle.vsw_promise.proofs.Slices.{first-rest, fewer}
use Rattle.vsw_promise.proofs.layers.+add_layers.Goals as goal

pub add_layers-requires : goal.add_layers-requires
add_layers-requires t c =
    let fs : List LayerFile = c.args.layers.now in
    let e = ap (map whole) (first-rest fs c.layer-item.result c.in-len1-up.len_at_least c.layer-item.is) in
    let less = fewer fs c.in-len1-up.len_at_least in
    (search (rules, less), (c.requires.empty, layers-rest c.args.policy.now.controllers (whole c.layer-item.result) (map whole (take (length fs - 1) (drop 1 fs))) (subst (λ ls. AreLayers c.args.policy.now.controllers ls) e c.requires.layers)))

pub add_whole-requires-clause-new : goal.add_whole-requires-clause-new
add_whole-requires-clause-new t c =
    let fs : List LayerFile = c.args.layers.now in
    let e = ap (map whole) (first-rest fs c.layer-item.result c.in-len1-up.len_at_least c.layer-item.is) in
    layer-new c.args.policy.now.controllers (whole c.layer-item.result) (map whole (take (length fs - 1) (drop 1 fs))) c.add_layers.new.policy.layers (subst (λ ls. AreLayers c.args.policy.now.controllers ls) e c.requires.layers) c.in_ok-add_layers-in-len1-up.ensures.ok

pub add_whole-requires-clause-room : goal.add_whole-requires-clause-room
add_whole-requires-clause-room t c =
    let fs : List LayerFile = c.args.layers.now in
    let e = ap (map whole) (first-rest fs c.layer-item.result c.in-len1-up.len_at_least c.layer-item.is) in
    layer-room c.args.policy.now.controllers (whole c.layer-item.result) (map whole (take (length fs - 1) (drop 1 fs))) c.add_layers.new.policy.layers (subst (λ ls. AreLayers c.args.policy.now.controllers ls) e c.requires.layers) c.in_ok-add_layers-in-len1-up.ensures.ok
