use Rattle.std.proofs.Common.{map, ◌∙◌}
use Rattle.vsw_policy.specs.Layer.{seen, with_pair, without_pair, CanTake, LayerSeen}
use Rattle.vsw_policy.proofs.At.{at-changed, at-is, changed-twice, set-seen, room-is, room-set, rooms-beside}
use Rattle.vsw_policy.proofs.pairs.replace_at.Goals as goal

pub replace_pair-requires-clause-room : goal.replace_pair-requires-clause-room
replace_pair-requires-clause-room c = rw (← (room-is c.args.layers.now.items c.args.place c.index_mut.result.now c.requires.within c.index_mut.ensures.value)) c.requires.room

pub replace_pair-requires-clause-suits : goal.replace_pair-requires-clause-suits
replace_pair-requires-clause-suits c =
    at-is (λ (l : LayerSeen). CanTake c.args.pair.now (without_pair c.args.number l)) c.args.layers.now.items c.args.place c.index_mut.result.now c.index_mut.ensures.value
    (at-changed (CanTake c.args.pair.now) (without_pair c.args.number) (map seen c.args.layers.now.items) c.args.place c.requires.suits)

pub returns-clause-replaced : goal.returns-clause-replaced
returns-clause-replaced c =
    set-seen (λ (l : LayerSeen). with_pair c.args.pair.now (without_pair c.args.number l)) c.args.layers.now.items c.args.place c.index_mut.result.now c.replace_pair.new.self c.requires.within c.index_mut.ensures.value c.replace_pair.ensures.replaced
    ∙ changed-twice (without_pair c.args.number) (with_pair c.args.pair.now) (map seen c.args.layers.now.items) c.args.place

pub returns-clause-room : goal.returns-clause-room
returns-clause-room c =
    let a = room-is c.args.layers.now.items c.args.place c.index_mut.result.now c.requires.within c.index_mut.ensures.value in
    let b = room-set c.args.layers.now.items c.args.place c.replace_pair.new.self c.requires.within in
    rw (a, b) c.replace_pair.ensures.spare

pub returns-clause-rooms : goal.returns-clause-rooms
returns-clause-rooms c k other = rooms-beside c.args.layers.now.items c.args.place c.replace_pair.new.self k other
