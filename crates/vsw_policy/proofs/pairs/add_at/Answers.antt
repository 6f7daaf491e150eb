use Rattle.std.proofs.Common.{rules}
use Rattle.vsw_policy.specs.Layer.{with_pair, CanTake}
use Rattle.vsw_policy.proofs.At.{at-is, at-within, set-seen, room-is, room-set, rooms-beside}
use Rattle.vsw_policy.proofs.pairs.add_at.Goals as goal

pub index_mut-requires : goal.index_mut-requires
index_mut-requires c =
    let within = at-within (CanTake c.args.pair) c.args.layers.now.items c.args.place c.requires.suits in
    search rules

pub add_pair-requires-clause-room : goal.add_pair-requires-clause-room
add_pair-requires-clause-room c =
    let within = at-within (CanTake c.args.pair) c.args.layers.now.items c.args.place c.requires.suits in
    rw (← (room-is c.args.layers.now.items c.args.place c.index_mut.result.now within c.index_mut.ensures.value)) c.requires.room

pub add_pair-requires-clause-suits : goal.add_pair-requires-clause-suits
add_pair-requires-clause-suits c = at-is (CanTake c.args.pair) c.args.layers.now.items c.args.place c.index_mut.result.now c.index_mut.ensures.value c.requires.suits

pub returns-clause-added : goal.returns-clause-added
returns-clause-added c =
    let within = at-within (CanTake c.args.pair) c.args.layers.now.items c.args.place c.requires.suits in
    set-seen (with_pair c.args.pair) c.args.layers.now.items c.args.place c.index_mut.result.now c.add_pair.new.self within c.index_mut.ensures.value c.add_pair.ensures.added

pub returns-clause-room : goal.returns-clause-room
returns-clause-room c =
    let within = at-within (CanTake c.args.pair) c.args.layers.now.items c.args.place c.requires.suits in
    let a = room-is c.args.layers.now.items c.args.place c.index_mut.result.now within c.index_mut.ensures.value in
    let b = room-set c.args.layers.now.items c.args.place c.add_pair.new.self within in
    rw (a, b) c.add_pair.ensures.spare

pub returns-clause-rooms : goal.returns-clause-rooms
returns-clause-rooms c k other = rooms-beside c.args.layers.now.items c.args.place c.add_pair.new.self k other
