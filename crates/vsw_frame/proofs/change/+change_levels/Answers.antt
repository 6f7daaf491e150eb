use Rattle.std.proofs.Common.{◌∙◌, ℕ, List, ◌∷◌, ◌++◌, ◌+◌, ◌-◌, Bool, take, drop, ap, arith, length}
use Rattle.vsw_base.specs.declared.header.Header.{Header}
use Rattle.vsw_base.specs.Frame.{Level}
use Rattle.vsw_frame.specs.Bytes.{levels_changed}
use Rattle.vsw_frame.specs.Kept.{udp_at, udp_kept}
use Rattle.vsw_frame.specs.Layout.{IsAround}
use Rattle.vsw_frame.specs.Levels.{level_fields, more_levels}
use Rattle.vsw_frame.proofs.KeptHeaders.{inside_kept, kept_written}
use Rattle.vsw_frame.proofs.change.+change_levels.Goals as goal

pub change_levels-requires : goal.change_levels-requires
change_levels-requires t c =
    let l : Level = level_fields c.args.levels.now.first in
    let m : Level = level_fields c.within-inner.result.first in
    let a : IsAround l m.bytes = c.within-inner.ensures.around c.args.to.now c.requires.stand in
    let inside = inside_kept l m.bytes c.udp_at-udp.result c.args.bytes.now c.change_udp_vxlan.new.bytes c.requires.same a (c.udp_at-udp.ensures.value ∙ ap udp_at c.requires.same) (omega arith) in
    let fewer = ap length c.within-inner.ensures.levels in
    (omega (arith, c.decreases, fewer), (inside, c.within-inner.ensures.stand c.args.to.now c.requires.stand))

pub returns : goal.returns
returns t c =
    let l : Level = level_fields c.args.levels.now.first in
    let i = c.within-inner.result in
    let m : Level = level_fields i.first in
    let ls : List Level = more_levels i.second ++ more_levels i.third in
    let from : List Header = c.args.from.now in
    let to : List Header = c.args.to.now in
    let a : IsAround l m.bytes = c.within-inner.ensures.around to c.requires.stand in
    let u : ℕ = c.udp_at-udp.result in
    kept_written l m ls from to c.udp_at-udp.result c.args.bytes.now c.change_udp_vxlan.new.bytes c.change_levels.new.bytes c.requires.same a (c.udp_at-udp.ensures.value ∙ ap udp_at c.requires.same) (c.change_udp_vxlan.ensures.changed ∙ ap (λ (b : Bool). udp_kept b (take (u + 16 - u) (drop u c.args.bytes.now))) c.differ.ensures.value) (omega arith) c.change_levels.ensures
    ∙ ap (λ (ls : List Level). levels_changed from to (l ∷ ls)) c.within-inner.ensures.levels
