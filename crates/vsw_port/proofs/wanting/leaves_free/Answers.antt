use Rattle.std.proofs.Common.{rules, ◌≡◌, ◌∙◌, ap, sym, option_copied}
use Rattle.vsw_base.specs.declared.packet.Dir.TheVariants.{Out}
use Rattle.vsw_layerflow.specs.Pairs.{probe}
use Rattle.vsw_layerflow.proofs.Lists.{key_is}
use Rattle.vsw_port.proofs.Stays.{left_frees}
use Rattle.vsw_port.proofs.wanting.leaves_free.Goals as goal

pub returns-then-eq : goal.returns-then-eq
returns-then-eq c e =
    let q = c.in-Some-of_number.gone.now in
    let p = c.args.pair.now in
    let d : q.dir ≡ p.dir = search rules in
    let r : q.reverse ≡ p.reverse = key_is q.reverse p.reverse (sym (c.probes_agree.ensures (probe Out q.reverse) (probe Out p.reverse)) ∙ sym c.eq-then-eq.ensures ∙ e) in
    left_frees c.args.left c.in-Some.number c.args.flows.now.pairs q p c.in-Some.is c.requires.apart (sym c.of_number.ensures ∙ ap option_copied c.in-Some-of_number.is) d r
