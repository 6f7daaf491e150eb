use Rattle.std.proofs.Common.{◌≡◌, ◌∙◌, ap, sym, subst, arith, option_copied, None, Some}
use Rattle.vsw_layerflow.specs.declared.pair.Pair.{Pair}
use Rattle.vsw_layerflow.specs.Pairs.{probe}
use Rattle.vsw_layerflow.proofs.Moved.{some_is}
use Rattle.vsw_walk_tests.proofs.Free.{free_but}
use Rattle.vsw_walk_tests.proofs.walk.replace_tests.is_free_but.Goals as goal

pub returns-in-None : goal.returns-in-None
returns-in-None c e = free_but c.args.number (probe c.args.dir c.args.key.now) c.args.flows.now.pairs None c.len.ensures.apart (sym (ap option_copied c.in-None.is) ∙ c.find.ensures) (λ r g. grind arith)

pub returns-in-Some : goal.returns-in-Some
returns-in-Some c e =
    let p = c.in-Some.pair.now in
    let own : p.number ≡ c.args.number = grind arith in
    free_but c.args.number (probe c.args.dir c.args.key.now) c.args.flows.now.pairs (Some p) c.len.ensures.apart (sym (ap option_copied c.in-Some.is) ∙ c.find.ensures)
    (λ r g. subst (λ (x : Pair). x.number ≡ c.args.number) (some_is g) own)
