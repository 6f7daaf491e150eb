use Rattle.std.proofs.Common.{◌*◌, ◌≤◌, ◌∙◌, ℕ, List, take, ap, sym, subst, arith}
use Rattle.vsw_base.specs.declared.header.Header.{Header}
use Rattle.vsw_base.specs.Shape.{encaps}
use Rattle.vsw_frame.specs.Push.{AreEncaps}
use Rattle.vsw_frame.proofs.Edits.{outer_are, AreOuter}
use Rattle.vsw_frame.proofs.writing.outer.Goals as goal

pub returns-clause-whole : goal.returns-clause-whole
returns-clause-whole c =
    let hs : List Header = c.headers.result.now in
    let few : c.args.encaps ≤ encaps hs = omega (arith, c.requires, ap encaps c.headers.ensures.all) in
    let a : AreOuter c.args.encaps hs = outer_are hs c.headers.ensures.shape c.args.encaps few in
    subst (λ (n : ℕ). AreEncaps (take (3 * n) hs)) (sym c.from-before.ensures) a.0

pub returns-clause-count : goal.returns-clause-count
returns-clause-count c =
    let hs : List Header = c.headers.result.now in
    let few : c.args.encaps ≤ encaps hs = omega (arith, c.requires, ap encaps c.headers.ensures.all) in
    let a : AreOuter c.args.encaps hs = outer_are hs c.headers.ensures.shape c.args.encaps few in
    ap (λ (n : ℕ). encaps (take (3 * n) hs)) c.from-before.ensures ∙ a.1
