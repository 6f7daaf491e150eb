use Rattle.std.proofs.Common.{◌∙◌, List, subst}
use Rattle.vsw_rule.specs.declared.rule.Rule.{Rule}
use Rattle.vsw_classify.specs.Private.Search.{IsIndex}
use Rattle.vsw_classify.proofs.Picked.{picks}
use Rattle.vsw_classify.proofs.index.GroupIndex.find.Goals as goal

pub returns : goal.returns
returns c =
    let x = subst (λ (rules : List Rule). IsIndex rules c.self.inside.keys.items c.self.inside.listed.items c.self.inside.fields.items) (c.self.view_is ∙ c.requires.built) c.self.invariant.0 in
    let listed = rw (c.deref.ensures.value, c.deref-2.ensures.value) at c.first_listed-listed.ensures in
    let offered = rw (c.deref-3.ensures.value, c.deref-4.ensures.value) at c.first_offered-rank.ensures in
    rw (c.place_at.ensures, c.deref-5.ensures.value) (picks c.args.rules.now c.self.inside.keys.items c.self.inside.listed.items c.self.inside.fields.items c.args.packet.now c.len-count.result c.first_listed-listed.result c.first_offered-rank.result x (c.len-count.ensures ∙ c.self.inside.keys.ok.0) listed offered)
