use Rattle.std.proofs.Common.{◌∙◌, ap, refl, take}
use Rattle.std.specs.Prelude.{List}
use Rattle.vsw_base.specs.declared.header.Header.{Header}
use Rattle.vsw_rule.specs.Edit.{kept_after}
use Rattle.vsw_rule.specs.declared.rule.Action.TheVariants.{Edit}
use Rattle.vsw_walk.proofs.Going.{edits_on}
use Rattle.vsw_walk.proofs.scratch.Scratch.edit.Goals as goal

pub returns : goal.returns
returns c =
    let counted = c.left_of-left.ensures c.args.set.now c.args.encap.now ∙ ap (λ (hs : List Header). kept_after (Edit c.args.decap c.args.set.now c.args.encap.now) hs c.args.kept) c.stack.ensures in
    edits_on c.args.decap c.args.set.now c.args.encap.now c.args.self.now (record { stack = c.edit.new.self; edits = c.push_reserved.new.self.items; changes = c.self.inside.wanted.items; looked = take c.self.inside.looks c.self.inside.looked.items; due = c.self.inside.due }) _ c.args.kept c.left_of-left.result
    c.self.view_is c.requires.can c.edit.ensures c.push_reserved.ensures.items refl refl refl counted
