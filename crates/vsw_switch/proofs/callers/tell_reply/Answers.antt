use Rattle.std.proofs.Common.{◌≡◌, ◌∷◌, ◌++◌, [], Bool, OnOk, subst}
use Rattle.vsw_report.specs.Line.{text_of}
use Rattle.vsw_policy.specs.declared.refusal.Reply.{Reply}
use Rattle.vsw_policy.specs.Refusals.{reply_of}
use Rattle.vsw_report.specs.declared.told.By.TheVariants as by
use Rattle.vsw_report.specs.declared.told.What.TheVariants as what
use Rattle.vsw_switch.proofs.Places.{told_ok}
use Rattle.vsw_switch.proofs.callers.tell_reply.Goals as goal

pub returns-clause-told : goal.returns-clause-told
returns-clause-told c =
    let P : Bool → Reply → Type 0 = λ entry reply. OnOk c.tell_reply.result (c.tell_reply.new.self ≡ c.index_mut-controller.result.now ++ text_of (record { by = by.Controller c.args.line.now.controller; item = c.args.line.now.number; entry = entry; count = c.args.count; what = what.Reply reply }) ∷ []) in
    told_ok c.args.controllers.now.items c.args.place c.index_mut-controller.result.now c.tell_reply.new.self _ c.tell_reply.result c.requires.place c.index_mut-controller.ensures.value
    (subst (λ e. P e (reply_of c.args.answer)) c.is_entry-entry.ensures (subst (P c.is_entry-entry.result) c.of.ensures c.tell_reply.ensures.ok))
