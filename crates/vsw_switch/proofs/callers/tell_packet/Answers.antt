use Rattle.std.proofs.Common.{◌≡◌, ◌∷◌, ◌++◌, [], ℕ, List, OnOk, subst}
use Rattle.vsw_report.specs.Line.{text_of}
use Rattle.vsw_report.specs.declared.told.By.TheVariants as by
use Rattle.vsw_report.specs.declared.told.What.TheVariants as what
use Rattle.vsw_switch.proofs.Places.{told_ok}
use Rattle.vsw_switch.proofs.callers.tell_packet.Goals as goal

pub returns-clause-told : goal.returns-clause-told
returns-clause-told c =
    let P : List ℕ → Type 0 = λ bs. OnOk c.tell_packet.result (c.tell_packet.new.self ≡ c.index_mut-worker.result.now ++ text_of (record { by = by.Worker c.args.crossing.now.caller; item = c.args.crossing.now.packet; entry = c.args.outcome.now.entry; count = c.args.count; what = what.Fate c.args.outcome.now.fate bs }) ∷ []) in
    told_ok c.args.workers.now.items c.args.crossing.now.caller c.index_mut-worker.result.now c.tell_packet.new.self _ c.tell_packet.result c.requires.worker c.index_mut-worker.ensures.value
    (subst P c.bytes_of-bytes.ensures c.tell_packet.ensures.ok)
