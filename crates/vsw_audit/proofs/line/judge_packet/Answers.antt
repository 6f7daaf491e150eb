use Rattle.std.proofs.Common.{◌∙◌, ap, sym}
use Rattle.vsw_pcap.specs.declared.capture.Record.{Record}
use Rattle.vsw_port.specs.Calls.{Carried}
use Rattle.vsw_report.specs.declared.told.By.TheVariants.{Worker}
use Rattle.vsw_report.specs.declared.told.What.TheVariants as what
use Rattle.vsw_audit.specs.Private.Lines.{Judges, JudgesLine}
use Rattle.vsw_audit.specs.Private.Tasks.{site_at}
use Rattle.vsw_audit.proofs.Judging.{carried_job, if_ok, judged}
use Rattle.vsw_audit.proofs.line.judge_packet.Goals as goal

pub returns-clause-judges : goal.returns-clause-judges
returns-clause-judges c = λ j e.
    let o = c.args.ledger.now.opening in
    let h = c.args.ledger.now.journal in
    let l = c.args.line.now in
    let new = c.carry_record.new.ledger.journal in
    let r : Record = record { moment = c.at-captured.result.moment; original = c.at-captured.result.original; bytes = c.at-captured.result.bytes.now } in
    let t = carried_job (site_at c.args.files.now.commands.now c.args.files.now.records.now c.args.port o) c.args.caller c.args.packet c.args.dir r j e c.at-captured.ensures in
    let told = c.is_of.ensures.told c.if-not-is_of.false in
    let d = Carried t.0 t.1 c.in-Fate.fate c.as_slice.result.now in
    if_ok c.carry_record.result (λ answer. Judges o h d l.entry new answer) (λ answer. JudgesLine o h j l new answer)
    (λ answer w. judged o h new l j d answer (sym t.2) (ap Worker t.3.caller_is ∙ sym told.0) (t.3.packet_is ∙ sym told.1) (ap (what.Fate c.in-Fate.fate) c.as_slice.ensures ∙ sym c.in-Fate.is) c.requires.count w)
    (c.carry_record.ensures.judges t.0 t.1 t.3.is)
