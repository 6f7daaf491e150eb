use Rattle.std.proofs.Common.{refl}
use Rattle.vsw_commandfile.proofs.LinesRead as lines
use Rattle.vsw_config.proofs.Policies as policies
use Rattle.vsw_files.proofs.Tracing.{checked_early}
use Rattle.vsw_files.specs.Claimed.{HasRecords, HasReport}
use Rattle.vsw_files.specs.Early.{HasCommands, HasPolicy}
use Rattle.vsw_run.specs.Seen.{claim_seen}
use Rattle.vsw_app.proofs.Answering.{checked, unanswered}
use Rattle.vsw_app.proofs.check.check.Goals as goal

pub returns-in-Err : goal.returns-in-Err
returns-in-Err g c =
    let k = claim_seen c.args.claim.now in
    checked_early k (g.H.Host.outside c.args.host.now) (g.H.Host.outside c.open_policy.new.host) c.in-Err.end (c.in-Err.ensures k.run refl)

pub returns-in-Err-open_commands : goal.returns-in-Err-open_commands
returns-in-Err-open_commands g c =
    let k = claim_seen c.args.claim.now in
    let start = g.H.Host.outside c.args.host.now in
    checked_early k start (g.H.Host.outside c.open_commands.new.host) c.in-Err-open_commands.end (c.in-Err-open_commands.ensures k.run start refl (c.in-Ok.ensures k.run refl))

pub returns-in-Err-open_trace : goal.returns-in-Err-open_trace
returns-in-Err-open_trace g c =
    let k = claim_seen c.args.claim.now in
    let start = g.H.Host.outside c.args.host.now in
    c.in-Err-open_trace.ensures k start c.in-Ok.policy c.in-Ok-open_commands.lines refl (c.in-Ok-open_commands.ensures k.run start refl (c.in-Ok.ensures k.run refl))

pub returns-in-Err-open_report : goal.returns-in-Err-open_report
returns-in-Err-open_report g c =
    let k = claim_seen c.args.claim.now in
    let start = g.H.Host.outside c.args.host.now in
    let policy = c.in-Ok.policy in
    let lines = c.in-Ok-open_commands.lines in
    let commands = c.in-Ok-open_commands.ensures k.run start refl (c.in-Ok.ensures k.run refl) in
    c.in-Err-open_report.ensures k start policy lines c.in-Ok-open_trace.trace.batch refl (c.in-Ok-open_trace.ensures k start policy lines refl commands)

pub judged-requires-clause-good : goal.judged-requires-clause-good
judged-requires-clause-good g c =
    let k = claim_seen c.args.claim.now in
    let h : HasPolicy k.run (g.H.Host.outside c.args.host.now) (g.H.Host.outside c.open_policy.new.host) c.in-Ok.policy = c.in-Ok.ensures k.run refl in
    policies.each_is_good h.file.bytes c.in-Ok.policy h.is.good

pub judged-requires-clause-asked : goal.judged-requires-clause-asked
judged-requires-clause-asked g c =
    let k = claim_seen c.args.claim.now in
    let start = g.H.Host.outside c.args.host.now in
    let h : HasCommands k.run start (g.H.Host.outside c.open_commands.new.host) c.in-Ok.policy c.in-Ok-open_commands.lines = c.in-Ok-open_commands.ensures k.run start refl (c.in-Ok.ensures k.run refl) in
    lines.each_is_good c.in-Ok.policy h.file.bytes c.in-Ok-open_commands.lines h.are.good

pub judged-requires-clause-records : goal.judged-requires-clause-records
judged-requires-clause-records g c =
    let k = claim_seen c.args.claim.now in
    let start = g.H.Host.outside c.args.host.now in
    let policy = c.in-Ok.policy in
    let lines = c.in-Ok-open_commands.lines in
    let h : HasRecords k start (g.H.Host.outside c.open_trace.new.host) policy lines c.in-Ok-open_trace.trace.batch = c.in-Ok-open_trace.ensures k start policy lines refl (c.in-Ok-open_commands.ensures k.run start refl (c.in-Ok.ensures k.run refl)) in
    h.is.few

pub judged-requires-clause-told : goal.judged-requires-clause-told
judged-requires-clause-told g c =
    let k = claim_seen c.args.claim.now in
    let start = g.H.Host.outside c.args.host.now in
    let policy = c.in-Ok.policy in
    let lines = c.in-Ok-open_commands.lines in
    let records = c.in-Ok-open_trace.trace.batch in
    let trace = c.in-Ok-open_trace.ensures k start policy lines refl (c.in-Ok-open_commands.ensures k.run start refl (c.in-Ok.ensures k.run refl)) in
    let h : HasReport k start (g.H.Host.outside c.open_report.new.host) policy lines records c.in-Ok-open_report.report.rounds = c.in-Ok-open_report.ensures k start policy lines records refl trace in
    h.report_is.says.told

pub returns-in-Ok-judged : goal.returns-in-Ok-judged
returns-in-Ok-judged g c =
    let k = claim_seen c.args.claim.now in
    let start = g.H.Host.outside c.args.host.now in
    let now = g.H.Host.outside c.open_report.new.host in
    let policy = c.in-Ok.policy in
    let lines = c.in-Ok-open_commands.lines in
    let records = c.in-Ok-open_trace.trace.batch in
    let rounds = c.in-Ok-open_report.report.rounds in
    let trace = c.in-Ok-open_trace.ensures k start policy lines refl (c.in-Ok-open_commands.ensures k.run start refl (c.in-Ok.ensures k.run refl)) in
    let h : HasReport k start now policy lines records rounds = c.in-Ok-open_report.ensures k start policy lines records refl trace in
    checked k start now (g.H.Host.outside c.put_answer.new.host) policy lines records rounds c.in-Ok-judged.answer c.put_answer.result h c.in-Ok-judged.ensures c.put_answer.ensures

pub returns : goal.returns
returns g c =
    let k = claim_seen c.args.claim.now in
    let start = g.H.Host.outside c.args.host.now in
    let now = g.H.Host.outside c.open_report.new.host in
    let policy = c.in-Ok.policy in
    let lines = c.in-Ok-open_commands.lines in
    let records = c.in-Ok-open_trace.trace.batch in
    let rounds = c.in-Ok-open_report.report.rounds in
    let trace = c.in-Ok-open_trace.ensures k start policy lines refl (c.in-Ok-open_commands.ensures k.run start refl (c.in-Ok.ensures k.run refl)) in
    let h : HasReport k start now policy lines records rounds = c.in-Ok-open_report.ensures k start policy lines records refl trace in
    unanswered k start now policy lines records rounds h
