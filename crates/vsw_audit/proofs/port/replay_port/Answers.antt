use Rattle.std.proofs.Common.{◌∙◌, sym, subst, refl, IfOk}
use Rattle.vsw_audit.specs.Private.Rounds.{Finds, PortReplays, jobs_at}
use Rattle.vsw_audit.specs.Private.Tasks.{site_at}
use Rattle.vsw_audit.proofs.Dealt.{jobs_known}
use Rattle.vsw_audit.proofs.Porting.{has_jobs}
use Rattle.vsw_audit.proofs.port.replay_port.Goals as goal

pub replay_tasks-requires-clause-known : goal.replay_tasks-requires-clause-known
replay_tasks-requires-clause-known c =
    let d = c.requires.dealt in
    let f = c.args.files.now in
    let s = site_at f.commands.now f.records.now c.args.port c.args.seat.now.ledger.opening in
    (has_jobs s f.commands.now c.args.workers d.0 c.args.first c.args.port c.args.seat.now.number c.in_ok-split.split d.1 c.fill.new.tasks.items refl c.requires.workers.0 c.requires.workers.1 c.requires.can_ask (c.in_ok-split.ensures.tasks s c.args.workers d.0 d.1 refl (sym c.requires.same) refl d.3 d.2)).0

pub replay_tasks-requires-clause-split : goal.replay_tasks-requires-clause-split
replay_tasks-requires-clause-split c =
    let d = c.requires.dealt in
    let f = c.args.files.now in
    let s = site_at f.commands.now f.records.now c.args.port c.args.seat.now.ledger.opening in
    (has_jobs s f.commands.now c.args.workers d.0 c.args.first c.args.port c.args.seat.now.number c.in_ok-split.split d.1 c.fill.new.tasks.items refl c.requires.workers.0 c.requires.workers.1 c.requires.can_ask (c.in_ok-split.ensures.tasks s c.args.workers d.0 d.1 refl (sym c.requires.same) refl d.3 d.2)).1

pub returns-clause-finds : goal.returns-clause-finds
returns-clause-finds c = λ p macs packets seat e st.
    let f = c.args.files.now in
    let s = site_at f.commands.now f.records.now c.args.port c.args.seat.now.ledger.opening in
    let jobs = jobs_at f.commands.now c.args.workers macs c.args.first c.args.port c.args.seat.now.number packets in
    let filled = c.in_ok-split.ensures.tasks s c.args.workers macs packets refl (sym c.requires.same) refl st e in
    subst (λ n. IfOk c.replay_tasks.result (λ answer. Finds (PortReplays c.args.workers p c.args.seat.now.ledger.journal (jobs_at f.commands.now c.args.workers macs c.args.first c.args.port n packets) c.args.told.now) c.replay_tasks.new.ledger.journal answer)) seat.number
    (c.replay_tasks.ensures.finds p jobs (c.is_port-here.ensures.told c.if-not-here.false ∙ seat.number) (sym seat.opening) filled.1 filled.0 (jobs_known c.args.seat.now.ledger.opening.controllers f.commands.now c.args.workers macs c.args.first c.args.port c.args.seat.now.number packets c.requires.workers.0 c.requires.workers.1 c.requires.can_ask))
