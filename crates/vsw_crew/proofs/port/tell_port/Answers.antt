use Rattle.std.proofs.Common.{◌≡◌, ap, ◌∙◌, arith, length, length-take-le, take, ℕ, List}
use Rattle.std.proofs.lemmas.List.{length-map}
use Rattle.vsw_report.specs.Line.{TextLine}
use Rattle.vsw_report.specs.Order.{emptied}
use Rattle.vsw_crew.specs.Texts.{caller_at}
use Rattle.vsw_crew.specs.Private.Port.{quiet}
use Rattle.vsw_crew.proofs.GoneAtPort.{emptied_quiet, length_quiet, quiet_own}
use Rattle.vsw_crew.proofs.Steps.{merged_team, team_back}
use Rattle.vsw_crew.proofs.port.tell_port.Goals as goal

pub gather-requires-clause-team : goal.gather-requires-clause-team
gather-requires-clause-team c = ap length c.requires.quiet ∙ length_quiet c.args.workers

pub give_back-requires : goal.give_back-requires
give_back-requires c =
    let n : ℕ = c.args.workers in
    let team = c.gather.new.gathered.team in
    let row : List (List TextLine) → List TextLine = caller_at c.args.place in
    let many : length (take n c.args.lines.now) ≡ n = length-take-le n c.args.lines.now (omega (arith, c.requires.few, c.requires.rows)) in
    let items : length team.items ≡ n = ap length c.in_ok-gather.ensures.team ∙ (length-map (take n c.args.lines.now) row ∙ many) in
    let merged : c.merge_text.new.workers ≡ quiet n = c.in_ok-short.ensures.workers ∙ (ap emptied (c.deref_mut.ensures.value ∙ c.in_ok-gather.ensures.team) ∙ emptied_quiet row (take n c.args.lines.now) n many) in
    let len : team.len ≡ n = omega (arith, items, team.ok.0) in
    record { quiet = quiet_own n c.deref_mut-3.result.now (merged_team n team.len team.items c.merge_text.new.workers c.deref_mut-3.result.now merged items len c.deref_mut-3.ensures.value) }

pub returns-clause-quiet : goal.returns-clause-quiet
returns-clause-quiet c =
    let n : ℕ = c.args.workers in
    let team = c.gather.new.gathered.team in
    let row : List (List TextLine) → List TextLine = caller_at c.args.place in
    let many : length (take n c.args.lines.now) ≡ n = length-take-le n c.args.lines.now (omega (arith, c.requires.few, c.requires.rows)) in
    let items : length team.items ≡ n = ap length c.in_ok-gather.ensures.team ∙ (length-map (take n c.args.lines.now) row ∙ many) in
    let merged : c.merge_text.new.workers ≡ quiet n = c.in_ok-short.ensures.workers ∙ (ap emptied (c.deref_mut.ensures.value ∙ c.in_ok-gather.ensures.team) ∙ emptied_quiet row (take n c.args.lines.now) n many) in
    let len : team.len ≡ n = omega (arith, items, team.ok.0) in
    let given : c.deref_mut-3.result.now ≡ quiet n = merged_team n team.len team.items c.merge_text.new.workers c.deref_mut-3.result.now merged items len c.deref_mut-3.ensures.value in
    team_back n team.len team.items c.merge_text.new.workers c.give_back.new.team merged items len (c.give_back.ensures.team ∙ given)
