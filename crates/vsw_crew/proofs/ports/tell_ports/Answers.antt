use Rattle.std.proofs.Common.{◌≡◌, ◌<◌, ◌+◌, ℕ, suc, ap₂, sym, refl, ◌∙◌, arith, length, append-nil, List}
use Rattle.vsw_report.specs.Line.{TextLine}
use Rattle.vsw_report.specs.Whole.{whole_text}
use Rattle.vsw_crew.specs.Private.Port.{lines_at}
use Rattle.vsw_crew.proofs.GoneAtPort.{gone_next, lines_there, none_yet}
use Rattle.vsw_crew.proofs.ToldPorts.{port_next, rises_at, short_next}
use Rattle.vsw_crew.proofs.ports.tell_ports.Goals as goal

pub loop-place-init : goal.loop-place-init
loop-place-init c = record {
  quiet = c.in_ok-gathered.ensures;
  lines = sym (none_yet c.args.lines.now);
  firsts = sym (none_yet c.args.firsts.now);
  text = λ counts. sym (append-nil (whole_text c.args.out.now));
  short = λ counts. refl;
}

pub tell_port-requires-clause-grows : goal.tell_port-requires-clause-grows
tell_port-requires-clause-grows c =
    let l = c.loop-place in
    let lt : l.place < length c.args.numbers.now = omega (arith, c.loop-place-test.true, l.auto.place-end) in
    rises_at c.args.befores.now c.args.afters.now l.place c.requires.grows (omega (arith, lt, c.requires.befores)) (omega (arith, lt, c.requires.afters))

pub loop-place-preserved : goal.loop-place-preserved
loop-place-preserved c =
    let l = c.loop-place in
    let n : ℕ = l.place in
    let ports : ℕ = length c.args.numbers.now in
    let lt : n < ports = omega (arith, c.loop-place-test.true, l.auto.place-end) in
    let next : n + 1 ≡ suc n = omega arith in
    let texts : ℕ → List (List TextLine) = lines_at c.args.workers c.args.places.now c.args.lines.now c.args.firsts.now in
    let now : List (List TextLine) = lines_at c.args.workers c.args.places.now l.lines l.firsts n in
    let same : now ≡ texts n = ap₂ (λ a b. lines_at c.args.workers c.args.places.now a b n) l.invariant.lines l.invariant.firsts ∙ lines_there c.args.workers c.args.places.now c.args.lines.now c.args.firsts.now n in
    let new = c.tell_port.new in
    let told = c.in_ok-told.ensures in
    record {
      quiet = told.quiet;
      lines = gone_next n (n + 1) c.args.lines.now l.lines new.lines next l.invariant.lines told.lines;
      firsts = gone_next n (n + 1) c.args.firsts.now l.firsts new.firsts next l.invariant.firsts told.firsts;
      text = port_next texts now c.args.numbers.now c.args.befores.now c.args.afters.now n (n + 1) ports (whole_text c.args.out.now) (whole_text l.out) (whole_text new.out) next lt same told.text l.invariant.text;
      short = short_next texts now c.args.befores.now c.args.afters.now n (n + 1) ports l.short c.in_ok-told.told c.either-short.result next lt same told.short l.invariant.short c.either-short.ensures;
    }
