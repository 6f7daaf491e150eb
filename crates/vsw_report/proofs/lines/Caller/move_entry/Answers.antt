use Rattle.std.proofs.Common.{◌++◌, ℕ, List, ap, sym, ◌∙◌, arith, length, slice_range}
use Rattle.vsw_report.proofs.Runs.{entry_moved}
use Rattle.vsw_report.proofs.lines.Caller.move_entry.Goals as goal

pub copy-requires : goal.copy-requires
copy-requires c =
    let s = c.self.inside in
    let run = c.entry_from-run in
    let m = entry_moved c.args.count s.passed s.from run.result.passed run.result.end run.result.short s.marks.items c.deref.result.now s.text c.args.self.now c.deref.ensures.value (sym c.self.view_is) c.self.invariant.0 c.self.invariant.1 run.ensures.passed run.ensures.end run.ensures.short in
    (m.low, omega (arith, m.high, ap length c.as_slice.ensures))

pub invariant_of-self : goal.invariant_of-self
invariant_of-self c =
    let s = c.self.inside in
    let run = c.entry_from-run in
    let m = entry_moved c.args.count s.passed s.from run.result.passed run.result.end run.result.short s.marks.items c.deref.result.now s.text c.args.self.now c.deref.ensures.value (sym c.self.view_is) c.self.invariant.0 c.self.invariant.1 run.ensures.passed run.ensures.end run.ensures.short in
    (m.within, m.ends)

pub returns-clause-text : goal.returns-clause-text
returns-clause-text c =
    let s = c.self.inside in
    let run = c.entry_from-run in
    let m = entry_moved c.args.count s.passed s.from run.result.passed run.result.end run.result.short s.marks.items c.deref.result.now s.text c.args.self.now c.deref.ensures.value (sym c.self.view_is) c.self.invariant.0 c.self.invariant.1 run.ensures.passed run.ensures.end run.ensures.short in
    c.in_ok-copy.ensures ∙ (ap (λ (t : List ℕ). c.args.out.now.items ++ slice_range t s.from run.result.end) c.as_slice.ensures ∙ ap (λ (t : List ℕ). c.args.out.now.items ++ t) m.text_is)

pub returns-clause-short : goal.returns-clause-short
returns-clause-short c =
    let s = c.self.inside in
    let run = c.entry_from-run in
    let m = entry_moved c.args.count s.passed s.from run.result.passed run.result.end run.result.short s.marks.items c.deref.result.now s.text c.args.self.now c.deref.ensures.value (sym c.self.view_is) c.self.invariant.0 c.self.invariant.1 run.ensures.passed run.ensures.end run.ensures.short in
    m.short_is

pub returns-clause-rest : goal.returns-clause-rest
returns-clause-rest c =
    let s = c.self.inside in
    let run = c.entry_from-run in
    let m = entry_moved c.args.count s.passed s.from run.result.passed run.result.end run.result.short s.marks.items c.deref.result.now s.text c.args.self.now c.deref.ensures.value (sym c.self.view_is) c.self.invariant.0 c.self.invariant.1 run.ensures.passed run.ensures.end run.ensures.short in
    m.left_is
