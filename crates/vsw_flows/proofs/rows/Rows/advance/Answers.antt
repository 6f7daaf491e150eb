use Rattle.std.proofs.Common.{ap, subst, sym}
use Rattle.vsw_flows.specs.Flows.{Writing}
use Rattle.vsw_flows.proofs.Calls.{Grows, grown_good, grown_stand}
use Rattle.vsw_flows.proofs.rows.Rows.advance.Goals as goal

pub advance-requires-clause-stays : goal.advance-requires-clause-stays
advance-requires-clause-stays c =
    let p = c.args.lookup.now.1 in
    let given : Grows p c.args.entry.now c.self.inside.writer = subst (Grows p c.args.entry.now) (sym c.self.view_is) (record { opens = c.requires.opens.0; right = c.requires.right; spares = c.requires.spares }) in
    grown_good p c.args.entry.now c.self.inside.writer c.self.inside.leaning given c.self.invariant

pub invariant_of-self : goal.invariant_of-self
invariant_of-self c =
    let p = c.args.lookup.now.1 in
    let given : Grows p c.args.entry.now c.self.inside.writer = subst (Grows p c.args.entry.now) (sym c.self.view_is) (record { opens = c.requires.opens.0; right = c.requires.right; spares = c.requires.spares }) in
    let is = c.advance.ensures.writer in
    grown_stand p c.args.entry.now c.self.inside.writer c.advance.new.self c.self.inside.leaning given
    (ap (λ (u : Writing). u.view.opening) is) (ap (λ (u : Writing). u.view.history) is) (ap (λ (u : Writing). u.view.stamps) is) (ap (λ (u : Writing). u.view.rows) is) c.self.invariant
