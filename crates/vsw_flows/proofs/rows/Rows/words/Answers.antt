use Rattle.std.proofs.Common.{◌≡◌, ◌∙◌, Some, ap, subst, sym}
use Rattle.vsw_rows.specs.GoodRows.{IsGoodRow, opening_of}
use Rattle.vsw_rows.specs.Rows.{IsFormed}
use Rattle.vsw_flows.specs.Flows.{IsCurrent, Writing}
use Rattle.vsw_flows.proofs.Calls.{row_formed}
use Rattle.vsw_flows.proofs.Standings.{current_good}
use Rattle.vsw_flows.proofs.rows.Rows.words.Goals as goal

pub returns-clause-formed : goal.returns-clause-formed
returns-clause-formed c =
    let v = c.self.inside.writer in
    subst IsFormed (sym c.read_words.ensures.words) (row_formed c.args.lookup.now.1 v c.self.inside.leaning (ap (λ (r : Writing). r.view.opening) c.self.view_is ∙ c.requires.opens) c.self.invariant c.args.row)

pub returns-clause-good : goal.returns-clause-good
returns-clause-good c =
    let p = c.args.lookup.now.1 in
    let v = c.self.inside.writer in
    let opens : v.view.opening ≡ Some p = ap (λ (r : Writing). r.view.opening) c.self.view_is ∙ c.requires.opens in
    subst (λ (r : Writing). IsCurrent r c.args.row → IsGoodRow (opening_of p) r.view.history c.read_words.new.out) c.self.view_is
    (λ current. subst (IsGoodRow (opening_of p) v.view.history) (sym c.read_words.ensures.words) (current_good p v c.self.inside.leaning opens c.self.invariant c.args.row current))
