use Rattle.std.proofs.Common.{◌≡◌, ◌∙◌, ℕ, Some, ap, subst}
use Rattle.vsw_rows.specs.GoodRows.{IsGoodRow, opening_of}
use Rattle.vsw_table.specs.Rules.{row_at}
use Rattle.vsw_flows.specs.declared.places.Found.TheVariants.{Own}
use Rattle.vsw_flows.specs.Flows.{Writing}
use Rattle.vsw_flows.proofs.Calls.{found_good}
use Rattle.vsw_flows.proofs.rows.Rows.find.Goals as goal

pub returns-clause-good : goal.returns-clause-good
returns-clause-good c =
    let p = c.args.lookup.now.1 in
    let v = c.self.inside.writer in
    let opens : v.view.opening ≡ Some p = ap (λ (r : Writing). r.view.opening) c.self.view_is ∙ c.requires.opens in
    subst (λ (r : Writing). (place : ℕ) → c.search.result ≡ Own place → IsGoodRow (opening_of p) r.view.history (row_at r.view.rows place)) c.self.view_is
    (found_good p v c.self.inside.leaning c.args.lookup.now.2 c.args.key.now c.search.result opens c.self.invariant c.search.ensures.found)
