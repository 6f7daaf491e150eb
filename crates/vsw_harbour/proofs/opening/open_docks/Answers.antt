use Rattle.std.proofs.Common.{◌≤◌, ℕ, List, length, sym, subst, arith}
use Rattle.vsw_harbour.proofs.Fits.{can_open, few_controllers}
use Rattle.vsw_harbour.proofs.opening.open_docks.Goals as goal

pub callers_of-callers-requires : goal.callers_of-callers-requires
callers_of-callers-requires c = record { few = subst (λ (cs : List ℕ). length cs ≤ 8) (sym c.as_slice.ensures) (few_controllers c.args.file.now c.requires.good) }

pub open_ports-requires-clause-can : goal.open_ports-requires-clause-can
open_ports-requires-clause-can c = can_open c.args.file.now c.in_ok-made.made c.requires.good c.in_ok-made.ensures

pub open_ports-requires-clause-passes : goal.open_ports-requires-clause-passes
open_ports-requires-clause-passes c =
    let few : length c.as_slice.result.now ≤ 8 = subst (λ (cs : List ℕ). length cs ≤ 8) (sym c.as_slice.ensures) (few_controllers c.args.file.now c.requires.good) in
    omega (arith, c.callers_of-callers.ensures, few)
