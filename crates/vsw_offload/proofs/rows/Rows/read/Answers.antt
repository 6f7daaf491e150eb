use Rattle.std.proofs.Common.{◌≡◌, ◌∙◌, subst, sym}
use Rattle.vsw_offload.specs.Bad.{IsBadRows}
use Rattle.vsw_offload.specs.declared.fault.BadRows.TheVariants.{Memory}
use Rattle.vsw_offload.proofs.Exact.{files_are_right, files_tell}
use Rattle.vsw_offload.proofs.Exits.{exit_as}
use Rattle.vsw_offload.proofs.rows.Rows.read.Goals as goal

pub returns-in_err-ports-clause-taken : goal.returns-in_err-ports-clause-taken
returns-in_err-ports-clause-taken c ps are is =
    exit_as (λ why. why ≡ Memory) c.from_residual.result c.in_err-ports.field-0.0 c.from_residual.ensures.1 (files_are_right ps c.in_err-ports.field-0.0 are (subst (λ b. IsBadRows b c.in_err-ports.field-0.0) is c.in_err-ports.ensures.bad))

pub returns-in-Ok-clause-same : goal.returns-in-Ok-clause-same
returns-in-Ok-clause-same c ps are is = c.in-Ok.ensures ∙ files_tell c.in_ok-ports.ports ps c.in_ok-ports.ensures.are are (sym c.in_ok-ports.ensures.file ∙ is)
