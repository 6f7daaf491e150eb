use Rattle.std.proofs.Common.{ap, subst, sym}
use Rattle.vsw_harbour.specs.Harbour.{HarbourSeen}
use Rattle.vsw_crew.specs.Crew.{CrewSeen}
use Rattle.vsw_crew.specs.Shift.{Owes}
use Rattle.vsw_crew.proofs.crew.Crew.tell.Goals as goal

pub returns-clause-text : goal.returns-clause-text
returns-clause-text g c = λ text short o.
    let here = ap (λ (w : CrewSeen). w.harbour) c.self.view_is in
    c.in_ok-short.ensures.text text short (subst (λ (h : HarbourSeen). Owes h c.args.owed text short) (sym here) o)

pub returns-clause-short : goal.returns-clause-short
returns-clause-short g c = λ text short o.
    let here = ap (λ (w : CrewSeen). w.harbour) c.self.view_is in
    c.in_ok-short.ensures.short text short (subst (λ (h : HarbourSeen). Owes h c.args.owed text short) (sym here) o)
