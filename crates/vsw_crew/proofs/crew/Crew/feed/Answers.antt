use Rattle.std.proofs.Common.{ap, sym, ◌∙◌}
use Rattle.vsw_crew.specs.Crew.{CrewSeen}
use Rattle.vsw_crew.proofs.Incoming.{on_map}
use Rattle.vsw_crew.proofs.crew.Crew.feed.Goals as goal

pub returns-clause-feeding : goal.returns-clause-feeding
returns-clause-feeding g c = on_map c.feed_last.result (λ f crew lines first before last out same. f crew lines first before last out (same ∙ sym (ap (λ (w : CrewSeen). w.harbour) c.self.view_is))) c.feed_last.ensures.feeding
