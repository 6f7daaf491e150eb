use Rattle.vsw_many.proofs.Passes.{works_begin, works_go_on, works_stay, works_settle, turn_goes_on}
use Rattle.vsw_many.proofs.law.pass_laws.Goals as goal

pub returns : goal.returns
returns c = record { begin = works_begin; works = works_go_on; learns = works_stay; share = works_settle; turn = turn_goes_on }
