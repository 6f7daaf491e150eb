use Rattle.vsw_audit.proofs.Audited.{audit_is_complete, audit_is_sound, one_answer, replay_decides}
use Rattle.vsw_audit.proofs.Standing.{told_is_as_it_stands}
use Rattle.vsw_audit.proofs.law.laws.Goals as goal

pub returns : goal.returns
returns c = record { one = one_answer; sound = audit_is_sound; complete = audit_is_complete; decides = replay_decides; order = told_is_as_it_stands }
