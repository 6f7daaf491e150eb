use Rattle.vsw_rule.proofs.Algebra.{none_first, none_last, associates}
use Rattle.vsw_rule.proofs.Along.{along}
use Rattle.vsw_rule.proofs.composition_law.composition_laws.Goals as goal

pub returns-clause-none_first : goal.returns-clause-none_first
returns-clause-none_first c = none_first

pub returns-clause-none_last : goal.returns-clause-none_last
returns-clause-none_last c = none_last

pub returns-clause-associates : goal.returns-clause-associates
returns-clause-associates c = associates

pub returns-clause-kept : goal.returns-clause-kept
returns-clause-kept c = along
