use Rattle.vsw_spares.proofs.Handy.{added_tells, between_tells, found_tells, group_spares_all, other_default_spares, other_group_tells, removed_tells, unreached_spares}
use Rattle.vsw_spares.proofs.law.handy_laws.Goals as goal

pub returns-clause-between : goal.returns-clause-between
returns-clause-between c = between_tells

pub returns-clause-added : goal.returns-clause-added
returns-clause-added c = added_tells

pub returns-clause-removed : goal.returns-clause-removed
returns-clause-removed c = removed_tells

pub returns-clause-group : goal.returns-clause-group
returns-clause-group c = other_group_tells

pub returns-clause-all : goal.returns-clause-all
returns-clause-all c = group_spares_all

pub returns-clause-unreached : goal.returns-clause-unreached
returns-clause-unreached c = unreached_spares

pub returns-clause-default : goal.returns-clause-default
returns-clause-default c = other_default_spares

pub returns-clause-found : goal.returns-clause-found
returns-clause-found c = found_tells
