use Rattle.std.proofs.Common.{ap, subst, sym, ◌∙◌}
use Rattle.vsw_harbour.specs.HarbourOpening.{rows_in}
use Rattle.vsw_harbour.specs.Harbour.{HarbourSeen}
use Rattle.vsw_harbour.proofs.Gathering.{harbour_is}
use Rattle.vsw_policy.specs.Sound.{Each}
use Rattle.vsw_crew.specs.Private.Rows.{AreGone}
use Rattle.vsw_crew.proofs.Shifts.{may_owe, owes_some, rows_left, served_on}
use Rattle.vsw_crew.proofs.Closing.{closed, may_close, tells_closed}
use Rattle.vsw_crew.proofs.crew.Crew.close_stream.Goals as goal

pub close_round-requires : goal.close_round-requires
close_round-requires g c = record { feeding = may_close c.self.inside.harbour.now c.args.self.now _ c.args.feeding c.args.pool.now c.self.view_is c.requires.feeding }

pub returns-in_err-worked-clause-served : goal.returns-in_err-worked-clause-served
returns-in_err-worked-clause-served g c = λ gs lines a. served_on c.self.inside.harbour.now c.args.self.now _ _ c.self.view_is gs lines a

pub owe-requires-clause-worked : goal.owe-requires-clause-worked
owe-requires-clause-worked g c =
    let k = closed c.self.inside.harbour.now c.args.self.now _ c.args.feeding c.args.pool.now c.in_ok-worked.worked c.self.view_is c.requires.feeding c.in_ok-worked.ensures.closed in
    may_owe c.self.inside.harbour.now c.args.feeding.underway k.out c.in_ok-worked.worked k.began k.does

pub returns-in_err-owed-clause-served : goal.returns-in_err-owed-clause-served
returns-in_err-owed-clause-served g c = λ gs lines a. served_on c.self.inside.harbour.now c.args.self.now _ _ c.self.view_is gs lines a

pub invariant_of-self : goal.invariant_of-self
invariant_of-self g c = (c.self.invariant.0, subst (Each AreGone) (sym (ap (λ v. v.items) c.replace-rooms.ensures.after ∙ c.new.ensures.items)) tt)

pub invariant_of-self-2 : goal.invariant_of-self-2
invariant_of-self-2 g c =
    let k = closed c.self.inside.harbour.now c.args.self.now _ c.args.feeding c.args.pool.now c.in_ok-worked.worked c.self.view_is c.requires.feeding c.in_ok-worked.ensures.closed in
    (rows_left c.self.inside.harbour.now c.args.feeding.underway k.out c.in_ok-worked.worked c.in_ok-owed.owed (rows_in c.in_ok-owed.rows.items) k.began k.does c.in_ok-owed.ensures.owed, subst (Each AreGone) (sym (ap (λ v. v.items) c.replace-rooms.ensures.after ∙ c.new.ensures.items)) tt)

pub returns-clause-tells : goal.returns-clause-tells
returns-clause-tells g c =
    let h : HarbourSeen = c.self.inside.harbour.now in
    tells_closed h _ _ _ _ c.args.self.now _ c.args.feeding c.args.pool.now c.in_ok-worked.worked c.in_ok-owed.owed (rows_in c.in_ok-owed.rows.items) (harbour_is _ h _ _ _ _ c.harbour.view_is c.harbour.invariant) c.self.view_is c.in_ok-worked.ensures.closed c.in_ok-owed.ensures.owed

pub returns-clause-owes : goal.returns-clause-owes
returns-clause-owes g c =
    let k = closed c.self.inside.harbour.now c.args.self.now _ c.args.feeding c.args.pool.now c.in_ok-worked.worked c.self.view_is c.requires.feeding c.in_ok-worked.ensures.closed in
    owes_some c.self.inside.harbour.now c.args.self.now _ c.args.feeding.underway k.out c.in_ok-worked.worked c.in_ok-owed.owed (rows_in c.in_ok-owed.rows.items) c.self.view_is k.began k.does c.in_ok-owed.ensures.owed

pub returns-clause-served : goal.returns-clause-served
returns-clause-served g c = λ gs lines a. served_on c.self.inside.harbour.now c.args.self.now _ _ c.self.view_is gs lines a
