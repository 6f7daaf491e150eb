-- The tests of a command, in the order of their refusals' numbers.
use Rattle.std.proofs.Common.{◌≡◌, ◌≤◌, ◌<◌, Bool, true, false, List, [], ◌∷◌, Option, Some, None, Err, refl, subst, arith, if◌then◌else◌}
use Rattle.vsw_policy.specs.Layer.{LayerSeen}
use Rattle.vsw_policy.specs.declared.command.Command.TheVariants.{AddLayer, RemoveLayer, AddGroup, RemoveGroup, PutRules, PutMany, AddRule, RemoveRule, SetDefault, Sweep}
use Rattle.vsw_policy.specs.declared.refusal.Refusal.{Refusal}
use Rattle.vsw_policy.specs.Obey.{tests, first_refusal, after, answered}
use Rattle.vsw_policy.specs.Refusals.{refusal_number}
use Rattle.vsw_policy.specs.Sound.{Each}
use Rattle.vsw_policy.specs.Law.{AreAscending, TestsAscend, LeastIsTold}

pub tests-ascend : TestsAscend
tests-ascend ls c (AddLayer s) = ((omega arith, tt), (tt, tt))
tests-ascend ls c (RemoveLayer n) = (tt, tt)
tests-ascend ls c (AddGroup n g dir when) = ((omega arith, (omega arith, tt)), ((omega arith, tt), (tt, tt)))
tests-ascend ls c (RemoveGroup n g) = ((omega arith, tt), (tt, tt))
tests-ascend ls c (PutRules n g rs) = ((omega arith, (omega arith, (omega arith, tt))), ((omega arith, (omega arith, tt)), ((omega arith, tt), (tt, tt))))
tests-ascend ls c (PutMany ps) = ((omega arith, (omega arith, (omega arith, (omega arith, (omega arith, tt))))), ((omega arith, (omega arith, (omega arith, (omega arith, tt)))), ((omega arith, (omega arith, (omega arith, tt))), ((omega arith, (omega arith, tt)), ((omega arith, tt), (tt, tt))))))
tests-ascend ls c (AddRule n g r) = ((omega arith, (omega arith, (omega arith, tt))), ((omega arith, (omega arith, tt)), ((omega arith, tt), (tt, tt))))
tests-ascend ls c (RemoveRule n g k) = ((omega arith, (omega arith, tt)), ((omega arith, tt), (tt, tt)))
tests-ascend ls c (SetDefault n dir allow) = (tt, tt)
tests-ascend ls c (Sweep n now) = (tt, tt)

-- a refusal by one of these numbers is the least of those that apply
abbrev IsLeast : Refusal → List (Bool × Refusal) → Type 0
IsLeast e ts = Each (λ (t : Bool × Refusal). t.0 ≡ true → refusal_number e ≤ refusal_number t.1) ts

least-of-above : (e : Refusal) (ts : List (Bool × Refusal)) → Each (λ (u : Bool × Refusal). refusal_number e < refusal_number u.1) ts → IsLeast e ts
least-of-above e [] h = tt
least-of-above e (t ∷ ts) h = ((λ applies. let above = h.0 in omega (arith, above)), least-of-above e ts h.1)

first-is-least : (ts : List (Bool × Refusal)) (e : Refusal) → AreAscending ts → first_refusal ts ≡ Some e → IsLeast e ts
first-is-least [] e up h = tt
first-is-least (t ∷ ts) e up h = by t.0 refl h (first-is-least ts e up.1)
  where
    by : (b : Bool) → t.0 ≡ b → (if b then Some t.1 else first_refusal ts) ≡ Some e → (first_refusal ts ≡ Some e → IsLeast e ts) → IsLeast e (t ∷ ts)
    by true applies h rest = let same : t.1 ≡ e = cc in subst (λ d. IsLeast d (t ∷ ts)) same ((λ applies. omega arith), least-of-above t.1 ts up.0)
    by false passes h rest = ((λ applies. absurd (cc)), rest h)

refused : (o : Option Refusal) (ls : List LayerSeen) (e : Refusal) → answered o ls ≡ Err e → o ≡ Some e
refused (Some d) ls e h = cc
refused None ls e h = cc

pub least-is-told : LeastIsTold
least-is-told cs ls c m e h = first-is-least (tests ls c m) e (tests-ascend ls c m) (refused (first_refusal (tests ls c m)) (after cs ls c m) e h)
