-- Actors of either kind, in one list.
use Rattle.std.proofs.Common.{◌≡◌, ◌+◌, ℕ, zero, suc, List, [], ◌∷◌, ◌++◌, length, map, replicate, Option, Some, None, Bool, true, false, subst, refl, ap, ap₂, sym, ◌∙◌, arith}
use Rattle.std.specs.Prelude.{MatchBool}
use Rattle.vsw_port.proofs.Fronts.{append_end}
use Rattle.vsw_history_law.proofs.Reports.{map_append}
use Rattle.vsw_workers.specs.Rounds.{AllFinish, Does, Finishes, Rests}
use Rattle.vsw_actors.specs.declared.actor.Begun.{Begun}
use Rattle.vsw_actors.specs.declared.actor.Placed.{Placed}
use Rattle.vsw_actors.specs.declared.seat.Seat.{Seat}
use Rattle.vsw_actors.specs.declared.seat.Seat.TheVariants.{Caller, Reconciler}
use Rattle.vsw_actors.specs.Private.Reconciling.{HasNone, HasOneMore, Tally}
use Rattle.vsw_actors.specs.Private.Rows.{ActorSeen}
use Rattle.vsw_actors.specs.Private.Seats.{callers_in, done_of, seats_of, todo_of, who_of}

-- ---- one job

pub caller_does : {J P : Type 0} (S Q : Type 0) (b : Bool) (x y : ActorSeen P J) → MatchBool b (Does (λ a. a.0) (λ a. a.1) (λ a. a.2) x y) (Rests (λ a. a.0) (λ a. a.1) (λ a. a.2) x y) → MatchBool b (Does {A = Seat J P S Q} who_of done_of todo_of (Caller x) (Caller y)) (Rests {A = Seat J P S Q} who_of done_of todo_of (Caller x) (Caller y))
caller_does S Q true x y d = (ap (λ w. Some w) d.0, (Some d.1.0, ap (map Some) d.1.1, ap (map Some) d.1.2 ∙ map_append Some x.1 (d.1.0 ∷ [])))
caller_does S Q false x y r = (ap (map Some) r.0, ap (λ w. Caller w) r.1)

one_more : {A : Type 0} (n : ℕ) (a : A) → replicate (suc n) a ≡ replicate n a ++ a ∷ []
one_more zero a = refl
one_more (suc n) a = ap (λ w. a ∷ w) (one_more n a)

pub row_does : (J P S Q : Type 0) (b : Bool) (x y : Tally) → MatchBool b (HasOneMore x y) (HasNone x y) → MatchBool b (Does {A = Seat J P S Q} who_of done_of todo_of (Reconciler x) (Reconciler y)) (Rests {A = Seat J P S Q} who_of done_of todo_of (Reconciler x) (Reconciler y))
row_does J P S Q true x y d = (refl, (None, ap (λ n. replicate n None) d.0, ap (λ n. replicate n None) d.1 ∙ one_more x.done None))
row_does J P S Q false x y r = (ap (λ n. replicate n None) r.0, ap (λ w. Reconciler w) r.1)

-- ---- callers among seats

pub callers_more : {J P S Q : Type 0} (xs ys : List (Seat J P S Q)) → callers_in (xs ++ ys) ≡ callers_in xs ++ callers_in ys
callers_more [] ys = refl
callers_more (Caller a ∷ xs) ys = ap (λ w. a ∷ w) (callers_more xs ys)
callers_more (Reconciler r ∷ xs) ys = callers_more xs ys

-- ---- a round later

some_is : {A : Type 0} (x y : A) → ◌≡◌ {A = Option A} (Some x) (Some y) → x ≡ y
some_is x y e = cc

some_none : {A : Type 0} (x : A) → ◌≡◌ {A = Option A} (Some x) None → ⊥
some_none x e = absurd cc

all_some : {A : Type 0} (xs ys : List A) → map Some xs ≡ map Some ys → xs ≡ ys
all_some [] [] e = refl
all_some [] (y ∷ ys) e = absurd cc
all_some (x ∷ xs) [] e = absurd cc
all_some (x ∷ xs) (y ∷ ys) e =
    let head : ◌≡◌ {A = Option _} (Some x) (Some y) = cc e in
    let tail : map Some xs ≡ map Some ys = cc e in
    ap₂ (λ u us. u ∷ us) (some_is x y head) (all_some xs ys tail)

one_finishes : {J P : Type 0} (S Q : Type 0) (x y : ActorSeen P J) → Finishes {A = Seat J P S Q} who_of done_of todo_of (Caller x) (Caller y) → Finishes (λ a. a.0) (λ a. a.1) (λ a. a.2) x y
one_finishes S Q x y f = (some_is y.0 x.0 f.0, all_some y.2 [] f.1, all_some y.1 (x.1 ++ x.2) (f.2 ∙ sym (map_append Some x.1 x.2)))

pub callers_finish : {J P : Type 0} (S Q : Type 0) (actors : List (ActorSeen P J)) (r : Tally) (seats : List (Seat J P S Q)) → AllFinish who_of done_of todo_of (seats_of actors r) seats → AllFinish (λ a. a.0) (λ a. a.1) (λ a. a.2) actors (callers_in seats)
callers_finish S Q [] r [] f = absurd f
callers_finish S Q [] r (Caller b ∷ []) f = absurd (some_none b.0 f.0.0)
callers_finish S Q [] r (Caller b ∷ (s ∷ seats)) f = absurd f.1
callers_finish S Q [] r (Reconciler q ∷ []) f = tt
callers_finish S Q [] r (Reconciler q ∷ (s ∷ seats)) f = absurd f.1
callers_finish S Q (a ∷ actors) r [] f = absurd f
callers_finish S Q (a ∷ actors) r (Caller b ∷ seats) f = (one_finishes S Q a b f.0, callers_finish S Q actors r seats f.1)
callers_finish S Q (a ∷ actors) r (Reconciler q ∷ seats) f = absurd (some_none a.0 (sym f.0.0))
