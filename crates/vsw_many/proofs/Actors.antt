-- Actors at work.
use Rattle.std.proofs.Common.{◌≡◌, ◌≢◌, ℕ, suc, ◌==◌, Bool, true, false, if◌then◌else◌, List, [], ◌∷◌, ◌++◌, map, filter, refl, ap, sym, ◌∙◌, subst, ne_eqb, eq-eqb}
use native.Mathlib.Decide.{ℕ_discrete}
use Rattle.vsw_policy.specs.Sound.{Each}
use Rattle.vsw_port.specs.declared.event.Event.{Event}
use Rattle.vsw_port.specs.Calls.{Job, job_of, job_doer, doer}
use Rattle.vsw_port.specs.History.{Opening}
use Rattle.vsw_port.proofs.Calls.{each_append}
use Rattle.vsw_port.proofs.Fronts.{append_end}
use Rattle.vsw_promise.specs.Jobs.{Placed, at_place}
use Rattle.vsw_promise.specs.Rounds.{opening_of}
use Rattle.vsw_promise.proofs.Handed.{place_append}
use Rattle.vsw_history_law.proofs.Reports.{doer_job, map_append}
use Rattle.vsw_many.specs.Law.{ActorBegins, ActorGoesOn, ActorEnds}
use Rattle.vsw_many.specs.Passes.{AtRest, Works}
use Rattle.vsw_many.specs.Phases.{Track, IsTrack}
use Rattle.vsw_many.specs.Actors.{AtWork, Moves}
use Rattle.vsw_many.proofs.Passes.{works_begin, works_go_on, rest_of_pass}

-- ---- jobs at a place

pub filter_append : {A : Type 0} (p : A → Bool) (xs ys : List A) → filter p (xs ++ ys) ≡ filter p xs ++ filter p ys
filter_append p [] ys = refl
filter_append p (x ∷ xs) ys = by (p x) (filter_append p xs ys)
  where
    by : (b : Bool) → filter p (xs ++ ys) ≡ filter p xs ++ filter p ys → (if b then x ∷ filter p (xs ++ ys) else filter p (xs ++ ys)) ≡ (if b then x ∷ filter p xs else filter p xs) ++ filter p ys
    by true ih = ap (λ w. x ∷ w) ih
    by false ih = ih

placed_here : (i at : ℕ) (j : Job) (done : List Placed) → at ≡ i → at_place i (done ++ (at, j) ∷ []) ≡ at_place i done ++ j ∷ []
placed_here i at j done e =
    let t : (at == i) ≡ true = eq-eqb at i e in
    let here : at_place i ((at, j) ∷ []) ≡ j ∷ [] = rw t refl in
    place_append i done ((at, j) ∷ []) ∙ ap (λ v. at_place i done ++ v) here

placed_elsewhere : (i at : ℕ) (j : Job) (done : List Placed) → at ≢ i → at_place i (done ++ (at, j) ∷ []) ≡ at_place i done
placed_elsewhere i at j done ne =
    let t : (at == i) ≡ false = ne_eqb at i ne in
    let none : at_place i ((at, j) ∷ []) ≡ [] = rw t refl in
    place_append i done ((at, j) ∷ []) ∙ (ap (λ v. at_place i done ++ v) none ∙ append_end (at_place i done))

-- ---- one more job

-- the track of a caller that did one more of its jobs
track_on : (o : Opening) (h : List Event) (k : ℕ) (j : Job) (t u : Track) → job_doer o.controllers j ≡ k → IsTrack o h k t → Moves o j t u → IsTrack o h k u
track_on o h k j t u who is m =
    let own : doer o.controllers m.call.deed ≡ k = sym (doer_job o.controllers m.call.deed) ∙ (ap (job_doer o.controllers) m.crosses.about ∙ who) in record {
      rest = subst (AtRest o h k) (sym m.start) is.rest;
      works = subst (λ c. Works o u.start u.now c) (sym m.calls) (subst (λ p. Works o p u.now (t.calls ++ m.call ∷ [])) (sym m.start) (works_go_on o t.start t.now u.now t.calls j m.call is.works m.crosses));
      own = subst (Each (λ c. doer o.controllers c.deed ≡ k)) (sym m.calls) (each_append (λ c. doer o.controllers c.deed ≡ k) t.calls (m.call ∷ []) is.own (own, tt));
    }

track_jobs : (o : Opening) (j : Job) (t u : Track) → Moves o j t u → map (λ c. job_of c.deed) u.calls ≡ map (λ c. job_of c.deed) t.calls ++ j ∷ []
track_jobs o j t u m = ap (map (λ c. job_of c.deed)) m.calls ∙ (map_append (λ c. job_of c.deed) t.calls (m.call ∷ []) ∙ ap (λ w. map (λ c. job_of c.deed) t.calls ++ w ∷ []) m.crosses.about)

pub actor_begins : ActorBegins
actor_begins i k [] [] [] r = tt
actor_begins i k (p ∷ ps) (h ∷ hs) (q ∷ qs) r = (record { rest = r.0; works = works_begin (opening_of p) q; own = tt }, refl, actor_begins (suc i) k ps hs qs r.1)
actor_begins i k [] [] (q ∷ qs) r = absurd r
actor_begins i k [] (h ∷ hs) qs r = absurd r
actor_begins i k (p ∷ ps) [] qs r = absurd r
actor_begins i k (p ∷ ps) (h ∷ hs) [] r = absurd r

pub actor_goes_on : ActorGoesOn
actor_goes_on i k at j [] [] [] [] done who w d = tt
actor_goes_on i k at j (p ∷ ps) (h ∷ hs) (t ∷ ts) (u ∷ us) done who w d = by (ℕ_discrete at i) (actor_goes_on (suc i) k at j ps hs ts us done who.1 w.2 d.2)
  where
    by : Dec (at ≡ i) → AtWork (suc i) k ps hs us (done ++ (at, j) ∷ []) → AtWork i k (p ∷ ps) (h ∷ hs) (u ∷ us) (done ++ (at, j) ∷ [])
    by (yes e) rest =
        let m = d.0 e in
        (track_on (opening_of p) h k j t u who.0 w.0 m, track_jobs (opening_of p) j t u m ∙ (ap (λ v. v ++ j ∷ []) w.1 ∙ sym (placed_here i at j done e)), rest)
    by (no ne) rest =
        let same : u ≡ t = d.1 ne in
        (subst (IsTrack (opening_of p) h k) (sym same) w.0, ap (λ v. map (λ c. job_of c.deed) v.calls) same ∙ (w.1 ∙ sym (placed_elsewhere i at j done ne)), rest)
actor_goes_on i k at j [] [] [] (u ∷ us) done who w d = absurd d
actor_goes_on i k at j [] [] (t ∷ ts) us done who w d = absurd w
actor_goes_on i k at j [] (h ∷ hs) ts us done who w d = absurd w
actor_goes_on i k at j (p ∷ ps) [] ts us done who w d = absurd w
actor_goes_on i k at j (p ∷ ps) (h ∷ hs) [] us done who w d = absurd w
actor_goes_on i k at j (p ∷ ps) (h ∷ hs) (t ∷ ts) [] done who w d = absurd d

pub actor_ends : ActorEnds
actor_ends i k [] [] [] [] [] done w m = (tt, tt)
actor_ends i k (p ∷ ps) (h ∷ hs) (g ∷ gs) (t ∷ ts) (q ∷ qs) done w m =
    let rest = actor_ends (suc i) k ps hs gs ts qs done w.2 m.1 in
    ((record { is = w.0; meets = m.0 }, w.1, rest.0), (rest_of_pass (opening_of p) h g k t.start t.now q t.calls w.0.rest w.0.works m.0, rest.1))
actor_ends i k [] [] [] [] (q ∷ qs) done w m = absurd m
actor_ends i k [] [] (g ∷ gs) [] qs done w m = absurd m
actor_ends i k [] [] gs (t ∷ ts) qs done w m = absurd w
actor_ends i k [] (h ∷ hs) gs ts qs done w m = absurd w
actor_ends i k (p ∷ ps) [] gs ts qs done w m = absurd w
actor_ends i k (p ∷ ps) (h ∷ hs) gs [] qs done w m = absurd w
actor_ends i k (p ∷ ps) (h ∷ hs) [] (t ∷ ts) qs done w m = absurd m
actor_ends i k (p ∷ ps) (h ∷ hs) (g ∷ gs) (t ∷ ts) [] done w m = absurd m
