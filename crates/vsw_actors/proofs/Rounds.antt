-- A round of all actors.
use Rattle.std.proofs.Common.{◌≡◌, ◌+◌, ℕ, zero, suc, List, [], ◌∷◌, ◌++◌, length, take, drop, Vec, subst, refl, ap, sym, ◌∙◌, arith, append_assoc}
use Rattle.std.proofs.Math.Seq.{take-append_seam}
use Rattle.std.specs.Prelude.{IfOk, Result, Ok, Err}
use Rattle.vsw_promise.specs.Ports.{PortSeen}
use Rattle.vsw_port.specs.Calls.{Job, Call}
use Rattle.vsw_port.proofs.Fronts.{append_end}
use Rattle.vsw_many.specs.Passes.{PassNow}
use Rattle.vsw_workers.specs.Rounds.{AllFinish}
use Rattle.vsw_actors.specs.declared.actor.Begun.{Begun}
use Rattle.vsw_actors.specs.declared.actor.Placed.{Placed}
use Rattle.vsw_actors.specs.declared.lane.Lane.{Lane}
use Rattle.vsw_actors.specs.Actors.{HasDone}
use Rattle.vsw_actors.specs.Lanes.{AreFit, fronts_of}
use Rattle.vsw_actors.specs.Private.Rows.{ActorSeen, AllEnd, begun_rows}
use Rattle.vsw_actors.specs.Rows.{HaveDone, IsSetUp, MayBegin}

-- ---- all begin

-- as many shares as rows
pub shares_left : {J P S F G : Type 0} (port_in : P → PortSeen) (locals : P → List ℕ) (pass_in : S → PassNow) (job_in : J → Job) (tells : S → List Call → Type 0) (is_of : P → S → Type 0) (permits : S → ℕ) (takes : P → ℕ → J → Type 0) (k : ℕ) (ps : List P) (rs : List (Vec (Lane S) F)) (ss : List (Vec (Placed J) G))
    → MayBegin port_in locals pass_in job_in tells is_of permits takes k ps rs ss → length ss ≡ length rs
shares_left port_in locals pass_in job_in tells is_of permits takes k ps [] [] m = refl
shares_left port_in locals pass_in job_in tells is_of permits takes k ps [] (s ∷ ss) m = absurd m
shares_left port_in locals pass_in job_in tells is_of permits takes k ps (r ∷ rs) [] m = absurd m
shares_left port_in locals pass_in job_in tells is_of permits takes k ps (r ∷ rs) (s ∷ ss) m = ap suc (shares_left port_in locals pass_in job_in tells is_of permits takes (suc k) ps rs ss m.1)

-- the next actor may begin
pub next_set_up : {J P S F G : Type 0} (port_in : P → PortSeen) (locals : P → List ℕ) (pass_in : S → PassNow) (job_in : J → Job) (tells : S → List Call → Type 0) (is_of : P → S → Type 0) (permits : S → ℕ) (takes : P → ℕ → J → Type 0) (k number : ℕ) (ps : List P) (all rs : List (Vec (Lane S) F)) (r : Vec (Lane S) F) (shares ss : List (Vec (Placed J) G)) (s : Vec (Placed J) G)
    → number ≡ k → all ≡ r ∷ rs → shares ≡ s ∷ ss → MayBegin port_in locals pass_in job_in tells is_of permits takes k ps all shares → IsSetUp port_in locals pass_in job_in tells is_of permits takes number ps r.items s.items
next_set_up port_in locals pass_in job_in tells is_of permits takes k number ps all rs r shares ss s same e f m =
    subst (λ w. IsSetUp port_in locals pass_in job_in tells is_of permits takes w ps r.items s.items) (sym same) (subst (λ w. MayBegin port_in locals pass_in job_in tells is_of permits takes k ps (r ∷ rs) w) f (subst (λ w. MayBegin port_in locals pass_in job_in tells is_of permits takes k ps w shares) e m)).0

-- and so may those after it
pub others_begin : {J P S F G : Type 0} (port_in : P → PortSeen) (locals : P → List ℕ) (pass_in : S → PassNow) (job_in : J → Job) (tells : S → List Call → Type 0) (is_of : P → S → Type 0) (permits : S → ℕ) (takes : P → ℕ → J → Type 0) (k n : ℕ) (ps : List P) (all rs : List (Vec (Lane S) F)) (r : Vec (Lane S) F) (shares ss : List (Vec (Placed J) G)) (s : Vec (Placed J) G)
    → n ≡ k + 1 → all ≡ r ∷ rs → shares ≡ s ∷ ss → MayBegin port_in locals pass_in job_in tells is_of permits takes k ps all shares → MayBegin port_in locals pass_in job_in tells is_of permits takes n ps rs ss
others_begin port_in locals pass_in job_in tells is_of permits takes k n ps all rs r shares ss s next e f m =
    let one : n ≡ suc k = omega (arith, next) in
    subst (λ w. MayBegin port_in locals pass_in job_in tells is_of permits takes w ps rs ss) (sym one) (subst (λ w. MayBegin port_in locals pass_in job_in tells is_of permits takes k ps (r ∷ rs) w) f (subst (λ w. MayBegin port_in locals pass_in job_in tells is_of permits takes k ps w shares) e m)).1

pub begun_on : {J P S F G : Type 0} (pass_in : S → PassNow) (k n number : ℕ) (ps : List P) (all rs : List (Vec (Lane S) F)) (r : Vec (Lane S) F) (shares ss : List (Vec (Placed J) G)) (s : Vec (Placed J) G) (old new whole : List (ActorSeen P J)) (a : ActorSeen P J)
    → n ≡ k + 1 → number ≡ k → all ≡ r ∷ rs → shares ≡ s ∷ ss → new ≡ old ++ a ∷ [] → a ≡ (record { number = number; ports = ps; histories = fronts_of pass_in r.items }, [], s.items)
    → old ++ begun_rows pass_in k ps all shares ≡ whole → new ++ begun_rows pass_in n ps rs ss ≡ whole
begun_on pass_in k n number ps all rs r shares ss s old new whole a next same e f put is before =
    let one : n ≡ suc k = omega (arith, next) in
    ap (λ w. new ++ begun_rows pass_in w ps rs ss) one
    ∙ (ap (λ w. w ++ begun_rows pass_in (suc k) ps rs ss) put
    ∙ (append_assoc old (a ∷ []) (begun_rows pass_in (suc k) ps rs ss)
    ∙ (ap (λ w. old ++ w ∷ begun_rows pass_in (suc k) ps rs ss) (is ∙ begun_at same)
    ∙ (ap (λ w. old ++ begun_rows pass_in k ps (r ∷ rs) w) (sym f)
    ∙ (ap (λ w. old ++ begun_rows pass_in k ps w shares) (sym e)
    ∙ before)))))
  where
    begun_at : number ≡ k → ◌≡◌ {A = ActorSeen _ _} (record { number = number; ports = ps; histories = fronts_of pass_in r.items }, [], s.items) (record { number = k; ports = ps; histories = fronts_of pass_in r.items }, [], s.items)
    begun_at same = λ i. (record { number = same i; ports = ps; histories = fronts_of pass_in r.items }, [], s.items)

pub none_left : {J P S F G : Type 0} (pass_in : S → PassNow) (k : ℕ) (ps : List P) (rs : List (Vec (Lane S) F)) (ss : List (Vec (Placed J) G)) (old whole : List (ActorSeen P J)) → length rs ≡ 0 → old ++ begun_rows pass_in k ps rs ss ≡ whole → old ≡ whole
none_left pass_in k ps [] [] old whole none e = sym (append_end old) ∙ e
none_left pass_in k ps [] (s ∷ ss) old whole none e = sym (append_end old) ∙ e
none_left pass_in k ps (r ∷ rs) ss old whole none e = absurd (omega (arith, none))

-- ---- all end

-- whatever the rows of those that are left, with them behind these the rows of all are whole
pub record EndsWith {J P S F : Type 0} (port_in : P → PortSeen) (locals : P → List ℕ) (pass_in : S → PassNow) (job_in : J → Job) (tells : S → List Call → Type 0) (is_of : P → S → Type 0) (permits : S → ℕ) (all left : List (ActorSeen P J)) (rows : List (Vec (Lane S) F)) : Type 0 where
  pub ends : (more : List (Vec (Lane S) F)) → AllEnd port_in locals pass_in job_in tells is_of permits left more → AllEnd port_in locals pass_in job_in tells is_of permits all (rows ++ more)

pub ends_first : {J P S F : Type 0} (port_in : P → PortSeen) (locals : P → List ℕ) (pass_in : S → PassNow) (job_in : J → Job) (tells : S → List Call → Type 0) (is_of : P → S → Type 0) (permits : S → ℕ) (all : List (ActorSeen P J)) (rows : List (Vec (Lane S) F)) → rows ≡ [] → EndsWith port_in locals pass_in job_in tells is_of permits all all rows
ends_first port_in locals pass_in job_in tells is_of permits all rows none = record { ends = λ more e. subst (AllEnd port_in locals pass_in job_in tells is_of permits all) (sym (ap (λ w. w ++ more) none)) e }

pub ends_on : {J P S F : Type 0} (port_in : P → PortSeen) (locals : P → List ℕ) (pass_in : S → PassNow) (job_in : J → Job) (tells : S → List Call → Type 0) (is_of : P → S → Type 0) (permits : S → ℕ) (all left rest : List (ActorSeen P J)) (a : ActorSeen P J) (old new : List (Vec (Lane S) F)) (t : Vec (Lane S) F)
    → left ≡ a ∷ rest → new ≡ old ++ t ∷ [] → AreFit pass_in is_of permits a.0.number (length a.2) a.0.ports t.items → HasDone port_in locals pass_in job_in tells a.0.number a.0.ports a.0.histories t.items a.1
    → EndsWith port_in locals pass_in job_in tells is_of permits all left old → EndsWith port_in locals pass_in job_in tells is_of permits all rest new
ends_on port_in locals pass_in job_in tells is_of permits all left rest a old new t e put fit done w = record {
  ends = λ more m. subst (AllEnd port_in locals pass_in job_in tells is_of permits all) (sym (ap (λ v. v ++ more) put ∙ append_assoc old (t ∷ []) more)) (w.ends (t ∷ more) (subst (λ l. AllEnd port_in locals pass_in job_in tells is_of permits l (t ∷ more)) (sym e) (fit, done, m)));
}

pub all_end : {J P S F : Type 0} (port_in : P → PortSeen) (locals : P → List ℕ) (pass_in : S → PassNow) (job_in : J → Job) (tells : S → List Call → Type 0) (is_of : P → S → Type 0) (permits : S → ℕ) (all left : List (ActorSeen P J)) (rows : List (Vec (Lane S) F)) → length left ≡ 0 → EndsWith port_in locals pass_in job_in tells is_of permits all left rows
    → AllEnd port_in locals pass_in job_in tells is_of permits all rows
all_end port_in locals pass_in job_in tells is_of permits all [] rows none w = subst (AllEnd port_in locals pass_in job_in tells is_of permits all) (append_end rows) (w.ends [] tt)
all_end port_in locals pass_in job_in tells is_of permits all (a ∷ left) rows none w = absurd (omega (arith, none))

-- ---- from beginning to end

pub rows_done : {J P S F G H : Type 0} (port_in : P → PortSeen) (locals : P → List ℕ) (pass_in : S → PassNow) (job_in : J → Job) (tells : S → List Call → Type 0) (is_of : P → S → Type 0) (permits : S → ℕ) (takes : P → ℕ → J → Type 0) (k : ℕ) (ps : List P) (rs : List (Vec (Lane S) F)) (ss : List (Vec (Placed J) G)) (actors : List (ActorSeen P J)) (ts : List (Vec (Lane S) H))
    → MayBegin port_in locals pass_in job_in tells is_of permits takes k ps rs ss → AllFinish (λ a. a.0) (λ a. a.1) (λ a. a.2) (begun_rows pass_in k ps rs ss) actors → AllEnd port_in locals pass_in job_in tells is_of permits actors ts → HaveDone port_in locals pass_in job_in tells is_of permits k ps rs ss ts
rows_done port_in locals pass_in job_in tells is_of permits takes k ps [] [] [] [] m f e = tt
rows_done port_in locals pass_in job_in tells is_of permits takes k ps [] [] [] (t ∷ ts) m f e = absurd e
rows_done port_in locals pass_in job_in tells is_of permits takes k ps [] [] (b ∷ actors) ts m f e = absurd f
rows_done port_in locals pass_in job_in tells is_of permits takes k ps [] (s ∷ ss) actors ts m f e = absurd m
rows_done port_in locals pass_in job_in tells is_of permits takes k ps (r ∷ rs) [] actors ts m f e = absurd m
rows_done port_in locals pass_in job_in tells is_of permits takes k ps (r ∷ rs) (s ∷ ss) [] ts m f e = absurd f
rows_done port_in locals pass_in job_in tells is_of permits takes k ps (r ∷ rs) (s ∷ ss) (b ∷ actors) [] m f e = absurd e
rows_done port_in locals pass_in job_in tells is_of permits takes k ps (r ∷ rs) (s ∷ ss) (b ∷ actors) (t ∷ ts) m f e = (
  subst (λ (w : Begun _). AreFit pass_in is_of permits w.number 0 w.ports t.items) f.0.0 (subst (λ (w : List (Placed _)). AreFit pass_in is_of permits b.0.number (length w) b.0.ports t.items) f.0.1 e.0),
  subst (λ (w : Begun _). HasDone port_in locals pass_in job_in tells w.number w.ports w.histories t.items s.items) f.0.0 (subst (HasDone port_in locals pass_in job_in tells b.0.number b.0.ports b.0.histories t.items) f.0.2 e.1),
  rows_done port_in locals pass_in job_in tells is_of permits takes (suc k) ps rs ss actors ts m.1 f.1 e.2,
)

-- all of the first list are taken
pub all_taken : {A : Type 0} (n : ℕ) (xs ys : List A) → length xs ≡ n → take n (xs ++ ys) ≡ xs
all_taken n xs ys e = ap (λ m. take m (xs ++ ys)) (sym e) ∙ take-append_seam xs ys

-- the rows that the round gives back, if it had memory
pub rows_given : {J P S E F G H K : Type 0} (port_in : P → PortSeen) (locals : P → List ℕ) (pass_in : S → PassNow) (job_in : J → Job) (tells : S → List Call → Type 0) (is_of : P → S → Type 0) (permits : S → ℕ) (takes : P → ℕ → J → Type 0) (ps : List P) (rs : List (Vec (Lane S) F)) (ss : List (Vec (Placed J) G)) (begun actors : List (ActorSeen P J)) (r : Result (Vec (Vec (Lane S) H) K) E)
    → MayBegin port_in locals pass_in job_in tells is_of permits takes 0 ps rs ss → begun ≡ begun_rows pass_in 0 ps rs ss → AllFinish (λ a. a.0) (λ a. a.1) (λ a. a.2) begun actors → IfOk r (λ v. AllEnd port_in locals pass_in job_in tells is_of permits actors v.items)
    → IfOk r (λ v. HaveDone port_in locals pass_in job_in tells is_of permits 0 ps rs ss v.items)
rows_given port_in locals pass_in job_in tells is_of permits takes ps rs ss begun actors (Err e) m b f a = tt
rows_given port_in locals pass_in job_in tells is_of permits takes ps rs ss begun actors (Ok v) m b f a =
    rows_done port_in locals pass_in job_in tells is_of permits takes 0 ps rs ss actors v.items m (subst (λ w. AllFinish (λ a. a.0) (λ a. a.1) (λ a. a.2) w actors) b f) a
