-- All actors of a round: actor k has row k of the lanes, one a port, and share k of the jobs.
use Rattle.std.specs.Prelude.{◌≡◌, ◌<◌, ℕ, suc, List, [], ◌∷◌, length, Vec}
use Rattle.vsw_promise.specs.Ports.{PortSeen}
use Rattle.vsw_port.specs.Calls.{Job, Call}
use Rattle.vsw_many.specs.Passes.{PassNow}
use Rattle.vsw_actors.specs.declared.actor.Placed.{Placed}
use Rattle.vsw_actors.specs.declared.lane.Lane.{Lane}
use Rattle.vsw_actors.specs.Actors.{AreAlike, AreMine, Begins, HasDone}
use Rattle.vsw_actors.specs.Lanes.{AreFit, fronts_of}

-- actor k may begin a round with these lanes and these jobs
pub record IsSetUp {J P S : Type 0} (port_in : P → PortSeen) (locals : P → List ℕ) (pass_in : S → PassNow) (job_in : J → Job) (tells : S → List Call → Type 0) (is_of : P → S → Type 0) (permits : S → ℕ) (takes : P → ℕ → J → Type 0) (k : ℕ) (ps : List P) (ls : List (Lane S)) (js : List (Placed J)) : Type 0 where
  pub alike : AreAlike locals ps
  pub same : length ps ≡ length ls
  pub small : length ps < 65536
  pub few : length js < 4294967296
  pub begins : Begins port_in pass_in tells k ps ls
  pub fit : AreFit pass_in is_of permits k (length js) ps ls
  pub mine : AreMine port_in job_in takes k ps js

-- the actors from k on may begin a round with these rows of lanes and these shares of jobs
abbrev pub MayBegin : {J P S F G : Type 0} → (P → PortSeen) → (P → List ℕ) → (S → PassNow) → (J → Job) → (S → List Call → Type 0) → (P → S → Type 0) → (S → ℕ) → (P → ℕ → J → Type 0) → ℕ → List P → List (Vec (Lane S) F) → List (Vec (Placed J) G) → Type 0
MayBegin port_in locals pass_in job_in tells is_of permits takes k ps [] [] = Unit {0}
MayBegin port_in locals pass_in job_in tells is_of permits takes k ps (r ∷ rs) (s ∷ ss) = IsSetUp port_in locals pass_in job_in tells is_of permits takes k ps r.items s.items × MayBegin port_in locals pass_in job_in tells is_of permits takes (suc k) ps rs ss
MayBegin port_in locals pass_in job_in tells is_of permits takes k ps _ _ = ⊥

-- the actors from k on, whose rows were those, have done all jobs of their shares, and their rows are these
abbrev pub HaveDone : {J P S F G H : Type 0} → (P → PortSeen) → (P → List ℕ) → (S → PassNow) → (J → Job) → (S → List Call → Type 0) → (P → S → Type 0) → (S → ℕ) → ℕ → List P → List (Vec (Lane S) F) → List (Vec (Placed J) G) → List (Vec (Lane S) H) → Type 0
HaveDone port_in locals pass_in job_in tells is_of permits k ps [] [] [] = Unit {0}
HaveDone port_in locals pass_in job_in tells is_of permits k ps (r ∷ rs) (s ∷ ss) (t ∷ ts) =
    AreFit pass_in is_of permits k 0 ps t.items × HasDone port_in locals pass_in job_in tells k ps (fronts_of pass_in r.items) t.items s.items × HaveDone port_in locals pass_in job_in tells is_of permits (suc k) ps rs ss ts
HaveDone port_in locals pass_in job_in tells is_of permits k ps _ _ _ = ⊥
