-- Picks that are given to their workers.
use Rattle.std.proofs.Common.{◌≡◌, ◌<◌, ℕ, zero, suc, ◌+◌, List, [], ◌∷◌, ◌++◌, length, map, get_or, slice_get, slice_set, replicate, take, Vec, Option, Some, None, Result, Ok, Err, OnOk, refl, ap, ap₂, sym, ◌∙◌, subst, arith, length-append}
use Rattle.std.specs.Prelude.{⊤}
use Rattle.vsw_base.specs.declared.fault.NoMemory.{NoMemory}
use Rattle.vsw_base.specs.declared.flow.Place.{Place}
use Rattle.vsw_base.specs.Frame.{frame_of}
use Rattle.vsw_pcap.specs.declared.batch.Captured.{Captured}
use Rattle.vsw_pcap.specs.declared.capture.Record.{Record}
use Rattle.vsw_policy.specs.Sound.{Each}
use Rattle.vsw_port.proofs.Calls.{each_append}
use Rattle.vsw_port.specs.Calls.{Carry, job_doer}
use Rattle.vsw_promise.specs.Jobs.{crossing_by}
use Rattle.vsw_many.specs.Dealing.{deal}
use Rattle.vsw_promise.specs.Jobs as jobs
use Rattle.vsw_actors.specs.Actors.{placed_of}
use Rattle.vsw_actors.specs.Handed.{with_more}
use Rattle.vsw_actors.specs.Picks.{ArePicks, AtMost, IsPick, carried_by, dealt_to, picked, picked_job, picked_jobs}
use Rattle.vsw_actors.specs.Private.Aims.{IsBrought, IsCarried, packet_job}
use Rattle.vsw_pcap.specs.Batch.{lent_record}
use Rattle.vsw_actors.specs.Work.{IsWork, job_in, parts_in}
use Rattle.vsw_actors.specs.declared.actor.Placed.{Placed}
use Rattle.vsw_actors.specs.declared.pick.Pick.{Pick}
use Rattle.vsw_actors.specs.declared.work.Packet.{Packet}
use Rattle.vsw_actors.specs.declared.work.Work.{Work}
use Rattle.vsw_actors.specs.declared.work.Work.TheVariants as work
use Rattle.vsw_actors.proofs.Sharing.{each_set, length_map_counted, map_end, none_dealt, put_dealt}
use Rattle.vsw_actors.proofs.Doing.{take_next}
use Rattle.vsw_actors.proofs.Steps.{each_there, there_within}

-- ---- one more pick of a worker

doer_is : (cs : List ℕ) (w n : ℕ) (place : Place) (o : Option Record) → job_doer cs (carried_by w n place o) ≡ w
doer_is cs w n place None = refl
doer_is cs w n place (Some r) = refl

picked_set : {G : Type 0} (k first : ℕ) (packets : List Record) (xs : List (Vec Pick G)) (i : ℕ) (x y : Vec Pick G) (p : Pick) → i < length xs → x ≡ get_or xs i x → y.items ≡ x.items ++ p ∷ [] → picked k first packets (slice_set xs i y) ≡ with_more i (picked_job (k + i) first packets p) (picked k first packets xs)
picked_set {G} k first packets [] i x y p lt here e = absurd (omega (arith, lt))
picked_set {G} k first packets (z ∷ zs) zero x y p lt here e =
    let front : picked_jobs k first packets y.items ≡ picked_jobs k first packets x.items ++ picked_job k first packets p ∷ [] = ap (picked_jobs k first packets) e ∙ map_end (picked_job k first packets) x.items p in
    let same : k ≡ k + 0 = omega arith in
    ap (λ w. w ∷ picked (suc k) first packets zs) (front ∙ (ap (λ (w : Vec Pick G). picked_jobs k first packets w.items ++ picked_job k first packets p ∷ []) here ∙ ap (λ n. picked_jobs k first packets z.items ++ picked_job n first packets p ∷ []) same))
picked_set {G} k first packets (z ∷ zs) (suc i) x y p lt here e =
    let same : suc k + i ≡ k + suc i = omega arith in
    ap (λ w. picked_jobs k first packets z.items ∷ w) (picked_set (suc k) first packets zs i x y p (omega (arith, lt)) here e ∙ ap (λ n. with_more i (picked_job n first packets p) (picked (suc k) first packets zs)) same)

length_picked : {G : Type 0} (k first : ℕ) (packets : List Record) (xs : List (Vec Pick G)) → length (picked k first packets xs) ≡ length xs
length_picked k first packets [] = refl
length_picked k first packets (x ∷ xs) = ap suc (length_picked (suc k) first packets xs)

-- a pick was given to a worker
pub given_pick : {G : Type 0} (first : ℕ) (packets : List Record) (n : ℕ) (cs : List ℕ) (js : List jobs.Placed) (xs : List (Vec Pick G)) (i : ℕ) (x y : Vec Pick G) (p : Pick) (r : Result ⊤ NoMemory) → i < length xs → x ≡ get_or xs i x → OnOk r (y.items ≡ x.items ++ p ∷ [])
    → picked 0 first packets xs ≡ dealt_to n cs js → OnOk r (picked 0 first packets (slice_set xs i y) ≡ dealt_to n cs (js ++ picked_job i first packets p ∷ []))
given_pick first packets n cs js xs i x y p (Err f) lt here e so_far = tt
given_pick first packets n cs js xs i x y p (Ok u) lt here e so_far =
    let within : i < n = omega (arith, lt, length_picked 0 first packets xs, ap length so_far, length_map_counted (λ k. deal cs k js) 0 n) in
    let job = picked_job i first packets p in
    let doer : job_doer cs job.1 ≡ i = doer_is cs i (first + p.at) p.place (slice_get packets p.at) in
    let at : job_doer cs job.1 ≡ 0 + i = omega (arith, doer) in
    let same : 0 + i ≡ i = omega arith in
    picked_set 0 first packets xs i x y p lt here e ∙ (ap (λ m. with_more i (picked_job m first packets p) (picked 0 first packets xs)) same ∙ (ap (with_more i job) so_far ∙ put_dealt cs js job 0 n i within at))

-- it is one more of that worker's
pub put_pick : {G : Type 0} (first : ℕ) (packets : List Record) (xs : List (Vec Pick G)) (i : ℕ) (x y : Vec Pick G) (p : Pick) (r : Result ⊤ NoMemory) → i < length xs → x ≡ get_or xs i x → OnOk r (y.items ≡ x.items ++ p ∷ [])
    → OnOk r (picked 0 first packets (slice_set xs i y) ≡ with_more i (picked_job i first packets p) (picked 0 first packets xs))
put_pick first packets xs i x y p (Err f) lt here e = tt
put_pick first packets xs i x y p (Ok u) lt here e =
    let same : 0 + i ≡ i = omega arith in
    picked_set 0 first packets xs i x y p lt here e ∙ ap (λ m. with_more i (picked_job m first packets p) (picked 0 first packets xs)) same

pub given_fit : {G : Type 0} (ports : ℕ) (packets : List Record) (xs : List (Vec Pick G)) (i : ℕ) (x y : Vec Pick G) (p : Pick) (r : Result ⊤ NoMemory) → x ≡ get_or xs i x → OnOk r (y.items ≡ x.items ++ p ∷ []) → IsPick ports packets p → ArePicks ports packets xs → OnOk r (ArePicks ports packets (slice_set xs i y))
given_fit ports packets xs i x y p (Err f) here e is a = tt
given_fit ports packets xs i x y p (Ok u) here e is a = each_set (IsPick ports packets) xs i x y p here e is a

pub most_more : {G : Type 0} (n : ℕ) (xs : List (Vec Pick G)) → AtMost n xs → AtMost (n + 1) xs
most_more n [] a = tt
most_more n (x ∷ xs) a = (omega (arith, a.0), most_more n xs a.1)

most_set : {G : Type 0} (n : ℕ) (xs : List (Vec Pick G)) (i : ℕ) (x y : Vec Pick G) (p : Pick) → x ≡ get_or xs i x → y.items ≡ x.items ++ p ∷ [] → AtMost n xs → AtMost (n + 1) (slice_set xs i y)
most_set n [] i x y p here e a = tt
most_set {G} n (z ∷ zs) zero x y p here e a = (omega (arith, ap length e ∙ length-append x.items (p ∷ []), ap (λ (v : Vec Pick G). length v.items) here, a.0), most_more n zs a.1)
most_set n (z ∷ zs) (suc i) x y p here e a = (omega (arith, a.0), most_set n zs i x y p here e a.1)

pub given_few : {G : Type 0} (n : ℕ) (xs : List (Vec Pick G)) (i : ℕ) (x y : Vec Pick G) (p : Pick) (r : Result ⊤ NoMemory) → x ≡ get_or xs i x → OnOk r (y.items ≡ x.items ++ p ∷ []) → AtMost n xs → OnOk r (AtMost (n + 1) (slice_set xs i y))
given_few n xs i x y p (Err f) here e a = tt
given_few n xs i x y p (Ok u) here e a = most_set n xs i x y p here e a

-- ---- the packet of a pick

-- a record's pick is the job of its packet
pub pick_is : (worker first : ℕ) (c : Captured) (p : Packet) (packets : List Record) (q : Pick) → p.worker ≡ worker → p.number ≡ first + q.at → p.place ≡ q.place → p.micros ≡ c.moment → p.bytes.now ≡ c.bytes.now → slice_get packets q.at ≡ Some (lent_record c)
    → (p.place.port, job_in (work.Packet p)) ≡ picked_job worker first packets q
pick_is worker first c p packets q who number place moment bytes there =
    ap (λ w. (p.place.port, Carry (crossing_by w p.number p.place p.micros (parts_in p.bytes.now)) (parts_in p.bytes.now))) who
    ∙ (ap (λ w. (p.place.port, Carry (crossing_by worker w p.place p.micros (parts_in p.bytes.now)) (parts_in p.bytes.now))) number
    ∙ (ap (λ (w : Place). (w.port, Carry (crossing_by worker (first + q.at) w p.micros (parts_in p.bytes.now)) (parts_in p.bytes.now))) place
    ∙ (ap (λ w. (q.place.port, Carry (crossing_by worker (first + q.at) q.place w (parts_in p.bytes.now)) (parts_in p.bytes.now))) moment
    ∙ (ap (λ w. (q.place.port, Carry (crossing_by worker (first + q.at) q.place c.moment (parts_in w)) (parts_in w))) bytes
    ∙ ap (λ w. (q.place.port, carried_by worker (first + q.at) q.place w)) (sym there)))))

pub pick_work : (ports : ℕ) (cs : List ℕ) (c : Captured) (p : Packet) (packets : List Record) (q : Pick) → p.worker < 16 → p.place ≡ q.place → p.bytes.now ≡ c.bytes.now → slice_get packets q.at ≡ Some (lent_record c) → IsPick ports packets q → IsWork ports cs (packet_job p)
pick_work ports cs c p packets q who place bytes there is =
    let same : is.captured ≡ lent_record c = cc (is.there, there) in
    (subst (λ (w : Place). w.port < ports) (sym place) is.port, refl, (who, is.parts, subst (λ bs. frame_of bs ≡ Ok is.parts) (ap (λ (r : Record). r.bytes) same ∙ sym bytes) is.frame))

pub is_pick : (ports workers n at : ℕ) (c : Captured) (p : Packet) (packets : List Record) → slice_get packets at ≡ Some (lent_record c) → IsBrought workers n c p → IsCarried ports p → IsPick ports packets (record { at = at; place = p.place })
is_pick ports workers n at c p packets there b fit = record {
  port = fit.1;
  within = there_within packets at (lent_record c) there;
  captured = lent_record c;
  parts = fit.2;
  there = there;
  frame = subst (λ bs. frame_of bs ≡ Ok fit.2) b.bytes fit.3;
}

-- ---- no picks

pub none_picked : {G : Type 0} (k first n : ℕ) (packets : List Record) (cs : List ℕ) (vs : List (Vec Pick G)) → map (λ v. v.items) vs ≡ replicate n [] → picked k first packets vs ≡ dealt_to n cs []
none_picked k first n packets cs vs e = none k n vs e ∙ none_dealt cs 0 n
  where
    none : {G : Type 0} (k n : ℕ) (vs : List (Vec Pick G)) → map (λ v. v.items) vs ≡ replicate n [] → picked k first packets vs ≡ replicate n []
    none k zero [] e = refl
    none k (suc n) [] e = absurd (cc e)
    none k zero (v ∷ vs) e = absurd (cc e)
    none k (suc n) (v ∷ vs) e = let here : v.items ≡ [] = cc e in ap₂ (λ x y. x ∷ y) (ap (picked_jobs k first packets) here) (none (suc k) n vs (cc e))

pub none_fit : {G : Type 0} (ports n : ℕ) (packets : List Record) (vs : List (Vec Pick G)) → map (λ v. v.items) vs ≡ replicate n [] → ArePicks ports packets vs
none_fit ports n packets [] e = tt
none_fit ports zero packets (v ∷ vs) e = absurd (cc e)
none_fit ports (suc n) packets (v ∷ vs) e = let here : v.items ≡ [] = cc e in (subst (Each (IsPick ports packets)) (sym here) tt, none_fit ports n packets vs (cc e))

pub none_few : {G : Type 0} (n : ℕ) (vs : List (Vec Pick G)) → map (λ v. v.items) vs ≡ replicate n [] → AtMost 0 vs
none_few n [] e = tt
none_few zero (v ∷ vs) e = absurd (cc e)
none_few (suc n) (v ∷ vs) e = let here : v.items ≡ [] = cc e in (omega (arith, ap length here), none_few n vs (cc e))

pub none_size : {G : Type 0} (n : ℕ) (vs : List (Vec Pick G)) → map (λ v. v.items) vs ≡ replicate n [] → length vs ≡ n
none_size zero [] e = refl
none_size (suc n) [] e = absurd (cc e)
none_size zero (v ∷ vs) e = absurd (cc e)
none_size (suc n) (v ∷ vs) e = ap suc (none_size n vs (cc e))

-- ---- the jobs of picks

-- one more pick is one more job
pub jobs_next : (worker first i : ℕ) (packets : List Record) (ps : List Pick) (q : Pick) (p : Packet) (old new : List (Placed Work)) → slice_get ps i ≡ Some q → placed_of job_in (packet_job p) ≡ picked_job worker first packets q → new ≡ old ++ packet_job p ∷ []
    → map (placed_of job_in) old ≡ picked_jobs worker first packets (take i ps) → map (placed_of job_in) new ≡ picked_jobs worker first packets (take (i + 1) ps)
jobs_next worker first i packets ps q p old new there is put so_far =
    ap (map (placed_of job_in)) put ∙ (map_end (placed_of job_in) old (packet_job p) ∙ (ap₂ (λ xs x. xs ++ x ∷ []) so_far is
    ∙ (sym (map_end (picked_job worker first packets) (take i ps) q) ∙ ap (picked_jobs worker first packets) (sym (take_next i ps q there)))))

pub work_next : (ports i : ℕ) (cs : List ℕ) (packets : List Record) (ps : List Pick) (q : Pick) (p : Packet) (old new : List (Placed Work)) → slice_get ps i ≡ Some q → (IsPick ports packets q → IsWork ports cs (packet_job p)) → new ≡ old ++ packet_job p ∷ []
    → Each (IsPick ports packets) ps → Each (IsWork ports cs) old → Each (IsWork ports cs) new
work_next ports i cs packets ps q p old new there is put all so_far =
    subst (Each (IsWork ports cs)) (sym put) (each_append (IsWork ports cs) old (packet_job p ∷ []) so_far (is (each_there (IsPick ports packets) ps i q there all), tt))
