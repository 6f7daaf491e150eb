-- What is done over all ports in a round is at each what is to be done there.
use Rattle.std.proofs.Common.{◌≡◌, ℕ, suc, ◌==◌, ◌&&◌, ◌||◌, not, Bool, true, false, if◌then◌else◌, List, [], ◌∷◌, ◌++◌, map, filter, refl, ap, sym, ◌∙◌, eq-eqb, ne_eqb}
use native.Mathlib.Decide.{ℕ_discrete}
use Rattle.vsw_commandfile.specs.declared.line.Line.{Line}
use Rattle.vsw_port.specs.Calls.{Ask, Job}
use Rattle.vsw_history_law.proofs.Callers.{place_one}
use Rattle.vsw_history_law.specs.Plain.{IsAsk}
use Rattle.vsw_policy.specs.Layers.{place_of}
use Rattle.vsw_policy.specs.Sound.{Each, are_distinct, is_listed}
use Rattle.vsw_promise.specs.Jobs.{Placed, at_place, before_jobs, during_jobs}
use Rattle.vsw_promise.proofs.Handed.{place_append}
use Rattle.vsw_promise.specs.Schedule.{commands_at}
use Rattle.vsw_switch.specs.Does.{placed_line}

-- ---- commands

-- a place is a port's exactly where its number is
same_test : (numbers : List ℕ) (number i port : ℕ) → place_of number numbers ≡ i → is_listed numbers number ≡ true → (place_of port numbers == i) ≡ (port == number)
same_test numbers number i port at listed = by (ℕ_discrete port number)
  where
    by : Dec (port ≡ number) → (place_of port numbers == i) ≡ (port == number)
    by (yes e) = eq-eqb (place_of port numbers) i (ap (λ n. place_of n numbers) e ∙ at) ∙ sym (eq-eqb port number e)
    by (no ne) = ne_eqb (place_of port numbers) i (λ f. ne (sym (place_one numbers number port listed (at ∙ sym f)))) ∙ sym (ne_eqb port number ne)

-- the commands of a round that pass a test, for all ports and for one
abbrev pub placed_lines : (Line → Bool) → List ℕ → List Line → ℕ → List Placed
placed_lines t numbers commands first = map (placed_line numbers) (filter t (commands_at first commands))

abbrev jobs_where : (Line → Bool) → List Line → ℕ → ℕ → List Job
jobs_where t commands first port = map Ask (filter (λ l. (l.at == first) && (l.port == port) && t l) commands)

line_step : (numbers : List ℕ) (i : ℕ) (l : Line) (t : Line → Bool) (xs ys : List Line) (a b d : Bool) → (place_of l.port numbers == i) ≡ b → t l ≡ d → at_place i (map (placed_line numbers) (filter t xs)) ≡ map Ask ys
    → at_place i (map (placed_line numbers) (filter t (if a then l ∷ xs else xs))) ≡ map Ask (if a && b && d then l ∷ ys else ys)
line_step numbers i l t xs ys true true true e f ih = rw (f, e) (ap (λ w. Ask l ∷ w) ih)
line_step numbers i l t xs ys true false true e f ih = rw (f, e) ih
line_step numbers i l t xs ys true true false e f ih = rw f ih
line_step numbers i l t xs ys true false false e f ih = rw f ih
line_step numbers i l t xs ys false true d e f ih = ih
line_step numbers i l t xs ys false false d e f ih = ih

lines_where : (t : Line → Bool) (numbers : List ℕ) (commands : List Line) (first i number : ℕ) → place_of number numbers ≡ i → is_listed numbers number ≡ true → at_place i (placed_lines t numbers commands first) ≡ jobs_where t commands first number
lines_where t numbers [] first i number at listed = refl
lines_where t numbers (l ∷ ls) first i number at listed =
    line_step numbers i l t (commands_at first ls) (filter (λ l. (l.at == first) && (l.port == number) && t l) ls) (l.at == first) (l.port == number) (t l) (same_test numbers number i l.port at listed) refl (lines_where t numbers ls first i number at listed)

-- ---- both

-- all that is done in a round: the "before" commands, the "during" commands, and the jobs of packets
abbrev pub jobs_done : List ℕ → List Line → ℕ → List Placed → List Placed
jobs_done numbers commands first jobs = placed_lines (λ l. not l.during) numbers commands first ++ (placed_lines (λ l. l.during) numbers commands first ++ jobs)

pub jobs_there : (numbers : List ℕ) (commands : List Line) (first : ℕ) (jobs : List Placed) (i number : ℕ) → place_of number numbers ≡ i → is_listed numbers number ≡ true
    → at_place i (jobs_done numbers commands first jobs) ≡ before_jobs commands first number ++ (during_jobs commands first number ++ at_place i jobs)
jobs_there numbers commands first jobs i number at listed =
    place_append i (placed_lines (λ l. not l.during) numbers commands first) (placed_lines (λ l. l.during) numbers commands first ++ jobs)
    ∙ (ap (λ w. w ++ at_place i (placed_lines (λ l. l.during) numbers commands first ++ jobs)) (lines_where (λ l. not l.during) numbers commands first i number at listed)
    ∙ ap (λ w. before_jobs commands first number ++ w) (place_append i (placed_lines (λ l. l.during) numbers commands first) jobs
    ∙ ap (λ w. w ++ at_place i jobs) (lines_where (λ l. l.during) numbers commands first i number at listed)))

-- those of the commands are commands
pub ask_alone : (numbers : List ℕ) (ls : List Line) → Each (λ (t : Placed). IsAsk t.1) (map (placed_line numbers) ls)
ask_alone numbers [] = tt
ask_alone numbers (l ∷ ls) = (tt, ask_alone numbers ls)

-- ---- the places of numbers

-- each of these numbers, from this place on, stands at its place
abbrev pub StandInPlace : List ℕ → ℕ → List ℕ → Type 0
StandInPlace numbers n [] = Unit {0}
StandInPlace numbers n (m ∷ ms) = (place_of m numbers ≡ n) × (is_listed numbers m ≡ true) × StandInPlace numbers (suc n) ms

or_parts : (a b : Bool) → (a || b) ≡ false → (a ≡ false) × (b ≡ false)
or_parts true b e = absurd (cc e)
or_parts false b e = (refl, e)

or_right : (a b : Bool) → b ≡ true → (a || b) ≡ true
or_right true b e = refl
or_right false b e = e

and_parts : (a b : Bool) → (a && b) ≡ true → (a ≡ true) × (b ≡ true)
and_parts true b e = (refl, e)
and_parts false b e = absurd (cc e)

not_true : (b : Bool) → not b ≡ true → b ≡ false
not_true true e = absurd (cc e)
not_true false e = refl

other : (x m : ℕ) → (x == m) ≡ false → (m == x) ≡ false
other x m e = ne_eqb m x (λ f. absurd (cc (e, eq-eqb x m (sym f))))

one_further : (x : ℕ) (numbers : List ℕ) (n : ℕ) (ms : List ℕ) → is_listed ms x ≡ false → StandInPlace numbers n ms → StandInPlace (x ∷ numbers) (suc n) ms
one_further x numbers n [] away s = tt
one_further x numbers n (m ∷ ms) away s =
    let parts = or_parts (x == m) (is_listed ms x) away in
    let apart : (m == x) ≡ false = other x m parts.0 in
    (rw apart (ap suc s.0), or_right (m == x) (is_listed numbers m) s.1, one_further x numbers (suc n) ms parts.1 s.2)

listed_first : (m : ℕ) (ms : List ℕ) → is_listed (m ∷ ms) m ≡ true
listed_first m ms = let here : (m == m) ≡ true = eq-eqb m m refl in rw here refl

place_first : (m : ℕ) (ms : List ℕ) → place_of m (m ∷ ms) ≡ 0
place_first m ms = let here : (m == m) ≡ true = eq-eqb m m refl in rw here refl

pub stand_in_place : (ms : List ℕ) → are_distinct ms ≡ true → StandInPlace ms 0 ms
stand_in_place [] d = tt
stand_in_place (m ∷ ms) d =
    let parts = and_parts (not (is_listed ms m)) (are_distinct ms) d in
    (place_first m ms, listed_first m ms, one_further m ms 0 ms (not_true (is_listed ms m) parts.0) (stand_in_place ms parts.1))
