-- What a walk makes of a packet's stack: encapsulations go and come, and inner headers keep their kinds.
use Rattle.std.proofs.Common.{◌≡◌, ◌≤◌, ◌<◌, ◌∙◌, ℕ, zero, suc, ◌-◌, ◌*◌, true, false, List, [], ◌∷◌, ◌++◌, map, take, drop, Option, Some, None, refl, sym, subst, arith}
use Rattle.std.specs.Prelude.{min, if◌then◌else◌}
use Rattle.std.proofs.lemmas.Bool.Decides.{nat_tests}
use Rattle.vsw_base.specs.declared.fate.Verdict.{Verdict}
use Rattle.vsw_base.specs.declared.fate.Verdict.TheVariants.{Default, Rule}
use Rattle.vsw_base.specs.declared.flow.Crossing.{Crossing}
use Rattle.vsw_base.specs.declared.flow.Outer.{Outer}
use Rattle.vsw_base.specs.declared.flow.Set.{Set}
use Rattle.vsw_base.specs.declared.header.Header.{Header}
use Rattle.vsw_base.specs.declared.header.Header.TheVariants.{Ether, Ip, Vxlan, Ports, Six}
use Rattle.vsw_base.specs.declared.packet.Control.{Control}
use Rattle.vsw_base.specs.declared.packet.Dir.{Dir}
use Rattle.vsw_base.specs.Shape.{encaps}
use Rattle.vsw_rule.specs.Choice.{Chosen, choose}
use Rattle.vsw_rule.specs.Edit.{cover, edited, kept_after, with_set, written}
use Rattle.vsw_walk.specs.Walk.{along, by_visit, crossed, placed, walk_of}
use Rattle.vsw_header.specs.Key.{key_from}
use Rattle.vsw_frame.specs.Bytes.{AreLike, IsLike}
use Rattle.vsw_frame.proofs.Carried.{Carries, carries_count, likes_on}
use Rattle.vsw_policy.specs.Layer.{LayerSeen}
use Rattle.vsw_layerflow.specs.declared.pair.Pair.{Pair}
use Rattle.vsw_layerflow.specs.Pairs.{pair_of}
use Rattle.vsw_rule.specs.declared.rule.Action.{Action}
use Rattle.vsw_rule.specs.declared.rule.Action.TheVariants.{Allow, Drop, Edit}
use Rattle.vsw_rule.specs.Match.{can_do}
use Rattle.vsw_layerflow.specs.declared.tcp_state.Tracked.{Tracked}
use Rattle.vsw_layerflow.specs.declared.tcp_state.Tracked.TheVariants.{To, Reopen}
use Rattle.vsw_layerflow.specs.Track.{track_of}
use Rattle.vsw_walk.specs.declared.outcome.Visit.{Visit}
use Rattle.vsw_walk.specs.declared.outcome.Visit.TheVariants.{Stops, Goes}
use Rattle.vsw_walk.specs.declared.outcome.Want.{Want}
use Rattle.vsw_walk.specs.Visit.{IfGoes, allows, by_action, by_choice, by_pair, by_state, visit_of, wanted}
use Rattle.vsw_walk.proofs.Chosen.{chosen_can}

-- inner fields that are written
written_like : (set : Set) (h : Header) → IsLike h (written set h)
written_like set (Ether d s k) = refl
written_like set (Ip a b p f) = refl
written_like set (Vxlan v) = refl
written_like set (Ports p x y) = refl
written_like set (Six a b p) = refl

all_written : (set : Set) (hs : List Header) → AreLike hs (map (written set) hs)
all_written set [] = tt
all_written set (h ∷ hs) = (written_like set h, all_written set hs)

written_count : (set : Set) (hs : List Header) → encaps (map (written set) hs) ≡ encaps hs
written_count set [] = refl
written_count set (Ether d s k ∷ hs) = written_count set hs
written_count set (Ip a b p f ∷ hs) = written_count set hs
written_count set (Vxlan v ∷ hs) = omega (arith, written_count set hs)
written_count set (Ports p x y ∷ hs) = written_count set hs
written_count set (Six a b p ∷ hs) = written_count set hs

abbrev set_at : Set → ℕ → List Header → List Header
set_at set n hs = take (3 * n) hs ++ map (written set) (drop (3 * n) hs)

carries_at : (set : Set) (n : ℕ) (core hs : List Header) → Carries n core hs → Carries n core (set_at set n hs)
carries_at set zero core hs c = (written_count set hs ∙ c.0, likes_on core hs (map (written set) hs) c.1 (all_written set hs))
carries_at set (suc n) core (Ether d s k ∷ Ip a b p f ∷ Vxlan v ∷ hs) c =
    let gs : List Header = Ether d s k ∷ Ip a b p f ∷ Vxlan v ∷ hs in
    let three : suc (suc (suc (3 * n))) ≡ 3 * suc n = omega arith in
    subst (λ (m : ℕ). Carries (suc n) core (take m gs ++ map (written set) (drop m gs))) three (carries_at set n core hs c)
carries_at set (suc n) core hs c = absurd c

carries_set : (set : Set) (n : ℕ) (core hs : List Header) → Carries n core hs → Carries n core (with_set set hs)
carries_set set n core hs c = subst (λ (m : ℕ). Carries n core (set_at set m hs)) (sym (carries_count n core hs c)) (carries_at set n core hs c)

-- without the first encapsulation
uncovers : (n : ℕ) (core hs : List Header) → 0 < n → Carries n core hs → Carries (n - 1) core (drop 3 hs)
uncovers zero core hs h c = absurd (omega (arith, h))
uncovers (suc n) core (Ether d s k ∷ Ip a b p f ∷ Vxlan v ∷ hs) h c = subst (λ (m : ℕ). Carries m core hs) (omega arith) c
uncovers (suc n) core hs h c = absurd c

-- a stack, so many of whose encapsulations were kept from a first one
pub record Follows (core : List Header) (most : ℕ) (hs : List Header) (kept : ℕ) : Type 0 where
  pub number : ℕ
  pub carries : Carries number core hs
  pub of_first : kept ≤ most
  pub of_edited : kept ≤ number

covers : (encap : Option Outer) (most n kept : ℕ) (core hs : List Header) → Carries n core hs → kept ≤ most → kept ≤ n → Follows core most (cover encap ++ hs) kept
covers None most n kept core hs c f h = record { number = n; carries = c; of_first = f; of_edited = h }
covers (Some o) most n kept core hs c f h = record { number = suc n; carries = c; of_first = f; of_edited = omega (arith, h) }

-- a decap leaves at most as many as were kept, and at most as many as there are behind the one that it takes
taken : (n kept : ℕ) → (min kept (n - 1) ≤ kept) × (min kept (n - 1) ≤ n - 1)
taken n kept = (omega arith, omega arith)

follows_on : (a : Action) (core : List Header) (most : ℕ) (hs : List Header) (kept : ℕ) → can_do a hs ≡ true → Follows core most hs kept → Follows core most (edited a hs) (kept_after a hs kept)
follows_on Allow core most hs kept t f = f
follows_on Drop core most hs kept t f = f
follows_on (Edit false set encap) core most hs kept t f = covers encap most f.number kept core (with_set set hs) (carries_set set f.number core hs f.carries) f.of_first f.of_edited
follows_on (Edit true set encap) core most hs kept t f =
    let count : encaps hs ≡ f.number = carries_count f.number core hs f.carries in
    let some : 0 < encaps hs = grind (arith, nat_tests) in
    let left = taken (encaps hs) kept in
    let rest : Carries (f.number - 1) core (drop 3 hs) = uncovers f.number core hs (omega (arith, some, count)) f.carries in
    covers encap most (f.number - 1) (kept_after (Edit true set encap) hs kept) core (with_set set (drop 3 hs)) (carries_set set (f.number - 1) core (drop 3 hs) rest) (omega (arith, left.0, f.of_first)) (omega (arith, left.1, count))

-- what a layer does to a packet that goes on can be done
abbrev pub Can : List Header → Visit → Type 0
Can hs v = IfGoes v (λ a. can_do a hs ≡ true)

action_can : (hs : List Header) (a b : Action) (verdict : Verdict) (leaves : Option ℕ) (wants : Option Want) → can_do b hs ≡ true → Can hs (by_action a (Stops verdict) (Goes b leaves wants))
action_can hs Allow b verdict leaves wants t = t
action_can hs Drop b verdict leaves wants t = tt
action_can hs (Edit decap set encap) b verdict leaves wants t = t

choice_can : (l : LayerSeen) (d : Dir) (c : Control) (moment : ℕ) (hs : List Header) (leaves : Option ℕ) (o : Option Chosen) → choose d l.groups hs ≡ o → Can hs (by_choice l d c moment hs leaves o)
choice_can l d c moment hs leaves None e =
    elim (allows l.spec d) as (λ b. Can hs (if b then Goes Allow leaves None else Stops (Default l.controller l.spec.layer d))) [ true ↦ refl | false ↦ tt ]
choice_can l d c moment hs leaves (Some o) e =
    action_can hs o.rule.action o.rule.action (Rule l.controller l.spec.layer o.group o.rule.number) leaves (wanted l.next_pair d c moment hs o.group o.rule) (chosen_can d l.groups hs o e)

state_can : (l : LayerSeen) (d : Dir) (c : Control) (moment : ℕ) (hs : List Header) (p : Pair) (t : Tracked) → Can hs (by_state l d c moment hs p t)
state_can l d c moment hs p (To t) = refl
state_can l d c moment hs p Reopen = choice_can l d c moment hs (Some p.number) (choose d l.groups hs) refl

pub pair_can : (l : LayerSeen) (d : Dir) (c : Control) (moment : ℕ) (hs : List Header) (o : Option Pair) → Can hs (by_pair l d c moment hs o)
pair_can l d c moment hs None = choice_can l d c moment hs None (choose d l.groups hs) refl
pair_can l d c moment hs (Some p) = state_can l d c moment hs p (track_of p.state p.dir c d)

along_follows : (core : List Header) (most : ℕ) (d : Dir) (c : Control) (moment : ℕ) (es : List (ℕ × LayerSeen)) (hs : List Header) (kept : ℕ)
    → Follows core most hs kept → Follows core most (along d c moment es hs kept).stack (along d c moment es hs kept).kept
along_follows core most d c moment [] hs kept f = f
along_follows core most d c moment (e ∷ es) hs kept f =
    by (visit_of e.1 d c moment hs) (pair_can e.1 d c moment hs (pair_of d (key_from hs) e.1.pairs)) (λ ks left g. along_follows core most d c moment es ks left g)
  where
    Rest : Type 0
    Rest = (ks : List Header) (left : ℕ) → Follows core most ks left → Follows core most (along d c moment es ks left).stack (along d c moment es ks left).kept

    by : (v : Visit) → Can hs v → Rest
        → Follows core most (by_visit e.0 hs kept v (λ ks left. along d c moment es ks left)).stack (by_visit e.0 hs kept v (λ ks left. along d c moment es ks left)).kept
    by (Stops verdict) t ih = f
    by (Goes action leaves wants) t ih = ih (edited action hs) (kept_after action hs kept) (follows_on action core most hs kept t f)

-- the stack that a walk ends with
pub walk_follows : (ls : List LayerSeen) (x : Crossing) (core : List Header) → Carries (encaps x.id.stack) core x.id.stack → Follows core (encaps x.id.stack) (walk_of ls x).stack (walk_of ls x).kept
unfolding walk_of
walk_follows ls x core c =
    along_follows core (encaps x.id.stack) x.id.dir x.control x.moment (crossed x.id.dir (placed 0 ls)) x.id.stack (encaps x.id.stack)
    (record { number = encaps x.id.stack; carries = c; of_first = omega arith; of_edited = omega arith })
