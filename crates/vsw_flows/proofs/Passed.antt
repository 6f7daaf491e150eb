-- What a command passes over by gists is left what it is told.
use Rattle.std.proofs.Common.{◌≡◌, ℕ, Bool, true, false, not, ◌&&◌, ◌||◌, List, [], ◌∷◌, map, refl, sym, ap, subst, ◌∙◌, true≢false}
use Rattle.std.specs.Prelude.{Option, Some, None, is_some, option_map}
use Rattle.std.specs.List.{list_all, slice_get}
use Rattle.vsw_base.specs.declared.packet.Dir.{Dir}
use Rattle.vsw_base.specs.Direction.{same_dir}
use Rattle.vsw_layerflow.specs.declared.pair.Pair.{Pair}
use Rattle.vsw_layerflow.specs.Pairs.{number_of, pair_of, same_bool}
use Rattle.vsw_policy.specs.declared.command.Command.{Command}
use Rattle.vsw_policy.specs.declared.command.Command.TheVariants.{AddLayer, RemoveLayer, AddGroup, RemoveGroup, PutRules, PutMany, AddRule, RemoveRule, SetDefault, Sweep}
use Rattle.vsw_policy.specs.Layer.{LayerSeen}
use Rattle.vsw_policy.specs.Sound.{Each}
use Rattle.vsw_rows.proofs.Ways.{right_looks}
use Rattle.vsw_rows.specs.Shaken.{IsRight, found_in}
use Rattle.vsw_spares.specs.Spared.{by_found, leaves, leaves_in, names}
use Rattle.vsw_walk.specs.declared.scratch.Looked.{Looked}
use Rattle.vsw_walk.specs.Visit.{allows}
use Rattle.vsw_flows.specs.Flows.{IsCurrent, Writing}
use Rattle.vsw_flows.specs.Gists.{gist_of, is_default_passed, is_named_at, passes}
use Rattle.vsw_flows.specs.Leant.{Leant, kept_at}
use Rattle.vsw_flows.specs.Obeying.{IsNaming, leaves_all}
use Rattle.vsw_flows.specs.Standing.{Stand}
use Rattle.vsw_flows.proofs.Obeyed.{named_leaves, unnamed_leaves}

-- a look that a command passes over by its gist
default_passed : (ls : List LayerSeen) (c n : ℕ) (dir : Dir) (allow : Bool) (q : Looked) → IsRight ls q → is_default_passed (SetDefault n dir allow) (gist_of q) ≡ true → leaves_in c (SetDefault n dir allow) (slice_get ls q.layer) q ≡ true
default_passed ls c n dir allow q right e = in_layer (slice_get ls q.layer) right
  where
    other : (a b d : Bool) → b ≡ false → (not a || b) ≡ true → (not a || d) ≡ true
    other true b d f h = absurd (true≢false (sym h ∙ f))
    other false b d f h = refl

    by : (l : LayerSeen) (o : Option Pair) → q.found ≡ option_map number_of o → by_found o (λ p. true) (not (same_dir dir q.dir) || same_bool allow (allows l.spec dir)) ≡ true
    by l (Some p) found = refl
    by l None found = other (same_dir dir q.dir) (is_some q.found) (same_bool allow (allows l.spec dir)) (ap is_some found) e

    in_layer : (o : Option LayerSeen) → q.found ≡ option_map number_of (found_in o q) → leaves_in c (SetDefault n dir allow) o q ≡ true
    in_layer None found = refl
    in_layer (Some l) found = named_leaves (names c (SetDefault n dir allow) l) (leaves (SetDefault n dir allow) l q) (by l (pair_of q.dir q.key l.pairs) found)

command_passed : (ls : List LayerSeen) (c : ℕ) (m : Command) (q : Looked) → IsRight ls q → is_default_passed m (gist_of q) ≡ true → leaves_in c m (slice_get ls q.layer) q ≡ true
command_passed ls c (AddLayer s) q right e = absurd (true≢false (sym e))
command_passed ls c (RemoveLayer n) q right e = absurd (true≢false (sym e))
command_passed ls c (AddGroup n g dir when) q right e = absurd (true≢false (sym e))
command_passed ls c (RemoveGroup n g) q right e = absurd (true≢false (sym e))
command_passed ls c (PutRules n g rs) q right e = absurd (true≢false (sym e))
command_passed ls c (PutMany ps) q right e = absurd (true≢false (sym e))
command_passed ls c (AddRule n g r) q right e = absurd (true≢false (sym e))
command_passed ls c (RemoveRule n g k) q right e = absurd (true≢false (sym e))
command_passed ls c (SetDefault n dir allow) q right e = default_passed ls c n dir allow q right e
command_passed ls c (Sweep n now) q right e = absurd (true≢false (sym e))

look_passed : (ls : List LayerSeen) (c : ℕ) (m : Command) (named : List Bool) (q : Looked) → IsNaming ls c m named → IsRight ls q → passes named m (gist_of q) ≡ true → leaves_in c m (slice_get ls q.layer) q ≡ true
look_passed ls c m named q h right e = by (is_named_at named q.layer) refl e
  where
    by : (b : Bool) → is_named_at named q.layer ≡ b → (not b || is_default_passed m (gist_of q)) ≡ true → leaves_in c m (slice_get ls q.layer) q ≡ true
    by true i f = command_passed ls c m q right f
    by false i f = unnamed_leaves ls c m named q h i

pub all_passed : (ls : List LayerSeen) (c : ℕ) (m : Command) (named : List Bool) (qs : List Looked) → IsNaming ls c m named → Each (IsRight ls) qs → list_all (passes named m) (map gist_of qs) ≡ true → leaves_all ls c m qs ≡ true
all_passed ls c m named [] h right e = refl
all_passed ls c m named (q ∷ qs) h right e = by (passes named m (gist_of q)) refl e (all_passed ls c m named qs h right.1)
  where
    by : (b : Bool) → passes named m (gist_of q) ≡ b → (b && list_all (passes named m) (map gist_of qs)) ≡ true → (list_all (passes named m) (map gist_of qs) ≡ true → leaves_all ls c m qs ≡ true) → leaves_all ls c m (q ∷ qs) ≡ true
    by true i f rest = ap (λ b. b && leaves_all ls c m qs) (look_passed ls c m named q h right.0 i) ∙ rest f
    by false i f rest = absurd (true≢false (sym f))

-- a current row's looks are right, since it is good
pub row_passed : (ls : List LayerSeen) (c : ℕ) (m : Command) (named : List Bool) (v : Writing) (l : Leant) (row : ℕ) → IsNaming ls c m named → list_all (passes named m) (map gist_of (kept_at l.kept row)) ≡ true → Stand ls v l → IsCurrent v row → leaves_all ls c m (kept_at l.kept row) ≡ true
row_passed ls c m named v l row h e stand current =
    let at = stand row current in
    all_passed ls c m named (kept_at l.kept row) h (subst (Each (IsRight ls)) (sym at.good.leans) (right_looks ls at.row.id)) e
