-- Layers that are read.
use Rattle.std.proofs.Common.{◌≡◌, ◌≢◌, ◌==◌, ◌&&◌, ℕ, suc, ◌+◌, ◌≤◌, ◌<◌, List, [], ◌∷◌, ◌++◌, Bool, true, false, nat_lt, Ok, refl, subst, sym, ap, arith, if◌then◌else◌}
use Rattle.std.specs.List.{list_any, AllPairs}
use Rattle.std.specs.Prelude.{All, ⊤}
use Rattle.std.proofs.lemmas.Bool.{ltb-true}
use Rattle.std.proofs.lemmas.Bool.Decides.{nat_tests}
use Rattle.std.proofs.lemmas.List.Elements.{All-nil, All-push}
use Rattle.serde_json.specs.Data.{Data}
use Rattle.vsw_policy.specs.declared.layer.LayerSpec.{LayerSpec}
use Rattle.vsw_policy.specs.Numbers.{IsGoodSpec}
use Rattle.vsw_config.specs.declared.word.Word.TheVariants as word
use Rattle.vsw_config.specs.Object.{object_among, read_in}
use Rattle.vsw_config.specs.Value.{short_of}
use Rattle.vsw_config.specs.List.{items_in}
use Rattle.vsw_config.specs.Rule.{groups_of}
use Rattle.vsw_config.specs.declared.file.LayerFile.{LayerFile}
use Rattle.vsw_config.specs.Layer.{listed_number, count_by, room_for, fresh_layer, allows_of, pairs_of, seconds_of, spec_in, layer_words, layer_of, layers_of}
use Rattle.vsw_config.specs.Good.{AreGoodGroups, IsGoodLayer, AreApart, AreGoodLayers}
use Rattle.vsw_config.proofs.Steps.{taken, same_value, read, passed, unless}
use Rattle.vsw_config.proofs.ListsRead.{kept, no_pairs, pairs_push, between}
use Rattle.vsw_config.proofs.Rules.{groups_good}

spec_layer : (layer : ℕ) (o : Data) (s : LayerSpec) → spec_in layer o ≡ Ok s → s.layer ≡ layer
unfolding spec_in
spec_layer layer o s h =
    taken (read_in word.Order o short_of) _ s h (λ order e h.
    taken (read_in word.DefaultOut o allows_of) _ s h (λ allow_out e h.
    taken (read_in word.DefaultIn o allows_of) _ s h (λ allow_in e h.
    taken (read_in word.Pairs o pairs_of) _ s h (λ pairs e h.
    taken (read_in word.Idle o seconds_of) _ s h (λ idle e h.
    taken (read_in word.Linger o seconds_of) _ s h (λ linger e h.
    sym (ap (λ (s : LayerSpec). s.layer) (same_value _ s h))))))))

-- the numbers of a layer that is read are within their bounds
pub spec_good : (layer : ℕ) (o : Data) (s : LayerSpec) → spec_in layer o ≡ Ok s → IsGoodSpec s
unfolding spec_in
spec_good layer o s h =
    taken (read_in word.Order o short_of) _ s h (λ order e h.
    taken (read_in word.DefaultOut o allows_of) _ s h (λ allow_out e h.
    taken (read_in word.DefaultIn o allows_of) _ s h (λ allow_in e h.
    taken (read_in word.Pairs o pairs_of) _ s h (λ pairs some h.
    taken (read_in word.Idle o seconds_of) _ s h (λ idle time h.
    taken (read_in word.Linger o seconds_of) _ s h (λ linger rest h.
    read word.Pairs o pairs_of pairs some (λ d number.
    read word.Idle o seconds_of idle time (λ d seconds.
    read word.Linger o seconds_of linger rest (λ d after.
    let few = between 0 65536 _ pairs number in
    let live = between 1 86400 _ idle seconds in
    let stay = between 1 86400 _ linger after in
    subst IsGoodSpec (same_value _ s h) (record { pairs = few.1; idle_from = live.0; idle_to = live.1; linger_from = stay.0; linger_to = stay.1 }))))))))))

pub known_listed : (known : List ℕ) (d : Data) (c : ℕ) → listed_number known d ≡ Ok c → list_any (λ m. m == c) known ≡ true
unfolding listed_number
known_listed known d c h =
    taken (short_of d) _ c h (λ m e h.
    let (found, same) = passed (list_any (λ k. k == m) known) m c _ h in
    rw (← same) found)

fresh_layer_apart : (c : ℕ) (done : List LayerFile) (d : Data) (n : ℕ) → fresh_layer c done d ≡ Ok n → list_any (λ l. (l.controller == c) && (l.spec.layer == n)) done ≡ false
unfolding fresh_layer
fresh_layer_apart c done d n h =
    taken (short_of d) _ n h (λ m e h.
    let (none, same) = unless (list_any (λ l. (l.controller == c) && (l.spec.layer == m)) done) m n _ h in
    rw (← same) none)

apart_by : (c n m k : ℕ) → (c == m) && (n == k) ≡ false → c ≡ m → n ≢ k
apart_by c n m k h e f = grind (arith, nat_tests)

room_left : (c : ℕ) (done : List LayerFile) (u : ⊤) → room_for c done ≡ Ok u → count_by c done < 16
unfolding room_for
room_left c done u h = ltb-true _ _ (passed (nat_lt (count_by c done) 16) tt u _ h).0

count_push : (c : ℕ) (done : List LayerFile) (l : LayerFile) → count_by c (done ++ l ∷ []) ≡ count_by c done + count_by c (l ∷ [])
count_push c [] l = omega arith
count_push c (m ∷ ms) l = elim (m.controller == c) as (λ b. (if b then suc (count_by c (ms ++ l ∷ [])) else count_by c (ms ++ l ∷ [])) ≡ (if b then suc (count_by c ms) else count_by c ms) + count_by c (l ∷ [])) [
  | true ↦ omega (arith, count_push c ms l)
  | false ↦ count_push c ms l
]

one_more : (c : ℕ) (done : List LayerFile) (l : LayerFile) → ((c : ℕ) → count_by c done ≤ 16) → count_by l.controller done < 16 → (b : Bool) → (l.controller == c) ≡ b → count_by c done + (if b then suc 0 else 0) ≤ 16
one_more c done l few room true e =
    let same : l.controller ≡ c = grind (arith, nat_tests) in
    omega (arith, subst (λ k. count_by k done < 16) same room)
one_more c done l few room false e = omega (arith, few c)

counts_kept : (done : List LayerFile) (l : LayerFile) → ((c : ℕ) → count_by c done ≤ 16) → count_by l.controller done < 16 → (c : ℕ) → count_by c (done ++ l ∷ []) ≤ 16
counts_kept done l few room c = rw (count_push c done l) (one_more c done l few room (l.controller == c) refl)

abbrev LayersKept : List ℕ → List LayerFile → Type 0
LayersKept known ls = ((c : ℕ) → count_by c ls ≤ 16) × AllPairs AreApart ls × All (IsGoodLayer known) ls

good_layer : (known : List ℕ) (l : LayerFile) → list_any (λ c. c == l.controller) known ≡ true → AreGoodGroups l.groups → IsGoodSpec l.spec → IsGoodLayer known l
unfolding IsGoodLayer
good_layer known l found groups spec = (found, groups, spec)

push_layer : (known : List ℕ) (done : List LayerFile) (l : LayerFile) → LayersKept known done → count_by l.controller done < 16 → list_any (λ m. (m.controller == l.controller) && (m.spec.layer == l.spec.layer)) done ≡ false → IsGoodLayer known l → LayersKept known (done ++ l ∷ [])
push_layer known done l q room none good = (
  counts_kept done l q.0 room,
  pairs_push AreApart (λ m. (m.controller == l.controller) && (m.spec.layer == l.spec.layer)) done l (λ m t. apart_by m.controller m.spec.layer l.controller l.spec.layer t) q.1 none,
  All-push (IsGoodLayer known) done l q.2 good,
)

layer_kept : (version : ℕ) (known : List ℕ) (done : List LayerFile) (d : Data) (l : LayerFile) → LayersKept known done → layer_of version known done d ≡ Ok l → LayersKept known (done ++ l ∷ [])
unfolding layer_of
layer_kept version known done d l q h =
    taken (object_among layer_words d) _ l h (λ o e h.
    taken (read_in word.Controller o (listed_number known)) _ l h (λ controller here h.
    taken (room_for controller done) _ l h (λ u room h.
    taken (read_in word.Layer o (fresh_layer controller done)) _ l h (λ layer there h.
    taken (spec_in layer o) _ l h (λ spec part h.
    taken (read_in word.Groups o (groups_of version)) _ l h (λ groups list h.
    read word.Controller o (listed_number known) controller here (λ place number.
    read word.Layer o (fresh_layer controller done) layer there (λ place fresh.
    read word.Groups o (groups_of version) groups list (λ place value.
    let none = fresh_layer_apart controller done _ layer fresh in
    subst (λ (m : LayerFile). LayersKept known (done ++ m ∷ [])) (same_value _ l h)
    (push_layer known done (record { controller = controller; spec = spec; groups = groups }) q (room_left controller done u room)
    (rw (spec_layer layer o spec part) none)
    (good_layer known (record { controller = controller; spec = spec; groups = groups }) (known_listed known _ controller number) (groups_good version _ groups value) (spec_good layer o spec part))))))))))))

none_yet : (c : ℕ) → count_by c [] ≤ 16
none_yet c = omega arith

pub layers_good : (version : ℕ) (known : List ℕ) (d : Data) (ls : List LayerFile) → layers_of version known d ≡ Ok ls → AreGoodLayers known ls
unfolding layers_of AreGoodLayers
layers_good version known d ls h =
    taken (items_in d) _ ls h (λ ds e h.
    kept (LayersKept known) (layer_of version known) (layer_kept version known) [] ds ls (none_yet, no_pairs AreApart, All-nil (IsGoodLayer known)) h)
