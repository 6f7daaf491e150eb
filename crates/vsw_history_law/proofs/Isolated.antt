-- Controllers apart: crossings and the commands of others leave a controller's layers but for their pairs, and its replies don't ask for pairs.
use Rattle.std.proofs.Common.{◌≡◌, ℕ, zero, suc, ◌==◌, ◌||◌, Bool, true, false, if◌then◌else◌, List, [], ◌∷◌, length, map, filter, Option, Some, None, Result, Ok, Err, refl, ap, sym, ◌∙◌, subst, arith, eq-eqb, ne_eqb}
use Rattle.std.specs.List.{find, list_any}
use native.Mathlib.Decide.{ℕ_discrete}
use Rattle.vsw_base.specs.declared.flow.Crossing.{Crossing}
use Rattle.vsw_base.specs.declared.packet.Dir.{Dir}
use Rattle.vsw_base.specs.declared.packet.Dir.TheVariants.{Out, In}
use Rattle.vsw_port.specs.Cross.{cross_of, done, all_done, made_by}
use Rattle.vsw_walk.specs.declared.scratch.Wanted.{Wanted}
use Rattle.vsw_walk.specs.declared.scratch.Wanted.TheVariants.{Make, Touch, Leave}
use Rattle.vsw_policy.specs.declared.layer.LayerSpec.{LayerSpec}
use Rattle.vsw_policy.specs.Groups.{changed, removed}
use Rattle.vsw_policy.specs.Layer.{LayerSeen, defaulting, with_pair, with_touched, without_pair}
use Rattle.vsw_policy.specs.declared.command.Command.{Command}
use Rattle.vsw_policy.specs.declared.command.Part.{Part}
use Rattle.vsw_policy.specs.declared.command.Command.TheVariants.{AddLayer, RemoveLayer, AddGroup, RemoveGroup, PutRules, PutMany, AddRule, RemoveRule, SetDefault, Sweep}
use Rattle.vsw_policy.specs.declared.refusal.Refusal.{Refusal}
use Rattle.vsw_policy.specs.declared.refusal.Reply.{Reply}
use Rattle.vsw_policy.specs.Layers.{is_of, is_layer, is_before, changed_at}
use Rattle.vsw_policy.specs.Obey.{placed, empty_layer, within, tests, groups_in, groups_of, first_refusal, answered, obey, lacks_layer, lacks_group, put_parts}
use Rattle.vsw_policy.specs.Obey as policy
use Rattle.vsw_policy.specs.Own.{of_own}
use Rattle.vsw_policy.specs.Sound.{Each, AreInOrder}
use Rattle.vsw_policy.proofs.Alone.{others-stay, obeys-alone}
use Rattle.vsw_policy.proofs.Keeps.{each-as, order-placed, KeepsName, before-left, before-right}
use Rattle.vsw_port.specs.declared.event.Event.{Event}
use Rattle.vsw_port.specs.declared.event.Event.TheVariants as event
use Rattle.vsw_port.specs.History.{reply_in, left_by, AreRight}
use Rattle.vsw_history_law.specs.Law.{bare, own_bare, orders_of, answers_alone, RepliesAlone, OthersApart}

-- ---- what asks for no pairs

filter_bare : (c : ℕ) (ls : List LayerSeen) → map bare (filter (is_of c) ls) ≡ filter (is_of c) (map bare ls)
filter_bare c [] = refl
filter_bare c (l ∷ ls) = by (c == l.controller) (filter_bare c ls)
  where
    by : (b : Bool) → map bare (filter (is_of c) ls) ≡ filter (is_of c) (map bare ls) → map bare (if b then l ∷ filter (is_of c) ls else filter (is_of c) ls) ≡ (if b then bare l ∷ filter (is_of c) (map bare ls) else filter (is_of c) (map bare ls))
    by true ih = ap (λ w. bare l ∷ w) ih
    by false ih = ih

any_bare : (c n : ℕ) (ls : List LayerSeen) → list_any (is_layer c n) (map bare ls) ≡ list_any (is_layer c n) ls
any_bare c n [] = refl
any_bare c n (l ∷ ls) = ap (λ w. is_layer c n l || w) (any_bare c n ls)

groups_bare : (c n : ℕ) (ls : List LayerSeen) → groups_in (map bare ls) c n ≡ groups_in ls c n
groups_bare c n [] = refl
groups_bare c n (l ∷ ls) = by (is_layer c n l) (groups_bare c n ls)
  where
    by : (b : Bool) → groups_of (find (is_layer c n) (map bare ls)) ≡ groups_of (find (is_layer c n) ls) → groups_of (if b then Some (bare l) else find (is_layer c n) (map bare ls)) ≡ groups_of (if b then Some l else find (is_layer c n) ls)
    by true ih = refl
    by false ih = ih

count_bare : (c : ℕ) (ls : List LayerSeen) → length (filter (is_of c) (map bare ls)) ≡ length (filter (is_of c) ls)
count_bare c [] = refl
count_bare c (l ∷ ls) = by (c == l.controller) (count_bare c ls)
  where
    by : (b : Bool) → length (filter (is_of c) (map bare ls)) ≡ length (filter (is_of c) ls) → length (if b then bare l ∷ filter (is_of c) (map bare ls) else filter (is_of c) (map bare ls)) ≡ length (if b then l ∷ filter (is_of c) ls else filter (is_of c) ls)
    by true ih = omega (arith, ih)
    by false ih = ih

layers_bare : (c : ℕ) (ls : List LayerSeen) (ps : List Part) → list_any (lacks_layer (map bare ls) c) ps ≡ list_any (lacks_layer ls c) ps
layers_bare c ls [] = refl
layers_bare c ls (p ∷ ps) = rw (any_bare c p.layer ls) (ap (λ w. lacks_layer ls c p || w) (layers_bare c ls ps))

places_bare : (c : ℕ) (ls : List LayerSeen) (ps : List Part) → list_any (lacks_group (map bare ls) c) ps ≡ list_any (lacks_group ls c) ps
places_bare c ls [] = refl
places_bare c ls (p ∷ ps) = rw (groups_bare c p.layer ls) (ap (λ w. lacks_group ls c p || w) (places_bare c ls ps))

-- a command is tested alike
tests_bare : (ls : List LayerSeen) (c : ℕ) (m : Command) → tests (map bare ls) c m ≡ tests ls c m
tests_bare ls c (AddLayer s) = rw (any_bare c s.layer ls, count_bare c ls) refl
tests_bare ls c (RemoveLayer n) = rw (any_bare c n ls) refl
tests_bare ls c (AddGroup n g dir when) = rw (any_bare c n ls, groups_bare c n ls) refl
tests_bare ls c (RemoveGroup n g) = rw (any_bare c n ls, groups_bare c n ls) refl
tests_bare ls c (PutRules n g rs) = rw (any_bare c n ls, groups_bare c n ls) refl
tests_bare ls c (PutMany ps) = rw (layers_bare c ls ps, places_bare c ls ps) refl
tests_bare ls c (AddRule n g r) = rw (any_bare c n ls, groups_bare c n ls) refl
tests_bare ls c (RemoveRule n g k) = rw (any_bare c n ls, groups_bare c n ls) refl
tests_bare ls c (SetDefault n dir allow) = rw (any_bare c n ls) refl
tests_bare ls c (Sweep n now) = rw (any_bare c n ls) refl

bare_twice : (ls : List LayerSeen) → map bare (map bare ls) ≡ map bare ls
bare_twice [] = refl
bare_twice (l ∷ ls) = ap (λ w. bare l ∷ w) (bare_twice ls)

changed_bare : (c n : ℕ) (f : LayerSeen → LayerSeen) → ((l : LayerSeen) → bare (f l) ≡ bare (f (bare l))) → (ls : List LayerSeen) → map bare (changed (is_layer c n) f ls) ≡ map bare (changed (is_layer c n) f (map bare ls))
changed_bare c n f e [] = refl
changed_bare c n f e (l ∷ ls) = by (is_layer c n l) (changed_bare c n f e ls)
  where
    by : (b : Bool) → map bare (changed (is_layer c n) f ls) ≡ map bare (changed (is_layer c n) f (map bare ls)) → map bare (if b then f l ∷ ls else l ∷ changed (is_layer c n) f ls) ≡ map bare (if b then f (bare l) ∷ map bare ls else bare l ∷ changed (is_layer c n) f (map bare ls))
    by true ih = ap (λ w. w ∷ map bare ls) (e l) ∙ ap (λ w. bare (f (bare l)) ∷ w) (sym (bare_twice ls))
    by false ih = ap (λ w. bare l ∷ w) ih

removed_bare : (c n : ℕ) (ls : List LayerSeen) → map bare (removed (is_layer c n) ls) ≡ map bare (removed (is_layer c n) (map bare ls))
removed_bare c n [] = refl
removed_bare c n (l ∷ ls) = by (is_layer c n l) (removed_bare c n ls)
  where
    by : (b : Bool) → map bare (removed (is_layer c n) ls) ≡ map bare (removed (is_layer c n) (map bare ls)) → map bare (if b then ls else l ∷ removed (is_layer c n) ls) ≡ map bare (if b then map bare ls else bare l ∷ removed (is_layer c n) (map bare ls))
    by true ih = sym (bare_twice ls)
    by false ih = ap (λ w. bare l ∷ w) ih

placed_bare : (cs : List ℕ) (new : LayerSeen) (ls : List LayerSeen) → map bare (placed cs new ls) ≡ map bare (placed cs new (map bare ls))
placed_bare cs new [] = refl
placed_bare cs new (l ∷ ls) = by (is_before cs new l) (placed_bare cs new ls)
  where
    by : (b : Bool) → map bare (placed cs new ls) ≡ map bare (placed cs new (map bare ls)) → map bare (if b then new ∷ l ∷ ls else l ∷ placed cs new ls) ≡ map bare (if b then new ∷ bare l ∷ map bare ls else bare l ∷ placed cs new (map bare ls))
    by true ih = ap (λ w. bare new ∷ bare l ∷ w) (sym (bare_twice ls))
    by false ih = ap (λ w. bare l ∷ w) ih

parts_bare : (c : ℕ) (ps : List Part) (ls ms : List LayerSeen) → map bare ls ≡ map bare ms → map bare (put_parts c ps ls) ≡ map bare (put_parts c ps ms)
parts_bare c [] ls ms e = e
parts_bare c (p ∷ ps) ls ms e =
    let f : LayerSeen → LayerSeen = within (PutRules p.layer p.group p.rules) in
    parts_bare c ps (changed (is_layer c p.layer) f ls) (changed (is_layer c p.layer) f ms)
    (changed_bare c p.layer f (λ l. refl) ls ∙ ap (λ w. map bare (changed (is_layer c p.layer) f w)) e ∙ sym (changed_bare c p.layer f (λ l. refl) ms))

-- a command leaves alike
after_bare : (cs : List ℕ) (ls : List LayerSeen) (c : ℕ) (m : Command) → map bare (policy.after cs ls c m) ≡ map bare (policy.after cs (map bare ls) c m)
after_bare cs ls c (AddLayer s) = placed_bare cs (empty_layer c s) ls
after_bare cs ls c (RemoveLayer n) = removed_bare c n ls
after_bare cs ls c (AddGroup n g dir when) = changed_bare c n (within (AddGroup n g dir when)) (λ l. refl) ls
after_bare cs ls c (RemoveGroup n g) = changed_bare c n (within (RemoveGroup n g)) (λ l. refl) ls
after_bare cs ls c (PutRules n g rs) = changed_bare c n (within (PutRules n g rs)) (λ l. refl) ls
after_bare cs ls c (PutMany ps) = parts_bare c ps ls (map bare ls) (sym (bare_twice ls))
after_bare cs ls c (AddRule n g r) = changed_bare c n (within (AddRule n g r)) (λ l. refl) ls
after_bare cs ls c (RemoveRule n g k) = changed_bare c n (within (RemoveRule n g k)) (λ l. refl) ls
after_bare cs ls c (SetDefault n dir allow) = changed_bare c n (within (SetDefault n dir allow)) (λ l. refl) ls
after_bare cs ls c (Sweep n now) = changed_bare c n (within (Sweep n now)) (λ l. refl) ls

left_bare_by : (o : Option Refusal) (xs ys new old : List LayerSeen) → map bare xs ≡ map bare ys → map bare new ≡ map bare old → map bare (left_by xs (answered o new)) ≡ map bare (left_by ys (answered o old))
left_bare_by None xs ys new old e f = f
left_bare_by (Some why) xs ys new old e f = e

left_bare : (cs : List ℕ) (ls : List LayerSeen) (c : ℕ) (m : Command) → map bare (left_by ls (obey cs ls c m)) ≡ map bare (left_by (map bare ls) (obey cs (map bare ls) c m))
left_bare cs ls c m =
    left_bare_by (first_refusal (tests ls c m)) ls (map bare ls) (policy.after cs ls c m) (policy.after cs (map bare ls) c m) (sym (bare_twice ls)) (after_bare cs ls c m)
    ∙ ap (λ w. map bare (left_by (map bare ls) (answered (first_refusal w) (policy.after cs (map bare ls) c m)))) (sym (tests_bare ls c m))

reply_by : (o : Option Refusal) (new old : List LayerSeen) → reply_in (answered o new) ≡ reply_in (answered o old)
reply_by None new old = refl
reply_by (Some why) new old = refl

reply_bare : (cs : List ℕ) (ls : List LayerSeen) (c : ℕ) (m : Command) → reply_in (obey cs ls c m) ≡ reply_in (obey cs (map bare ls) c m)
reply_bare cs ls c m = reply_by (first_refusal (tests ls c m)) (policy.after cs ls c m) (policy.after cs (map bare ls) c m) ∙ ap (λ w. reply_in (answered (first_refusal w) (policy.after cs (map bare ls) c m))) (sym (tests_bare ls c m))

-- ---- a controller's own layers decide

own_reply : (c : ℕ) (r : Result (List LayerSeen) Refusal) → reply_in (of_own c r) ≡ reply_in r
own_reply c (Ok ls) = refl
own_reply c (Err why) = refl

own_left : (c : ℕ) (ls : List LayerSeen) (r : Result (List LayerSeen) Refusal) → own_bare c (left_by ls r) ≡ map bare (left_by (filter (is_of c) ls) (of_own c r))
own_left c ls (Ok new) = refl
own_left c ls (Err why) = refl

reply_own : (cs : List ℕ) (ls : List LayerSeen) (c : ℕ) (m : Command) → AreInOrder cs ls → reply_in (obey cs ls c m) ≡ reply_in (obey cs (own_bare c ls) c m)
reply_own cs ls c m h = sym (own_reply c (obey cs ls c m)) ∙ (ap reply_in (obeys-alone cs ls c m h) ∙ reply_bare cs (filter (is_of c) ls) c m)

left_own : (cs : List ℕ) (ls : List LayerSeen) (c : ℕ) (m : Command) → AreInOrder cs ls → own_bare c (left_by ls (obey cs ls c m)) ≡ map bare (left_by (own_bare c ls) (obey cs (own_bare c ls) c m))
left_own cs ls c m h = own_left c ls (obey cs ls c m) ∙ (ap (λ r. map bare (left_by (filter (is_of c) ls) r)) (obeys-alone cs ls c m h) ∙ left_bare cs (filter (is_of c) ls) c m)

-- ---- others

others_by : (cs : List ℕ) (ls : List LayerSeen) (c d : ℕ) (m : Command) (o : Option Refusal) → (c == d) ≡ false → filter (is_of c) (left_by ls (answered o (policy.after cs ls d m))) ≡ filter (is_of c) ls
others_by cs ls c d m None e = others-stay cs ls d m c e
others_by cs ls c d m (Some why) e = refl

others_left : (cs : List ℕ) (ls : List LayerSeen) (c d : ℕ) (m : Command) → (c == d) ≡ false → own_bare c (left_by ls (obey cs ls d m)) ≡ own_bare c ls
others_left cs ls c d m e = ap (map bare) (others_by cs ls c d m (first_refusal (tests ls d m)) e)

at_bare : (n : ℕ) (f : LayerSeen → LayerSeen) → ((l : LayerSeen) → bare (f l) ≡ bare l) → (ls : List LayerSeen) → map bare (changed_at n f ls) ≡ map bare ls
at_bare n f e [] = refl
at_bare zero f e (l ∷ ls) = ap (λ w. w ∷ map bare ls) (e l)
at_bare (suc n) f e (l ∷ ls) = ap (λ w. bare l ∷ w) (at_bare n f e ls)

done_bare : (w : Wanted) (ls : List LayerSeen) → map bare (done w ls) ≡ map bare ls
done_bare (Make place p) ls = at_bare place (with_pair p) (λ l. refl) ls
done_bare (Touch place number state last) ls = at_bare place (with_touched number state last) (λ l. refl) ls
done_bare (Leave place number) ls = at_bare place (without_pair number) (λ l. refl) ls

all_bare : (ws : List Wanted) (ls : List LayerSeen) → map bare (all_done ws ls) ≡ map bare ls
all_bare [] ls = refl
all_bare (w ∷ ws) ls = all_bare ws (done w ls) ∙ done_bare w ls

-- crossings change pairs alone
pub cross_bare : (ls : List LayerSeen) (x : Crossing) → map bare (cross_of ls x).layers ≡ map bare ls
cross_bare ls x = all_bare (made_by ls x) ls

cross_own : (c : ℕ) (ls : List LayerSeen) (x : Crossing) → own_bare c (cross_of ls x).layers ≡ own_bare c ls
cross_own c ls x = filter_bare c (cross_of ls x).layers ∙ (ap (filter (is_of c)) (cross_bare ls x) ∙ sym (filter_bare c ls))

-- ---- layers stay in order

each_changed : (Q : LayerSeen → Type 0) (p : LayerSeen → Bool) (f : LayerSeen → LayerSeen) → ((l : LayerSeen) → Q l → Q (f l)) → (ls : List LayerSeen) → Each Q ls → Each Q (changed p f ls)
each_changed Q p f k [] e = tt
each_changed Q p f k (l ∷ ls) e = by (p l) (each_changed Q p f k ls e.1)
  where
    by : (b : Bool) → Each Q (changed p f ls) → Each Q (if b then f l ∷ ls else l ∷ changed p f ls)
    by true ih = (k l e.0, e.1)
    by false ih = (e.0, ih)

each_removed : (Q : LayerSeen → Type 0) (p : LayerSeen → Bool) (ls : List LayerSeen) → Each Q ls → Each Q (removed p ls)
each_removed Q p [] e = tt
each_removed Q p (l ∷ ls) e = by (p l) (each_removed Q p ls e.1)
  where
    by : (b : Bool) → Each Q (removed p ls) → Each Q (if b then ls else l ∷ removed p ls)
    by true ih = e.1
    by false ih = (e.0, ih)

order_changed : (cs : List ℕ) (p : LayerSeen → Bool) (f : LayerSeen → LayerSeen) → KeepsName f → (ls : List LayerSeen) → AreInOrder cs ls → AreInOrder cs (changed p f ls)
order_changed cs p f k [] h = tt
order_changed cs p f k (l ∷ ls) h = by (p l) (order_changed cs p f k ls h.1)
  where
    by : (b : Bool) → AreInOrder cs (changed p f ls) → AreInOrder cs (if b then f l ∷ ls else l ∷ changed p f ls)
    by true ih = (each-as (λ m. is_before cs m l ≡ false) (λ m. is_before cs m (f l) ≡ false) (λ m i. before-right cs f k l m i) ls h.0, h.1)
    by false ih = (each_changed (λ m. is_before cs m l ≡ false) p f (λ m i. before-left cs f k l m i) ls h.0, ih)

order_removed : (cs : List ℕ) (p : LayerSeen → Bool) (ls : List LayerSeen) → AreInOrder cs ls → AreInOrder cs (removed p ls)
order_removed cs p [] h = tt
order_removed cs p (l ∷ ls) h = by (p l) (order_removed cs p ls h.1)
  where
    by : (b : Bool) → AreInOrder cs (removed p ls) → AreInOrder cs (if b then ls else l ∷ removed p ls)
    by true ih = h.1
    by false ih = (each_removed (λ m. is_before cs m l ≡ false) p ls h.0, ih)

names_default : (dir : Dir) (b : Bool) (s : LayerSpec) → ((defaulting dir b s).order ≡ s.order) × ((defaulting dir b s).layer ≡ s.layer)
names_default Out b s = (refl, refl)
names_default In b s = (refl, refl)

within_name : (m : Command) → KeepsName (within m)
within_name (AddLayer s) l = (refl, refl, refl)
within_name (RemoveLayer n) l = (refl, refl, refl)
within_name (AddGroup n g dir when) l = (refl, refl, refl)
within_name (RemoveGroup n g) l = (refl, refl, refl)
within_name (PutRules n g rs) l = (refl, refl, refl)
within_name (PutMany ps) l = (refl, refl, refl)
within_name (AddRule n g r) l = (refl, refl, refl)
within_name (RemoveRule n g k) l = (refl, refl, refl)
within_name (SetDefault n dir allow) l = (let n = names_default dir allow l.spec in (refl, n.0, n.1))
within_name (Sweep n now) l = (refl, refl, refl)

order_parts : (cs : List ℕ) (c : ℕ) (ps : List Part) (ls : List LayerSeen) → AreInOrder cs ls → AreInOrder cs (put_parts c ps ls)
order_parts cs c [] ls h = h
order_parts cs c (p ∷ ps) ls h =
    let m : Command = PutRules p.layer p.group p.rules in
    order_parts cs c ps (changed (is_layer c p.layer) (within m) ls) (order_changed cs (is_layer c p.layer) (within m) (within_name m) ls h)

order_after : (cs : List ℕ) (ls : List LayerSeen) (c : ℕ) (m : Command) → AreInOrder cs ls → AreInOrder cs (policy.after cs ls c m)
order_after cs ls c (AddLayer s) h = order-placed cs (empty_layer c s) ls h
order_after cs ls c (RemoveLayer n) h = order_removed cs (is_layer c n) ls h
order_after cs ls c (AddGroup n g dir when) h = order_changed cs (is_layer c n) (within (AddGroup n g dir when)) (within_name (AddGroup n g dir when)) ls h
order_after cs ls c (RemoveGroup n g) h = order_changed cs (is_layer c n) (within (RemoveGroup n g)) (within_name (RemoveGroup n g)) ls h
order_after cs ls c (PutRules n g rs) h = order_changed cs (is_layer c n) (within (PutRules n g rs)) (within_name (PutRules n g rs)) ls h
order_after cs ls c (PutMany ps) h = order_parts cs c ps ls h
order_after cs ls c (AddRule n g r) h = order_changed cs (is_layer c n) (within (AddRule n g r)) (within_name (AddRule n g r)) ls h
order_after cs ls c (RemoveRule n g k) h = order_changed cs (is_layer c n) (within (RemoveRule n g k)) (within_name (RemoveRule n g k)) ls h
order_after cs ls c (SetDefault n dir allow) h = order_changed cs (is_layer c n) (within (SetDefault n dir allow)) (within_name (SetDefault n dir allow)) ls h
order_after cs ls c (Sweep n now) h = order_changed cs (is_layer c n) (within (Sweep n now)) (within_name (Sweep n now)) ls h

order_by : (cs : List ℕ) (ls new : List LayerSeen) (o : Option Refusal) → AreInOrder cs ls → AreInOrder cs new → AreInOrder cs (left_by ls (answered o new))
order_by cs ls new None h k = k
order_by cs ls new (Some why) h k = h

order_left : (cs : List ℕ) (ls : List LayerSeen) (c : ℕ) (m : Command) → AreInOrder cs ls → AreInOrder cs (left_by ls (obey cs ls c m))
order_left cs ls c m h = order_by cs ls (policy.after cs ls c m) (first_refusal (tests ls c m)) h (order_after cs ls c m h)

each_bare : (cs : List ℕ) (l : LayerSeen) (ls : List LayerSeen) → Each (λ m. is_before cs m l ≡ false) ls → Each (λ m. is_before cs m (bare l) ≡ false) (map bare ls)
each_bare cs l [] e = tt
each_bare cs l (m ∷ ms) e = (e.0, each_bare cs l ms e.1)

bare_each : (cs : List ℕ) (l : LayerSeen) (ls : List LayerSeen) → Each (λ m. is_before cs m (bare l) ≡ false) (map bare ls) → Each (λ m. is_before cs m l ≡ false) ls
bare_each cs l [] e = tt
bare_each cs l (m ∷ ms) e = (e.0, bare_each cs l ms e.1)

order_bare : (cs : List ℕ) (ls : List LayerSeen) → AreInOrder cs ls → AreInOrder cs (map bare ls)
order_bare cs [] h = tt
order_bare cs (l ∷ ls) h = (each_bare cs l ls h.0, order_bare cs ls h.1)

bare_order : (cs : List ℕ) (ls : List LayerSeen) → AreInOrder cs (map bare ls) → AreInOrder cs ls
bare_order cs [] h = tt
bare_order cs (l ∷ ls) h = (bare_each cs l ls h.0, bare_order cs ls h.1)

order_cross : (cs : List ℕ) (ls : List LayerSeen) (x : Crossing) → AreInOrder cs ls → AreInOrder cs (cross_of ls x).layers
order_cross cs ls x h = bare_order cs (cross_of ls x).layers (subst (AreInOrder cs) (sym (cross_bare ls x)) (order_bare cs ls h))

-- ---- histories

eqb_flip : (a b : ℕ) → (a == b) ≡ false → (b == a) ≡ false
eqb_flip a b e = ne_eqb b a (λ f. cc (e, eq-eqb a b (sym f)))

eqb_is : (a b : ℕ) → (a == b) ≡ true → a ≡ b
eqb_is a b e = by (ℕ_discrete a b)
  where
    by : Dec (a ≡ b) → a ≡ b
    by (yes f) = f
    by (no ne) = absurd (cc (e, ne_eqb a b ne))

-- the replies on these layers are those on layers of others on which the controller's own are the same
replies_from : (cs : List ℕ) (c : ℕ) (h : List Event) (ls ks : List LayerSeen) → AreInOrder cs ls → AreInOrder cs ks → own_bare c ls ≡ own_bare c ks → AreRight cs ls h → map (λ t. t.1) (orders_of c h) ≡ answers_alone cs ks c (map (λ t. t.0) (orders_of c h))
replies_from cs c [] ls ks i j e a = refl
replies_from cs c (event.Crossing x fate ∷ es) ls ks i j e a = replies_from cs c es (cross_of ls x).layers ks (order_cross cs ls x i) j (cross_own c ls x ∙ e) a.1
replies_from cs c (event.Command d line m r ∷ es) ls ks i j e a = by (d == c) refl
    (λ f. replies_from cs c es (left_by ls (obey cs ls d m)) ks (order_left cs ls d m i) j (others_left cs ls c d m (eqb_flip d c f) ∙ e) a.1)
    (λ f. replies_from cs c es (left_by ls (obey cs ls d m)) (left_by ks (obey cs ks c m)) (order_left cs ls d m i) (order_left cs ks c m j)
    (ap (λ n. own_bare c (left_by ls (obey cs ls n m))) (eqb_is d c f) ∙ (left_own cs ls c m i ∙ (ap (λ w. map bare (left_by w (obey cs w c m))) e ∙ sym (left_own cs ks c m j)))) a.1)
  where
    head : (d == c) ≡ true → r ≡ reply_in (obey cs ks c m)
    head f = a.0 ∙ (ap (λ n. reply_in (obey cs ls n m)) (eqb_is d c f) ∙ (reply_own cs ls c m i ∙ (ap (λ w. reply_in (obey cs w c m)) e ∙ sym (reply_own cs ks c m j))))

    by : (b : Bool) → (d == c) ≡ b
        → ((d == c) ≡ false → map (λ t. t.1) (orders_of c es) ≡ answers_alone cs ks c (map (λ t. t.0) (orders_of c es)))
        → ((d == c) ≡ true → map (λ t. t.1) (orders_of c es) ≡ answers_alone cs (left_by ks (obey cs ks c m)) c (map (λ t. t.0) (orders_of c es)))
        → map (λ t. t.1) (if b then (m, r) ∷ orders_of c es else orders_of c es) ≡ answers_alone cs ks c (map (λ t. t.0) (if b then (m, r) ∷ orders_of c es else orders_of c es))
    by true f skip take = ap (λ w. w ∷ map (λ t. t.1) (orders_of c es)) (head f) ∙ ap (λ w. reply_in (obey cs ks c m) ∷ w) (take f)
    by false f skip take = skip f

pub replies_alone : RepliesAlone
replies_alone o h c i a = replies_from o.controllers c h o.layers o.layers i i refl a

others_case : (cs : List ℕ) (ls : List LayerSeen) (c d line : ℕ) (m : Command) (r : Reply) (b : Bool) → (d == c) ≡ b → if◌then◌else◌ {A = List (Command × Reply)} b ((m, r) ∷ []) [] ≡ [] → own_bare c (left_by ls (obey cs ls d m)) ≡ own_bare c ls
others_case cs ls c d line m r true f e = absurd (cc e)
others_case cs ls c d line m r false f e = others_left cs ls c d m (eqb_flip d c f)

pub others_apart : OthersApart
others_apart cs ls c (event.Crossing x fate) e = cross_own c ls x
others_apart cs ls c (event.Command d line m r) e = others_case cs ls c d line m r (d == c) refl e
