-- Ports and policies that are read.
use Rattle.std.proofs.Common.{◌≡◌, ◌≢◌, ◌==◌, ◌⊎◌, inl, inr, ℕ, zero, suc, ◌≤◌, List, [], ◌∷◌, ◌++◌, length, Bool, true, false, nat_lt, nat_le, Result, Ok, Err, refl, subst, arith, if◌then◌else◌}
use Rattle.std.specs.List.{list_any, AllPairs}
use Rattle.std.specs.Prelude.{All, IfOk}
use Rattle.std.proofs.lemmas.List.Elements.{All-nil, All-push}
use Rattle.serde_json.specs.Data.{Data}
use Rattle.vsw_config.specs.declared.word.Word.{Word}
use Rattle.vsw_config.specs.declared.word.Word.TheVariants as word
use Rattle.vsw_config.specs.declared.fault.Step.TheVariants.{Member}
use Rattle.vsw_config.specs.Bytes.{json_of}
use Rattle.vsw_config.specs.Object.{object_among, read_in}
use Rattle.vsw_config.specs.Value.{short_of, number_from, mac_in}
use Rattle.vsw_config.specs.List.{items_in, items_after, fresh_number}
use Rattle.vsw_config.specs.declared.file.PortFile.{PortFile}
use Rattle.vsw_config.specs.declared.file.PolicyFile.{PolicyFile}
use Rattle.vsw_config.specs.declared.file.ConfigFault.{ConfigFault}
use Rattle.vsw_config.specs.declared.file.ConfigFault.TheVariants.{PolicyLimit, PortsLimit, ControllersLimit}
use Rattle.vsw_config.specs.Layer.{layers_of}
use Rattle.vsw_config.specs.Port.{fresh_port, fresh_mac, rows_of, port_words, port_of}
use Rattle.vsw_config.specs.Policy.{of_part, few, few_in, controllers_in, ports_in, file_words, policy_of, policy_file_of, Tells}
use Rattle.vsw_config.specs.Good.{AreGoodLayers, AreGoodPorts, IsGoodPolicy, EachIsGood}
use Rattle.vsw_config.proofs.Steps.{taken, same_value, from_under, from_part, read, passed, unless}
use Rattle.vsw_config.proofs.ListsRead.{kept, as_many, at_most, no_pairs, pairs_push, apart, between}
use Rattle.vsw_config.proofs.Layers.{layers_good}

fresh_port_apart : (done : List PortFile) (d : Data) (n : ℕ) → fresh_port done d ≡ Ok n → list_any (λ p. p.port == n) done ≡ false
unfolding fresh_port
fresh_port_apart done d n h =
    taken (short_of d) _ n h (λ m e h.
    let (none, same) = unless (list_any (λ p. p.port == m) done) m n _ h in
    rw (← same) none)

fresh_mac_apart : (done : List PortFile) (d : Data) (n : ℕ) → fresh_mac done d ≡ Ok n → list_any (λ p. p.mac == n) done ≡ false
unfolding fresh_mac
fresh_mac_apart done d n h =
    taken (mac_in d) _ n h (λ m e h.
    let (none, same) = unless (list_any (λ p. p.mac == m) done) m n _ h in
    rw (← same) none)

abbrev HasRows : PortFile → Type 0
HasRows p = (8 ≤ p.rows) × (p.rows ≤ 16384)

abbrev PortsKept : List ℕ → List PortFile → Type 0
PortsKept known ps = AllPairs (λ p q. p.port ≢ q.port) ps × AllPairs (λ p q. p.mac ≢ q.mac) ps × All (λ p. AreGoodLayers known p.layers) ps × All HasRows ps

port_kept : (version : ℕ) (known : List ℕ) (done : List PortFile) (d : Data) (p : PortFile) → PortsKept known done → port_of version known done d ≡ Ok p → PortsKept known (done ++ p ∷ [])
unfolding port_of
port_kept version known done d p q h =
    taken (object_among port_words d) _ p h (λ o e h.
    taken (read_in word.Port o (fresh_port done)) _ p h (λ number here h.
    taken (read_in word.Mac o (fresh_mac done)) _ p h (λ mac there h.
    taken (read_in word.Rows o rows_of) _ p h (λ rows some h.
    taken (read_in word.Layers o (layers_of version known)) _ p h (λ layers list h.
    read word.Port o (fresh_port done) number here (λ place fresh.
    read word.Mac o (fresh_mac done) mac there (λ place new.
    read word.Rows o rows_of rows some (λ place within.
    read word.Layers o (layers_of version known) layers list (λ place value.
    let none = fresh_port_apart done _ number fresh in
    let no_mac = fresh_mac_apart done _ mac new in
    subst (λ (s : PortFile). PortsKept known (done ++ s ∷ [])) (same_value _ p h) (
      pairs_push (λ p q. p.port ≢ q.port) (λ s. s.port == number) done _ (λ s t. apart s.port number t) q.0 none,
      pairs_push (λ p q. p.mac ≢ q.mac) (λ s. s.mac == mac) done _ (λ s t. apart s.mac mac t) q.1 no_mac,
      All-push (λ p. AreGoodLayers known p.layers) done _ q.2 (layers_good version known _ layers value),
      All-push HasRows done _ q.3 (between 8 16384 _ rows within),
    ))))))))))

-- a member's items are no more than the limit
few_there : (limit : ConfigFault) (most : ℕ) (w : Word) (o : Data) (ds : List Data) → few_in limit most w o ≡ Ok ds → length ds ≤ most
unfolding few_in
few_there limit most w o ds h =
    taken (of_part (read_in w o items_in)) (few limit most) ds h (λ es e h.
    let (few, same) = passed (nat_le (length es) most) es ds _ h in
    rw (← same) (at_most (length es) most few))

abbrev AreDistinct : List ℕ → Type 0
AreDistinct cs = AllPairs (λ c d. c ≢ d) cs

number_kept : (done : List ℕ) (d : Data) (n : ℕ) → AreDistinct done → fresh_number done d ≡ Ok n → AreDistinct (done ++ n ∷ [])
number_kept done d n q h =
    taken (short_of d) _ n h (λ m e h.
    let (none, same) = unless (list_any (λ k. k == m) done) m n _ h in
    subst (λ k. AreDistinct (done ++ k ∷ [])) same
    (pairs_push (λ c d. c ≢ d) (λ k. k == m) done m (λ k t. apart k m t) q none))

controllers_good : (o : Data) (cs : List ℕ) → controllers_in o ≡ Ok cs → (length cs ≤ 8) × AreDistinct cs
unfolding controllers_in
controllers_good o cs h =
    taken (few_in ControllersLimit 8 word.Controllers o) _ cs h (λ ds e h.
    let items = from_under (Member word.Controllers) (items_after fresh_number [] ds) cs (from_part _ cs h) in
    let count = as_many fresh_number ds cs items in (
      rw count (few_there ControllersLimit 8 word.Controllers o ds e),
      kept AreDistinct fresh_number number_kept [] ds cs (no_pairs (λ c d. c ≢ d)) items,
    ))

ports_good : (version : ℕ) (known : List ℕ) (o : Data) (ps : List PortFile) → ports_in version known o ≡ Ok ps → AreGoodPorts known ps
unfolding ports_in AreGoodPorts
ports_good version known o ps h =
    taken (few_in PortsLimit 16 word.Ports o) _ ps h (λ ds e h.
    let items = from_under (Member word.Ports) (items_after (port_of version known) [] ds) ps (from_part _ ps h) in
    let count = as_many (port_of version known) ds ps items in
    let all = kept (PortsKept known) (port_of version known) (port_kept version known) [] ds ps (no_pairs (λ p q. p.port ≢ q.port), no_pairs (λ p q. p.mac ≢ q.mac), All-nil (λ p. AreGoodLayers known p.layers), All-nil HasRows) items in
    (rw count (few_there PortsLimit 16 word.Ports o ds e), all.0, all.1, all.2, all.3))

one_or_two : (n : ℕ) → (1 ≤ n) × (n ≤ 2) → (n ≡ 1) ⊎ (n ≡ 2)
one_or_two zero h = absurd (omega (arith, h.0))
one_or_two (suc zero) h = inl refl
one_or_two (suc (suc zero)) h = inr refl
one_or_two (suc (suc (suc n))) h = absurd (omega (arith, h.1))

policy_good : (d : Data) (p : PolicyFile) → policy_of d ≡ Ok p → IsGoodPolicy p
unfolding policy_of IsGoodPolicy
policy_good d p h =
    taken (of_part (object_among file_words d)) _ p h (λ o e h.
    taken (of_part (read_in word.Version o (number_from 1 2))) _ p h (λ version first h.
    taken (controllers_in o) _ p h (λ controllers here h.
    taken (ports_in version controllers o) _ p h (λ ports there h.
    read word.Version o (number_from 1 2) version (from_part _ version first) (λ place number.
    let good = controllers_good o controllers here in
    subst (λ (q : PolicyFile). (length q.controllers ≤ 8) × AllPairs (λ c d. c ≢ d) q.controllers × AreGoodPorts q.controllers q.ports × ((q.version ≡ 1) ⊎ (q.version ≡ 2))) (same_value _ p h)
    (good.0, good.1, ports_good version controllers o ports there, one_or_two version (between 1 2 place version number)))))))

not_long : (b : Bool) (r : Result PolicyFile ConfigFault) (p : PolicyFile) → (if b then Err PolicyLimit else r) ≡ Ok p → r ≡ Ok p
not_long true r p h = cc
not_long false r p h = h

pub each_is_good : EachIsGood
each_is_good bytes p h =
    taken (of_part (json_of bytes)) policy_of p (not_long (nat_lt 4194304 (length bytes)) _ p h) (λ d e h.
    policy_good d p h)

-- what is told of the bytes is good, where it is a policy
pub told_good : (bytes : List ℕ) (r : Result PolicyFile ConfigFault) → Tells r (policy_file_of bytes) → IfOk r IsGoodPolicy
told_good bytes (Ok f) h = each_is_good bytes f h
told_good bytes (Err e) h = tt
