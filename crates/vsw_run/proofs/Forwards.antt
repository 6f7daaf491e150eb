-- The words after `forward`, `offload`, `check` and `engine`: what the grammar says of them is worked out of them, and nothing else.
use Rattle.std.proofs.Common.{◌≡◌, ◌≢◌, ℕ, suc, Bool, true, false, List, [], ◌∷◌, length, Option, Some, None, cond, refl, sym, ap, ◌∙◌, subst, arith}
use Rattle.std.specs.Prelude.{option_and_then}
use Rattle.std.specs.List.{list_any}
use Rattle.std.proofs.lemmas.Bool.{cond-false, ne_eqb, or_from, or_parts, both_ways}
use Rattle.std.proofs.lemmas.List.Elements.{All-nil, All-cons, All-head, All-tail}
use Rattle.std.proofs.lemmas.Option.{none-some, same_Some}
use Rattle.vsw_run.specs.Grammar.{AreNames, ArePlain, IsForward, IsOffload, IsClaim, IsQuery, files_of}
use Rattle.vsw_run.specs.Words.{Request, Claim, Query, Named, is_empty, request_of, claim_of, query_of, named_in, plain_in, forward_in, offload_in, check_in, engine_in}
use Rattle.vsw_run.proofs.Naming.{Full, names_read, names_are, plain_read, plain_are}

-- ---- names, none of them empty

full : (word : List ℕ) → word ≢ [] → is_empty word ≡ false
full [] h = absurd (h refl)
full (c ∷ cs) h = ne_eqb (suc (length cs)) 0 (λ e. omega (arith, e))

filled : (word : List ℕ) → is_empty word ≡ false → word ≢ []
filled word f e = both_ways (is_empty word) f (subst (λ w. is_empty w ≡ true) (sym e) refl)

none_empty : (names : List (List ℕ)) → Full names → list_any is_empty names ≡ false
none_empty [] h = refl
none_empty (name ∷ names) h = or_from _ _ (full name (All-head (λ name. name ≢ []) name names h)) (none_empty names (All-tail (λ name. name ≢ []) name names h))

all_full : (names : List (List ℕ)) → list_any is_empty names ≡ false → Full names
all_full [] f = All-nil (λ name. name ≢ [])
all_full (name ∷ names) f =
    let (one, more) = or_parts (is_empty name) (list_any is_empty names) f in All-cons (λ name. name ≢ []) name names (filled name one) (all_full names more)

-- what is answered unless a test passes
unless : {A : Type 0} (b : Bool) (r q : A) → cond b None (Some r) ≡ Some q → (b ≡ false) × (r ≡ q)
unless true r q e = absurd (none-some q e)
unless false r q e = (refl, same_Some r q e)

-- what is read of names that were read
through : {A : Type 0} (f : ℕ → List (List ℕ) → Option A) (words : List (List ℕ)) (n : ℕ) (names : List (List ℕ)) → AreNames words n names → option_and_then (λ (m : Named). f m.workers m.names) (named_in words) ≡ f n names
through f words n names h = ap (option_and_then (λ (m : Named). f m.workers m.names)) (names_read words n names h)

-- the names of which something was read
record Behind {A : Type 0} (f : ℕ → List (List ℕ) → Option A) (words : List (List ℕ)) (x : A) : Type 0 where
  named : Named
  read : named_in words ≡ Some named
  is : f named.workers named.names ≡ Some x

behind : {A : Type 0} (f : ℕ → List (List ℕ) → Option A) (words : List (List ℕ)) (x : A) → option_and_then (λ (m : Named). f m.workers m.names) (named_in words) ≡ Some x → Behind f words x
behind {A} f words x e = by (named_in words) refl e where
  by : (o : Option Named) → named_in words ≡ o → option_and_then (λ (m : Named). f m.workers m.names) o ≡ Some x → Behind f words x
  by None is e = absurd (none-some x e)
  by (Some n) is e = record { named = n; read = is; is = e }

-- ---- three names

request_fits : (q : Request) → Full (files_of q) → request_of q.workers (files_of q) ≡ Some q
request_fits q h = cond-false (list_any is_empty (files_of q)) None _ (none_empty (files_of q) h)

request_is : (n : ℕ) (names : List (List ℕ)) (q : Request) → request_of n names ≡ Some q → (n ≡ q.workers) × (names ≡ files_of q) × Full names
request_is n [] q e = absurd (none-some q e)
request_is n (p ∷ []) q e = absurd (none-some q e)
request_is n (p ∷ c ∷ []) q e = absurd (none-some q e)
request_is n (p ∷ c ∷ t ∷ []) q e =
    let (f, is) = unless (list_any is_empty (p ∷ c ∷ t ∷ [])) (record { workers = n; policy = p; commands = c; trace = t }) q e in
    (ap (λ (r : Request). r.workers) is, ap files_of is, all_full (p ∷ c ∷ t ∷ []) f)
request_is n (p ∷ c ∷ t ∷ x ∷ xs) q e = absurd (none-some q e)

pub forward_reads : (words : List (List ℕ)) (q : Request) → IsForward words q → forward_in words ≡ Some q
forward_reads words q f = through request_of words q.workers (files_of q) f ∙ request_fits q f.nonempty

pub forward_is : (words : List (List ℕ)) (q : Request) → forward_in words ≡ Some q → IsForward words q
forward_is words q e =
    let b = behind request_of words q e in
    let (count, are, full) = request_is b.named.workers b.named.names q b.is in
    subst (λ n. AreNames words n (files_of q)) count (subst (AreNames words b.named.workers) are (names_are words b.named b.read full))

pub offload_reads : (words : List (List ℕ)) (q : Request) → IsOffload words q → offload_in words ≡ Some q
offload_reads words q f = ap (option_and_then (request_of 1)) (plain_read words (files_of q) f.1) ∙ subst (λ n. request_of n (files_of q) ≡ Some q) f.0 (request_fits q f.1.nonempty)

pub offload_is : (words : List (List ℕ)) (q : Request) → offload_in words ≡ Some q → IsOffload words q
offload_is words q e = by (plain_in words) refl e where
  by : (o : Option (List (List ℕ))) → plain_in words ≡ o → option_and_then (request_of 1) o ≡ Some q → IsOffload words q
  by None is e = absurd (none-some q e)
  by (Some names) is e =
      let (count, are, full) = request_is 1 names q e in
      (sym count, subst (ArePlain words) are (plain_are words names is full))

-- ---- four names

abbrev named : Claim → List (List ℕ)
named c = c.run.policy ∷ c.run.commands ∷ c.run.trace ∷ c.report ∷ []

claim_fits : (c : Claim) → Full (named c) → claim_of c.run.workers (named c) ≡ Some c
claim_fits c h = cond-false (list_any is_empty (named c)) None _ (none_empty (named c) h)

claim_is : (n : ℕ) (names : List (List ℕ)) (c : Claim) → claim_of n names ≡ Some c → (n ≡ c.run.workers) × (names ≡ named c) × Full names
claim_is n [] c e = absurd (none-some c e)
claim_is n (p ∷ []) c e = absurd (none-some c e)
claim_is n (p ∷ m ∷ []) c e = absurd (none-some c e)
claim_is n (p ∷ m ∷ t ∷ []) c e = absurd (none-some c e)
claim_is n (p ∷ m ∷ t ∷ r ∷ []) c e =
    let (f, is) = unless (list_any is_empty (p ∷ m ∷ t ∷ r ∷ [])) (record { run = record { workers = n; policy = p; commands = m; trace = t }; report = r }) c e in
    (ap (λ (k : Claim). k.run.workers) is, ap named is, all_full (p ∷ m ∷ t ∷ r ∷ []) f)
claim_is n (p ∷ m ∷ t ∷ r ∷ x ∷ xs) c e = absurd (none-some c e)

pub check_reads : (words : List (List ℕ)) (c : Claim) → IsClaim words c → check_in words ≡ Some c
check_reads words c f = through claim_of words c.run.workers (named c) f ∙ claim_fits c f.nonempty

pub check_is : (words : List (List ℕ)) (c : Claim) → check_in words ≡ Some c → IsClaim words c
check_is words c e =
    let b = behind claim_of words c e in
    let (count, are, full) = claim_is b.named.workers b.named.names c b.is in
    subst (λ n. AreNames words n (named c)) count (subst (AreNames words b.named.workers) are (names_are words b.named b.read full))

-- ---- two names without an option

abbrev two : Query → List (List ℕ)
two q = q.rows ∷ q.trace ∷ []

query_fits : (q : Query) → Full (two q) → query_of (two q) ≡ Some q
query_fits q h = cond-false (list_any is_empty (two q)) None _ (none_empty (two q) h)

query_is : (names : List (List ℕ)) (q : Query) → query_of names ≡ Some q → (names ≡ two q) × Full names
query_is [] q e = absurd (none-some q e)
query_is (r ∷ []) q e = absurd (none-some q e)
query_is (r ∷ t ∷ []) q e =
    let (f, is) = unless (list_any is_empty (r ∷ t ∷ [])) (record { rows = r; trace = t }) q e in (ap two is, all_full (r ∷ t ∷ []) f)
query_is (r ∷ t ∷ x ∷ xs) q e = absurd (none-some q e)

pub engine_reads : (words : List (List ℕ)) (q : Query) → IsQuery words q → engine_in words ≡ Some q
engine_reads words q f = ap (option_and_then query_of) (plain_read words (two q) f) ∙ query_fits q f.nonempty

pub engine_is : (words : List (List ℕ)) (q : Query) → engine_in words ≡ Some q → IsQuery words q
engine_is words q e = by (plain_in words) refl e where
  by : (o : Option (List (List ℕ))) → plain_in words ≡ o → option_and_then query_of o ≡ Some q → IsQuery words q
  by None is e = absurd (none-some q e)
  by (Some names) is e =
      let (are, full) = query_is names q e in
      subst (ArePlain words) are (plain_are words names is full)
