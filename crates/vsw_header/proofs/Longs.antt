-- Sums after words, numbers and addresses changed, one after another.
use Rattle.std.proofs.Common.{◌≡◌, ℕ, ◌+◌, ◌-◌, ◌/◌, ◌%◌, ◌^◌, ◌<◌, List, [], ◌∷◌, ◌++◌, true, refl, sym, ◌∙◌, ap, subst, arith, length, sum}
use Rattle.std.proofs.lemmas.List.Sums.{sum_by-append}
use Rattle.vsw_header.specs.Sum.{six_words}
use Rattle.vsw_header.specs.Update.{changes, update_of}
use Rattle.vsw_header.specs.Fold.{fold_of, long_words, HasChanged}
use Rattle.vsw_header.specs.IpChange as ip
use Rattle.vsw_header.specs.L4Change.{address_words, are_alike, checksum_changed, endpoint_words}
use Rattle.vsw_header.specs.declared.l4_change.Addresses.{Addresses}
use Rattle.vsw_header.specs.declared.l4_change.Addresses.TheVariants.{Six}
use Rattle.vsw_header.specs.declared.l4_change.Endpoints.{Endpoints}
use Rattle.vsw_header.proofs.Changed.{append_words, changes-append, changes_words, update_is}
use Rattle.vsw_header.proofs.Folds.{fold_same}
use Rattle.vsw_header.proofs.L4Update.{as_many}

word : (t s a b : ℕ) → b < 65536 → fold_of s ≡ fold_of (t + sum (changes (a ∷ []) (b ∷ []))) → HasChanged t (a ∷ []) (b ∷ []) s
word t s a b h e = record { words = (h, tt); folds = e }

sum_both : (t : ℕ) (xs ys ms ns : List ℕ) → length xs ≡ length ys → t + sum (changes xs ys) + sum (changes ms ns) ≡ t + sum (changes (xs ++ ms) (ys ++ ns))
sum_both t xs ys ms ns l =
    let e : sum (changes (xs ++ ms) (ys ++ ns)) ≡ sum (changes xs ys) + sum (changes ms ns) = ap sum (changes-append xs ys ms ns l) ∙ sum_by-append (λ (x : ℕ). x) (changes xs ys) (changes ms ns) in
    omega (arith, e)

-- first these, then those
both : (t s u : ℕ) (xs ys ms ns : List ℕ) → length xs ≡ length ys → HasChanged t xs ys s → HasChanged s ms ns u → HasChanged t (xs ++ ms) (ys ++ ns) u
both t s u xs ys ms ns l h k = record {
  words = append_words ys ns h.words k.words;
  folds = k.folds ∙ fold_same s (t + sum (changes xs ys)) (sum (changes ms ns)) h.folds ∙ ap fold_of (sum_both t xs ys ms ns l);
}

pub words : (t s u a b c d : ℕ) → b < 65536 → d < 65536 → fold_of s ≡ fold_of (t + sum (changes (a ∷ []) (b ∷ []))) → fold_of u ≡ fold_of (s + sum (changes (c ∷ []) (d ∷ []))) → HasChanged t (a ∷ c ∷ []) (b ∷ d ∷ []) u
words t s u a b c d h k e f = both t s u (a ∷ []) (b ∷ []) (c ∷ []) (d ∷ []) refl (word t s a b h e) (word s u c d k f)

-- an IPv6 address as numbers of 32 bits
abbrev longs : ℕ → List ℕ
longs a = long_words (a / 2 ^ 96) ++ (long_words (a / 2 ^ 64 % 2 ^ 32) ++ (long_words (a / 2 ^ 32 % 2 ^ 32) ++ long_words (a % 2 ^ 32)))

six_is : (a : ℕ) → longs a ≡ six_words a
six_is a =
    let p : a / 2 ^ 96 / 65536 ≡ a / 2 ^ 112 = omega arith in
    let q : a / 2 ^ 64 % 2 ^ 32 / 65536 ≡ a / 2 ^ 80 % 65536 = omega arith in
    let r : a / 2 ^ 64 % 2 ^ 32 % 65536 ≡ a / 2 ^ 64 % 65536 = omega arith in
    let s : a / 2 ^ 32 % 2 ^ 32 / 65536 ≡ a / 2 ^ 48 % 65536 = omega arith in
    let t : a / 2 ^ 32 % 2 ^ 32 % 65536 ≡ a / 2 ^ 32 % 65536 = omega arith in
    let u : a % 2 ^ 32 / 65536 ≡ a / 2 ^ 16 % 65536 = omega arith in
    let v : a % 2 ^ 32 % 65536 ≡ a % 65536 = omega arith in
    cc (p, q, r, s, t, u, v)

pub six_changed : (t u v w x a b p q : ℕ) → a ≡ p → b ≡ q → HasChanged t (long_words (a / 2 ^ 96)) (long_words (b / 2 ^ 96)) u → HasChanged u (long_words (a / 2 ^ 64 % 2 ^ 32)) (long_words (b / 2 ^ 64 % 2 ^ 32)) v → HasChanged v (long_words (a / 2 ^ 32 % 2 ^ 32)) (long_words (b / 2 ^ 32 % 2 ^ 32)) w → HasChanged w (long_words (a % 2 ^ 32)) (long_words (b % 2 ^ 32)) x → HasChanged t (six_words p) (six_words q) x
six_changed t u v w x a b p q e f h i j k =
    let last = both v w x (long_words (a / 2 ^ 32 % 2 ^ 32)) (long_words (b / 2 ^ 32 % 2 ^ 32)) (long_words (a % 2 ^ 32)) (long_words (b % 2 ^ 32)) refl j k in
    let more = both u v x (long_words (a / 2 ^ 64 % 2 ^ 32)) (long_words (b / 2 ^ 64 % 2 ^ 32)) _ _ refl i last in
    let all : HasChanged t (longs a) (longs b) x = both t u x (long_words (a / 2 ^ 96)) (long_words (b / 2 ^ 96)) _ _ refl h more in
    subst (λ ms. HasChanged t ms (six_words q) x) (six_is a ∙ ap six_words e) (subst (λ ns. HasChanged t (longs a) ns x) (six_is b ∙ ap six_words f) all)

pub sixes_changed : (t s u a b c d : ℕ) (x y : Addresses) → x ≡ Six a b → y ≡ Six c d → HasChanged t (six_words a) (six_words c) s → HasChanged s (six_words b) (six_words d) u → HasChanged t (address_words x) (address_words y) u
sixes_changed t s u a b c d x y e f h k = rw (e, f) (both t s u (six_words a) (six_words c) (six_words b) (six_words d) refl h k)

-- an updated checksum from its sum
update_from : (old t : ℕ) (ms ns : List ℕ) → HasChanged (65535 - old) ms ns t → 65535 - fold_of t ≡ update_of old ms ns
update_from old t ms ns h = ap (λ (n : ℕ). 65535 - n) h.folds ∙ sym (update_is old ms ns (changes_words ms ns h.words))

pub addresses_updated : (old n t u a b c d x y : ℕ) → n ≡ 65535 - old → x ≡ c → y ≡ d → HasChanged n (long_words a) (long_words x) t → HasChanged t (long_words b) (long_words y) u → 65535 - fold_of u ≡ update_of old (ip.address_words a b) (ip.address_words c d)
addresses_updated old n t u a b c d x y e f g h k =
    let first : HasChanged (65535 - old) (long_words a) (long_words c) t = rw (e, f) at h in
    let second : HasChanged t (long_words b) (long_words d) u = rw g at k in
    update_from old u (ip.address_words a b) (ip.address_words c d) (both (65535 - old) t u (long_words a) (long_words c) (long_words b) (long_words d) refl first second)

pub ends_updated : (old n t u : ℕ) (from to : Endpoints) → are_alike from.at to.at ≡ true → n ≡ 65535 - old → HasChanged n (address_words from.at) (address_words to.at) t → HasChanged t (from.src_port ∷ from.dst_port ∷ []) (to.src_port ∷ to.dst_port ∷ []) u → 65535 - fold_of u ≡ checksum_changed old from to
ends_updated old n t u from to alike e h k =
    let first : HasChanged (65535 - old) (address_words from.at) (address_words to.at) t = rw e at h in
    update_from old u (endpoint_words from) (endpoint_words to) (both (65535 - old) t u (address_words from.at) (address_words to.at) (from.src_port ∷ from.dst_port ∷ []) (to.src_port ∷ to.dst_port ∷ []) (as_many from.at to.at alike) first k)
