-- A row is 0 beyond its words in use, in the order in which a look loads them.
use Rattle.std.proofs.Common.{◌≡◌, ℕ, ◌+◌, ◌-◌, ◌*◌, ◌/◌, ◌%◌, ◌<◌, ◌≤◌, ◌&&◌, Bool, true, false, min, max, nat_lt, nat_le, if◌then◌else◌, List, [], ◌∷◌, ◌++◌, refl, sym, ◌∙◌, ap, subst, arith, length, length-append, drop, get_or, Some, None}
use Rattle.std.specs.Prelude.{replicate}
use Rattle.std.proofs.Math.Seq.{drop-append-add, drop-append_seam}
use Rattle.std.proofs.lemmas.Grind.{common_steps}
use Rattle.std.proofs.lemmas.List.{get_or-append-add, get_or-drop, get_or-replicate}
use Rattle.vsw_base.specs.declared.header.Header.{Header}
use Rattle.vsw_base.specs.declared.header.Header.TheVariants.{Ether, Ip, Vxlan, Ports, Six}
use Rattle.vsw_base.specs.declared.packet.Dir.{Dir}
use Rattle.vsw_base.specs.declared.packet.Dir.TheVariants.{Out, In}
use Rattle.vsw_base.specs.declared.fate.Verdict.{Verdict}
use Rattle.vsw_base.specs.declared.fate.Verdict.TheVariants.{Pass, Rule, Default}
use Rattle.vsw_base.specs.declared.flow.Ufid.{Ufid}
use Rattle.vsw_base.specs.Shape.{is_stack, is_plain, encaps, inner}
use Rattle.vsw_base.proofs.Stacks.{plain_cases, stack_cases}
use Rattle.vsw_stamps.specs.Order.{front, word_at}
use Rattle.vsw_transpose.specs.declared.act.Change.TheVariants as of
use Rattle.vsw_transpose.specs.declared.act.Act.{Act}
use Rattle.vsw_transpose.specs.declared.act.Act.TheVariants.{Push, Pop, Modify, Ignore}
use Rattle.vsw_words.specs.Id.{split}
use Rattle.vsw_words.specs.Key.{key_words, head_word, head_bounds, joined, side, inner_fields, padded, macs, addresses, sixes}
use Rattle.vsw_words.specs.Law.{IsId}
use Rattle.vsw_words.specs.Row.{act_words, acts_words, all_halves, body_words, row_words, is_plain_head, body_in_use, row_in_use, in_use}
use Rattle.vsw_words.proofs.Decoded.{padded_length, bounded}
use Rattle.vsw_words.proofs.Fields.{split_joined}
use Rattle.vsw_stamps.proofs.Turns.{front_word, last_word}
use Rattle.vsw_words.proofs.Turns.{Each, others, rest_of_key}

act_length : (x : Act) → length (act_words x) ≡ 3
act_length (Push (Ether d s k)) = refl
act_length (Push (Ip a b p q)) = refl
act_length (Push (Vxlan v)) = refl
act_length (Push (Ports p a b)) = refl
act_length (Push (Six a b p)) = refl
act_length Pop = refl
act_length (Modify (of.Ether d s)) = refl
act_length (Modify (of.Ip a b)) = refl
act_length (Modify (of.Ports a b)) = refl
act_length (Modify (of.Six None None)) = refl
act_length (Modify (of.Six None (Some b))) = refl
act_length (Modify (of.Six (Some a) b)) = refl
act_length Ignore = refl

acts_length : (xs : List Act) → length (acts_words xs) ≡ 3 * length xs
acts_length [] = refl
acts_length (x ∷ xs) = omega (arith, length-append (act_words x) (acts_words xs), act_length x, acts_length xs)

pub key_length : (dir : Dir) (hs : List Header) → length (key_words dir hs) ≡ 16
unfolding key_words
key_length dir hs =
    let ss : List ℕ = padded 4 (sixes hs) in
    omega (arith, length-append (padded 6 (macs hs)) (padded 3 (addresses hs) ++ (ss ++ 0 ∷ [])), length-append (padded 3 (addresses hs)) (ss ++ 0 ∷ []), length-append ss (0 ∷ []), padded_length 6 (macs hs), padded_length 3 (addresses hs), padded_length 4 (sixes hs))

-- the words of a body that its first words say are in use
abbrev used : Verdict → List Act → ℕ
used Pass by = 3 + 3 * length (all_halves by)
used verdict by = 4

at : (key body : List ℕ) (n : ℕ) → length key ≡ 16 → get_or (key ++ body) (16 + n) 0 ≡ get_or body n 0
at key body n e = ap (λ (k : ℕ). get_or (key ++ body) (k + n) 0) (sym e) ∙ get_or-append-add key body n 0

few_used : (n : ℕ) → n ≤ 18 → 3 + 3 * min n 18 ≡ 3 + 3 * n
few_used n few = omega (arith, few)

body_is : (verdict : Verdict) (by : List Act) (until : ℕ) → length (all_halves by) ≤ 18 → body_in_use (get_or (body_words verdict by until) 0 0) (get_or (body_words verdict by until) 2 0) ≡ used verdict by
unfolding body_words
body_is Pass by until few = few_used (length (all_halves by)) few
body_is (Rule c l g r) by until few = refl
body_is (Default c l Out) by until few = refl
body_is (Default c l In) by until few = refl

zero_at : (words : List ℕ) (used count : ℕ) → drop used words ≡ replicate count 0 → (n : ℕ) → used ≤ n → n < used + count → get_or words n 0 ≡ 0
zero_at words used count e n low high =
    let k : ℕ = n - used in
    ap (λ (m : ℕ). get_or words m 0) (omega (arith, low)) ∙ sym (get_or-drop used words k 0) ∙ ap (λ (ws : List ℕ). get_or ws k 0) e ∙ get_or-replicate count k 0 0 (omega (arith, low, high))

-- a body is 0 beyond them
body_ends : (verdict : Verdict) (by : List Act) (until : ℕ) → length (all_halves by) ≤ 18 → drop (used verdict by) (body_words verdict by until) ≡ replicate (57 - used verdict by) 0
unfolding body_words
body_ends Pass by until few =
    let acts : List ℕ = acts_words (all_halves by) in
    let words : List ℕ = 0 ∷ until ∷ length (all_halves by) ∷ [] in
    let n : 3 + 3 * length (all_halves by) ≡ 3 + length acts = omega (arith, acts_length (all_halves by)) in
    let m : 54 - length acts ≡ 57 - (3 + 3 * length (all_halves by)) = omega (arith, acts_length (all_halves by)) in
    let rest : List ℕ = replicate (54 - length acts) 0 in
    ap (λ (k : ℕ). drop k (words ++ (acts ++ rest))) n ∙ drop-append-add words (acts ++ rest) (length acts) ∙ drop-append_seam acts rest ∙ ap (λ (k : ℕ). replicate k 0) m
body_ends (Rule c l g r) by until few = refl
body_ends (Default c l Out) by until few = refl
body_ends (Default c l In) by until few = refl

used_few : (verdict : Verdict) (by : List Act) → length (all_halves by) ≤ 18 → used verdict by ≤ 57
used_few Pass by few = omega (arith, few)
used_few (Rule c l g r) by few = omega arith
used_few (Default c l d) by few = omega arith

-- so is a row beyond as many words behind its key
beyond : (key : List ℕ) (verdict : Verdict) (by : List Act) (until : ℕ) → length key ≡ 16 → length (all_halves by) ≤ 18 → (n : ℕ) → 16 + used verdict by ≤ n → n < 73 → get_or (key ++ body_words verdict by until) n 0 ≡ 0
beyond key verdict by until e few n low high =
    let words : List ℕ = body_words verdict by until in
    ap (λ (m : ℕ). get_or (key ++ words) m 0) (omega (arith, low)) ∙ at key words (n - 16) e
    ∙ zero_at words (used verdict by) (57 - used verdict by) (body_ends verdict by until few) (n - 16) (omega (arith, low)) (omega (arith, low, high, used_few verdict by few))

-- the words of a key of which all but four are 0
abbrev plain_words : ℕ → ℕ → ℕ → ℕ → List ℕ
plain_words head dst src pair = head ∷ 0 ∷ dst ∷ src ∷ 0 ∷ 0 ∷ 0 ∷ 0 ∷ pair ∷ 0 ∷ 0 ∷ 0 ∷ 0 ∷ 0 ∷ 0 ∷ 0 ∷ []

abbrev IsPlain : List ℕ → Type 0
IsPlain key = key ≡ plain_words (get_or key 0 0) (get_or key 2 0) (get_or key 3 0) (get_or key 8 0)

-- headers without encapsulation and IPv6 have such a key
abbrev HasPlain : List Header → Type 0
HasPlain hs = (dir : Dir) → encaps hs ≡ 0 → get_or (inner_fields (inner hs)) 3 0 ≡ 0 → IsPlain (key_words dir hs)

plain_stack : (hs : List Header) → is_plain hs ≡ true → HasPlain hs
unfolding key_words
plain_stack = plain_cases HasPlain
    (λ d s k t dir none four. refl)
    (λ d s k a b p q t dir none four. refl)
    (λ d s k a b p q x y t dir none four. refl)
    (λ d s k a b p t dir none four. absurd (omega (arith, four)))
    (λ d s k a b p x y t dir none four. absurd (omega (arith, four)))

plain_key : (hs : List Header) → is_stack hs ≡ true → HasPlain hs
plain_key = stack_cases HasPlain plain_stack
    (λ hs t d s a b v n dir none four. absurd (omega (arith, none)))
    (λ hs t e g h i w m d s a b v n dir none four. absurd (omega (arith, none)))

-- the fields that the test of a first word reads
plain_head : (head : ℕ) → is_plain_head head ≡ true → (head / 2 / 2 % 4 ≡ 0) × (head / 2 / 2 / 4 / 2 / 2 / 2 % 2 ≡ 0)
plain_head head t =
    let none : head / 4 % 4 ≡ 0 = grind (arith, common_steps) in
    let four : head / 128 % 2 ≡ 0 = grind (arith, common_steps) in
    (omega (arith, none), omega (arith, four))

key_plain : (id : Ufid) → IsId id → is_plain_head (head_word (side id.dir) (encaps id.stack) (inner id.stack)) ≡ true → IsPlain (key_words id.dir id.stack)
key_plain id is t =
    let hs : List Header = id.stack in
    let fields : List ℕ = 1 ∷ side id.dir ∷ encaps hs ∷ inner_fields (inner hs) in
    let read : split head_bounds (joined head_bounds fields) ≡ fields = split_joined head_bounds fields (bounded hs is.stack id.dir is.fit).0 in
    let zeros = plain_head (joined head_bounds fields) t in
    plain_key hs is.stack id.dir (sym (ap (λ (l : List ℕ). get_or l 2 0) read) ∙ zeros.0) (sym (ap (λ (l : List ℕ). get_or l 6 0) read) ∙ zeros.1)

-- all but the four are 0 in a row, too
others_zero : (key body : List ℕ) → IsPlain key → Each (λ n. get_or (key ++ body) n 0 ≡ 0) others
others_zero key body is =
    subst (λ (ks : List ℕ). Each (λ n. get_or (ks ++ body) n 0 ≡ 0) others) (sym is) (refl, (refl, (refl, (refl, (refl, (refl, (refl, (refl, (refl, (refl, (refl, (refl, tt))))))))))))

-- a row that is 0 beyond so many words of its body is 0 in the words that are loaded last
late : (row : List ℕ) (used : ℕ) → ((n : ℕ) → 16 + used ≤ n → n < 73 → get_or row n 0 ≡ 0) → (turn : ℕ) → 43 ≤ turn → 16 + used ≤ turn → turn < 73 → get_or row (word_at turn) 0 ≡ 0
late row used beyond turn from behind high = subst (λ n. get_or row n 0 ≡ 0) (sym (last_word turn from high)) (beyond turn behind high)

-- one with a plain key is 0 behind four words of this key and so many of its body
plain_ends : (row : List ℕ) (used : ℕ) → ((n : ℕ) → 16 + used ≤ n → n < 73 → get_or row n 0 ≡ 0) → Each (λ n. get_or row n 0 ≡ 0) others → used ≤ 27
    → (turn : ℕ) → 4 + used ≤ turn → turn < 73 → get_or row (word_at turn) 0 ≡ 0
plain_ends row used beyond rest few turn low high = by_turn (nat_lt turn 31) (nat_lt turn 43) refl refl
  where
    by_turn : (c d : Bool) → nat_lt turn 31 ≡ c → nat_lt turn 43 ≡ d → get_or row (word_at turn) 0 ≡ 0
    by_turn true d f g =
        let before : turn < 31 = grind (arith, common_steps) in
        subst (λ n. get_or row n 0 ≡ 0) (sym (front_word turn (omega (arith, low)) before)) (beyond (turn + 12) (omega (arith, low)) (omega (arith, before)))
    by_turn false true f g =
        let from : 31 ≤ turn = grind (arith, common_steps) in
        let before : turn < 43 = grind (arith, common_steps) in
        rest_of_key (λ n. get_or row n 0 ≡ 0) rest turn from before
    by_turn false false f g =
        let from : 43 ≤ turn = grind (arith, common_steps) in
        late row used beyond turn from (omega (arith, from, few)) high

ends : (row : List ℕ) (head used : ℕ) → ((n : ℕ) → 16 + used ≤ n → n < 73 → get_or row n 0 ≡ 0) → (is_plain_head head ≡ true → Each (λ n. get_or row n 0 ≡ 0) others)
    → (turn : ℕ) → row_in_use head used ≤ turn → turn < 73 → get_or row (word_at turn) 0 ≡ 0
ends row head used beyond rest turn low high = by_plain (is_plain_head head) (nat_le used 27) refl refl low
  where
    by_plain : (a b : Bool) → is_plain_head head ≡ a → nat_le used 27 ≡ b → (if a && b then 4 + used else max 43 (16 + used)) ≤ turn → get_or row (word_at turn) 0 ≡ 0
    by_plain false b e f from = late row used beyond turn (omega (arith, from)) (omega (arith, from)) high
    by_plain true false e f from = late row used beyond turn (omega (arith, from)) (omega (arith, from)) high
    by_plain true true e f from =
        let few : used ≤ 27 = grind (arith, common_steps) in
        plain_ends row used beyond (rest e) few turn from high

pub row_ends : (id : Ufid) (verdict : Verdict) (by : List Act) (until : ℕ) → IsId id → length (all_halves by) ≤ 18
    → (turn : ℕ) → in_use (front (row_words id verdict by until)) ≤ turn → turn < 73 → get_or (row_words id verdict by until) (word_at turn) 0 ≡ 0
unfolding row_words key_words
row_ends id verdict by until is few turn low high =
    let key : List ℕ = key_words id.dir id.stack in
    let words : List ℕ = body_words verdict by until in
    let e : length key ≡ 16 = key_length id.dir id.stack in
    let told : body_in_use (get_or (key ++ words) 16 0) (get_or (key ++ words) 18 0) ≡ used verdict by
    = (λ i. body_in_use (at key words 0 e i) (at key words 2 e i)) ∙ body_is verdict by until few in
    ends (key ++ words) (get_or (key ++ words) 0 0) (used verdict by) (beyond key verdict by until e few) (λ t. others_zero key words (key_plain id is t)) turn (subst (λ n. row_in_use (get_or (key ++ words) 0 0) n ≤ turn) told low) high
