-- The form of a transposition is found one act at a time.
use Rattle.std.proofs.Common.{◌≡◌, ℕ, ◌+◌, ◌%◌, ◌≤◌, ◌==◌, ◌&&◌, List, [], ◌∷◌, refl, sym, ◌∙◌, ap, arith, length, true, false, Bool, nat_le, suc}
use Rattle.std.proofs.lemmas.Grind.{common_steps}
use Rattle.vsw_base.specs.declared.header.Header.TheVariants.{Ether, Ip, Vxlan, Ports, Six}
use Rattle.vsw_transpose.specs.declared.act.Act.{Act}
use Rattle.vsw_transpose.specs.declared.act.Act.TheVariants.{Push, Pop, Modify, Ignore}
use Rattle.vsw_transpose.specs.Chain.{chain}
use Rattle.vsw_transpose.specs.Form.{all_write, is_form, pushed, pops, are_stays, are_late, are_ordered}
use Rattle.vsw_transpose.proofs.Encaps.{chained}
use Rattle.vsw_words.specs.declared.stage.Stage.{Stage}
use Rattle.vsw_words.specs.declared.stage.Stage.TheVariants.{Pops, OnePop, TwoPops, Pushes, BehindEther, BehindIp, Stays, Wrong}
use Rattle.vsw_words.specs.Stage.{if_so, is_rest}

if_wrong : (t : Bool) → if_so t Wrong ≡ Wrong
if_wrong true = refl
if_wrong false = refl

wrong : (xs : List Act) → is_rest Wrong xs ≡ false
wrong [] = refl
wrong (Push (Ether d s k) ∷ xs) = ap (λ (t : Stage). is_rest t xs) (if_wrong _) ∙ wrong xs
wrong (Push (Ip a b p q) ∷ xs) = ap (λ (t : Stage). is_rest t xs) (if_wrong _) ∙ wrong xs
wrong (Push (Vxlan v) ∷ xs) = ap (λ (t : Stage). is_rest t xs) (if_wrong _) ∙ wrong xs
wrong (Push (Ports p a b) ∷ xs) = wrong xs
wrong (Push (Six a b p) ∷ xs) = wrong xs
wrong (Pop ∷ xs) = wrong xs
wrong (Modify c ∷ xs) = wrong xs
wrong (Ignore ∷ xs) = wrong xs

if_wrong_rest : (t : Bool) (xs : List Act) → is_rest (if_so t Wrong) xs ≡ false
if_wrong_rest t xs = ap (λ (s : Stage). is_rest s xs) (if_wrong t) ∙ wrong xs

if_rest : (t : Bool) (s : Stage) (xs : List Act) → is_rest (if_so t s) xs ≡ (t && is_rest s xs)
if_rest true s xs = refl
if_rest false s xs = wrong xs

swap : (a b c : Bool) → (a && (b && c)) ≡ (b && (a && c))
swap true b c = refl
swap false true c = refl
swap false false c = refl

none : (a : Bool) → (a && false) ≡ false
none true = refl
none false = refl

stays : (xs : List Act) → is_rest Stays xs ≡ are_stays xs
stays [] = refl
stays (Push (Ether d s k) ∷ xs) = if_wrong_rest _ xs
stays (Push (Ip a b p q) ∷ xs) = if_wrong_rest _ xs
stays (Push (Vxlan v) ∷ xs) = if_wrong_rest _ xs
stays (Push (Ports p a b) ∷ xs) = wrong xs
stays (Push (Six a b p) ∷ xs) = wrong xs
stays (Pop ∷ xs) = wrong xs
stays (Modify c ∷ xs) = stays xs
stays (Ignore ∷ xs) = stays xs

-- behind whole encapsulations, and nowhere else, acts at headers that stay may stand
stays_whole : (xs : List Act) → are_stays xs ≡ (are_stays xs && chain 0 (pushed xs))
stays_whole [] = refl
stays_whole (Push h ∷ xs) = refl
stays_whole (Pop ∷ xs) = refl
stays_whole (Modify c ∷ xs) = stays_whole xs
stays_whole (Ignore ∷ xs) = stays_whole xs

stays_broken : (n : ℕ) (xs : List Act) → false ≡ (are_stays xs && chain (suc n) (pushed xs))
stays_broken n [] = refl
stays_broken n (Push h ∷ xs) = refl
stays_broken n (Pop ∷ xs) = refl
stays_broken n (Modify c ∷ xs) = stays_broken n xs
stays_broken n (Ignore ∷ xs) = stays_broken n xs

-- acts that have no pops in front
record IsLate (xs : List Act) : Type 0 where
  whole : is_rest Pushes xs ≡ (are_late xs && chain 0 (pushed xs))
  ether : is_rest BehindEther xs ≡ (are_late xs && chain 1 (pushed xs))
  ip : is_rest BehindIp xs ≡ (are_late xs && chain 2 (pushed xs))

pushes_on : (t : Bool) (s : Stage) (xs : List Act) (late rest : Bool) → is_rest s xs ≡ (late && rest) → is_rest (if_so t s) xs ≡ (late && (t && rest))
pushes_on t s xs late rest e = if_rest t s xs ∙ ap (λ (b : Bool). t && b) e ∙ swap t late rest

broken : (t : Bool) (xs : List Act) (late : Bool) → is_rest (if_so t Wrong) xs ≡ (late && false)
broken t xs late = if_wrong_rest t xs ∙ sym (none late)

late : (xs : List Act) → IsLate xs
late [] = record { whole = refl; ether = refl; ip = refl }
late (Push (Ether d s k) ∷ xs) = record { whole = pushes_on (k == 2048) BehindEther xs (are_late xs) (chain 1 (pushed xs)) (IsLate.ether (late xs)); ether = broken _ xs (are_late xs); ip = broken _ xs (are_late xs) }
late (Push (Ip a b p q) ∷ xs) = record { whole = broken _ xs (are_late xs); ether = pushes_on _ BehindIp xs (are_late xs) (chain 2 (pushed xs)) (IsLate.ip (late xs)); ip = broken _ xs (are_late xs) }
late (Push (Vxlan v) ∷ xs) = record { whole = broken _ xs (are_late xs); ether = broken _ xs (are_late xs); ip = pushes_on _ Pushes xs (are_late xs) (chain 0 (pushed xs)) (IsLate.whole (late xs)) }
late (Push (Ports p a b) ∷ xs) = record { whole = wrong xs ∙ sym (none (are_late xs)); ether = wrong xs ∙ sym (none (are_late xs)); ip = wrong xs ∙ sym (none (are_late xs)) }
late (Push (Six a b p) ∷ xs) = record { whole = wrong xs ∙ sym (none (are_late xs)); ether = wrong xs ∙ sym (none (are_late xs)); ip = wrong xs ∙ sym (none (are_late xs)) }
late (Pop ∷ xs) = record { whole = wrong xs; ether = wrong xs; ip = wrong xs }
late (Modify c ∷ xs) = record { whole = stays xs ∙ stays_whole xs; ether = wrong xs ∙ stays_broken 0 xs; ip = wrong xs ∙ stays_broken 1 xs }
late (Ignore ∷ xs) = record { whole = stays xs ∙ stays_whole xs; ether = wrong xs ∙ stays_broken 0 xs; ip = wrong xs ∙ stays_broken 1 xs }

zero_plus : (n : ℕ) → 0 + n ≡ n
zero_plus n = omega arith

-- behind the pops there are none
stays_pops : (k : ℕ) (xs : List Act) → (are_stays xs && ((pops xs + k) % 3 == 0)) ≡ (are_stays xs && (k % 3 == 0))
stays_pops k [] = ap (λ (n : ℕ). n % 3 == 0) (zero_plus k)
stays_pops k (Push h ∷ xs) = refl
stays_pops k (Pop ∷ xs) = refl
stays_pops k (Modify c ∷ xs) = stays_pops k xs
stays_pops k (Ignore ∷ xs) = stays_pops k xs

late_pops : (k : ℕ) (xs : List Act) → (are_late xs && ((pops xs + k) % 3 == 0)) ≡ (are_late xs && (k % 3 == 0))
late_pops k [] = ap (λ (n : ℕ). n % 3 == 0) (zero_plus k)
late_pops k (Push h ∷ xs) = late_pops k xs
late_pops k (Pop ∷ xs) = refl
late_pops k (Modify c ∷ xs) = stays_pops k xs
late_pops k (Ignore ∷ xs) = stays_pops k xs

-- acts of which so many pops of one encapsulation stand before
abbrev counted : ℕ → List Act → Bool
counted k xs = are_ordered xs && ((pops xs + k) % 3 == 0) && chain 0 (pushed xs)

record IsOrdered (xs : List Act) : Type 0 where
  whole : is_rest Pops xs ≡ counted 0 xs
  one : is_rest OnePop xs ≡ counted 1 xs
  two : is_rest TwoPops xs ≡ counted 2 xs

true_all : (a : Bool) → (a && true) ≡ a
true_all true = refl
true_all false = refl

late_whole : (xs : List Act) → (are_late xs && chain 0 (pushed xs)) ≡ (are_late xs && ((pops xs + 0) % 3 == 0) && chain 0 (pushed xs))
late_whole xs = ap (λ (b : Bool). b && chain 0 (pushed xs)) (sym (late_pops 0 xs ∙ true_all (are_late xs)))

late_part : (k : ℕ) (xs : List Act) → (k % 3 == 0) ≡ false → false ≡ (are_late xs && ((pops xs + k) % 3 == 0) && chain 0 (pushed xs))
late_part k xs e = ap (λ (b : Bool). b && chain 0 (pushed xs)) (sym (late_pops k xs ∙ ap (λ (b : Bool). are_late xs && b) e ∙ none (are_late xs)))

ordered : (xs : List Act) → IsOrdered xs
ordered [] = record { whole = refl; one = refl; two = refl }
ordered (Pop ∷ xs) = popped (pops xs) xs refl (ordered xs)
  where
    popped : (n : ℕ) (xs : List Act) → pops xs ≡ n → IsOrdered xs → IsOrdered (Pop ∷ xs)
    popped n xs e o = record {
      whole = IsOrdered.one o ∙ more xs 1 (pops xs + 1 + 0) (omega arith);
      one = IsOrdered.two o ∙ more xs 2 (pops xs + 1 + 1) (omega arith);
      two = IsOrdered.whole o ∙ more xs 0 (pops xs + 1 + 2) (omega arith);
    }
      where
        more : (xs : List Act) (k m : ℕ) → (pops xs + k) % 3 ≡ m % 3 → counted k xs ≡ (are_ordered xs && (m % 3 == 0) && chain 0 (pushed xs))
        more xs k m e = rw e refl
ordered (Push (Ether d s k) ∷ xs) = record { whole = IsLate.whole (late (Push (Ether d s k) ∷ xs)) ∙ late_whole (Push (Ether d s k) ∷ xs); one = if_wrong_rest _ xs ∙ late_part 1 (Push (Ether d s k) ∷ xs) refl; two = if_wrong_rest _ xs ∙ late_part 2 (Push (Ether d s k) ∷ xs) refl }
ordered (Push (Ip a b p q) ∷ xs) = record { whole = IsLate.whole (late (Push (Ip a b p q) ∷ xs)) ∙ late_whole (Push (Ip a b p q) ∷ xs); one = if_wrong_rest _ xs ∙ late_part 1 (Push (Ip a b p q) ∷ xs) refl; two = if_wrong_rest _ xs ∙ late_part 2 (Push (Ip a b p q) ∷ xs) refl }
ordered (Push (Vxlan v) ∷ xs) = record { whole = IsLate.whole (late (Push (Vxlan v) ∷ xs)) ∙ late_whole (Push (Vxlan v) ∷ xs); one = if_wrong_rest _ xs ∙ late_part 1 (Push (Vxlan v) ∷ xs) refl; two = if_wrong_rest _ xs ∙ late_part 2 (Push (Vxlan v) ∷ xs) refl }
ordered (Push (Ports p a b) ∷ xs) = record { whole = IsLate.whole (late (Push (Ports p a b) ∷ xs)) ∙ late_whole (Push (Ports p a b) ∷ xs); one = wrong xs ∙ late_part 1 (Push (Ports p a b) ∷ xs) refl; two = wrong xs ∙ late_part 2 (Push (Ports p a b) ∷ xs) refl }
ordered (Push (Six a b p) ∷ xs) = record { whole = IsLate.whole (late (Push (Six a b p) ∷ xs)) ∙ late_whole (Push (Six a b p) ∷ xs); one = wrong xs ∙ late_part 1 (Push (Six a b p) ∷ xs) refl; two = wrong xs ∙ late_part 2 (Push (Six a b p) ∷ xs) refl }
ordered (Modify c ∷ xs) = record { whole = IsLate.whole (late (Modify c ∷ xs)) ∙ late_whole (Modify c ∷ xs); one = wrong xs ∙ late_part 1 (Modify c ∷ xs) refl; two = wrong xs ∙ late_part 2 (Modify c ∷ xs) refl }
ordered (Ignore ∷ xs) = record { whole = IsLate.whole (late (Ignore ∷ xs)) ∙ late_whole (Ignore ∷ xs); one = wrong xs ∙ late_part 1 (Ignore ∷ xs) refl; two = wrong xs ∙ late_part 2 (Ignore ∷ xs) refl }

short : (n : ℕ) → n ≤ 18 → nat_le n 18 ≡ true
short n h = grind (arith, common_steps)

zero_more : (n : ℕ) → n + 0 ≡ n
zero_more n = omega arith

-- acts that go on to a whole form from the start, and write what they must, are those of a transposition
pub formed : (xs : List Act) → length xs ≤ 18 → all_write xs ≡ true → is_rest Pops xs ≡ is_form xs
formed xs h w = IsOrdered.whole (ordered xs) ∙ rw (zero_more (pops xs), short (length xs) h, chained (pushed xs), w) (sym (true_all _))
