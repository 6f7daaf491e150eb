-- From lines to bytes: what is read to its end is a report, and where it isn't, the first line that is refused is the bad one.
use Rattle.std.proofs.Common.{◌≡◌, ℕ, suc, ◌<◌, ◌==◌, ◌&&◌, not, Bool, true, false, true≢false, List, [], ◌∷◌, ◌++◌, length, Option, Some, None, refl, sym, ap, ap₂, ◌∙◌, subst, arith, append_assoc, eq-eqb}
use Rattle.std.specs.Prelude.{codes, bytes_eq, option_and_then, if◌then◌else◌}
use Rattle.std.specs.List.{All, slice_split, join_with_byte, onto_first}
use Rattle.std.proofs.lemmas.Bool.{and_parts}
use Rattle.std.proofs.lemmas.List.Elements.{All-nil, All-cons}
use Rattle.std.proofs.lemmas.List.Splits.{join_with_byte-slice_split, slice_split_at, slice_split_none, slice_split-cons_yes, slice_split-cons_no}
use Rattle.vsw_policy.specs.Sound.{Each}
use Rattle.vsw_report.specs.Reading.{Tail, in_loose, in_ports, tail_in, whole, in_front, lines_in, rounds_of, rounds_in}
use Rattle.vsw_report.specs.Words.{Line, line_in}
use Rattle.vsw_report.specs.declared.round.Round.{Round}
use Rattle.vsw_report.proofs.Free.{is_free, free_all, two}
use Rattle.vsw_report.proofs.OnlyReports.{only_reports}
use Rattle.vsw_report.proofs.RoundsBack.{reads_back, some_same}
use Rattle.vsw_report.proofs.TextsBack.{AreFitLines, texts_of, texts_law}
use Rattle.vsw_check.specs.declared.place.Place.{Place}
use Rattle.vsw_check.specs.declared.place.Place.TheVariants.{AtFirst}
use Rattle.vsw_check.specs.Private.Machine.{is_end, step, run, next, is_empty, bad_after, bad_line, bad_part, first_bad}
use Rattle.vsw_check.specs.Report.{AreTold, IsReport, lines_text, BeginsReport, Wrong, Short, IsBadLine}
use Rattle.vsw_check.proofs.Fit.{line_fits}
use Rattle.vsw_check.proofs.Over.{both, ends_tell, told_ends, run_joined, IsFit, ending, ending_fit, ending_runs, run_fit, tail_proper}
use Rattle.vsw_check.proofs.Steps.{none_some, Suits}

-- what is read to its end is a report
abbrev pub EndsAreReports : Type 0
EndsAreReports = (bytes : List ℕ) → first_bad bytes ≡ None → (rounds : List Round) × (rounds_in bytes ≡ Some rounds) × IsReport bytes rounds

-- where reading stops, the line is bad
abbrev pub BadLinesAreBad : Type 0
BadLinesAreBad = (bytes : List ℕ) (number : ℕ) → first_bad bytes ≡ Some number → IsBadLine bytes number

-- a report is read to its end
abbrev pub ReportsEnd : Type 0
ReportsEnd = (bytes : List ℕ) (rounds : List Round) → IsReport bytes rounds → first_bad bytes ≡ None

abbrev is_feed : ℕ → Bool
is_feed b = b == 10

abbrev pub head_word : List ℕ
head_word = codes "vsw report 1"

abbrev pub AreFree : List (List ℕ) → Type 0
AreFree ts = Each (λ t. is_free 10 t ≡ true) ts

-- ---- parts and bytes

pub some_part : (xs : List ℕ) → (m : List ℕ) × (ms : List (List ℕ)) × (slice_split (λ b. b == 10) xs ≡ m ∷ ms)
some_part xs = by (slice_split (λ b. b == 10) xs) refl where
  by : (ts : List (List ℕ)) → slice_split (λ b. b == 10) xs ≡ ts → (m : List ℕ) × (ms : List (List ℕ)) × (slice_split (λ b. b == 10) xs ≡ m ∷ ms)
  by [] e =
      let f : xs ≡ [] = sym (join_with_byte-slice_split 10 xs) ∙ ap (join_with_byte 10) e in
      ([], [], ap (slice_split (λ b. b == 10)) f)
  by (m ∷ ms) e = (m, ms, e)

parts_free : (xs : List ℕ) → AreFree (slice_split (λ b. b == 10) xs)
parts_free [] = (refl, tt)
parts_free (x ∷ xs) = by (x == 10) refl (some_part xs) (parts_free xs) where
  by : (b : Bool) → (x == 10) ≡ b → ((m : List ℕ) × (ms : List (List ℕ)) × (slice_split (λ b. b == 10) xs ≡ m ∷ ms)) → AreFree (slice_split (λ b. b == 10) xs) → AreFree (slice_split (λ b. b == 10) (x ∷ xs))
  by true e p h = subst AreFree (sym (slice_split-cons_yes (λ b. b == 10) x xs e)) (refl, h)
  by false e p h =
      let (m, ms, f) = p in
      let k : AreFree (m ∷ ms) = subst AreFree f h in
      let free : AreFree ((x ∷ m) ∷ ms) = (two (ap not e) k.0, k.1) in
      subst AreFree (sym (slice_split-cons_no (λ b. b == 10) x xs e ∙ ap (onto_first x) f)) free

not_ten : (xs : List ℕ) → is_free 10 xs ≡ true → All (λ b. ¬ (b ≡ 10)) xs
not_ten [] e = All-nil (λ b. ¬ (b ≡ 10))
not_ten (x ∷ xs) e =
    let p = and_parts (not (x == 10)) (is_free 10 xs) e in
    All-cons (λ b. ¬ (b ≡ 10)) x xs (λ q. true≢false (sym (sym (ap not (eq-eqb x 10 q)) ∙ p.0))) (not_ten xs p.1)

none_ten : (ts : List (List ℕ)) → AreFree ts → All (λ l. All (λ b. ¬ (b ≡ 10)) l) ts
none_ten [] h = All-nil (λ l. All (λ b. ¬ (b ≡ 10)) l)
none_ten (t ∷ ts) h = All-cons (λ l. All (λ b. ¬ (b ≡ 10)) l) t ts (not_ten t h.0) (none_ten ts h.1)

-- lines before a rest stand before its parts
pub split_lines : (ts : List (List ℕ)) (rest : List ℕ) → AreFree ts → slice_split (λ b. b == 10) (lines_text ts ++ rest) ≡ ts ++ slice_split (λ b. b == 10) rest
split_lines [] rest h = refl
split_lines (t ∷ ts) rest h =
    ap (slice_split (λ b. b == 10)) (append_assoc (t ++ 10 ∷ []) (lines_text ts) rest ∙ append_assoc t (10 ∷ []) (lines_text ts ++ rest))
    ∙ (slice_split_at (λ b. b == 10) t 10 (lines_text ts ++ rest) (free_all 10 t h.0) refl ∙ ap (λ r. t ∷ r) (split_lines ts rest h.1))

pub one_more : (ts : List (List ℕ)) (t rest : List ℕ) → lines_text (ts ++ t ∷ []) ++ rest ≡ lines_text ts ++ (t ++ 10 ∷ rest)
one_more [] t rest = simp append_assoc
one_more (u ∷ ts) t rest =
    append_assoc (u ++ 10 ∷ []) (lines_text (ts ++ t ∷ [])) rest
    ∙ (ap (λ r. (u ++ 10 ∷ []) ++ r) (one_more ts t rest) ∙ sym (append_assoc (u ++ 10 ∷ []) (lines_text ts) (t ++ 10 ∷ rest)))

pub free_more : (ts : List (List ℕ)) (t : List ℕ) → AreFree ts → is_free 10 t ≡ true → AreFree (ts ++ t ∷ [])
free_more [] t h e = (e, tt)
free_more (u ∷ ts) t h e = (h.0, free_more ts t h.1 e)

-- ---- lines of parts

fronted : (o : Option Line) (p : Option (List Line)) (ls : List Line) → in_front o p ≡ Some ls → (l : Line) × (ms : List Line) × (o ≡ Some l) × (p ≡ Some ms) × (l ∷ ms ≡ ls)
fronted None p ls e = absurd (none_some e)
fronted (Some l) None ls e = absurd (none_some e)
fronted (Some l) (Some ms) ls e = (l, ms, refl, refl, some_same e)

lines_before : (f : List ℕ) (fs : List (List ℕ)) (m : List ℕ) (ms : List (List ℕ)) → lines_in (f ∷ (fs ++ m ∷ ms)) ≡ in_front (line_in f) (lines_in (fs ++ m ∷ ms))
lines_before f [] m ms = refl
lines_before f (g ∷ gs) m ms = refl

abbrev pub reads : Place → List (List ℕ) → Option Place
reads s [] = Some s
reads s (t ∷ ts) = option_and_then (λ r. reads r ts) (next s t)

pub reads_more : (ts : List (List ℕ)) (t : List ℕ) (s r : Place) → reads s ts ≡ Some r → reads s (ts ++ t ∷ []) ≡ next r t
reads_more [] t s r e = ones (next s t) ∙ ap (λ s. next s t) (some_same e) where
  ones : (o : Option Place) → option_and_then (λ r. Some r) o ≡ o
  ones None = refl
  ones (Some r) = refl
reads_more (u ∷ ts) t s r e =
    let (m, p, q) = both (λ r. reads r ts) (next s u) r e in
    ap (option_and_then (λ r. reads r (ts ++ t ∷ []))) p ∙ reads_more ts t m r q

next_is : (s : Place) (t : List ℕ) (l : Line) (m : Place) → line_in t ≡ Some l → step s l ≡ Some m → next s t ≡ Some m
next_is s t l m a b = ap (option_and_then (step s)) a ∙ b

-- where all lines run to a state, those before some part are read
front_read : (fs : List (List ℕ)) (m : List ℕ) (ms : List (List ℕ)) (s e : Place) (ls : List Line) → lines_in (fs ++ m ∷ ms) ≡ Some ls → run s ls ≡ Some e
    → (r : Place) × (ks : List Line) × (reads s fs ≡ Some r) × (lines_in (m ∷ ms) ≡ Some ks) × (run r ks ≡ Some e)
front_read [] m ms s e ls a b = (s, ls, refl, a, b)
front_read (f ∷ fs) m ms s e ls a b =
    let (l, ks, c, d, g) = fronted (line_in f) (lines_in (fs ++ m ∷ ms)) ls (sym (lines_before f fs m ms) ∙ a) in
    let b : run s (l ∷ ks) ≡ Some e = ap (run s) g ∙ b in
    let (n, p, q) = both (λ t. run t ks) (step s l) e b in
    let (r, js, h, i, j) = front_read fs m ms n e ks d q in
    (r, js, ap (option_and_then (λ r. reads r fs)) (next_is s f l n c p) ∙ h, i, j)

-- what is read are lines that fit
read_lines : (fs : List (List ℕ)) (s r : Place) → reads s fs ≡ Some r
    → (ls : List Line) × AreFitLines ls × (run s ls ≡ Some r) × ((m : List ℕ) (ms : List (List ℕ)) (ks : List Line) → lines_in (m ∷ ms) ≡ Some ks → lines_in (fs ++ m ∷ ms) ≡ Some (ls ++ ks))
read_lines [] s r e = ([], tt, e, λ m ms ks h. h)
read_lines (f ∷ fs) s r e =
    let (n, p, q) = both (λ r. reads r fs) (next s f) r e in
    let (l, a, b) = both (step s) (line_in f) n p in
    let (ls, fit, c, back) = read_lines fs n r q in
    (l ∷ ls, (line_fits f l a, fit), ap (option_and_then (λ t. run t ls)) b ∙ c, λ m ms ks h. lines_before f fs m ms ∙ ap₂ in_front a (back m ms ks h))

-- ---- reports and parts

whole_is : (t : Tail) (rs : List Round) → whole t ≡ Some rs → t ≡ in_loose [] rs
whole_is (in_loose [] os) rs e = ap (in_loose []) (some_same e)
whole_is (in_loose (l ∷ ls) os) rs e = absurd (none_some e)
whole_is (in_ports ts ps ls os) rs e = absurd (none_some e)

headed : {A : Type 0} (b : Bool) (o : Option A) (x : A) → (if b then o else None) ≡ Some x → (b ≡ true) × (o ≡ Some x)
headed true o x e = (refl, e)
headed false o x e = absurd (none_some e)

-- the parts of a report: its head line, and lines that run to an end
report_runs : (head m : List ℕ) (ms : List (List ℕ)) (rs : List Round) → rounds_of (head ∷ (m ∷ ms)) ≡ Some rs → AreTold rs
    → (bytes_eq head head_word ≡ true) × (ls : List Line) × (e : Place) × (lines_in (m ∷ ms) ≡ Some ls) × (run AtFirst ls ≡ Some e) × (is_end e ≡ true)
report_runs head m ms rs a told =
    let h = headed (bytes_eq head head_word) (option_and_then whole (option_and_then tail_in (lines_in (m ∷ ms)))) rs a in
    let (t, p, q) = both whole (option_and_then tail_in (lines_in (m ∷ ms))) rs h.1 in
    let (ls, b, c) = both tail_in (lines_in (m ∷ ms)) t p in
    let (e, r, f) = told_ends ls AtFirst (in_loose [] rs) (c ∙ ap Some (whole_is t rs q)) (refl, told) in
    (h.0, ls, e, b, r, f)

-- lines that run to an end, behind the head line, are those of a report
runs_report : (bytes head m : List ℕ) (ms : List (List ℕ)) (ls : List Line) (e : Place) → slice_split (λ b. b == 10) bytes ≡ head ∷ (m ∷ ms) → bytes_eq head head_word ≡ true → lines_in (m ∷ ms) ≡ Some ls → AreFitLines ls → run AtFirst ls ≡ Some e → is_end e ≡ true
    → (rounds : List Round) × (rounds_in bytes ≡ Some rounds) × IsReport bytes rounds
runs_report bytes head m ms ls e s h a fit r f = let (t, p, suits) = ends_tell ls AtFirst e r f in by t p suits where
  by : (t : Tail) → tail_in ls ≡ Some t → Suits AtFirst t → (rounds : List Round) × (rounds_in bytes ≡ Some rounds) × IsReport bytes rounds
  by (in_ports ts ps ks rs) p k = absurd k
  by (in_loose ks rs) p k =
      let p : tail_in ls ≡ Some (in_loose [] rs) = p ∙ ap (λ ks. Some (in_loose ks rs)) k.0 in
      let q : rounds_in bytes ≡ Some rs =
      ap rounds_of s ∙ (ap (λ b. if b then option_and_then whole (option_and_then tail_in (lines_in (m ∷ ms))) else None) h
      ∙ (ap (λ o. option_and_then whole (option_and_then tail_in o)) a ∙ ap (option_and_then whole) p)) in
      (rs, q, record { text = only_reports bytes rs q; proper = (tail_proper ls (in_loose [] rs) p fit).1; told = k.1 })

read_of : (bytes : List ℕ) (rounds : List Round) → IsReport bytes rounds → rounds_in bytes ≡ Some rounds
read_of bytes rounds h = ap rounds_in (sym h.text) ∙ reads_back rounds h.proper

-- ---- lines with which a report begins

fit_both : (ls ms : List Line) → AreFitLines ls → AreFitLines ms → AreFitLines (ls ++ ms)
fit_both [] ms h k = k
fit_both (l ∷ ls) ms h k = (h.0, fit_both ls ms h.1 k)

-- what is read can be ended
pub begins : (head : List ℕ) (fs : List (List ℕ)) (s : Place) → bytes_eq head head_word ≡ true → AreFree (head ∷ fs) → reads AtFirst fs ≡ Some s → BeginsReport (head ∷ fs)
begins head fs s h free e =
    let (ls, fit, r, back) = read_lines fs AtFirst s e in
    let k : IsFit s = run_fit ls AtFirst s tt fit r in
    let (d, q, f) = ending_runs s k in
    let (m, ms, p) = some_part (texts_of (ending s)) in
    let said : lines_in (m ∷ ms) ≡ Some (ending s) = sym (ap lines_in p) ∙ texts_law (ending s) (ending_fit s k) in
    let (n, ns, g) = front_part fs m ms in
    let (rounds, i, j) =
    runs_report (lines_text (head ∷ fs) ++ texts_of (ending s)) head n ns (ls ++ ending s) d
    (split_lines (head ∷ fs) (texts_of (ending s)) free ∙ ap (λ ts. head ∷ ts) (ap (λ ts. fs ++ ts) p ∙ g))
    h (sym (ap lines_in g) ∙ back m ms (ending s) said) (fit_both ls (ending s) fit (ending_fit s k)) (run_joined ls (ending s) AtFirst s r ∙ q) f in
    (texts_of (ending s), rounds, j)
  where
    front_part : (fs : List (List ℕ)) (m : List ℕ) (ms : List (List ℕ)) → (n : List ℕ) × (ns : List (List ℕ)) × (fs ++ m ∷ ms ≡ n ∷ ns)
    front_part [] m ms = (m, ms, refl)
    front_part (g ∷ gs) m ms = (g, gs ++ m ∷ ms, refl)

-- lines with which a report begins are read, and where the bytes go on with one part alone, that is all
abbrev Ahead : List (List ℕ) → List (List ℕ) → Type 0
Ahead fs more = (r : Place) × (ks : List Line) × (e : Place) × (reads AtFirst fs ≡ Some r) × (lines_in more ≡ Some ks) × (run r ks ≡ Some e) × (is_end e ≡ true)

parted : (head : List ℕ) (fs : List (List ℕ)) (m : List ℕ) (ms : List (List ℕ)) (rs : List Round) → rounds_of (head ∷ (fs ++ m ∷ ms)) ≡ Some rs → AreTold rs → (bytes_eq head head_word ≡ true) × Ahead fs (m ∷ ms)
parted head [] m ms rs a told =
    let (h, ls, e, b, r, f) = report_runs head m ms rs a told in (h, (AtFirst, ls, e, refl, b, r, f))
parted head (g ∷ gs) m ms rs a told =
    let (h, ls, e, b, r, f) = report_runs head g (gs ++ m ∷ ms) rs a told in
    let (t, ks, c, d, i) = front_read (g ∷ gs) m ms AtFirst e ls b r in
    (h, (t, ks, e, c, d, i, f))

pub begun : (head : List ℕ) (fs : List (List ℕ)) → AreFree (head ∷ fs) → BeginsReport (head ∷ fs) → (bytes_eq head head_word ≡ true) × (r : Place) × (reads AtFirst fs ≡ Some r)
begun head fs free b =
    let (rest, rounds, h) = b in
    let (m, ms, p) = some_part rest in
    let q : rounds_of (head ∷ (fs ++ m ∷ ms)) ≡ Some rounds = sym (ap rounds_of (split_lines (head ∷ fs) rest free ∙ ap (λ ts. head ∷ (fs ++ ts)) p)) ∙ read_of (lines_text (head ∷ fs) ++ rest) rounds h in
    let (i, (r, ks, e, c, d, j, f)) = parted head fs m ms rounds q h.told in
    (i, r, c)

-- a last part is empty, and stands at an end
last_end : (rest : List ℕ) (r e : Place) (ks : List Line) → lines_in (rest ∷ []) ≡ Some ks → run r ks ≡ Some e → is_end e ≡ true → is_end r && is_empty rest ≡ true
last_end [] r e ks a b f = two (ap is_end (some_same (ap (run r) (some_same a) ∙ b)) ∙ f) refl
last_end (x ∷ xs) r e ks a b f = absurd (none_some a)

ended : (head : List ℕ) (fs : List (List ℕ)) (rest : List ℕ) (s : Place) → AreFree (head ∷ fs) → is_free 10 rest ≡ true → reads AtFirst fs ≡ Some s → ((rounds : List Round) × IsReport (lines_text (head ∷ fs) ++ rest) rounds) → is_end s && is_empty rest ≡ true
ended head fs rest s free last a b =
    let (rounds, h) = b in
    let p : slice_split (λ b. b == 10) rest ≡ rest ∷ [] = slice_split_none (λ b. b == 10) rest (free_all 10 rest last) in
    let q : rounds_of (head ∷ (fs ++ rest ∷ [])) ≡ Some rounds = sym (ap rounds_of (split_lines (head ∷ fs) rest free ∙ ap (λ ts. head ∷ (fs ++ ts)) p)) ∙ read_of (lines_text (head ∷ fs) ++ rest) rounds h in
    let (i, (r, ks, e, c, d, j, f)) = parted head fs rest [] rounds q h.told in
    subst (λ s. is_end s && is_empty rest ≡ true) (some_same (sym c ∙ a)) (last_end rest r e ks d j f)

-- ---- the first bad line

bad_is : (parts : List (List ℕ)) (head : List ℕ) (fs : List (List ℕ)) (s : Place) (n number : ℕ) → 0 < length parts → bytes_eq head head_word ≡ true → AreFree (head ∷ fs) → AreFree parts → reads AtFirst fs ≡ Some s → n ≡ suc (length (head ∷ fs)) → bad_line s n parts ≡ Some number
    → IsBadLine (lines_text (head ∷ fs) ++ join_with_byte 10 parts) number
bad_is [] head fs s n number some h free more r count e = absurd (omega (arith, some))
bad_is (rest ∷ []) head fs s n number some h free more r count e = by (is_end s && is_empty rest) refl e where
  by : (b : Bool) → (is_end s && is_empty rest) ≡ b → (if b then None else Some n) ≡ Some number → IsBadLine (lines_text (head ∷ fs) ++ rest) number
  by true p q = absurd (none_some q)
  by false p q = record {
    front = head ∷ fs;
    rest = rest;
    split = refl;
    free = none_ten (head ∷ fs) free;
    begins = begins head fs s h free r;
    breaks = Short (not_ten rest more.0) (λ b. true≢false (sym (ended head fs rest s free more.0 r b) ∙ p));
    number_is = sym (some_same q) ∙ count;
  }
bad_is (t ∷ u ∷ us) head fs s n number some h free more r count e =
    by (next s t) refl e (λ m a b. bad_is (u ∷ us) head (fs ++ t ∷ []) m (suc n) number (omega arith) h (free.0, free_more fs t free.1 more.0) more.1 (reads_more fs t AtFirst s r ∙ a) (ap suc count ∙ longer fs) b)
  where
    longer : (fs : List (List ℕ)) → suc (suc (length (head ∷ fs))) ≡ suc (length (head ∷ (fs ++ t ∷ [])))
    longer [] = refl
    longer (g ∷ gs) = ap suc (longer gs)

    by : (o : Option Place) → next s t ≡ o → bad_after n o (λ r. bad_line r (suc n) (u ∷ us)) ≡ Some number
        → ((m : Place) → next s t ≡ Some m → bad_line m (suc n) (u ∷ us) ≡ Some number → IsBadLine (lines_text (head ∷ (fs ++ t ∷ [])) ++ join_with_byte 10 (u ∷ us)) number)
        → IsBadLine (lines_text (head ∷ fs) ++ join_with_byte 10 (t ∷ u ∷ us)) number
    by None p q f = record {
      front = head ∷ fs;
      rest = join_with_byte 10 (t ∷ u ∷ us);
      split = refl;
      free = none_ten (head ∷ fs) free;
      begins = begins head fs s h free r;
      breaks = Wrong t (join_with_byte 10 (u ∷ us)) refl (not_ten t more.0) (λ b.
          let (i, m, a) = begun head (fs ++ t ∷ []) (free.0, free_more fs t free.1 more.0) b in
          none_some (sym p ∙ (sym (reads_more fs t AtFirst s r) ∙ a)));
      number_is = sym (some_same q) ∙ count;
    }
    by (Some m) p q f = subst (λ b. IsBadLine b number) (one_more (head ∷ fs) t (join_with_byte 10 (u ∷ us))) (f m p q)

-- nothing is read yet
no_report : IsReport (codes "vsw report 1\n") []
no_report = record { text = refl; proper = tt; told = tt }

part_bad : (parts : List (List ℕ)) (number : ℕ) → AreFree parts → 0 < length parts → bad_part parts ≡ Some number → IsBadLine (join_with_byte 10 parts) number
part_bad [] number free some e = absurd (omega (arith, some))
part_bad (rest ∷ []) number free some e = record {
  front = [];
  rest = rest;
  split = refl;
  free = All-nil (λ l. All (λ b. ¬ (b ≡ 10)) l);
  begins = (codes "vsw report 1\n", [], no_report);
  breaks = Short (not_ten rest free.0) (λ b. let (rounds, h) = b in
      let q : rounds_of (rest ∷ []) ≡ Some rounds = sym (ap rounds_of (slice_split_none (λ b. b == 10) rest (free_all 10 rest free.0))) ∙ read_of rest rounds h in
      none_some (headed (bytes_eq rest head_word) None rounds q).1);
  number_is = sym (some_same e);
}
part_bad (head ∷ t ∷ ts) number free some e = by (bytes_eq head head_word) refl e where
  by : (b : Bool) → bytes_eq head head_word ≡ b → (if b then bad_line AtFirst 2 (t ∷ ts) else Some 1) ≡ Some number → IsBadLine (join_with_byte 10 (head ∷ t ∷ ts)) number
  by true p q = subst (λ b. IsBadLine b number) (one_more [] head (join_with_byte 10 (t ∷ ts))) (bad_is (t ∷ ts) head [] AtFirst 2 number (omega arith) p (free.0, tt) free.1 refl refl q)
  by false p q = record {
    front = [];
    rest = join_with_byte 10 (head ∷ t ∷ ts);
    split = refl;
    free = All-nil (λ l. All (λ b. ¬ (b ≡ 10)) l);
    begins = (codes "vsw report 1\n", [], no_report);
    breaks = Wrong head (join_with_byte 10 (t ∷ ts)) refl (not_ten head free.0) (λ b. true≢false (sym (begun head [] (free.0, tt) b).0 ∙ p));
    number_is = sym (some_same q);
  }

pub bad_lines_are_bad : BadLinesAreBad
bad_lines_are_bad bytes number e =
    let (m, ms, p) = some_part bytes in
    subst (λ b. IsBadLine b number) (join_with_byte-slice_split 10 bytes)
    (part_bad (slice_split (λ b. b == 10) bytes) number (parts_free bytes) (subst (λ ts. 0 < length ts) (sym p) (omega arith)) e)

-- ---- reports, and nothing else, are read to an end

end_lines : (parts : List (List ℕ)) (s : Place) (n : ℕ) → bad_line s n parts ≡ None → (ls : List Line) × (e : Place) × (lines_in parts ≡ Some ls) × AreFitLines ls × (run s ls ≡ Some e) × (is_end e ≡ true)
end_lines [] s n e = absurd (none_some (sym e))
end_lines (rest ∷ []) s n e = by rest (is_end s && is_empty rest) refl e where
  by : (rest : List ℕ) (b : Bool) → (is_end s && is_empty rest) ≡ b → (if b then None else Some n) ≡ None → (ls : List Line) × (d : Place) × (lines_in (rest ∷ []) ≡ Some ls) × AreFitLines ls × (run s ls ≡ Some d) × (is_end d ≡ true)
  by rest false p q = absurd (none_some (sym q))
  by [] true p q = ([], s, refl, tt, refl, (and_parts (is_end s) true p).0)
  by (x ∷ xs) true p q = absurd (true≢false (sym (and_parts (is_end s) false p).1))
end_lines (t ∷ u ∷ us) s n e = by (next s t) refl e (λ m q. end_lines (u ∷ us) m (suc n) q) where
  by : (o : Option Place) → next s t ≡ o → bad_after n o (λ r. bad_line r (suc n) (u ∷ us)) ≡ None
      → ((m : Place) → bad_line m (suc n) (u ∷ us) ≡ None → (ls : List Line) × (e : Place) × (lines_in (u ∷ us) ≡ Some ls) × AreFitLines ls × (run m ls ≡ Some e) × (is_end e ≡ true))
      → (ls : List Line) × (e : Place) × (lines_in (t ∷ u ∷ us) ≡ Some ls) × AreFitLines ls × (run s ls ≡ Some e) × (is_end e ≡ true)
  by None p q f = absurd (none_some (sym q))
  by (Some m) p q f =
      let (ls, e, a, fit, r, g) = f m q in
      let (l, b, c) = both (step s) (line_in t) m p in
      (l ∷ ls, e, ap₂ in_front b a, (line_fits t l b, fit), ap (option_and_then (λ t. run t ls)) c ∙ r, g)

pub ends_are_reports : EndsAreReports
ends_are_reports bytes e = by (slice_split (λ b. b == 10) bytes) refl e where
  with : (head m : List ℕ) (ms : List (List ℕ)) (b : Bool) → slice_split (λ b. b == 10) bytes ≡ head ∷ m ∷ ms → bytes_eq head head_word ≡ b → (if b then bad_line AtFirst 2 (m ∷ ms) else Some 1) ≡ None → (rounds : List Round) × (rounds_in bytes ≡ Some rounds) × IsReport bytes rounds
  with head m ms false p q r = absurd (none_some (sym r))
  with head m ms true p q r = let (ls, e, a, fit, b, f) = end_lines (m ∷ ms) AtFirst 2 r in runs_report bytes head m ms ls e p q a fit b f

  by : (ts : List (List ℕ)) → slice_split (λ b. b == 10) bytes ≡ ts → bad_part ts ≡ None → (rounds : List Round) × (rounds_in bytes ≡ Some rounds) × IsReport bytes rounds
  by [] p q = absurd (none_some (sym q))
  by (rest ∷ []) p q = absurd (none_some (sym q))
  by (head ∷ m ∷ ms) p q = with head m ms (bytes_eq head head_word) p refl q

lines_end : (parts : List (List ℕ)) (s e : Place) (n : ℕ) (ls : List Line) → lines_in parts ≡ Some ls → run s ls ≡ Some e → is_end e ≡ true → bad_line s n parts ≡ None
lines_end [] s e n ls a r f = absurd (none_some a)
lines_end (rest ∷ []) s e n ls a r f = ap (λ b. if b then None else Some n) (last_end rest s e ls a r f)
lines_end (t ∷ u ∷ us) s e n ls a r f =
    let (l, ks, b, c, g) = fronted (line_in t) (lines_in (u ∷ us)) ls a in
    let r : run s (l ∷ ks) ≡ Some e = ap (run s) g ∙ r in
    let (m, p, q) = both (λ t. run t ks) (step s l) e r in
    ap (λ o. bad_after n o (λ r. bad_line r (suc n) (u ∷ us))) (next_is s t l m b p) ∙ lines_end (u ∷ us) m e (suc n) ks c q f

pub reports_end : ReportsEnd
reports_end bytes rounds h = by (slice_split (λ b. b == 10) bytes) refl (read_of bytes rounds h) where
  by : (ts : List (List ℕ)) → slice_split (λ b. b == 10) bytes ≡ ts → rounds_of ts ≡ Some rounds → bad_part (slice_split (λ b. b == 10) bytes) ≡ None
  by [] p q = absurd (none_some q)
  by (rest ∷ []) p q = absurd (none_some (headed (bytes_eq rest head_word) None rounds q).1)
  by (head ∷ m ∷ ms) p q =
      let (i, ls, e, a, r, f) = report_runs head m ms rounds q h.told in
      ap bad_part p ∙ (ap (λ b. if b then bad_line AtFirst 2 (m ∷ ms) else Some 1) i ∙ lines_end (m ∷ ms) AtFirst e 2 ls a r f)
