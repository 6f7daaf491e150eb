-- Names among the words of a command: what the grammar says of them is worked out of them, and nothing else.
use Rattle.std.proofs.Common.{◌≡◌, ◌≢◌, ℕ, Bool, true, false, List, [], ◌∷◌, ◌++◌, length, take, drop, Option, Some, None, inl, inr, cond, refl, sym, ap, ap₂, ◌∙◌, subst, arith, append-nil, append_assoc}
use Rattle.std.specs.Prelude.{codes, decimal, bytes_eq, option_and_then, option_map}
use Rattle.std.specs.List.{All}
use Rattle.std.proofs.Math.Seq.{take-append_seam, drop-append_seam}
use Rattle.std.proofs.lemmas.List.{take-append-drop}
use Rattle.std.proofs.lemmas.List.Elements.{All-append, All-take, All-drop}
use Rattle.std.proofs.lemmas.Option.{none-some, same_Some, cond_some}
use Rattle.std.proofs.lemmas.Slice.Eq.{bytes_eq-Decides}
use Rattle.vsw_run.specs.Grammar.{IsDashed, IsCount, IsOption, IsBehind, AreNames, ArePlain}
use Rattle.vsw_run.specs.Words.{Opted, Named, number_in, before_dash, from_dash, behind_in, opted, joined_in, next_in, option_in, after_option, named_of, named_in, plain_in}
use Rattle.vsw_run.proofs.Decimals.{number_is, number_of}
use Rattle.vsw_run.proofs.Stops.{Undashed, Stops, before_is, from_is, undashed, behind_stops, behind_of}

-- none is empty
abbrev pub Full : List (List ℕ) → Type 0
Full names = All (λ name. name ≢ []) names

-- so many workers, and these names
abbrev pub naming : ℕ → List (List ℕ) → Named
naming n names = record { workers = n; names = names }

-- ---- the option

two_words : (n : ℕ) (rest : List (List ℕ)) → IsCount n → option_in (codes "--workers" ∷ decimal n ∷ rest) ≡ Some (record { workers = n; rest = rest })
two_words n rest h = ap (opted rest) (number_of 1 16 n (omega arith) h.0 h.1)

one_word : (n : ℕ) (rest : List (List ℕ)) → IsCount n → option_in ((codes "--workers=" ++ decimal n) ∷ rest) ≡ Some (record { workers = n; rest = rest })
one_word n rest h = ap (opted rest) (number_of 1 16 n (omega arith) h.0 h.1)

opted_is : (rest : List (List ℕ)) (r : Option ℕ) (o : Opted) → opted rest r ≡ Some o → (r ≡ Some o.workers) × (rest ≡ o.rest)
opted_is rest None o e = absurd (none-some o e)
opted_is rest (Some n) o e =
    let is = same_Some (record { workers = n; rest = rest }) o e in (ap (λ (o : Opted). Some o.workers) is, ap (λ (o : Opted). o.rest) is)

-- what is answered only if a test passes
only_if : {A : Type 0} (b : Bool) (r : Option A) (x : A) → cond b r None ≡ Some x → (b ≡ true) × (r ≡ Some x)
only_if true r x e = (refl, e)
only_if false r x e = absurd (none-some x e)

-- an option in front
record Front (words : List (List ℕ)) (o : Opted) : Type 0 where
  option : List (List ℕ)
  is : IsOption option o.workers
  splits : words ≡ option ++ o.rest

joined_is : (word : List ℕ) (words : List (List ℕ)) (o : Opted) → opted words (joined_in word) ≡ Some o → Front (word ∷ words) o
joined_is word words o e =
    let (r, rest) = opted_is words (joined_in word) o e in
    let (t, number) = only_if (bytes_eq (take 10 word) (codes "--workers=")) (number_in 1 16 (drop 10 word)) o.workers r in
    let (digits, low, high) = number_is 1 16 (drop 10 word) o.workers number in
    let is : word ≡ codes "--workers=" ++ decimal o.workers = sym (take-append-drop 10 word) ∙ ap₂ (λ xs ys. xs ++ ys) ((bytes_eq-Decides (take 10 word) (codes "--workers=")).0 t) digits in
    record { option = (codes "--workers=" ++ decimal o.workers) ∷ []; is = inr (inl ((low, high), refl)); splits = ap₂ (λ w ws. w ∷ ws) is rest }

next_is : (words : List (List ℕ)) (o : Opted) → next_in words ≡ Some o → Front (codes "--workers" ∷ words) o
next_is [] o e = absurd (none-some o e)
next_is (word ∷ words) o e =
    let (r, rest) = opted_is words (number_in 1 16 word) o e in
    let (digits, low, high) = number_is 1 16 word o.workers r in
    record {
      option = codes "--workers" ∷ decimal o.workers ∷ [];
      is = inl ((low, high), refl);
      splits = ap₂ (λ w ws. codes "--workers" ∷ w ∷ ws) digits rest;
    }

option_is : (words : List (List ℕ)) (o : Opted) → option_in words ≡ Some o → Front words o
option_is [] o e = absurd (none-some o e)
option_is (word ∷ words) o e = by (bytes_eq word (codes "--workers")) refl e where
  by : (b : Bool) → bytes_eq word (codes "--workers") ≡ b → cond b (next_in words) (opted words (joined_in word)) ≡ Some o → Front (word ∷ words) o
  by true t e = subst (λ w. Front (w ∷ words) o) (sym ((bytes_eq-Decides word (codes "--workers")).0 t)) (next_is words o e)
  by false t e = joined_is word words o e

-- ---- `--` and the names behind it

behind_is : (end behind : List (List ℕ)) → behind_in end ≡ Some behind → IsBehind end behind
behind_is [] behind e = inr (refl, sym (same_Some [] behind e))
behind_is (word ∷ words) behind e =
    let (t, is) = cond_some (bytes_eq word (codes "--")) words behind e in inl (ap₂ (λ w ws. w ∷ ws) ((bytes_eq-Decides word (codes "--")).0 t) is)

-- ---- words of the grammar are read

all_left : (xs ys : List (List ℕ)) → Undashed (xs ++ ys) → Undashed xs
all_left xs ys h = subst Undashed (take-append_seam xs ys) (All-take (λ name. ¬ (IsDashed name)) (length xs) (xs ++ ys) h)

all_right : (xs ys : List (List ℕ)) → Undashed (xs ++ ys) → Undashed ys
all_right xs ys h = subst Undashed (drop-append_seam xs ys) (All-drop (λ name. ¬ (IsDashed name)) (length xs) (xs ++ ys) h)

-- what is read of the parts, once `--` is looked for
abbrev judged : List (List ℕ) → List (List ℕ) → Option (List (List ℕ)) → Option Named
judged before rest found = elim found [ Some behind ↦ Some (naming 1 (before ++ behind)) | None ↦ option_and_then (after_option before) (option_in rest) ]

without_option : (names end behind : List (List ℕ)) (n : ℕ) → Undashed names → IsBehind end behind → n ≡ 1 → named_in (names ++ end) ≡ Some (naming n (names ++ behind))
without_option names end behind n h last count =
    ap₂ named_of (before_is names end h (behind_stops end behind last)) (from_is names end h (behind_stops end behind last))
    ∙ (ap (judged names end) (behind_of end behind last)
    ∙ ap (λ m. Some (naming m (names ++ behind))) (sym count))

-- the words from the option on
record Opens (option rest : List (List ℕ)) (n : ℕ) : Type 0 where
  stops : Stops (option ++ rest)
  no_end : behind_in (option ++ rest) ≡ None
  read : option_in (option ++ rest) ≡ Some (record { workers = n; rest = rest })

abbrev then_names : ℕ → List (List ℕ) → List (List ℕ) → Option (List (List ℕ)) → Option Named
then_names n before after found = option_map (λ behind. naming n (before ++ after ++ behind)) found

with_option : (before option after end behind : List (List ℕ)) (n : ℕ) → Undashed before → Undashed after → Opens option (after ++ end) n → IsBehind end behind → named_in (before ++ (option ++ (after ++ end))) ≡ Some (naming n (before ++ after ++ behind))
with_option before option after end behind n h k opens last =
    let rest : List (List ℕ) = option ++ (after ++ end) in
    let tail = behind_stops end behind last in
    ap₂ named_of (before_is before rest h opens.stops) (from_is before rest h opens.stops)
    ∙ (ap (judged before rest) opens.no_end
    ∙ (ap (option_and_then (after_option before)) opens.read
    ∙ (ap₂ (λ mid end. then_names n before mid (behind_in end)) (before_is after end k tail) (from_is after end k tail)
    ∙ ap (then_names n before after) (behind_of end behind last))))

opens_two : (n : ℕ) (rest : List (List ℕ)) → IsCount n → Opens (codes "--workers" ∷ decimal n ∷ []) rest n
opens_two n rest h = record { stops = refl; no_end = refl; read = two_words n rest h }

opens_one : (n : ℕ) (rest : List (List ℕ)) → IsCount n → Opens ((codes "--workers=" ++ decimal n) ∷ []) rest n
opens_one n rest h = record { stops = refl; no_end = refl; read = one_word n rest h }

pub names_read : (words : List (List ℕ)) (n : ℕ) (names : List (List ℕ)) → AreNames words n names → named_in words ≡ Some (naming n names)
names_read words n names f = ap named_in f.shape ∙ (by f.option f.option_is ∙ ap (λ xs. Some (naming n xs)) f.all) where
  first : Undashed f.before
  first = all_left f.before f.after f.undashed

  second : Undashed f.after
  second = all_right f.before f.after f.undashed

  grouped : (option : List (List ℕ)) → f.before ++ option ++ f.after ++ f.end ≡ f.before ++ (option ++ (f.after ++ f.end))
  grouped option = append_assoc (f.before ++ option) f.after f.end ∙ append_assoc f.before option (f.after ++ f.end)

  opened : (option : List (List ℕ)) → Opens option (f.after ++ f.end) n → named_in (f.before ++ option ++ f.after ++ f.end) ≡ Some (naming n (f.before ++ f.after ++ f.behind))
  opened option opens = ap named_in (grouped option) ∙ with_option f.before option f.after f.end f.behind n first second opens f.end_is

  by : (option : List (List ℕ)) → IsOption option n → named_in (f.before ++ option ++ f.after ++ f.end) ≡ Some (naming n (f.before ++ f.after ++ f.behind))
  by option (inl o) = subst (λ option. named_in (f.before ++ option ++ f.after ++ f.end) ≡ Some (naming n (f.before ++ f.after ++ f.behind))) (sym o.1) (opened _ (opens_two n (f.after ++ f.end) o.0))
  by option (inr (inl o)) = subst (λ option. named_in (f.before ++ option ++ f.after ++ f.end) ≡ Some (naming n (f.before ++ f.after ++ f.behind))) (sym o.1) (opened _ (opens_one n (f.after ++ f.end) o.0))
  by option (inr (inr o)) =
      subst (λ option. named_in (f.before ++ option ++ f.after ++ f.end) ≡ Some (naming n (f.before ++ f.after ++ f.behind))) (sym o.1)
      (ap (λ names. named_in (names ++ f.after ++ f.end)) (append-nil f.before) ∙ without_option (f.before ++ f.after) f.end f.behind n f.undashed f.end_is o.0)

-- ---- words that are read are of the grammar

all_append : (xs ys : List (List ℕ)) → Undashed xs → Undashed ys → Undashed (xs ++ ys)
all_append xs ys h k = All-append (λ name. ¬ (IsDashed name)) xs ys h k

read_plain : (words behind : List (List ℕ)) → behind_in (from_dash words) ≡ Some behind → Full (before_dash words ++ behind) → AreNames words 1 (before_dash words ++ behind)
read_plain words behind last full =
    let nil : before_dash words ++ [] ≡ before_dash words = append-nil (before_dash words) in
    record {
      before = before_dash words;
      option = [];
      after = [];
      end = from_dash words;
      behind = behind;
      shape = sym (take-append-drop _ words) ∙ ap (λ xs. xs ++ from_dash words) (sym nil ∙ ap (λ xs. xs ++ []) (sym nil));
      option_is = inr (inr (refl, refl));
      end_is = behind_is (from_dash words) behind last;
      undashed = subst Undashed (sym nil) (undashed words);
      all = ap (λ xs. xs ++ behind) nil;
      nonempty = full;
    }

read_opted : (words : List (List ℕ)) (o : Opted) (behind : List (List ℕ)) → Front (from_dash words) o → behind_in (from_dash o.rest) ≡ Some behind → Full (before_dash words ++ before_dash o.rest ++ behind) → AreNames words o.workers (before_dash words ++ before_dash o.rest ++ behind)
read_opted words o behind front last full = record {
  before = before_dash words;
  option = front.option;
  after = before_dash o.rest;
  end = from_dash o.rest;
  behind = behind;
  shape =
      sym (take-append-drop _ words) ∙ (ap (λ xs. before_dash words ++ xs) (front.splits ∙ ap (λ xs. front.option ++ xs) (sym (take-append-drop _ o.rest)))
      ∙ (sym (append_assoc (before_dash words) front.option (before_dash o.rest ++ from_dash o.rest)) ∙ sym (append_assoc (before_dash words ++ front.option) (before_dash o.rest) (from_dash o.rest))));
  option_is = front.is;
  end_is = behind_is (from_dash o.rest) behind last;
  undashed = all_append (before_dash words) (before_dash o.rest) (undashed words) (undashed o.rest);
  all = refl;
  nonempty = full;
}

-- full names that were read
abbrev Reads : List (List ℕ) → Named → Type 0
Reads words n = Full n.names → AreNames words n.workers n.names

pub names_are : (words : List (List ℕ)) (n : Named) → named_in words ≡ Some n → Full n.names → AreNames words n.workers n.names
names_are words n e = by (behind_in (from_dash words)) refl e where
  named_last : (o : Opted) → option_in (from_dash words) ≡ Some o → (found : Option (List (List ℕ))) → behind_in (from_dash o.rest) ≡ found → then_names o.workers (before_dash words) (before_dash o.rest) found ≡ Some n → Reads words n
  named_last o is None last e = absurd (none-some n e)
  named_last o is (Some behind) last e =
      subst (Reads words) (same_Some (naming o.workers (before_dash words ++ before_dash o.rest ++ behind)) n e) (read_opted words o behind (option_is (from_dash words) o is) last)

  opted_last : (r : Option Opted) → option_in (from_dash words) ≡ r → option_and_then (after_option (before_dash words)) r ≡ Some n → Reads words n
  opted_last None is e = absurd (none-some n e)
  opted_last (Some o) is e = named_last o is (behind_in (from_dash o.rest)) refl e

  by : (found : Option (List (List ℕ))) → behind_in (from_dash words) ≡ found → judged (before_dash words) (from_dash words) found ≡ Some n → Reads words n
  by (Some behind) last e = subst (Reads words) (same_Some (naming 1 (before_dash words ++ behind)) n e) (read_plain words behind last)
  by None last e = opted_last (option_in (from_dash words)) refl e

-- ---- without an option

abbrev with_behind : List (List ℕ) → Option (List (List ℕ)) → Option (List (List ℕ))
with_behind before found = option_map (λ behind. before ++ behind) found

pub plain_read : (words names : List (List ℕ)) → ArePlain words names → plain_in words ≡ Some names
plain_read words names f =
    let tail : Stops f.end = behind_stops f.end f.behind f.end_is in
    ap plain_in f.shape
    ∙ (ap₂ (λ before end. with_behind before (behind_in end)) (before_is f.before f.end f.undashed tail) (from_is f.before f.end f.undashed tail)
    ∙ (ap (with_behind f.before) (behind_of f.end f.behind f.end_is) ∙ ap (λ (xs : List (List ℕ)). Some xs) f.all))

read_names : (words behind : List (List ℕ)) → behind_in (from_dash words) ≡ Some behind → Full (before_dash words ++ behind) → ArePlain words (before_dash words ++ behind)
read_names words behind last full = record {
  before = before_dash words;
  end = from_dash words;
  behind = behind;
  shape = sym (take-append-drop _ words);
  end_is = behind_is (from_dash words) behind last;
  undashed = undashed words;
  all = refl;
  nonempty = full;
}

pub plain_are : (words names : List (List ℕ)) → plain_in words ≡ Some names → Full names → ArePlain words names
plain_are words names e = by (behind_in (from_dash words)) refl e where
  by : (found : Option (List (List ℕ))) → behind_in (from_dash words) ≡ found → with_behind (before_dash words) found ≡ Some names → Full names → ArePlain words names
  by None last e = absurd (none-some names e)
  by (Some behind) last e = subst (λ names. Full names → ArePlain words names) (same_Some (before_dash words ++ behind) names e) (read_names words behind last)
