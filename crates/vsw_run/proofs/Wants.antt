-- Rounds that tell of want of memory say so in their text.
use Rattle.std.proofs.Common.{◌≡◌, ◌⊎◌, inl, inr, ℕ, Bool, true, false, ◌||◌, List, [], ◌∷◌, ◌++◌, refl, ap, sym, ◌∙◌, subst, append_assoc, codes, decimal}
use Rattle.std.specs.Fmt.{digits}
use Rattle.std.specs.List.{flat_map, list_any}
use Rattle.vsw_base.specs.declared.fate.Cause.TheVariants as cause
use Rattle.vsw_base.specs.declared.fate.Fate.TheVariants.{Pass, Drop}
use Rattle.vsw_policy.specs.declared.refusal.Refusal.TheVariants as refusal
use Rattle.vsw_policy.specs.declared.refusal.Reply.TheVariants as reply
use Rattle.vsw_report.specs.Print.{head_line, mark_text, loose_text, port_line, by_text, what_text, line_text, port_text, round_text, report_text}
use Rattle.vsw_report.specs.declared.round.PortRound.{PortRound}
use Rattle.vsw_report.specs.declared.round.Round.{Round}
use Rattle.vsw_report.specs.declared.told.ToldLine.{ToldLine}
use Rattle.vsw_report.specs.declared.told.What.{What}
use Rattle.vsw_report.specs.declared.told.What.TheVariants as what
use Rattle.vsw_report.specs.Short.{tells_short, is_short_port, is_short_round, are_short}
use Rattle.vsw_run.specs.Law.{TellsWant}

-- what stands in a text stands in a longer one
in_front : (xs ys : List ℕ) → TellsWant ys → TellsWant (xs ++ ys)
in_front xs ys (front, back, inl e) = (xs ++ front, back, inl (ap (λ w. xs ++ w) e ∙ sym (append_assoc xs front (codes " drop memory\n" ++ back))))
in_front xs ys (front, back, inr e) = (xs ++ front, back, inr (ap (λ w. xs ++ w) e ∙ sym (append_assoc xs front (codes " refused 10 Memory\n" ++ back))))

longer : (front word back ys : List ℕ) → (front ++ (word ++ back)) ++ ys ≡ front ++ (word ++ (back ++ ys))
longer front word back ys = append_assoc front (word ++ back) ys ∙ ap (λ w. front ++ w) (append_assoc word back ys)

behind : (xs ys : List ℕ) → TellsWant xs → TellsWant (xs ++ ys)
behind xs ys (front, back, inl e) = (front, back ++ ys, inl (ap (λ w. w ++ ys) e ∙ longer front (codes " drop memory\n") back ys))
behind xs ys (front, back, inr e) = (front, back ++ ys, inr (ap (λ w. w ++ ys) e ∙ longer front (codes " refused 10 Memory\n") back ys))

or_is : (a b : Bool) → (a || b) ≡ true → (a ≡ true) ⊎ (b ≡ true)
or_is true b e = inl refl
or_is false b e = inr e

-- and in the texts of many, if it stands in that of one
among : {A : Type 0} (f : A → List ℕ) (test : A → Bool) (xs : List A) → ((x : A) → test x ≡ true → TellsWant (f x)) → list_any test xs ≡ true → TellsWant (flat_map f xs)
among f test [] own e = absurd (cc e)
among f test (x ∷ xs) own e = by (or_is (test x) (list_any test xs) e) (among f test xs own)
  where
    by : (test x ≡ true) ⊎ (list_any test xs ≡ true) → (list_any test xs ≡ true → TellsWant (flat_map f xs)) → TellsWant (f x ++ flat_map f xs)
    by (inl own_is) rest = behind (f x) (flat_map f xs) (own x own_is)
    by (inr rest_is) rest = in_front (f x) (flat_map f xs) (rest rest_is)

-- ---- a line

ended : (front word : List ℕ) → (front ++ codes " ") ++ word ++ codes "\n" ≡ front ++ ((codes " " ++ (word ++ codes "\n")) ++ [])
ended front word = append_assoc (front ++ codes " ") word (codes "\n") ∙ (append_assoc front (codes " ") (word ++ codes "\n") ∙ ap (λ w. front ++ w) (sym (append_end (codes " " ++ (word ++ codes "\n")))))
  where
    append_end : (xs : List ℕ) → xs ++ [] ≡ xs
    append_end [] = refl
    append_end (x ∷ xs) = ap (λ w. x ∷ w) (append_end xs)

drop_word : codes " " ++ (what_text (what.Fate (Drop cause.Memory) []) ++ codes "\n") ≡ codes " drop memory\n"
drop_word = refl

refused_word : codes " " ++ (what_text (what.Reply (reply.Refused refusal.Memory)) ++ codes "\n") ≡ codes " refused 10 Memory\n"
unfolding digits
refused_word = refl

-- the text of a line before what became of it
abbrev start : ToldLine → List ℕ
start l = by_text l.by ++ codes " " ++ decimal l.item ++ mark_text l.entry ++ decimal l.count

line_wants : (l : ToldLine) (w : What) → tells_short w ≡ true → TellsWant (start l ++ codes " " ++ what_text w ++ codes "\n")
line_wants l (what.Fate (Drop cause.Memory) bytes) e = (start l, [], inl (ended (start l) (what_text (what.Fate (Drop cause.Memory) bytes)) ∙ ap (λ w. start l ++ (w ++ [])) drop_word))
line_wants l (what.Reply (reply.Refused refusal.Memory)) e = (start l, [], inr (ended (start l) (what_text (what.Reply (reply.Refused refusal.Memory))) ∙ ap (λ w. start l ++ (w ++ [])) refused_word))
line_wants l (what.Fate (Pass len) bytes) e = absurd (cc e)
line_wants l (what.Fate (Drop (cause.Rule c k g r)) bytes) e = absurd (cc e)
line_wants l (what.Fate (Drop (cause.Default c k d)) bytes) e = absurd (cc e)
line_wants l (what.Fate (Drop cause.Long) bytes) e = absurd (cc e)
line_wants l (what.Fate (Drop (cause.Full c k)) bytes) e = absurd (cc e)
line_wants l (what.Fate (Drop (cause.Taken c k p)) bytes) e = absurd (cc e)
line_wants l (what.Reply reply.Ok) e = absurd (cc e)
line_wants l (what.Reply (reply.Refused refusal.NoLayer)) e = absurd (cc e)
line_wants l (what.Reply (reply.Refused refusal.LayerExists)) e = absurd (cc e)
line_wants l (what.Reply (reply.Refused refusal.NoGroup)) e = absurd (cc e)
line_wants l (what.Reply (reply.Refused refusal.GroupExists)) e = absurd (cc e)
line_wants l (what.Reply (reply.Refused refusal.NoRule)) e = absurd (cc e)
line_wants l (what.Reply (reply.Refused refusal.RuleExists)) e = absurd (cc e)
line_wants l (what.Reply (reply.Refused refusal.ManyLayers)) e = absurd (cc e)
line_wants l (what.Reply (reply.Refused refusal.ManyGroups)) e = absurd (cc e)
line_wants l (what.Reply (reply.Refused refusal.ManyRules)) e = absurd (cc e)
line_wants l (what.Reply (reply.Refused refusal.ManyParts)) e = absurd (cc e)
line_wants l (what.Reply (reply.Refused refusal.PartTwice)) e = absurd (cc e)

-- ---- a report

port_wants : (p : PortRound) → is_short_port p ≡ true → TellsWant (port_text p)
port_wants p e = in_front (port_line p.port p.before p.after) (flat_map line_text p.lines) (among line_text (λ l. tells_short l.what) p.lines (λ l. line_wants l l.what) e)

round_wants : (r : Round) → is_short_round r ≡ true → TellsWant (round_text r)
round_wants r e =
    behind (codes "round " ++ decimal r.first ++ codes "\n" ++ flat_map port_text r.ports ++ codes "loose\n") (flat_map loose_text r.loose)
    (behind (codes "round " ++ decimal r.first ++ codes "\n" ++ flat_map port_text r.ports) (codes "loose\n")
    (in_front (codes "round " ++ decimal r.first ++ codes "\n") (flat_map port_text r.ports) (among port_text is_short_port r.ports port_wants e)))

pub report_wants : (rounds : List Round) → are_short rounds ≡ true → TellsWant (report_text rounds)
report_wants rounds e = in_front head_line (flat_map round_text rounds) (among round_text is_short_round rounds round_wants e)

-- a text without it is one of rounds without it
pub plenty_rounds : (rounds : List Round) (text : List ℕ) → text ≡ report_text rounds → ¬ (TellsWant text) → are_short rounds ≡ false
plenty_rounds rounds text e none = by (are_short rounds) refl
  where
    by : (b : Bool) → are_short rounds ≡ b → b ≡ false
    by true t = absurd (none (subst TellsWant (sym e) (report_wants rounds t)))
    by false t = refl
