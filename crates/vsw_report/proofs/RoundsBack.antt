-- Rounds are read back from the text of their report.
use Rattle.std.proofs.Common.{◌≡◌, ℕ, ◌==◌, List, [], ◌∷◌, ◌++◌, map, Some, unwrap_or, refl, sym, ap, ap₂, ◌∙◌, append_assoc}
use Rattle.std.specs.Prelude.{codes, decimal, option_and_then}
use Rattle.std.specs.List.{flat_map, slice_split}
use Rattle.std.proofs.lemmas.Grind.{flat_map-append}
use Rattle.vsw_report.specs.Print.{line_text, loose_text, port_line, port_text, round_text}
use Rattle.vsw_report.specs.declared.round.Loose.{Loose}
use Rattle.vsw_report.specs.declared.round.PortRound.{PortRound}
use Rattle.vsw_report.specs.declared.round.Round.{Round}
use Rattle.vsw_report.specs.declared.told.ToldLine.{ToldLine}
use Rattle.vsw_report.specs.Law.{ReadsBack, OneReport}
use Rattle.vsw_report.specs.Proper.{AreProperLines, AreProperPorts, AreProperLoose, IsProper, AreProper}
use Rattle.vsw_report.specs.Reading.{in_loose, in_ports, under_line, tail_in, whole, lines_in, rounds_in}
use Rattle.vsw_report.specs.Words.{Line, of_round, of_port, of_told, loose_begins, of_loose, text_of}
use Rattle.vsw_report.proofs.TextsBack.{AreFitLines, texts_of, texts_law}

-- ---- the lines of rounds

abbrev pub port_lines : PortRound → List Line
port_lines p = of_port p.port p.before p.after ∷ map of_told p.lines

abbrev pub ports_lines : List PortRound → List Line
ports_lines [] = []
ports_lines (p ∷ ps) = port_lines p ++ ports_lines ps

abbrev pub round_lines : Round → List Line
round_lines r = of_round r.first ∷ (ports_lines r.ports ++ loose_begins ∷ map of_loose r.loose)

abbrev pub rounds_lines : List Round → List Line
rounds_lines [] = []
rounds_lines (r ∷ rs) = round_lines r ++ rounds_lines rs

-- ---- their text is that of the rounds

told_texts : (ls : List ToldLine) → texts_of (map of_told ls) ≡ flat_map line_text ls
told_texts [] = refl
told_texts (l ∷ ls) = ap (λ t. line_text l ++ t) (told_texts ls)

loose_texts : (ls : List Loose) → texts_of (map of_loose ls) ≡ flat_map loose_text ls
loose_texts [] = refl
loose_texts (l ∷ ls) = ap (λ t. loose_text l ++ t) (loose_texts ls)

port_texts : (p : PortRound) → texts_of (port_lines p) ≡ port_text p
unfolding port_line
port_texts p = ap (λ t. port_line p.port p.before p.after ++ t) (told_texts p.lines)

ports_texts : (ps : List PortRound) → texts_of (ports_lines ps) ≡ flat_map port_text ps
ports_texts [] = refl
ports_texts (p ∷ ps) = flat_map-append text_of (port_lines p) (ports_lines ps) ∙ ap₂ (λ s t. s ++ t) (port_texts p) (ports_texts ps)

round_join : (first ports loose : List ℕ) → first ++ (ports ++ (codes "loose\n" ++ loose)) ≡ first ++ ports ++ codes "loose\n" ++ loose
round_join first ports loose = simp append_assoc

round_texts : (r : Round) → texts_of (round_lines r) ≡ round_text r
round_texts r =
    ap (λ t. codes "round " ++ decimal r.first ++ codes "\n" ++ t) (flat_map-append text_of (ports_lines r.ports) (loose_begins ∷ map of_loose r.loose)
    ∙ ap₂ (λ s t. s ++ (codes "loose\n" ++ t)) (ports_texts r.ports) (loose_texts r.loose))
    ∙ round_join (codes "round " ++ decimal r.first ++ codes "\n") (flat_map port_text r.ports) (flat_map loose_text r.loose)

pub rounds_texts : (rs : List Round) → texts_of (rounds_lines rs) ≡ flat_map round_text rs
rounds_texts [] = refl
rounds_texts (r ∷ rs) = flat_map-append text_of (round_lines r) (rounds_lines rs) ∙ ap₂ (λ s t. s ++ t) (round_texts r) (rounds_texts rs)

-- ---- proper rounds have lines that fit

fit_both : (ls ms : List Line) → AreFitLines ls → AreFitLines ms → AreFitLines (ls ++ ms)
fit_both [] ms h k = k
fit_both (l ∷ ls) ms h k = (h.0, fit_both ls ms h.1 k)

fit_told : (ls : List ToldLine) → AreProperLines ls → AreFitLines (map of_told ls)
fit_told [] h = tt
fit_told (l ∷ ls) h = (h.0, fit_told ls h.1)

fit_loose : (ls : List Loose) → AreProperLoose ls → AreFitLines (map of_loose ls)
fit_loose [] h = tt
fit_loose (l ∷ ls) h = (h.0, fit_loose ls h.1)

fit_ports : (ps : List PortRound) → AreProperPorts ps → AreFitLines (ports_lines ps)
fit_ports [] h = tt
fit_ports (p ∷ ps) h = fit_both (port_lines p) (ports_lines ps) ((h.0.0, h.0.1, h.0.2), fit_told p.lines h.0.3) (fit_ports ps h.1)

fit_round : (r : Round) → IsProper r → AreFitLines (round_lines r)
fit_round r h = (h.0, fit_both (ports_lines r.ports) (loose_begins ∷ map of_loose r.loose) (fit_ports r.ports h.1) (tt, fit_loose r.loose h.2))

fit_rounds : (rs : List Round) → AreProper rs → AreFitLines (rounds_lines rs)
fit_rounds [] h = tt
fit_rounds (r ∷ rs) h = fit_both (round_lines r) (rounds_lines rs) (fit_round r h.0) (fit_rounds rs h.1)

-- ---- rounds from lines

loose_law : (ls : List Loose) (rest : List Line) (rs : List Round) → tail_in rest ≡ Some (in_loose [] rs) → tail_in (map of_loose ls ++ rest) ≡ Some (in_loose ls rs)
loose_law [] rest rs e = e
loose_law (l ∷ ls) rest rs e = ap (option_and_then (under_line (of_loose l))) (loose_law ls rest rs e)

told_law : (ts : List ToldLine) (rest : List Line) (ps : List PortRound) (ls : List Loose) (rs : List Round) → tail_in rest ≡ Some (in_ports [] ps ls rs) → tail_in (map of_told ts ++ rest) ≡ Some (in_ports ts ps ls rs)
told_law [] rest ps ls rs e = e
told_law (t ∷ ts) rest ps ls rs e = ap (option_and_then (under_line (of_told t))) (told_law ts rest ps ls rs e)

ports_law : (ps : List PortRound) (rest : List Line) (ls : List Loose) (rs : List Round) → tail_in rest ≡ Some (in_ports [] [] ls rs) → tail_in (ports_lines ps ++ rest) ≡ Some (in_ports [] ps ls rs)
ports_law [] rest ls rs e = e
ports_law (p ∷ ps) rest ls rs e =
    ap tail_in (append_assoc (port_lines p) (ports_lines ps) rest)
    ∙ ap (option_and_then (under_line (of_port p.port p.before p.after))) (told_law p.lines (ports_lines ps ++ rest) ps ls rs (ports_law ps rest ls rs e))

rounds_law : (rs : List Round) → tail_in (rounds_lines rs) ≡ Some (in_loose [] rs)
rounds_law [] = refl
rounds_law (r ∷ rs) =
    ap tail_in (ap (λ w. of_round r.first ∷ w) (append_assoc (ports_lines r.ports) (loose_begins ∷ map of_loose r.loose) (rounds_lines rs)))
    ∙ ap (option_and_then (under_line (of_round r.first)))
    (ports_law r.ports (loose_begins ∷ (map of_loose r.loose ++ rounds_lines rs)) r.loose rs
    (ap (option_and_then (under_line loose_begins)) (loose_law r.loose (rounds_lines rs) rs (rounds_law rs))))

-- proper rounds are read back from the text of their report
pub reads_back : ReadsBack
reads_back rs h =
    ap (λ t. option_and_then whole (option_and_then tail_in (lines_in (slice_split (λ b. b == 10) t)))) (sym (rounds_texts rs))
    ∙ (ap (λ o. option_and_then whole (option_and_then tail_in o)) (texts_law (rounds_lines rs) (fit_rounds rs h)) ∙ ap (option_and_then whole) (rounds_law rs))

pub some_same : {A : Type 0} {x y : A} → Some x ≡ Some y → x ≡ y
some_same {A} {x} {y} e = ap (λ o. unwrap_or o x) e

-- two reports with one text are one
pub one_report : OneReport
one_report rs os h k e = some_same (sym (reads_back rs h) ∙ (ap rounds_in e ∙ reads_back os k))
