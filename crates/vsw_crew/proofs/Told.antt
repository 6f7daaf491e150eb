-- The round that was done is told.
use Rattle.std.proofs.Common.{◌≡◌, ◌≤◌, ◌<◌, ℕ, suc, ◌+◌, Bool, true, List, [], ◌∷◌, ◌++◌, length, map, refl, ap, ap₂, sym, ◌∙◌, subst, arith, Vec}
use Rattle.vsw_harbour.specs.Lane.{Lane}
use Rattle.vsw_harbour.specs.Crew.{AreCounted, CrewTells, callers_in, crew_text, is_short_crew}
use Rattle.vsw_harbour.specs.Turns.{PlacedTurns}
use Rattle.vsw_harbour.proofs.Crew.{crew_is_told}
use Rattle.vsw_harbour.specs.HarbourOpening.{rows_in}
use Rattle.vsw_harbour.specs.Seen.{DockSeen, StationSeen}
use Rattle.vsw_harbour.specs.Harbour.{AreLike, HarbourSeen, IsHarbour, callers}
use Rattle.vsw_harbour.specs.Standing.{IsWhole, RowsStand, no_calls}
use Rattle.vsw_harbour.proofs.Likes.{numbers_like}
use Rattle.vsw_port.specs.Calls.{Call}
use Rattle.vsw_port.specs.Order.{ascending}
use Rattle.vsw_port.specs.declared.event.Event.{Event}
use Rattle.vsw_port.proofs.Fronts.{prefix_length}
use Rattle.vsw_history_law.specs.Law.{AreAsked}
use Rattle.vsw_harbour.specs.Rounds.{AreJournals, calls_by_port}
use Rattle.vsw_harbour.proofs.Dealing.{all_know}
use Rattle.vsw_report.specs.Line.{TextLine}
use Rattle.vsw_pcap.specs.declared.capture.Record.{Record}
use Rattle.vsw_policy.specs.Sound.{Each, are_distinct}
use Rattle.vsw_promise.specs.Ports.{PortSeen, ports_of}
use Rattle.vsw_promise.specs.Jobs.{Placed, Setting}
use Rattle.vsw_many.specs.Dealing.{numbers_of}
use Rattle.vsw_report.specs.declared.round.Loose.{Loose}
use Rattle.vsw_crew.specs.Texts.{AreRising, AreSized, texts_by_port}
use Rattle.vsw_crew.specs.Private.Round.{HasTold, HasWorked, numbers_in}
use Rattle.vsw_crew.specs.Private.Telling.{IsCounted, text_of, texts_so}
use Rattle.vsw_crew.specs.Private.Rows.{cleared, first_counts, lines_of, rested}
use Rattle.vsw_crew.specs.Told.{told_rows}
use Rattle.vsw_crew.proofs.Taking.{cleared_many, counts_are, rested_many, rows_cleared, rows_rested, rows_told, rows_wide}
use Rattle.vsw_crew.proofs.Texts.{texts_are}

-- ---- as many as there are ports

many_like : (ps : List PortSeen) (ds : List DockSeen) → AreLike ps ds → length ps ≡ length ds
many_like [] [] a = refl
many_like (p ∷ ps) (d ∷ ds) a = ap suc (many_like ps ds a.1)
many_like [] (d ∷ ds) a = absurd a
many_like (p ∷ ps) [] a = absurd a

many_turns : (place : ℕ) (ps : List PortSeen) (jobs : List Placed) (hs ms : List (List Event)) (calls : List (List Call)) → PlacedTurns place ps jobs hs ms calls → length hs ≡ length ps
many_turns place [] jobs [] [] [] t = refl
many_turns place (p ∷ ps) jobs (h ∷ hs) (m ∷ ms) (c ∷ calls) t = ap suc (many_turns (suc place) ps jobs hs ms calls t.1)
many_turns place [] jobs [] [] (c ∷ calls) t = absurd t
many_turns place [] jobs [] (m ∷ ms) calls t = absurd t
many_turns place [] jobs (h ∷ hs) ms calls t = absurd t
many_turns place (p ∷ ps) jobs [] ms calls t = absurd t
many_turns place (p ∷ ps) jobs (h ∷ hs) [] calls t = absurd t
many_turns place (p ∷ ps) jobs (h ∷ hs) (m ∷ ms) [] t = absurd t

many_journals : (n : ℕ) (ps : List PortSeen) (hs gs : List (List Event)) → AreJournals n ps hs gs → length gs ≡ length ps
many_journals n [] [] [] j = refl
many_journals n (p ∷ ps) (h ∷ hs) (g ∷ gs) j = ap suc (many_journals n ps hs gs j.3)
many_journals n [] [] (g ∷ gs) j = absurd j
many_journals n [] (h ∷ hs) gs j = absurd j
many_journals n (p ∷ ps) [] gs j = absurd j
many_journals n (p ∷ ps) (h ∷ hs) [] j = absurd j

pub map_many : {A B : Type 0} (f : A → B) (xs : List A) → length (map f xs) ≡ length xs
map_many f [] = refl
map_many f (x ∷ xs) = ap suc (map_many f xs)

-- ---- histories only grow

all_rise : (place n : ℕ) (ps : List PortSeen) (jobs : List Placed) (hs ms gs : List (List Event)) (calls : List (List Call)) → PlacedTurns place ps jobs hs ms calls → AreJournals n ps ms gs → AreRising (map length hs) (map length gs)
all_rise place n [] jobs [] [] [] [] t j = tt
all_rise place n (p ∷ ps) jobs (h ∷ hs) (m ∷ ms) (g ∷ gs) (c ∷ calls) t j =
    (omega (arith, prefix_length h m t.0.phase.grows, prefix_length m g j.1), all_rise (suc place) n ps jobs hs ms gs calls t.1 j.3)
all_rise place n [] jobs [] [] [] (c ∷ calls) t j = absurd t
all_rise place n [] jobs [] [] (g ∷ gs) calls t j = absurd j
all_rise place n [] jobs [] (m ∷ ms) gs calls t j = absurd j
all_rise place n [] jobs (h ∷ hs) ms gs calls t j = absurd t
all_rise place n (p ∷ ps) jobs [] ms gs calls t j = absurd t
all_rise place n (p ∷ ps) jobs (h ∷ hs) [] gs calls t j = absurd t
all_rise place n (p ∷ ps) jobs (h ∷ hs) (m ∷ ms) [] calls t j = absurd j
all_rise place n (p ∷ ps) jobs (h ∷ hs) (m ∷ ms) (g ∷ gs) [] t j = absurd t

-- ---- what the text is made of

-- a round that was done, with the counts and the lines of all rows
pub record IsTaken (h : HarbourSeen) (s : Setting) (hs : List (List Event)) (first : ℕ) (packets : List Record) (befores afters : List ℕ) (lines firsts : List (List (List TextLine))) (loose : List Loose) (rows : List (List (Lane StationSeen))) : Type 0 where
  pub done : HasWorked h s hs first packets befores firsts loose rows
  pub afters_are : afters ≡ first_counts rows
  pub lines_are : lines ≡ map lines_of rows

afters_so : {h : HarbourSeen} {s : Setting} {hs : List (List Event)} {first : ℕ} {packets : List Record} {befores afters : List ℕ} {lines firsts : List (List (List TextLine))} {loose : List Loose} {rows : List (List (Lane StationSeen))}
    → (t : IsTaken h s hs first packets befores afters lines firsts loose rows) → afters ≡ map length t.done.histories
afters_so {h = h} {rows = rows} t = let some : 0 < length rows = omega (arith, t.done.size) in t.afters_are ∙ counts_are 0 h.docks t.done.histories _ rows some t.done.stand

pub is_sized : (h : HarbourSeen) (numbers macs listed asks : List ℕ) (s : Setting) (hs : List (List Event)) (first : ℕ) (packets : List Record) (befores afters : List ℕ) (lines firsts : List (List (List TextLine))) (loose : List Loose) (rows : List (List (Lane StationSeen))) → IsHarbour h numbers macs listed asks
    → IsTaken h s hs first packets befores afters lines firsts loose rows → AreSized h.workers (length h.controllers) numbers befores afters lines
is_sized h numbers macs listed asks s hs first packets befores afters lines firsts loose rows i t =
    let w = t.done in
    let ports : length (ports_of s.policy) ≡ length numbers = many_like (ports_of s.policy) h.docks w.run.ports ∙ (sym (map_many (λ d. d.number) h.docks) ∙ ap length (sym i.numbers_are)) in
    let docks : length h.docks ≡ length numbers = sym (map_many (λ d. d.number) h.docks) ∙ ap length (sym i.numbers_are) in
    record {
      few = i.most;
      rows = ap length t.lines_are ∙ (map_many lines_of rows ∙ w.size);
      wide = subst (Each (λ row. length row ≡ length numbers)) (sym t.lines_are) (rows_wide 0 (length numbers) h.docks w.histories _ rows docks w.stand);
      befores_are = ap length w.befores_are ∙ (map_many length hs ∙ (many_turns 0 (ports_of s.policy) _ hs w.did.middles w.did.firsts w.did.firsts_done ∙ ports));
      afters_are = ap length (afters_so t) ∙ (map_many length w.histories ∙ (many_journals (callers_in s) (ports_of s.policy) w.did.middles w.histories w.did.journals ∙ ports));
    }

pub is_rising : (h : HarbourSeen) (s : Setting) (hs : List (List Event)) (first : ℕ) (packets : List Record) (befores afters : List ℕ) (lines firsts : List (List (List TextLine))) (loose : List Loose) (rows : List (List (Lane StationSeen))) → IsTaken h s hs first packets befores afters lines firsts loose rows → AreRising befores afters
is_rising h s hs first packets befores afters lines firsts loose rows t =
    let w = t.done in
    let rise : AreRising (map length hs) (map length w.histories) = all_rise 0 (callers_in s) (ports_of s.policy) _ hs w.did.middles w.histories w.did.firsts w.did.firsts_done w.did.journals in
    subst (λ a. AreRising befores a) (sym (afters_so t)) (subst (λ b. AreRising b (map length w.histories)) (sym w.befores_are) rise)

-- ---- the text

-- what is to be known of the lines, so that their text is the round's
pub record IsText (h : HarbourSeen) (numbers : List ℕ) (s : Setting) (hs : List (List Event)) (first : ℕ) (packets : List Record) (befores afters listed : List ℕ) (lines firsts : List (List (List TextLine))) (gs : List (List Event)) (texts : List (List (List TextLine))) : Type 0 where
  pub numbers_are : map (λ p. p.number) (ports_of s.policy) ≡ numbers
  pub before : map length hs ≡ befores
  pub after : map length gs ≡ afters
  pub same : texts_by_port h.workers h.controllers listed lines firsts (length numbers) ≡ texts
  pub tells : CrewTells s first packets hs gs texts

pub is_text : (h : HarbourSeen) (numbers macs listed asks : List ℕ) (s : Setting) (hs : List (List Event)) (first : ℕ) (packets : List Record) (befores afters : List ℕ) (lines firsts : List (List (List TextLine))) (loose : List Loose) (rows : List (List (Lane StationSeen))) → IsHarbour h numbers macs listed asks → Each IsWhole rows
    → AreAsked s → (t : IsTaken h s hs first packets befores afters lines firsts loose rows) → IsText h numbers s hs first packets befores afters listed lines firsts t.done.histories t.done.texts
is_text h numbers macs listed asks s hs first packets befores afters lines firsts loose rows i whole asked t =
    let w = t.done in
    let ps = ports_of s.policy in
    let cs = h.controllers in
    let laters = calls_by_port ps w.did.rows in
    let numbers_so : map (λ p. p.number) ps ≡ numbers = numbers_like ps h.docks w.run.ports ∙ sym i.numbers_are in
    let know : Each (λ p. p.controllers ≡ cs) ps = subst (λ v. Each (λ p. p.controllers ≡ v) ps) w.run.controllers (all_know s.policy.controllers s.policy.ports) in
    let told : lines ≡ told_rows cs laters 0 (16 + length cs) = t.lines_are ∙ rows_told cs 0 (callers h) h.docks w.histories laters rows i.controllers_are w.size w.stand whole in
    let ports : length numbers ≡ length ps = ap length (sym numbers_so) ∙ map_many (λ p. p.number) ps in
    let few : s.workers ≤ 16 = omega (arith, w.run.workers, i.most) in
    let texts : texts_by_port s.workers cs (ascending cs) (told_rows cs laters 0 (16 + length cs)) (told_rows cs w.did.firsts 16 (length cs)) (length ps) ≡ w.texts = texts_are cs s.workers ps w.did.firsts laters w.texts few know w.did.texts_are in
    let apart : are_distinct (numbers_of s.policy) ≡ true = ap are_distinct numbers_so ∙ i.apart in
    record {
      numbers_are = numbers_so;
      before = sym w.befores_are;
      after = sym (afters_so t);
      same = ap₂ (λ a b. texts_by_port a cs b lines firsts (length numbers)) (sym w.run.workers) i.listed_are ∙ (ap₂ (λ a b. texts_by_port s.workers cs (ascending cs) a b (length numbers)) told w.firsts_are ∙ (ap (texts_by_port s.workers cs (ascending cs) (told_rows cs laters 0 (16 + length cs)) (told_rows cs w.did.firsts 16 (length cs))) ports ∙ texts));
      tells = crew_is_told s first packets hs w.histories w.texts (record { least = omega (arith, w.run.workers, i.more); most = few; asked = asked }) (λ one. omega (arith, one, w.run.workers, i.more)) apart w.did;
    }

pub has_told : (h : HarbourSeen) (macs asks : List ℕ) (s : Setting) (hs : List (List Event)) (first : ℕ) (packets : List Record) (befores afters : List ℕ) (lines firsts : List (List (List TextLine))) (loose : List Loose) (rows mid left : List (List (Lane StationSeen))) (short : Bool) (old new : List ℕ)
    → IsHarbour h (numbers_in h) macs (ascending h.controllers) asks → Each IsWhole rows → mid ≡ map cleared rows → left ≡ map rested mid
    → ((ps : List PortSeen) (hs gs : List (List Event)) → IsCounted h ps hs gs befores afters lines firsts → new ≡ text_of h first ps hs gs lines firsts loose old)
    → ((ps : List PortSeen) (hs gs : List (List Event)) → IsCounted h ps hs gs befores afters lines firsts → short ≡ is_short_crew hs gs (texts_so h lines firsts))
    → AreAsked s → IsTaken h s hs first packets befores afters lines firsts loose rows → HasTold h s hs first packets short old new left
has_told h macs asks s hs first packets befores afters lines firsts loose rows mid left short old new i whole cleared_so rested_so says shorts asked t =
    let w = t.done in
    let ps = ports_of s.policy in
    let x = is_text h (numbers_in h) macs (ascending h.controllers) asks s hs first packets befores afters lines firsts loose rows i whole asked t in
    let counts : AreCounted hs w.histories (texts_so h lines firsts) = subst (AreCounted hs w.histories) (sym x.same) x.tells.counts in
    let counted : IsCounted h ps hs w.histories befores afters lines firsts = record { numbers = x.numbers_are; before = x.before; after = x.after; counts = counts } in
    record {
      histories = w.histories;
      texts = w.texts;
      tells = x.tells;
      ready = record {
        size = ap length rested_so ∙ (rested_many mid ∙ (ap length cleared_so ∙ (cleared_many rows ∙ w.size)));
        stand = subst (RowsStand 0 h.docks w.histories (no_calls h.docks)) (sym rested_so) (rows_rested 0 h.docks w.histories (no_calls h.docks) mid (subst (RowsStand 0 h.docks w.histories (no_calls h.docks)) (sym cleared_so) (rows_cleared 0 h.docks w.histories _ rows w.stand)));
        journals = w.journals;
      };
      short_is = shorts ps hs w.histories counted ∙ ap (is_short_crew hs w.histories) x.same;
      text = says ps hs w.histories counted ∙ ap₂ (λ a b. old ++ crew_text first ps hs w.histories a b) x.same w.loose_are;
    }

-- the harbour, with its numbers and its listed controllers as they are
pub plainly : (h : HarbourSeen) (numbers macs listed asks : List ℕ) → IsHarbour h numbers macs listed asks → IsHarbour h (numbers_in h) macs (ascending h.controllers) asks
plainly h numbers macs listed asks i = subst (λ (l : List ℕ). IsHarbour h (numbers_in h) macs l asks) i.listed_are (subst (λ (ns : List ℕ). IsHarbour h ns macs listed asks) i.numbers_are i)

-- what calls took and gave
pub is_taken : {G : Type 0} (h : HarbourSeen) (s : Setting) (hs : List (List Event)) (first : ℕ) (packets : List Record) (befores before_slice afters after_slice : List ℕ) (lines firsts : List (List (List TextLine))) (loose loose_slice : List Loose) (rows slice : List (Vec (Lane StationSeen) G))
    → before_slice ≡ befores → after_slice ≡ afters → loose_slice ≡ loose → slice ≡ rows → afters ≡ first_counts (rows_in slice) → lines ≡ map lines_of (rows_in rows) → HasWorked h s hs first packets befores firsts loose (rows_in rows)
    → IsTaken h s hs first packets before_slice after_slice lines firsts loose_slice (rows_in rows)
is_taken {G} h s hs first packets befores before_slice afters after_slice lines firsts loose loose_slice rows slice b a l r counts takes w = record {
  done = subst (λ (x : List ℕ). HasWorked h s hs first packets x firsts loose_slice (rows_in rows)) (sym b) (subst (λ (x : List Loose). HasWorked h s hs first packets befores firsts x (rows_in rows)) (sym l) w);
  afters_are = a ∙ subst (λ (x : List (Vec (Lane StationSeen) G)). afters ≡ first_counts (rows_in x)) r counts;
  lines_are = takes;
}

pub whole_back : {G : Type 0} (rows slice : List (Vec (Lane StationSeen) G)) → slice ≡ rows → Each IsWhole (rows_in slice) → Each IsWhole (rows_in rows)
whole_back {G} rows slice e w = subst (λ (x : List (Vec (Lane StationSeen) G)). Each IsWhole (rows_in x)) e w
